use Rattle.std.proofs.Common.{◌*◌, ◌++◌, ◌∷◌, [], List, ℕ, length, map, drop, sym, ap, ◌∙◌, arith}
use Rattle.std.specs.List.{range_with_len}
use Rattle.std.proofs.lemmas.List.FromFn.{length-map-range_with_len, map-range_with_len_more}
use Rattle.std.proofs.lemmas.List.{take_rest}
use Rattle.byteorder.specs.Endian.{big_number}
use Rattle.group_msgs.proofs.voters.ids_in.Goals as goal

pub push-requires : goal.push-requires
push-requires c =
    let long = length-map-range_with_len (λ (k : ℕ). big_number 4 (drop (4 * k) c.args.bytes.now)) 0 c.loop-k.k in
    omega (arith, ap length c.loop-k.invariant, long, c.requires)

pub loop-k-preserved : goal.loop-k-preserved
loop-k-preserved c =
    let f = λ (k : ℕ). big_number 4 (drop (4 * k) c.args.bytes.now) in
    c.push.ensures.items ∙ ap (λ (xs : List ℕ). xs ++ c.read_u32.result ∷ []) c.loop-k.invariant ∙ ap (λ (x : ℕ). map f (range_with_len 0 c.loop-k.k) ++ x ∷ []) (c.read_u32.ensures ∙ ap (big_number 4) (take_rest c.args.bytes.now (4 * c.loop-k.k))) ∙ sym (map-range_with_len_more f 0 c.loop-k.k c.loop-k.k (omega arith))
