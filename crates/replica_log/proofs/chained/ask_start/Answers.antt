use Rattle.std.proofs.Common.{◌≡◌, ℕ, ◌+◌, List, ◌++◌, length, take, drop, replicate, refl, ap, ◌∙◌, append-nil, length-append, arith}
use Rattle.std.proofs.lemmas.List.{take_at, drop-drop, drop_all, length-take}
use borrow.Rule.Slice.PartMut.{put_mid, post_of}
use Rattle.byteorder.specs.Endian.{big_bytes}
use Rattle.replica_log.proofs.chained.ask_start.Goals as goal

-- the front of a list stays, and what follows it is replaced
put_behind : (n m : ℕ) (xs zs ys : List ℕ) → length xs ≡ n → length zs ≡ m → put_mid n m (xs ++ zs) ys ≡ xs ++ ys
put_behind n m xs zs ys front back =
    ap (λ r. r ++ (ys ++ post_of n m (xs ++ zs))) (take_at xs zs n front)
    ∙ ap (λ r. xs ++ (ys ++ r)) (drop-drop m n (xs ++ zs) ∙ drop_all (n + m) (xs ++ zs) (omega (arith, length-append xs zs)))
    ∙ ap (λ r. xs ++ r) (append-nil ys)

pub returns : goal.returns
returns c =
    put_behind 16 8 c.copy_from_slice.new.self _ c.write_u64.new.buf c.copy_from_slice.ensures.len refl
    ∙ ap (λ r. r ++ c.write_u64.new.buf) c.copy_from_slice.ensures.after
    ∙ ap (λ r. c.args.client.now.0 ++ r)
    (c.write_u64.ensures ∙ ap (λ r. big_bytes 8 c.args.number ++ r) (drop_all 8 (take 8 _) (omega (arith, length-take 8 (drop 16 (c.copy_from_slice.new.self ++ replicate 8 0))))))
