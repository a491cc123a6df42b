use Rattle.std.proofs.Common.{rules, ◌≡◌, ◌++◌, ◌*◌, ◌∙◌, ap, length, take, drop, replicate, List, ℕ}
use Rattle.hex.specs.Hex.{encode_lower}
use Rattle.schedule_text.proofs.HexText.{cut}
use Rattle.schedule_text.proofs.hexadecimal.push_short.Goals as goal

pub returns : goal.returns
returns c =
    let bytes = c.args.bytes.now in
    let zeros = drop (length bytes) (replicate 8 0) in
    let written : take (2 * length bytes) c.as_array.result.now ≡ encode_lower bytes =
    ap (λ (l : List ℕ). take (2 * length bytes) l)
    (c.as_array.ensures ∙ c.digits-written.ensures ∙ ap (λ (l : List ℕ). encode_lower (l ++ zeros)) c.copy_from_slice.ensures.after)
    ∙ cut bytes zeros in
    search (rules, written)
