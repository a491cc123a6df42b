use Rattle.std.proofs.Common.{arith, refl, ap, ◌∙◌, ℕ, List, w8}
use Rattle.std.proofs.lemmas.Simd.{SwzOk-from_below, swz_l}
use Rattle.hex.specs.Hex.{lower_digits}
use Rattle.schedule_text.specs.Values.{halves_of}
use Rattle.schedule_text.proofs.Lanes.{digits_of_halves, halves_small, length_halves, looked_up}
use Rattle.schedule_text.proofs.digit.digits.Goals as goal

pub swizzle : goal.swizzle
swizzle c =
    let bytes = c.args.bytes in
    let size = length_halves bytes in
    rw c.halves.ensures (SwzOk-from_below w8 16 1 16 0 (halves_of bytes) refl (omega (arith, size, c.fits-bytes.0)) (halves_small bytes c.fits-bytes.1))

pub returns : goal.returns
returns c =
    let bytes = c.args.bytes in
    let size = length_halves bytes in
    ap (λ (l : List ℕ). swz_l w8 16 lower_digits 0 l) c.halves.ensures
    ∙ looked_up lower_digits (halves_of bytes) 0 (omega (arith, size, c.fits-bytes.0)) (halves_small bytes c.fits-bytes.1)
    ∙ digits_of_halves lower_digits bytes
