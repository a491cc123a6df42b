use Rattle.std.proofs.Common.{arith, ap, ◌∙◌, ltb, replicate, w8}
use Rattle.std.proofs.lemmas.Simd.{bitmask_splat, length-zip2}
use Rattle.std.specs.Int.{bit_at}
use Rattle.std.specs.Simd.Lanes.{zip2}
use Rattle.record_stream.proofs.Strides.{bit_is, moved}
use Rattle.record_stream.proofs.marks.marks_of.Goals as goal

pub returns : goal.returns
returns c k lt =
    let bytes = c.args.bytes in
    let long = length-zip2 moved bytes (replicate 64 128) c.fits-bytes.0 ∙ c.fits-bytes.0 in
    ap (λ m. bit_at m k) (bitmask_splat w8 ltb (zip2 moved bytes (replicate 64 128)) 64 173 long (omega arith)) ∙ bit_is bytes c.fits-bytes.0 c.fits-bytes.1 k lt
