use Rattle.std.proofs.Common.{arith, ◌≡◌, ap, ◌∙◌, length, map, ltb, w8}
use Rattle.std.specs.Prelude.{nat_eq, nat_lt}
use Rattle.std.specs.Simd.Lanes.{mask_l}
use Rattle.std.proofs.lemmas.Simd.{bitmask_splat}
use Rattle.schedule_text.specs.Values.{all_small}
use Rattle.schedule_text.proofs.Lanes.{all_bits}
use Rattle.schedule_text.proofs.digit.are_digits.Goals as goal

pub returns : goal.returns
returns c =
    let values = c.args.values in
    let size : length values ≡ 16 = c.fits-values.0 in
    let bits : nat_eq (mask_l (map (λ v. ltb v 16) values)) 65535 ≡ all_small values = rw size at (all_bits (λ v. nat_lt v 16) values) in
    ap (λ mask. nat_eq mask 65535) (bitmask_splat w8 ltb values 16 16 size (omega arith)) ∙ bits
