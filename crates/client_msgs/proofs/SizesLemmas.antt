-- What has no fault of its sizes.
use Rattle.std.proofs.Common.{◌≡◌, ℕ, ◌≤◌, Bool, true, false, cond, length, Option, None, Some, refl, ap, ◌∙◌, arith}
use Rattle.std.specs.Prelude.{nat_le, ◌&&◌}
use Rattle.std.specs.Option.{option_or}
use Rattle.std.proofs.lemmas.Bool.{cond-true, and_from, and_parts, le-leb, leb-true}
use Rattle.values.specs.declared.message.Part.{Part}
use Rattle.values.specs.declared.message.Part.TheVariants.{Secret, Pin, Tries}
use Rattle.values.specs.declared.message.Request.{Request}
use Rattle.values.specs.declared.message.Request.TheVariants.{Backup, Restore, Delete, Expose}
use Rattle.values.specs.Sizes.{IsValid}
use Rattle.client_msgs.specs.Sizes.{outside, pin_fault, tries_fault, size_fault, FitsRequest}

pub or-none : {X : Type 0} (a b : Option X) → option_or a b ≡ None → (a ≡ None) × (b ≡ None)
or-none None b is = (refl, is)
or-none (Some x) b is = absurd cc

outside-none : (part : Part) (least most n : ℕ) → least ≤ n → n ≤ most → outside part least most n ≡ None
outside-none part least most n low high = cond-true (nat_le least n && nat_le n most) None (Some (part, n)) (and_from _ _ (le-leb least n low) (le-leb n most high))

pub size_fault-none : (request : Request) → IsValid request → FitsRequest request → size_fault request ≡ None
size_fault-none (Backup secret pin tries) valid pin_is =
    ap (λ (o : Option (Part × ℕ)). option_or o (option_or (pin_fault pin) (tries_fault tries))) (outside-none Secret 16 48 (length secret) valid.0.0 valid.0.1)
    ∙ ap (λ (o : Option (Part × ℕ)). option_or o (tries_fault tries)) (outside-none Pin 32 32 (length pin.0) (omega arith) (omega arith))
    ∙ outside-none Tries 1 255 tries valid.1.0 valid.1.1
size_fault-none (Restore pin) valid pin_is = outside-none Pin 32 32 (length pin.0) (omega arith) (omega arith)
size_fault-none Delete valid pin_is = refl
size_fault-none (Expose secret) valid pin_is = outside-none Secret 16 48 (length secret) valid.0 valid.1

-- and what has none is valid
if_none : {X : Type 0} (y : X) (b : Bool) → cond b None (Some y) ≡ None → b ≡ true
if_none y true is = refl
if_none y false is = absurd cc

outside-within : (part : Part) (least most n : ℕ) → outside part least most n ≡ None → (least ≤ n) × (n ≤ most)
outside-within part least most n is =
    let both = and_parts (nat_le least n) (nat_le n most) (if_none _ _ is) in
    (leb-true least n both.0, leb-true n most both.1)

pub size_fault-valid : (request : Request) → size_fault request ≡ None → IsValid request × FitsRequest request
size_fault-valid (Backup secret pin tries) is =
    let first = or-none _ _ is in
    let second = or-none _ _ first.1 in
    let pin-is = outside-within _ 32 32 (length pin.0) second.0 in
    ((outside-within _ 16 48 (length secret) first.0, outside-within _ 1 255 tries second.1), omega (arith, pin-is.0, pin-is.1))
size_fault-valid (Restore pin) is =
    let pin-is = outside-within _ 32 32 (length pin.0) is in
    (tt, omega (arith, pin-is.0, pin-is.1))
size_fault-valid Delete is = (tt, tt)
size_fault-valid (Expose secret) is = (outside-within _ 16 48 (length secret) is, tt)
