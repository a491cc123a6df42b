-- What one more field changes in what a message makes of its fields.
use Rattle.std.proofs.Common.{◌≡◌, ℕ, List, [], ◌∷◌, ◌++◌, Option, None, Some, refl}
use Rattle.std.specs.Prelude.{unwrap_or}
use Rattle.std.specs.List.{filter_map, cons_option, last_or}
use Rattle.proto_wire.specs.Fields.{Field}
use Rattle.proto_wire.specs.Reading.{varint_under, block_under, u64_of, bytes_of}

module _ {X : Type 0} (h : Field → Option X) where
  -- the last one that h gives, or else o, or else d
  last_given : Option X → X → List Field → X
  last_given o d fs = unwrap_or (last_or o (filter_map h fs)) d

  at_end : (o p : Option X) (d : X) → unwrap_or (last_or o (cons_option p [])) d ≡ unwrap_or p (unwrap_or o d)
  at_end o None d = refl
  at_end o (Some x) d = refl

  pub last_given-push : (o : Option X) (d : X) (fs : List Field) (f : Field) → unwrap_or (last_or o (filter_map h (fs ++ f ∷ []))) d ≡ unwrap_or (h f) (unwrap_or (last_or o (filter_map h fs)) d)
  last_given-push o d [] f = at_end o (h f) d
  last_given-push o d (x ∷ fs) f =
      elim (h x) as (λ (p : Option X). unwrap_or (last_or o (cons_option p (filter_map h (fs ++ f ∷ [])))) d ≡ unwrap_or (h f) (unwrap_or (last_or o (cons_option p (filter_map h fs))) d)) [
        | None ↦ last_given-push o d fs f
        | Some y ↦ last_given-push (Some y) d fs f
      ]

pub u64_of-push : (number : ℕ) (fs : List Field) (f : Field) → u64_of number (fs ++ f ∷ []) ≡ unwrap_or (varint_under number f) (u64_of number fs)
u64_of-push number fs f = last_given-push (varint_under number) None 0 fs f

pub bytes_of-push : (number : ℕ) (fs : List Field) (f : Field) → bytes_of number (fs ++ f ∷ []) ≡ unwrap_or (block_under number f) (bytes_of number fs)
bytes_of-push number fs f = last_given-push (block_under number) None [] fs f
