-- Events behind events.
use Rattle.std.proofs.Common.{ap, ◌∙◌, ◌≡◌, List, [], ◌∷◌, ◌++◌, append_assoc, Result, Ok, Err, OnOk}
use Rattle.values.specs.declared.event.Event.{Event}

module _ (old first second : List Event) (x y : Event) (one : first ≡ old ++ (x ∷ [])) (other : second ≡ first ++ (y ∷ [])) where
  pub two : second ≡ old ++ (x ∷ y ∷ [])
  two = other ∙ ap (λ (l : List Event). l ++ (y ∷ [])) one ∙ append_assoc old (x ∷ []) (y ∷ [])

  pub three : (third : List Event) (z : Event) → third ≡ second ++ (z ∷ []) → third ≡ old ++ (x ∷ y ∷ z ∷ [])
  three third z last = last ∙ ap (λ (l : List Event). l ++ (z ∷ [])) two ∙ append_assoc old (x ∷ y ∷ []) (z ∷ [])

-- some, one and more
pub some_one_more : {T E : Type 0} (r : Result T E) (old first second all some more : List Event) (x : Event)
    → first ≡ old ++ some → second ≡ first ++ (x ∷ []) → OnOk r (all ≡ second ++ more) → OnOk r (all ≡ old ++ (some ++ (x ∷ more)))
some_one_more (Err e) old first second all some more x a b rest = tt
some_one_more (Ok u) old first second all some more x a b rest =
    rest ∙ ap (λ (l : List Event). l ++ more) (b ∙ ap (λ (l : List Event). l ++ (x ∷ [])) a)
    ∙ append_assoc (old ++ some) (x ∷ []) more ∙ append_assoc old some (x ∷ more)
