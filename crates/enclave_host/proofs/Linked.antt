-- Links with the ids of a list.
use Rattle.std.proofs.Common.{◌≡◌, ◌∙◌, sym, ap, subst, refl, ℕ, ◌+◌, ◌<◌, ◌==◌, eqb, ◌++◌, Bool, true, false, List, [], ◌∷◌, length, take, get_or, arith}
use Rattle.std.specs.Prelude.{◌||◌, All, not, filter}
use Rattle.std.proofs.lemmas.Bool.{eqb-true, eqb-false}
use Rattle.std.proofs.lemmas.List.{take_more}
use Rattle.std.proofs.lemmas.List.Elements.{All-head, All-tail, All-filter}
use Rattle.std.proofs.lemmas.List.Folds.{list_any-append}
use Rattle.std.proofs.Common.{Result, Ok}
use Rattle.group_quorum.specs.Conf.{Conf}
use Rattle.group_quorum.specs.declared.ConfigFault.{ConfigFault}
use Rattle.group_quorum.specs.Voters.{is_in, IsId}

swapped : (a b : ℕ) (x y : Bool) → eqb a b ≡ x → eqb b a ≡ y → eqb a b ≡ eqb b a
swapped a b true true e f = e ∙ sym f
swapped a b true false e f = absurd (eqb-false b a f (sym (eqb-true a b e)))
swapped a b false true e f = absurd (eqb-false a b e (sym (eqb-true b a f)))
swapped a b false false e f = e ∙ sym f

or_last : (a b : Bool) → (a || b) ≡ (b || (a || false))
or_last true true = refl
or_last true false = refl
or_last false true = refl
or_last false false = refl

-- one id more
pub linked_more : (new old : ℕ → Bool) (ids : List ℕ) (i x : ℕ) → i < length ids → x ≡ get_or ids i x → ((v : ℕ) → old v ≡ is_in (take i ids) v)
    → ((v : ℕ) → new v ≡ (v == x || old v)) → (v : ℕ) → new v ≡ is_in (take (i + 1) ids) v
linked_more new old ids i x lt at was is v =
    is v
    ∙ ap (λ b. eqb v x || b) (was v)
    ∙ ap (λ b. b || is_in (take i ids) v) (swapped v x (eqb v x) (eqb x v) refl refl)
    ∙ or_last (eqb x v) (is_in (take i ids) v)
    ∙ sym (list_any-append (λ y. eqb y v) (take i ids) (x ∷ []))
    ∙ ap (λ ys. is_in ys v) (ap (λ y. take i ids ++ y ∷ []) at ∙ sym (take_more ids i x lt))

id-by : (v w : ℕ) (ids : List ℕ) (same : Bool) → eqb w v ≡ same → IsId w → (is_in ids v ≡ true → IsId v) → (same || is_in ids v) ≡ true → IsId v
id-by v w ids true same id rest is = subst IsId (eqb-true w v same) id
id-by v w ids false same id rest is = rest is

-- who is among ids is one
pub id_in : (ids : List ℕ) (v : ℕ) → All IsId ids → is_in ids v ≡ true → IsId v
id_in [] v all is = absurd cc
id_in (w ∷ ids) v all is = id-by v w ids (eqb w v) refl (All-head IsId w ids all) (id_in ids v (All-tail IsId w ids all)) is

pub conf_is : (made : Result Conf ConfigFault) (a b : Conf) → made ≡ Ok a → made ≡ Ok b → a ≡ b
conf_is made a b is_a is_b = cc
