-- Lists of values under ids, and where a value stands in them.
use Rattle.std.proofs.Common.{◌≡◌, ℕ, zero, suc, ◌+◌, ◌<◌, ◌≤◌, Bool, true, false, cond, not, ◌==◌, nat_lt, nat_le, inl, inr, Option, Some, None, List, [], ◌∷◌, ◌++◌, length, take, get_or, map, find, option_map, slice_get, All, refl, sym, ap, subst, ◌∙◌, arith, append_assoc}
use Rattle.std.proofs.Math.ListN.{set}
use Rattle.std.specs.List.{AllByRecursion}
use Rattle.values.specs.Rising.{Rising}
use Rattle.std.proofs.lemmas.Option.{slice_get_read, get_or_from_slice_get}
use Rattle.std.proofs.lemmas.List.{take_more, map-append}
use Rattle.std.proofs.lemmas.List.Elements.{All-cons, All-head, All-tail}
use Rattle.std.proofs.lemmas.Bool.{cases_Bool, cases_eq, cond_both, ltb-true, ltb-false, cond-true, cond-false, leb-true, leb-false, eq-eqb, ne_eqb, eqb-true, eqb-false, le-ltb, lt-ltb, not_from_true, not_from_false}
use Rattle.std.specs.Prelude.{MatchOption}
use Rattle.std.specs.List.{position_or_len, insert}
use Rattle.replica_model.specs.Keyed.{value_at, put, without}
use Rattle.replica_model.proofs.RisingIds.{above_more}
use Rattle.table_transfer.specs.declared.sending.Sent.{Sent}
use Rattle.table_transfer.specs.declared.sending.Sent.TheVariants.{Next, Done, Ignored}
use Rattle.table_transfer.specs.SentTable.{SentTable, heard, after_heard}
use Rattle.values.specs.declared.entry.Point.{Point}
use Rattle.replica_core.specs.Heard.{sendings_after}

one_more : (n : ℕ) → 1 + n ≡ suc n
one_more n = omega arith

-- what stands at a place, whatever stands for nothing
pub get_or-get_or : {X : Type 0} (xs : List X) (i : ℕ) (x d : X) → i < length xs → x ≡ get_or xs i x → get_or xs i d ≡ x
get_or-get_or xs i x d lt is = get_or_from_slice_get xs i x d (slice_get_read xs (length xs) i x refl lt is)

-- where none of all elements passes, the first place is the end
pub place-end : {X : Type 0} (p : X → Bool) (xs : List X) (i : ℕ) → i ≡ length xs → ((d : X) (k : ℕ) → k < i → p (get_or xs k d) ≡ false)
    → position_or_len p xs ≡ i
place-end p [] i end none = sym end
place-end p (x ∷ xs) i end none =
    cond-true (not (p x)) (1 + position_or_len p xs) 0 (not_from_false (p x) (none x 0 (omega arith)))
    ∙ (one_more (position_or_len p xs) ∙ (ap suc (place-end p xs (length xs) refl (λ d k lt. none d (suc k) (omega (arith, lt, end)))) ∙ sym end))

module _ {A : Type 0} where
  -- the first place of an id that is not below k
  abbrev pub place : List (ℕ × A) → ℕ → ℕ
  place xs k = position_or_len (λ x. nat_le k x.0) xs

  place-here : (x : ℕ × A) (xs : List (ℕ × A)) (k : ℕ) → nat_le k x.0 ≡ true → place (x ∷ xs) k ≡ 0
  place-here x xs k here = cond-false (not (nat_le k x.0)) (1 + place xs k) 0 (not_from_true (nat_le k x.0) here)

  place-later : (x : ℕ × A) (xs : List (ℕ × A)) (k : ℕ) → nat_le k x.0 ≡ false → place (x ∷ xs) k ≡ suc (place xs k)
  place-later x xs k later = cond-true (not (nat_le k x.0)) (1 + place xs k) 0 (not_from_false (nat_le k x.0) later) ∙ one_more (place xs k)

  put-later : (x : ℕ × A) (xs : List (ℕ × A)) (k : ℕ) (a : A) → nat_le k x.0 ≡ false → put (x ∷ xs) k a ≡ x ∷ put xs k a
  put-later x xs k a later =
      let below : x.0 < k = leb-false k x.0 later in
      cond-false (x.0 == k) ((k, a) ∷ xs) (cond (nat_lt k x.0) ((k, a) ∷ x ∷ xs) (x ∷ put xs k a)) (ne_eqb x.0 k (λ e. absurd (omega (arith, e))))
      ∙ cond-false (nat_lt k x.0) ((k, a) ∷ x ∷ xs) (x ∷ put xs k a) (le-ltb k x.0 (omega arith))

  -- a value takes the place of what stood under its id
  pub put-set : (xs : List (ℕ × A)) (k : ℕ) (a : A) (x : ℕ × A) → slice_get xs (place xs k) ≡ Some x → x.0 ≡ k → put xs k a ≡ set xs (place xs k) (k, a)
  put-set [] k a x there same = cc
  put-set (y ∷ ys) k a x there same = elim (cases_Bool (nat_le k y.0)) [
    | inl here ↦
        let at : place (y ∷ ys) k ≡ 0 = place-here y ys k here in
        let is : Some y ≡ Some x = ap (slice_get (y ∷ ys)) (sym at) ∙ there in
        let key : y.0 ≡ k = ap (λ (o : ℕ × A). o.0) (let e : y ≡ x = cc in e) ∙ same in
        cond-true (y.0 == k) ((k, a) ∷ ys) (cond (nat_lt k y.0) ((k, a) ∷ y ∷ ys) (y ∷ put ys k a)) (eq-eqb y.0 k key)
        ∙ ap (λ n. set (y ∷ ys) n (k, a)) (sym at)
    | inr later ↦
        let at : place (y ∷ ys) k ≡ suc (place ys k) = place-later y ys k later in
        put-later y ys k a later
        ∙ (ap (λ zs. y ∷ zs) (put-set ys k a x (ap (slice_get (y ∷ ys)) (sym at) ∙ there) same)
        ∙ ap (λ n. set (y ∷ ys) n (k, a)) (sym at))
  ]

  -- a value under a new id stands before those of higher ids
  pub put-insert : (xs : List (ℕ × A)) (k : ℕ) (a : A) → ((x : ℕ × A) → slice_get xs (place xs k) ≡ Some x → x.0 ≡ k → ⊥) → put xs k a ≡ insert xs (place xs k) (k, a)
  put-insert [] k a other = refl
  put-insert (y ∷ ys) k a other = elim (cases_Bool (nat_le k y.0)) [
    | inl here ↦
        let at : place (y ∷ ys) k ≡ 0 = place-here y ys k here in
        let ne : y.0 ≡ k → ⊥ = other y (ap (slice_get (y ∷ ys)) at) in
        let low : k ≤ y.0 = leb-true k y.0 here in
        cond-false (y.0 == k) ((k, a) ∷ ys) (cond (nat_lt k y.0) ((k, a) ∷ y ∷ ys) (y ∷ put ys k a)) (ne_eqb y.0 k ne)
        ∙ (cond-true (nat_lt k y.0) ((k, a) ∷ y ∷ ys) (y ∷ put ys k a) (lt-ltb k y.0 (omega (arith, ne)))
        ∙ ap (λ n. insert (y ∷ ys) n (k, a)) (sym at))
    | inr later ↦
        let at : place (y ∷ ys) k ≡ suc (place ys k) = place-later y ys k later in
        put-later y ys k a later
        ∙ (ap (λ zs. y ∷ zs) (put-insert ys k a (λ x there. other x (ap (slice_get (y ∷ ys)) at ∙ there)))
        ∙ ap (λ n. insert (y ∷ ys) n (k, a)) (sym at))
  ]

  pub find-later : (y : ℕ × A) (ys : List (ℕ × A)) (k : ℕ) → (y.0 ≡ k → ⊥) → value_at (y ∷ ys) k ≡ value_at ys k
  find-later y ys k ne =
      ap (option_map (λ (x : ℕ × A). x.1)) (cond-false (y.0 == k) (Some y) (find (λ x. x.0 == k) ys) (ne_eqb y.0 k ne))

  pub find-here : (y : ℕ × A) (ys : List (ℕ × A)) (k : ℕ) → y.0 ≡ k → value_at (y ∷ ys) k ≡ Some y.1
  find-here y ys k same =
      ap (option_map (λ (x : ℕ × A). x.1)) (cond-true (y.0 == k) (Some y) (find (λ x. x.0 == k) ys) (eq-eqb y.0 k same))

  -- what stands at the place of an id, under it, is its value
  pub value-there : (xs : List (ℕ × A)) (k : ℕ) (x : ℕ × A) → slice_get xs (place xs k) ≡ Some x → x.0 ≡ k → value_at xs k ≡ Some x.1
  value-there [] k x there same = cc
  value-there (y ∷ ys) k x there same = elim (cases_Bool (nat_le k y.0)) [
    | inl here ↦
        let is : Some y ≡ Some x = ap (slice_get (y ∷ ys)) (sym (place-here y ys k here)) ∙ there in
        let e : y ≡ x = cc in
        find-here y ys k (ap (λ (o : ℕ × A). o.0) e ∙ same) ∙ ap (λ (o : ℕ × A). Some o.1) e
    | inr later ↦
        let below : y.0 < k = leb-false k y.0 later in
        find-later y ys k (λ e. absurd (omega (arith, e))) ∙ value-there ys k x (ap (slice_get (y ∷ ys)) (sym (place-later y ys k later)) ∙ there) same
  ]

  -- the first value under an id is what stands under it
  pub value-first : (xs : List (ℕ × A)) (k i : ℕ) (x : ℕ × A) → slice_get xs i ≡ Some x → x.0 ≡ k
      → ((d : ℕ × A) (j : ℕ) → j < i → (get_or xs j d).0 ≡ k → ⊥) → value_at xs k ≡ Some x.1
  value-first [] k i x there same before = cc
  value-first (y ∷ ys) k zero x there same before =
      let e : y ≡ x = cc in
      find-here y ys k (ap (λ (o : ℕ × A). o.0) e ∙ same) ∙ ap (λ (o : ℕ × A). Some o.1) e
  value-first (y ∷ ys) k (suc i) x there same before =
      find-later y ys k (before y 0 (omega arith)) ∙ value-first ys k i x there same (λ d j lt. before d (suc j) (omega arith))

  pub value-nowhere : (xs : List (ℕ × A)) (k : ℕ) → ((d : ℕ × A) (j : ℕ) → j < length xs → (get_or xs j d).0 ≡ k → ⊥) → value_at xs k ≡ None
  value-nowhere [] k none = refl
  value-nowhere (y ∷ ys) k none =
      find-later y ys k (none y 0 (omega arith)) ∙ value-nowhere ys k (λ d j lt. none d (suc j) (omega arith))

  none-above : (xs : List (ℕ × A)) (k : ℕ) → AllByRecursion (λ v. k < v) (map (λ x. x.0) xs) → value_at xs k ≡ None
  none-above [] k above = refl
  none-above (y ∷ ys) k (above, rest) = find-later y ys k (λ e. absurd (omega (arith, above, e))) ∙ none-above ys k rest

  -- in rising ids nothing stands under an id that does not stand at its place
  pub value-none : (xs : List (ℕ × A)) (k : ℕ) → Rising (map (λ x. x.0) xs) → ((x : ℕ × A) → slice_get xs (place xs k) ≡ Some x → x.0 ≡ k → ⊥) → value_at xs k ≡ None
  value-none [] k rising other = refl
  value-none (y ∷ ys) k (above, rising) other = elim (cases_Bool (nat_le k y.0)) [
    | inl here ↦
        let ne : y.0 ≡ k → ⊥ = other y (ap (slice_get (y ∷ ys)) (place-here y ys k here)) in
        let low : k ≤ y.0 = leb-true k y.0 here in
        find-later y ys k ne ∙ none-above ys k (above_more k y.0 (map (λ x. x.0) ys) (omega (arith, ne)) above)
    | inr later ↦
        let below : y.0 < k = leb-false k y.0 later in
        find-later y ys k (λ e. absurd (omega (arith, e)))
        ∙ value-none ys k rising (λ x there. other x (ap (slice_get (y ∷ ys)) (place-later y ys k later) ∙ there))
  ]

  -- what was put is what stands
  pub value-put-same : (xs : List (ℕ × A)) (k : ℕ) (a : A) → value_at (put xs k a) k ≡ Some a
  value-put-same [] k a = find-here (k, a) [] k refl
  value-put-same (y ∷ ys) k a = elim (cases_eq y.0 k) [
    | inl same ↦
        ap (λ zs. value_at zs k) (cond-true (y.0 == k) ((k, a) ∷ ys) (cond (nat_lt k y.0) ((k, a) ∷ y ∷ ys) (y ∷ put ys k a)) (eq-eqb y.0 k same))
        ∙ find-here (k, a) ys k refl
    | inr ne ↦
        ap (λ zs. value_at zs k) (cond-false (y.0 == k) ((k, a) ∷ ys) (cond (nat_lt k y.0) ((k, a) ∷ y ∷ ys) (y ∷ put ys k a)) (ne_eqb y.0 k ne))
        ∙ cond_both (nat_lt k y.0) ((k, a) ∷ y ∷ ys) (y ∷ put ys k a) (λ zs. value_at zs k ≡ Some a)
        (λ t. find-here (k, a) (y ∷ ys) k refl)
        (λ f. find-later y (put ys k a) k ne ∙ value-put-same ys k a)
  ]

  -- what holds of each value, and of one more, holds of each after it is put
  pub all-put : (P : A → Type 0) (xs : List (ℕ × A)) (k : ℕ) (a : A) → All (λ x. P x.1) xs → P a → All (λ x. P x.1) (put xs k a)
  all-put P [] k a all one = All-cons (λ x. P x.1) (k, a) [] one all
  all-put P (y ∷ ys) k a all one =
      let here : P y.1 = All-head (λ x. P x.1) y ys all in
      let rest = All-tail (λ x. P x.1) y ys all in
      cond_both (y.0 == k) ((k, a) ∷ ys) (cond (nat_lt k y.0) ((k, a) ∷ y ∷ ys) (y ∷ put ys k a)) (All (λ x. P x.1))
      (λ t. All-cons (λ x. P x.1) (k, a) ys one rest)
      (λ f. cond_both (nat_lt k y.0) ((k, a) ∷ y ∷ ys) (y ∷ put ys k a) (All (λ x. P x.1))
      (λ t. All-cons (λ x. P x.1) (k, a) (y ∷ ys) one all)
      (λ f. All-cons (λ x. P x.1) y (put ys k a) here (all-put P ys k a rest one)))

  keys-put : (w : ℕ) (xs : List (ℕ × A)) (k : ℕ) (a : A) → w < k → AllByRecursion (λ v. w < v) (map (λ x. x.0) xs)
      → AllByRecursion (λ v. w < v) (map (λ x. x.0) (put xs k a))
  keys-put w [] k a lt all = (lt, tt)
  keys-put w (y ∷ ys) k a lt (one, rest) =
      cond_both (y.0 == k) ((k, a) ∷ ys) (cond (nat_lt k y.0) ((k, a) ∷ y ∷ ys) (y ∷ put ys k a))
      (λ zs. AllByRecursion (λ v. w < v) (map (λ x. x.0) zs))
      (λ t. (lt, rest))
      (λ f. cond_both (nat_lt k y.0) ((k, a) ∷ y ∷ ys) (y ∷ put ys k a) (λ zs. AllByRecursion (λ v. w < v) (map (λ x. x.0) zs))
      (λ t. (lt, (one, rest))) (λ f. (one, keys-put w ys k a lt rest)))

  -- ids stay rising
  pub rising-put : (xs : List (ℕ × A)) (k : ℕ) (a : A) → Rising (map (λ x. x.0) xs) → Rising (map (λ x. x.0) (put xs k a))
  rising-put [] k a rising = (tt, tt)
  rising-put (y ∷ ys) k a (above, rising) =
      cond_both (y.0 == k) ((k, a) ∷ ys) (cond (nat_lt k y.0) ((k, a) ∷ y ∷ ys) (y ∷ put ys k a)) (λ zs. Rising (map (λ x. x.0) zs))
      (λ t. (subst (λ v. AllByRecursion (λ w. v < w) (map (λ x. x.0) ys)) (eqb-true y.0 k t) above, rising))
      (λ f. cond_both (nat_lt k y.0) ((k, a) ∷ y ∷ ys) (y ∷ put ys k a) (λ zs. Rising (map (λ x. x.0) zs))
      (λ t. let lt : k < y.0 = ltb-true k y.0 t in ((lt, above_more k y.0 (map (λ x. x.0) ys) lt above), (above, rising)))
      (λ g. let le : y.0 ≤ k = ltb-false k y.0 g in
      (keys-put y.0 ys k a (let ne : y.0 ≡ k → ⊥ = eqb-false y.0 k f in omega (arith, ne)) above, rising-put ys k a rising)))

  keys-without : (w : ℕ) (xs : List (ℕ × A)) (k : ℕ) → AllByRecursion (λ v. w < v) (map (λ x. x.0) xs)
      → AllByRecursion (λ v. w < v) (map (λ x. x.0) (without xs k))
  keys-without w [] k all = tt
  keys-without w (y ∷ ys) k (one, rest) =
      cond_both (not (y.0 == k)) (y ∷ without ys k) (without ys k) (λ zs. AllByRecursion (λ v. w < v) (map (λ x. x.0) zs))
      (λ t. (one, keys-without w ys k rest)) (λ f. keys-without w ys k rest)

  pub rising-without : (xs : List (ℕ × A)) (k : ℕ) → Rising (map (λ x. x.0) xs) → Rising (map (λ x. x.0) (without xs k))
  rising-without [] k rising = tt
  rising-without (y ∷ ys) k (above, rising) =
      cond_both (not (y.0 == k)) (y ∷ without ys k) (without ys k) (λ zs. Rising (map (λ x. x.0) zs))
      (λ t. (keys-without y.0 ys k above, rising-without ys k rising)) (λ f. rising-without ys k rising)

-- what is made of the first elements, and of one more, behind others
pub map-more : {A B : Type 0} (f : A → B) (xs : List A) (i : ℕ) (d : A) (ys : List B) → i < length xs
    → (ys ++ map f (take i xs)) ++ f (get_or xs i d) ∷ [] ≡ ys ++ map f (take (i + 1) xs)
map-more f xs i d ys lt =
    append_assoc ys (map f (take i xs)) (f (get_or xs i d) ∷ [])
    ∙ ap (λ zs. ys ++ zs) (sym (ap (map f) (take_more xs i d lt) ∙ map-append f (take i xs) (get_or xs i d ∷ [])))

-- what is put where it stands changes nothing
pub set-same : {X : Type 0} (xs : List X) (i : ℕ) (x : X) → slice_get xs i ≡ Some x → set xs i x ≡ xs
set-same [] i x there = refl
set-same (y ∷ ys) zero x there = let e : y ≡ x = cc in ap (λ z. z ∷ ys) (sym e)
set-same (y ∷ ys) (suc i) x there = ap (λ zs. y ∷ zs) (set-same ys i x there)

-- the table that is being sent to an id has heard of parts
pub hear-put : (xs : List (ℕ × SentTable)) (k : ℕ) (y : ℕ × SentTable) (next : ℕ) (r : Sent) → slice_get xs (place xs k) ≡ Some y → y.0 ≡ k
    → set xs (place xs k) (y.0, after_heard y.1 next r) ≡ sendings_after xs k y.1 next r
hear-put xs k y next Next there same =
    ap (λ n. set xs (place xs k) (n, record (y.1) { part = next })) same ∙ sym (put-set xs k (record (y.1) { part = next }) y there same)
hear-put xs k y next Done there same = set-same xs (place xs k) y there
hear-put xs k y next Ignored there same = set-same xs (place xs k) y there

module _ (old new : List (ℕ × SentTable)) (k : ℕ) (point : Point) (next : ℕ) (r : Sent) where
  abbrev HearsAs : Option SentTable → Type 0
  HearsAs o = MatchOption o ((r ≡ Ignored) × (new ≡ old)) (λ s. (r ≡ heard s point next) × (new ≡ sendings_after old k s next r))

  pub hears-there : (y : SentTable) → value_at old k ≡ Some y → r ≡ heard y point next → new ≡ sendings_after old k y next r → HearsAs (value_at old k)
  hears-there y is answer after = subst HearsAs (sym is) (answer, after)

  pub hears-none : value_at old k ≡ None → r ≡ Ignored → new ≡ old → HearsAs (value_at old k)
  hears-none is answer after = subst HearsAs (sym is) (answer, after)
