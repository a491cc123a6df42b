-- Who runs goes on being in rising order and among those that were started.
use Rattle.std.proofs.Common.{if◌then◌else◌, ◌≡◌, ◌∙◌, sym, subst, refl, ℕ, suc, ◌+◌, ◌<◌, ◌≤◌, ◌||◌, eqb, Bool, true, false, nat_lt, List, [], ◌∷◌, ◌++◌, length, filter, arith, length-append}
use Rattle.std.specs.List.{position_or_len, insert}
use Rattle.std.proofs.lemmas.Bool.{cond_both, or_left, or_right}
use Rattle.std.proofs.lemmas.List.Elements.{All-filter}
use Rattle.values.specs.declared.limits.TheConstants.{MAX_REPLICAS}
use Rattle.values.proofs.RisingLists.{rising_from_increasing, increasing_from_rising}
use Rattle.group_quorum.specs.Voters.{insert_rising, is_in, IsId}
use Rattle.group_quorum.proofs.Inserted.{insert-rising, insert_length, insert_all, is_in-insert, is_in-push}
use Rattle.replica_model.proofs.RisingIds.{rising_inserted, rising_filtered}
use Rattle.group_world.specs.Roster.{IsRoster}

-- ---- an id at its place among rising ones

-- ---- and without one of them

or_more : (a b c : Bool) → (b ≡ true → c ≡ true) → (a || b) ≡ true → (a || c) ≡ true
or_more true b c more is = refl
or_more false b c more is = more is

is_in-filter : (p : ℕ → Bool) (xs : List ℕ) (v : ℕ) → is_in (filter p xs) v ≡ true → is_in xs v ≡ true
is_in-filter p [] v = λ is. is
is_in-filter p (x ∷ xs) v = cond_both (p x) (x ∷ filter p xs) (filter p xs) (λ ys. is_in ys v ≡ true → is_in (x ∷ xs) v ≡ true)
    (λ e. or_more (eqb x v) (is_in (filter p xs) v) (is_in xs v) (is_in-filter p xs v))
    (λ e is. or_right (eqb x v) (is_in xs v) (is_in-filter p xs v is))

filter-short : (p : ℕ → Bool) (xs : List ℕ) → length (filter p xs) ≤ length xs
filter-short p [] = omega arith
filter-short p (x ∷ xs) =
    let rest = filter-short p xs in
    cond_both (p x) (x ∷ filter p xs) (filter p xs) (λ ys. length ys ≤ suc (length xs)) (λ e. omega (arith, rest)) (λ e. omega (arith, rest))

-- ---- the roster

pub roster-filter : (begun : Bool) (running started : List ℕ) (p : ℕ → Bool) → IsRoster begun running started → IsRoster begun (filter p running) started
roster-filter begun running started p roster =
    let short = filter-short p running in
    let few = roster.few in record {
      ids = All-filter p IsId running roster.ids;
      in_order = increasing_from_rising (filter p running) (rising_filtered p running (rising_from_increasing running roster.in_order));
      known = λ v is. roster.known v (is_in-filter p running v is);
      few = omega (arith, short, few);
      most = roster.most;
      idle = λ not_yet. let none = roster.idle not_yet in omega (arith, none, short);
    }

or_last : (a b : Bool) → (b ≡ true → a ≡ true) → (c : Bool) → (c || b) ≡ true → (a || (c || false)) ≡ true
or_last a b in_a true is = or_right a true refl
or_last a b in_a false is = or_left a false (in_a is)

-- one id more was started
pub roster-started : (begun : Bool) (running started : List ℕ) (id : ℕ) → length started < MAX_REPLICAS → IsRoster begun running started → IsRoster begun running (started ++ id ∷ [])
roster-started begun running started id room roster =
    let long = length-append started (id ∷ []) in
    let few = roster.few in record {
      ids = roster.ids;
      in_order = roster.in_order;
      known = λ v is. is_in-push started id v ∙ or_left (is_in started v) (eqb id v || false) (roster.known v is);
      few = omega (arith, few, long);
      most = omega (arith, room, long);
      idle = roster.idle;
    }

-- who was never started does not run
pub not_running : (begun : Bool) (running started : List ℕ) (id : ℕ) → IsRoster begun running started → is_in started id ≡ false → is_in running id ≡ false
not_running begun running started id roster new = by_test (is_in running id) refl
  where
    by_test : (b : Bool) → is_in running id ≡ b → b ≡ false
    by_test false is = refl
    by_test true is = cc (sym new ∙ roster.known id is)

-- and runs
pub roster-enlisted : (running started : List ℕ) (id : ℕ) → IsId id → is_in started id ≡ false → length started < MAX_REPLICAS → IsRoster true running started
    → IsRoster true (insert_rising id running) (started ++ id ∷ [])
roster-enlisted running started id own new room roster =
    let long = length-append started (id ∷ []) in
    let longer = insert_length id running in
    let few = roster.few in record {
      ids = insert_all IsId id running own roster.ids;
      in_order = increasing_from_rising (insert_rising id running) (rising_inserted id running (rising_from_increasing running roster.in_order) (not_running true running started id roster new));
      known = λ v is. is_in-push started id v ∙ or_last (is_in started v) (is_in running v) (roster.known v) (eqb id v) (sym (is_in-insert id running v) ∙ is);
      few = omega (arith, few, long, longer);
      most = omega (arith, room, long);
      idle = λ never. cc never;
    }

-- whether it runs already or not
pub roster-either : (begun placed : Bool) (running started new_running new_started : List ℕ) (id place : ℕ) → begun ≡ true → IsId id → is_in started id ≡ false → length started < MAX_REPLICAS
    → IsRoster begun running started → place ≡ position_or_len (λ v. nat_lt id v) running → new_started ≡ started ++ id ∷ []
    → new_running ≡ (if placed then insert running place id else running) → IsRoster begun new_running new_started
roster-either begun true running started new_running new_started id place is own new room roster at more placed =
    rw (is, placed, more, at, sym (insert-rising running id)) (roster-enlisted running started id own new room (subst (λ b. IsRoster b running started) is roster))
roster-either begun false running started new_running new_started id place is own new room roster at more placed =
    rw (placed, more) (roster-started begun running started id room roster)
