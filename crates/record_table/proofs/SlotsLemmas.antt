-- Rows in slots: found by numbers, added, and written in their slots.
use Rattle.std.proofs.Common.{◌≡◌, ◌≢◌, ℕ, ◌-◌, ◌+◌, ◌<◌, ◌≤◌, Bool, true, false, List, [], ◌∷◌, ◌++◌, length, refl, sym, ap, subst, ◌∙◌, arith, ◌⊎◌, inl, inr}
use Rattle.std.specs.Prelude.{Some, slice_get, slice_set, slice_index, slice_index_or, insert, IsSome, IsSomeAnd, All, nat_lt, nat_eq}
use Rattle.std.specs.declared.cmp.Ordering.TheVariants.{Less, Equal, Greater}
use Rattle.std.specs.Cmp.{nat_cmp_is}
use Rattle.std.proofs.lemmas.Bool.{ltb-true, ltb-false, eqb-true, eqb-false}
use Rattle.std.proofs.lemmas.List.{get_or-map, get_or_default, get_or-set_same, get_or-set_other, get_or_append_left, get_or_at, length-map, length-set, same_lists, length-append}
use Rattle.std.proofs.lemmas.List.Edits.{length-insert}
use Rattle.std.proofs.lemmas.Option.{slice_get-get_or}
use Rattle.values.specs.declared.ids.ClientId.{ClientId}
use Rattle.values.specs.declared.row.Row.{Row}
use Rattle.values.specs.declared.limits.TheConstants.{MOST_ROWS}
use Rattle.record_table.specs.declared.change.Change.{Change}
use Rattle.record_rules.specs.Clients.{client_cmp, IsNumberOf}
use Rattle.record_rules.specs.Table.{row_of, put_row, kept_in, IsRising}
use Rattle.record_table.specs.Changes.{kept_after, changed_row}
use Rattle.record_table.specs.Slots.{no_row, rows_in, IsSorted}
use Rattle.record_table.specs.Numbered.{numbers_in, IsSlotOf, IsBetween}
use Rattle.record_rules.proofs.Clients.{client_total, client_cmp-same, client_cmp-self, flip}
use Rattle.record_rules.proofs.Placed.{IsRowAt, IsGap, row_of-at, row_of-gap, put_row-at, put_row-gap, IsRising-put}
use Rattle.record_table.proofs.Inserted.{map-insert, All-insert}
use Rattle.record_table.proofs.Spelled.{client_cmp-numbers}

length-rows_in : (order : List ℕ) (slots : List Row) → length (rows_in order slots) ≡ length order
length-rows_in order slots = length-map order (λ slot. slice_index_or slots slot no_row)

-- the row at a place of the list
rows_in-at : (order : List ℕ) (slots : List Row) (at d : ℕ) (e : Row) → at < length order
    → slice_index_or (rows_in order slots) at e ≡ slice_index_or slots (slice_index_or order at d) no_row
rows_in-at order slots at d e h = get_or-map (λ slot. slice_index_or slots slot no_row) order at d e h

-- ---- clients by their numbers

pub below_by_number : (a b : ClientId) (m n : ℕ) → IsNumberOf a m → IsNumberOf b n → m < n → client_cmp a b ≡ Less
below_by_number a b m n is_a is_b less = client_cmp-numbers a b m n is_a is_b ∙ sym (nat_cmp_is m n Less less)

pub same_by_number : (a b : ClientId) (n : ℕ) → IsNumberOf a n → IsNumberOf b n → a ≡ b
same_by_number a b n is_a is_b = client_cmp-same a b (client_cmp-numbers a b n n is_a is_b ∙ sym (nat_cmp_is n n Equal refl))

-- ---- a number between the numbers of the list

module _ (order numbers : List ℕ) (slots : List Row) (client : ClientId) (number at : ℕ) (sorted : IsSorted order numbers slots) (mine : IsNumberOf client number)
    (between : IsBetween (numbers_in order numbers) number at) where
  abbrev rows : List Row
  rows = rows_in order slots

  abbrev at_place : ℕ → Row
  at_place i = slice_index_or rows i no_row

  many : length rows ≡ length order
  many = length-rows_in order slots

  many_numbers : length (numbers_in order numbers) ≡ length order
  many_numbers = length-map order (λ slot. slice_index numbers slot)

  -- the number of the row at a place
  number_at : (i : ℕ) → i < length order → IsNumberOf (at_place i).client (slice_index (numbers_in order numbers) i)
  number_at i h =
      let row = rows_in-at order slots i 0 no_row h in
      let number = get_or-map (λ slot. slice_index numbers slot) order i 0 0 h in
      subst (λ n. IsNumberOf (at_place i).client n) (sym number)
      (subst (λ (r : Row). IsNumberOf r.client (slice_index numbers (slice_index order i))) (sym row)
      (sorted.clients (slice_index order i) (sorted.within i 0 h)))

  before : (i : ℕ) → i < at → (t : Bool) → nat_lt (i + 1) at ≡ t → client_cmp (at_place i).client client ≡ Less
  before i h false e =
      let last : at - 1 ≡ i = (let l = ltb-false (i + 1) at e in omega arith) in
      below_by_number (at_place i).client client (slice_index (numbers_in order numbers) i) number
      (number_at i (let w = between.within in let m = many_numbers in omega arith)) mine
      (subst (λ k. slice_index (numbers_in order numbers) k < number) last (between.before (omega arith)))
  before i h true e =
      let l = ltb-true (i + 1) at e in
      let w = between.within in
      let m = many_numbers in
      let r = many in
      let inside : at - 1 < length order = omega arith in
      client_total.trans (at_place i).client (at_place (at - 1)).client client (sorted.rising i (at - 1) no_row (omega arith) (omega arith))
      (below_by_number (at_place (at - 1)).client client (slice_index (numbers_in order numbers) (at - 1)) number (number_at (at - 1) inside) mine
      (between.before (omega arith)))

  after : (i : ℕ) → at ≤ i → i < length order → (t : Bool) → nat_lt at i ≡ t → client_cmp (at_place i).client client ≡ Greater
  after i low high false e =
      let same : at ≡ i = (let l = ltb-false at i e in omega arith) in
      let m = many_numbers in
      flip client (at_place i).client Less
      (below_by_number client (at_place i).client number (slice_index (numbers_in order numbers) i) mine (number_at i high)
      (subst (λ k. number < slice_index (numbers_in order numbers) k) same (between.after (omega arith))))
  after i low high true e =
      let l = ltb-true at i e in
      let m = many_numbers in
      let r = many in
      flip client (at_place i).client Less
      (client_total.trans client (at_place at).client (at_place i).client
      (below_by_number client (at_place at).client number (slice_index (numbers_in order numbers) at) mine (number_at at (omega arith)) (between.after (omega arith)))
      (sorted.rising at i no_row l (omega arith)))

  -- is at a gap of the clients
  pub gap_here : IsGap rows client at
  gap_here =
      let m = many in
      record {
        within = (let w = between.within in let l = many_numbers in omega arith);
        before = λ i d h.
            subst (λ (r : Row). client_cmp r.client client ≡ Less)
            (get_or_default rows i no_row d (let w = between.within in let l = many_numbers in omega arith))
            (before i h (nat_lt (i + 1) at) refl);
        after = λ i d low high.
            subst (λ (r : Row). client_cmp r.client client ≡ Greater) (get_or_default rows i no_row d high)
            (after i low (omega arith) (nat_lt at i) refl);
      }

-- ---- a slot that is found by its number

-- two places of rising rows have two slots
two_slots : (order numbers : List ℕ) (slots : List Row) (i j d : ℕ) → IsSorted order numbers slots → i < j → j < length order
    → ¬ (slice_index_or order i d ≡ slice_index_or order j d)
two_slots order numbers slots i j d sorted low high same =
    let many = length-rows_in order slots in
    let a = slice_index_or (rows_in order slots) i no_row in
    let b = slice_index_or (rows_in order slots) j no_row in
    let one : a ≡ b =
    rows_in-at order slots i d no_row (omega arith) ∙ ap (λ slot. slice_index_or slots slot no_row) same ∙ sym (rows_in-at order slots j d no_row high) in
    let less = sorted.rising i j no_row low (omega arith) in
    let level = subst (λ (r : Row). client_cmp a.client r.client ≡ Equal) one (client_cmp-self a.client) in
    cc

module _ (order numbers : List ℕ) (slots : List Row) (client : ClientId) (number slot : ℕ) (sorted : IsSorted order numbers slots) (mine : IsNumberOf client number)
    (found : IsSlotOf order numbers number slot) where
  abbrev at : ℕ
  at = found.0.0

  place : at < length order
  place = found.0.1

  is : slice_index_or order at slot ≡ slot
  is = found.0.2

  pub slot_within : slot < length slots
  slot_within = subst (λ s. s < length slots) is (sorted.within at slot place)

  own : IsNumberOf client (slice_index numbers slot)
  own = subst (IsNumberOf client) (sym found.1) mine

  client_is : (slice_index_or slots slot no_row).client ≡ client
  client_is = same_by_number (slice_index_or slots slot no_row).client client (slice_index numbers slot) (sorted.clients slot slot_within) own

  there : slice_get (rows_in order slots) at ≡ Some (slice_index_or slots slot no_row)
  there =
      slice_get-get_or (rows_in order slots) at no_row (let l = length-rows_in order slots in let p = place in omega arith)
      ∙ ap Some (rows_in-at order slots at slot no_row place ∙ ap (λ s. slice_index_or slots s no_row) is)

  -- has its client's row
  pub found_row : row_of (rows_in order slots) client ≡ Some (slice_index_or slots slot no_row)
  found_row =
      subst (λ c. row_of (rows_in order slots) c ≡ Some (slice_index_or slots slot no_row)) client_is
      (row_of-at (rows_in order slots) at (slice_index_or slots slot no_row) sorted.rising there)

  here : IsRowAt (rows_in order slots) client at
  here = subst (λ found. IsSomeAnd found (λ row. row.client ≡ client)) (sym there) client_is

  other_slot : (k : ℕ) → k < length order → k ≢ at → slice_index_or order k slot ≢ slot
  other_slot k h away same =
      elim (nat_lt k at) as (λ t. nat_lt k at ≡ t → ⊥) [
        | true ↦ λ e. two_slots order numbers slots k at slot sorted (ltb-true k at e) place (same ∙ sym is)
        | false ↦ λ e. two_slots order numbers slots at k slot sorted (let l = ltb-false k at e in omega arith) h (is ∙ sym same)
      ] refl

  -- a row that is written in the slot stands at its place
  rows_in-set : (row : Row) → rows_in order (slice_set slots slot row) ≡ slice_set (rows_in order slots) at row
  rows_in-set row =
      same_lists (rows_in order (slice_set slots slot row)) (slice_set (rows_in order slots) at row)
      (length-rows_in order (slice_set slots slot row) ∙ sym (length-rows_in order slots) ∙ sym (length-set (rows_in order slots) at row))
      (λ k d h. by_place k d (subst (λ n. k < n) (length-rows_in order (slice_set slots slot row)) h) (nat_eq k at) refl)
    where
      by_place : (k : ℕ) (d : Row) → k < length order → (t : Bool) → nat_eq k at ≡ t
          → slice_index_or (rows_in order (slice_set slots slot row)) k d ≡ slice_index_or (slice_set (rows_in order slots) at row) k d
      by_place k d h true e =
          let same : k ≡ at = eqb-true k at e in
          let p = place in
          subst (λ j. slice_index_or (rows_in order (slice_set slots slot row)) j d ≡ slice_index_or (slice_set (rows_in order slots) at row) j d) (sym same)
          (rows_in-at order (slice_set slots slot row) at slot d place
          ∙ ap (λ s. slice_index_or (slice_set slots slot row) s no_row) is
          ∙ get_or-set_same slots slot row no_row slot_within
          ∙ sym (get_or-set_same (rows_in order slots) at row d (let l = length-rows_in order slots in omega arith)))
      by_place k d h false e =
          let away : k ≢ at = eqb-false k at e in
          rows_in-at order (slice_set slots slot row) k slot d h
          ∙ get_or-set_other slots slot (slice_index_or order k slot) row no_row (other_slot k h away)
          ∙ sym (rows_in-at order slots k slot d h)
          ∙ sym (get_or-set_other (rows_in order slots) at k row d away)

  numbers_after : (row : Row) → row.client ≡ client → (k : ℕ) → k < length slots → (t : Bool) → nat_eq k slot ≡ t
      → IsNumberOf (slice_index_or (slice_set slots slot row) k no_row).client (slice_index numbers k)
  numbers_after row same k h true e =
      let is_slot : slot ≡ k = sym (eqb-true k slot e) in
      subst (λ j. IsNumberOf (slice_index_or (slice_set slots slot row) j no_row).client (slice_index numbers j)) is_slot
      (subst (λ (r : Row). IsNumberOf r.client (slice_index numbers slot)) (sym (get_or-set_same slots slot row no_row slot_within))
      (subst (λ c. IsNumberOf c (slice_index numbers slot)) (sym same) own))
  numbers_after row same k h false e =
      subst (λ (r : Row). IsNumberOf r.client (slice_index numbers k)) (sym (get_or-set_other slots slot k row no_row (eqb-false k slot e))) (sorted.clients k h)

  -- and takes the place of its client's row
  pub writes : (row : Row) → row.client ≡ client
      → IsSorted order numbers (slice_set slots slot row) × (rows_in order (slice_set slots slot row) ≡ put_row (rows_in order slots) row)
  writes row same =
      let long = length-set slots slot row in
      let put : put_row (rows_in order slots) row ≡ rows_in order (slice_set slots slot row) =
      put_row-at (rows_in order slots) at row sorted.rising (subst (λ c. IsRowAt (rows_in order slots) c at) (sym same) here) ∙ sym (rows_in-set row) in (
        record {
          listed = sorted.listed ∙ sym long;
          within = λ k d h. let w = sorted.within k d h in omega arith;
          few = sorted.few;
          rising = subst IsRising put (IsRising-put (rows_in order slots) row sorted.rising);
          numbered = sorted.numbered ∙ sym long;
          clients = λ k h. numbers_after row same k (omega arith) (nat_eq k slot) refl;
        },
        sym put,
      )

  -- so is a change of the row in its slot
  pub changes : (last : ℕ) (change : Change) (old new : Row) → old ≡ slice_index_or slots slot old
      → new ≡ record old { last = last; kept = kept_after change old.kept }
      → IsSorted order numbers (slice_set slots slot new)
      × (rows_in order (slice_set slots slot new) ≡ put_row (rows_in order slots) (changed_row (rows_in order slots) client last change))
  changes last change old new old_is new_is =
      let stood : old ≡ slice_index_or slots slot no_row = old_is ∙ get_or_default slots slot old no_row slot_within in
      let same : new ≡ changed_row (rows_in order slots) client last change =
      new_is ∙ (λ i. record { client = (ap (λ (r : Row). r.client) stood ∙ client_is) i; last = last; kept = kept_after change (ap kept_in (ap Some stood ∙ sym found_row) i) }) in
      let done = writes new (ap (λ (r : Row). r.client) same) in
      (done.0, done.1 ∙ ap (put_row (rows_in order slots)) same)

-- ---- a row more

-- a slot more leaves those that are listed
rows_in-more : (order : List ℕ) (slots : List Row) (row : Row) → All (λ slot. slot < length slots) order → rows_in order (slots ++ row ∷ []) ≡ rows_in order slots
rows_in-more order slots row within =
    same_lists (rows_in order (slots ++ row ∷ [])) (rows_in order slots) (length-rows_in order (slots ++ row ∷ []) ∙ sym (length-rows_in order slots))
    (λ k d h.
    let low : k < length order = (let l = length-rows_in order (slots ++ row ∷ []) in omega arith) in
    rows_in-at order (slots ++ row ∷ []) k 0 d low
    ∙ get_or_append_left slots (row ∷ []) no_row (slice_index order k) (within k 0 low)
    ∙ sym (rows_in-at order slots k 0 d low))

module _ (order numbers : List ℕ) (slots : List Row) (row : Row) (number at : ℕ) (sorted : IsSorted order numbers slots) (mine : IsNumberOf row.client number) where
  -- a new slot that is listed at a place adds its row there
  rows_in-insert : rows_in (insert order at (length slots)) (slots ++ row ∷ []) ≡ insert (rows_in order slots) at row
  rows_in-insert =
      map-insert (λ slot. slice_index_or (slots ++ row ∷ []) slot no_row) order at (length slots)
      ∙ (λ i. insert (rows_in-more order slots row sorted.within i) at (get_or_at slots row [] no_row (length slots) refl i))

  numbers_more : (k : ℕ) → k < length slots + 1 → (t : Bool) → nat_lt k (length slots) ≡ t
      → IsNumberOf (slice_index_or (slots ++ row ∷ []) k no_row).client (slice_index (numbers ++ number ∷ []) k)
  numbers_more k h true e =
      let l = ltb-true k (length slots) e in
      let many = sorted.numbered in
      subst (IsNumberOf (slice_index_or (slots ++ row ∷ []) k no_row).client) (sym (get_or_append_left numbers (number ∷ []) 0 k (omega arith)))
      (subst (λ (r : Row). IsNumberOf r.client (slice_index numbers k)) (sym (get_or_append_left slots (row ∷ []) no_row k l)) (sorted.clients k l))
  numbers_more k h false e =
      let last : length slots ≡ k = (let l = ltb-false k (length slots) e in omega arith) in
      subst (IsNumberOf (slice_index_or (slots ++ row ∷ []) k no_row).client) (sym (get_or_at numbers number [] 0 k (sorted.numbered ∙ last)))
      (subst (λ (r : Row). IsNumberOf r.client number) (sym (get_or_at slots row [] no_row k last)) mine)

  gap : IsBetween (numbers_in order numbers) number at → IsGap (rows_in order slots) row.client at
  gap between = gap_here order numbers slots row.client number at sorted mine between

  room_at_gap : IsGap (rows_in order slots) row.client at → (length (rows_in order slots) < MOST_ROWS) ⊎ IsSome (row_of (rows_in order slots) row.client) → length order < MOST_ROWS
  room_at_gap gap (inl h) = let l = length-rows_in order slots in omega arith
  room_at_gap gap (inr h) = absurd (let t = subst IsSome (row_of-gap (rows_in order slots) row.client at gap) h in cc)

  is_sorted : IsGap (rows_in order slots) row.client at → length order < MOST_ROWS
      → IsSorted (insert order at (length slots)) (numbers ++ number ∷ []) (slots ++ row ∷ [])
  is_sorted gap room =
      let fits : at ≤ length order = (let w = gap.within in let l = length-rows_in order slots in omega arith) in
      let longer = length-insert order at (length slots) fits in
      let more = length-append slots (row ∷ []) in
      let more_numbers = length-append numbers (number ∷ []) in
      let listed = sorted.listed in
      let numbered = sorted.numbered in
      record {
        listed = omega arith;
        within = All-insert (λ slot. slot < length (slots ++ row ∷ [])) order at (length slots) (λ k d h. let w = sorted.within k d h in omega arith) (omega arith);
        few = omega arith;
        rising = subst IsRising (put_row-gap (rows_in order slots) row at gap ∙ sym rows_in-insert) (IsRising-put (rows_in order slots) row sorted.rising);
        numbered = omega arith;
        clients = λ k h. numbers_more k (omega arith) (nat_lt k (length slots)) refl;
      }

  -- the row of a gap is added with its slot and its number
  pub adds : (order' numbers' : List ℕ) (slots' : List Row) (slot : ℕ) → IsBetween (numbers_in order numbers) number at
      → (length (rows_in order slots) < MOST_ROWS) ⊎ IsSome (row_of (rows_in order slots) row.client)
      → slot ≡ length slots → order' ≡ insert order at slot → numbers' ≡ numbers ++ number ∷ [] → slots' ≡ slots ++ row ∷ []
      → IsSorted order' numbers' slots' × (rows_in order' slots' ≡ put_row (rows_in order slots) row)
  adds order' numbers' slots' slot between free is order_is numbers_is slots_is =
      let here = gap between in
      let done : IsSorted (insert order at (length slots)) (numbers ++ number ∷ []) (slots ++ row ∷ [])
      × (rows_in (insert order at (length slots)) (slots ++ row ∷ []) ≡ put_row (rows_in order slots) row) =
      (is_sorted here (room_at_gap here free), rows_in-insert ∙ sym (put_row-gap (rows_in order slots) row at here)) in
      let at_slot : insert order at (length slots) ≡ order' = ap (insert order at) (sym is) ∙ sym order_is in (
        subst (λ o. IsSorted o numbers' slots') at_slot
            (subst (λ n. IsSorted (insert order at (length slots)) n slots') (sym numbers_is)
            (subst (IsSorted (insert order at (length slots)) (numbers ++ number ∷ [])) (sym slots_is) done.0)),
        (λ i. rows_in (sym at_slot i) (slots_is i)) ∙ done.1,
      )
