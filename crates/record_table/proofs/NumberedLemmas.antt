-- Where a search of a number ends.
use Rattle.std.proofs.Common.{◌≡◌, ℕ, zero, suc, ◌+◌, ◌-◌, ◌<◌, ◌≤◌, Bool, true, false, List, [], length, refl, sym, ap, subst, ◌∙◌, arith}
use Rattle.std.specs.Prelude.{slice_index, All, nat_lt}
use Rattle.std.specs.declared.cmp.Ordering.TheVariants.{Less, Equal, Greater}
use Rattle.std.specs.Ordering.{MatchOrdering, nat_cmp}
use Rattle.std.specs.Cmp.{ranks}
use Rattle.std.specs.List.{concat}
use Rattle.std.proofs.lemmas.Bool.{ltb-true, ltb-false}
use Rattle.std.proofs.lemmas.List.{length-map, get_or-map, get_or_default, take_all}
use Rattle.std.proofs.lemmas.List.Elements.{All-get_or}
use Rattle.record_table.specs.Pages.{IsPage, page_at, place_of}
use Rattle.record_table.specs.Numbered.{numbers_in, IsSlotOf, IsBetween}
use Rattle.record_table.proofs.PagesLemmas.{concat-at, length-front}

-- what a comparison of numbers says
pub is_less : (m n : ℕ) → Less ≡ nat_cmp m n → m < n
is_less m n e = subst (λ o. MatchOrdering o (m < n) (m ≡ n) (n < m)) (sym e) (ranks m n)

pub is_equal : (m n : ℕ) → Equal ≡ nat_cmp m n → m ≡ n
is_equal m n e = subst (λ o. MatchOrdering o (m < n) (m ≡ n) (n < m)) (sym e) (ranks m n)

pub is_greater : (m n : ℕ) → Greater ≡ nat_cmp m n → n < m
is_greater m n e = subst (λ o. MatchOrdering o (m < n) (m ≡ n) (n < m)) (sym e) (ranks m n)

module _ (pages : List (List ℕ)) (numbers : List ℕ) (number : ℕ) where
  -- the number of the slot at an offset in a page
  abbrev number_at : ℕ → ℕ → ℕ
  number_at page offset = slice_index numbers (slice_index (page_at pages page) offset)

  abbrev listed : List ℕ
  listed = numbers_in (concat pages) numbers

  length-listed : length listed ≡ length (concat pages)
  length-listed = length-map (concat pages) (λ slot. slice_index numbers slot)

  listed-at : (page offset place : ℕ) → page < length pages → offset < length (page_at pages page) → place ≡ place_of pages (record { page = page; offset = offset })
      → (place < length listed) × (slice_index listed place ≡ number_at page offset)
  listed-at page offset place low inside is =
      let here = concat-at pages (record { page = page; offset = offset }) 0 low inside in
      let l = length-listed in
      let below = here.0 in (
        omega arith,
        ap (slice_index listed) is
            ∙ get_or-map (λ slot. slice_index numbers slot) (concat pages) (place_of pages (record { page = page; offset = offset })) 0 0 below
            ∙ ap (slice_index numbers) here.1,
      )

  pub slot_found : (page offset : ℕ) → page < length pages → offset < length (page_at pages page) → number ≡ number_at page offset
      → IsSlotOf (concat pages) numbers number (slice_index (page_at pages page) offset)
  slot_found page offset low inside same =
      let slot = slice_index (page_at pages page) offset in
      let here = concat-at pages (record { page = page; offset = offset }) slot low inside in
      ((place_of pages (record { page = page; offset = offset }), here.0, here.1 ∙ get_or_default (page_at pages page) offset slot 0 inside), sym same)

  -- only at the first slot of all is the number below the one that the search ends at
  pub below_found : (page offset : ℕ) → page < length pages → offset < length (page_at pages page)
      → (0 < page → number_at page 0 ≤ number) → (0 < offset → number_at page offset ≤ number) → number < number_at page offset
      → IsBetween listed number (place_of pages (record { page = page; offset = offset }))
  below_found zero zero low inside reached_page reached less =
      let here = listed-at 0 0 0 low inside refl in
      record {
        within = let h = here.0 in omega arith;
        before = λ h. absurd (omega arith);
        after = λ h. (let e = here.1 in omega arith);
      }
  below_found (suc page) zero low inside reached_page reached less = absurd (let r = reached_page (omega arith) in omega arith)
  below_found page (suc offset) low inside reached_page reached less = absurd (let r = reached (omega arith) in omega arith)

  -- and else it is above it, and below the next one
  module _ (each : All IsPage pages) (page offset : ℕ) (low : page < length pages) (inside : offset < length (page_at pages page)) (more : number_at page offset < number)
      (next_page : page + 1 < length pages → number < number_at (page + 1) 0)
      (next : offset + 1 < length (page_at pages page) → number < number_at page (offset + 1)) where
    abbrev place : ℕ
    place = place_of pages (record { page = page; offset = offset + 1 })

    above : place < length listed → (t : Bool) → nat_lt (offset + 1) (length (page_at pages page)) ≡ t → number < slice_index listed place
    above h true e =
        let l = ltb-true (offset + 1) (length (page_at pages page)) e in
        let here = (listed-at page (offset + 1) place low l refl).1 in
        let n = next l in
        omega arith
    above h false e =
        let l = ltb-false (offset + 1) (length (page_at pages page)) e in
        let front = length-front pages page low in
        let many = length-listed in
        let later : page + 1 < length pages = by_end (nat_lt (page + 1) (length pages)) refl in
        let some = (All-get_or IsPage pages (page + 1) [] later each).0 in
        let here = (listed-at (page + 1) 0 place later some (omega arith)).1 in
        let n = next_page later in
        omega arith
      where
        by_end : (t : Bool) → nat_lt (page + 1) (length pages) ≡ t → page + 1 < length pages
        by_end true e' = ltb-true (page + 1) (length pages) e'
        by_end false e' =
            let past = ltb-false (page + 1) (length pages) e' in
            let all = ap (λ ps. length (concat ps)) (take_all (page + 1) pages past) in
            let f = length-front pages page low in
            let m = length-listed in
            let k = ltb-false (offset + 1) (length (page_at pages page)) e in
            absurd (omega arith)

    pub above_found : IsBetween listed number place
    above_found =
        let here = listed-at page offset (place_of pages (record { page = page; offset = offset })) low inside refl in
        record {
          within = let h = here.0 in omega arith;
          before = λ h. subst (λ k. slice_index listed k < number) (let before : place_of pages (record { page = page; offset = offset }) ≡ place - 1 = omega arith in before)
              (let e = here.1 in omega arith);
          after = λ h. above h (nat_lt (offset + 1) (length (page_at pages page))) refl;
        }
