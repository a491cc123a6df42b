-- Lists of slots in pages, as one list.
use Rattle.std.proofs.Common.{◌≡◌, ℕ, suc, ◌+◌, ◌-◌, ◌<◌, ◌≤◌, List, [], ◌∷◌, ◌++◌, map, length, take, drop, refl, sym, ap, subst, ◌∙◌, arith, add-one, drop-cons, Vec, Global}
use Rattle.std.proofs.lemmas.Option.{slice_get-get_or, slice_get_past}
use Rattle.std.specs.Prelude.{Some, None, slice_get, slice_set, slice_index_or, slice_index, insert, All}
use Rattle.std.specs.List.{concat}
use Rattle.std.proofs.lemmas.List.{append_assoc, append-nil, take-append-drop, length-append, length-drop, length-take-le, take_at, take_more, take_all, set_split, set_at, length-map, map-append, map-set, get_or_at, get_or_append_left, get_or-append-add, get_or-append_right, get_or-map, get_or_past, set-get_or}
use Rattle.std.proofs.lemmas.List.Edits.{insert_end, length-insert, insert-append_left, insert-append_right}
use Rattle.std.proofs.lemmas.List.Elements.{All-append, All-cons, All-set, All-take, All-drop, All-get_or}
use Rattle.std.proofs.lemmas.List.Folds.{concat-append}
use Rattle.record_table.proofs.Inserted.{map-insert}
use Rattle.record_table.specs.declared.pages.TheConstants.{PAGE, HALF}
use Rattle.record_table.specs.declared.pages.Spot.{Spot}
use Rattle.record_table.specs.Pages.{IsPage, page_at, place_of, IsSpot, HasRoom, halved}

-- what contracts see of pages
abbrev pub seen : List (Vec ℕ Global) → List (List ℕ)
seen pages = map (λ page. page.items) pages

-- ---- one page in the list

-- what goes before a page, the page, and what comes after it
pub concat_around : (pages : List (List ℕ)) (n : ℕ) → n < length pages
    → concat pages ≡ concat (take n pages) ++ (page_at pages n ++ concat (drop (suc n) pages))
concat_around pages n h =
    ap concat (sym (take-append-drop n pages))
    ∙ concat-append (take n pages) (drop n pages)
    ∙ ap (λ rest. concat (take n pages) ++ concat rest) (drop-cons pages n [] h)

concat-set : (pages : List (List ℕ)) (n : ℕ) (page : List ℕ) → n < length pages
    → concat (slice_set pages n page) ≡ concat (take n pages) ++ (page ++ concat (drop (suc n) pages))
concat-set pages n page h = ap concat (set_split pages n page h) ∙ concat-append (take n pages) (page ∷ drop (suc n) pages)

-- a slot that is added to a page is added to the list
pub concat-insert : (pages : List (List ℕ)) (spot : Spot) (slot : ℕ) → spot.page < length pages → spot.offset ≤ length (page_at pages spot.page)
    → concat (slice_set pages spot.page (insert (page_at pages spot.page) spot.offset slot)) ≡ insert (concat pages) (place_of pages spot) slot
concat-insert pages spot slot h within =
    let front = concat (take spot.page pages) in
    let page = page_at pages spot.page in
    let rest = concat (drop (suc spot.page) pages) in
    let apart : length front + spot.offset - length front ≡ spot.offset = omega arith in
    let later : insert (front ++ (page ++ rest)) (length front + spot.offset) slot ≡ front ++ insert (page ++ rest) spot.offset slot =
    insert-append_right front (page ++ rest) (length front) (length front + spot.offset) slot refl (omega arith)
    ∙ ap (λ at. front ++ insert (page ++ rest) at slot) apart in
    concat-set pages spot.page (insert page spot.offset slot) h
    ∙ ap (λ l. front ++ l) (sym (insert-append_left page rest spot.offset slot within))
    ∙ sym later
    ∙ ap (λ l. insert l (length front + spot.offset) slot) (sym (concat_around pages spot.page h))

-- the slots of a page in the list
pub concat-at : (pages : List (List ℕ)) (spot : Spot) (d : ℕ) → spot.page < length pages → spot.offset < length (page_at pages spot.page)
    → (place_of pages spot < length (concat pages)) × (slice_index_or (concat pages) (place_of pages spot) d ≡ slice_index_or (page_at pages spot.page) spot.offset d)
concat-at pages spot d h within =
    let front = concat (take spot.page pages) in
    let page = page_at pages spot.page in
    let rest = concat (drop (suc spot.page) pages) in
    let around = concat_around pages spot.page h in
    let long = ap length around ∙ length-append front (page ++ rest) in
    let later = length-append page rest in (
      omega arith,
      ap (λ l. slice_index_or l (place_of pages spot) d) around
          ∙ get_or-append-add front (page ++ rest) spot.offset d
          ∙ get_or_append_left page rest d spot.offset within,
    )

-- the slots before the next page
pub length-front : (pages : List (List ℕ)) (n : ℕ) → n < length pages
    → length (concat (take (n + 1) pages)) ≡ length (concat (take n pages)) + length (page_at pages n)
length-front pages n h =
    ap (λ l. length (concat l)) (take_more pages n [] h)
    ∙ ap length (concat-append (take n pages) (page_at pages n ∷ []) ∙ ap (λ l. concat (take n pages) ++ l) (append-nil (page_at pages n)))
    ∙ length-append (concat (take n pages)) (page_at pages n)

-- ---- a page that is split

pub concat-halved : (pages : List (List ℕ)) (n : ℕ) → n < length pages → concat (halved pages n) ≡ concat pages
concat-halved pages n h =
    let page = page_at pages n in
    let rest = concat (drop (suc n) pages) in
    concat-append (take n pages) (take HALF page ∷ drop HALF page ∷ drop (suc n) pages)
    ∙ ap (λ l. concat (take n pages) ++ l)
    (sym (append_assoc (take HALF page) (drop HALF page) rest) ∙ ap (λ l. l ++ rest) (take-append-drop HALF page))
    ∙ sym (concat_around pages n h)

module _ (pages : List (List ℕ)) (n : ℕ) (h : n < length pages) where
  abbrev lower : List ℕ
  lower = take HALF (page_at pages n)

  abbrev upper : List ℕ
  upper = drop HALF (page_at pages n)

  front_long : length (take n pages) ≡ n
  front_long = length-take-le n pages (omega arith)

  length-halved : length (halved pages n) ≡ length pages + 1
  length-halved =
      let l = length-append (take n pages) (lower ∷ upper ∷ drop (suc n) pages) in let r = length-drop (suc n) pages in let f = front_long in omega arith

  front_halved : take n (halved pages n) ≡ take n pages
  front_halved = take_at (take n pages) (lower ∷ upper ∷ drop (suc n) pages) n front_long

  lower_halved : page_at (halved pages n) n ≡ lower
  lower_halved = get_or_at (take n pages) lower (upper ∷ drop (suc n) pages) [] n front_long

  upper_halved : page_at (halved pages n) (n + 1) ≡ upper
  upper_halved =
      get_or-append_right (take n pages) (lower ∷ upper ∷ drop (suc n) pages) n (n + 1) [] front_long (omega arith)
      ∙ (let one : n + 1 - n ≡ 1 = omega arith in ap (λ k. slice_index_or (lower ∷ upper ∷ drop (suc n) pages) k []) one)

  front_upper : take (n + 1) (halved pages n) ≡ take n pages ++ lower ∷ []
  front_upper =
      ap (take (n + 1)) (sym (append_assoc (take n pages) (lower ∷ []) (upper ∷ drop (suc n) pages)))
      ∙ take_at (take n pages ++ lower ∷ []) (upper ∷ drop (suc n) pages) (n + 1)
      (length-append (take n pages) (lower ∷ []) ∙ (let f = front_long in let t : length (take n pages) + 1 ≡ n + 1 = omega arith in t))

  -- a spot of the lower half stays, and has room
  module _ (offset : ℕ) (full : length (page_at pages n) ≡ PAGE) where
    lower_long : length lower ≡ HALF
    lower_long = length-take-le HALF (page_at pages n) (omega arith)

    upper_long : length upper ≡ PAGE - HALF
    upper_long = length-drop HALF (page_at pages n) ∙ ap (λ k. k - HALF) full

    pub room_below : offset ≤ HALF → HasRoom (halved pages n) (record { page = n; offset = offset })
    room_below low =
        let l = lower_long in
        let is = ap length lower_halved in
        record { page_within = let m = length-halved in omega arith; offset_within = omega arith; room = omega arith }

    pub place_below : place_of (halved pages n) (record { page = n; offset = offset }) ≡ place_of pages (record { page = n; offset = offset })
    place_below = ap (λ front. length (concat front) + offset) front_halved

    -- one of the upper half is as far behind the lower one
    pub room_above : HALF < offset → offset ≤ length (page_at pages n) → HasRoom (halved pages n) (record { page = n + 1; offset = offset - HALF })
    room_above high within =
        let u = upper_long in
        let is = ap length upper_halved in
        record { page_within = let m = length-halved in omega arith; offset_within = omega arith; room = omega arith }

    pub place_above : HALF < offset → place_of (halved pages n) (record { page = n + 1; offset = offset - HALF }) ≡ place_of pages (record { page = n; offset = offset })
    place_above high =
        let moved : length (concat (take (n + 1) (halved pages n))) ≡ length (concat (take n pages)) + HALF =
        ap (λ front. length (concat front)) front_upper
        ∙ ap length (concat-append (take n pages) (lower ∷ []))
        ∙ length-append (concat (take n pages)) (lower ++ [])
        ∙ ap (λ k. length (concat (take n pages)) + k) (ap length (append-nil lower) ∙ lower_long) in
        omega arith

-- ---- vectors of pages

long_as_seen : (pages : List (Vec ℕ Global)) (now : List (List ℕ)) → seen pages ≡ now → length pages ≡ length now
long_as_seen pages now view = sym (length-map pages (λ (p : Vec ℕ Global). p.items)) ∙ ap length view

-- the page that is read at an index
pub read_page : (pages : List (Vec ℕ Global)) (now : List (List ℕ)) (n : ℕ) (page : Vec ℕ Global) → seen pages ≡ now → n < length now
    → page ≡ slice_index_or pages n page → page_at now n ≡ page.items
read_page pages now n page view h is =
    let l = long_as_seen pages now view in
    ap (λ ps. page_at ps n) (sym view) ∙ get_or-map (λ (p : Vec ℕ Global). p.items) pages n page [] (omega arith) ∙ ap (λ p. p.items) (sym is)

pub IsPage-read : (pages : List (Vec ℕ Global)) (now : List (List ℕ)) (n : ℕ) (page : Vec ℕ Global) → All IsPage (seen pages) → seen pages ≡ now → n < length now
    → page ≡ slice_index_or pages n page → IsPage page.items
IsPage-read pages now n page each view h is =
    subst IsPage (read_page pages now n page view h is) (All-get_or IsPage now n [] h (subst (All IsPage) view each))

-- the pages with another one in the place of one
pub seen-set : (pages : List (Vec ℕ Global)) (now : List (List ℕ)) (n : ℕ) (page : Vec ℕ Global) → seen pages ≡ now
    → seen (slice_set pages n page) ≡ slice_set now n page.items
seen-set pages now n page view = map-set (λ (p : Vec ℕ Global). p.items) pages n page ∙ ap (λ ps. slice_set ps n page.items) view

-- a slot that is added to a page with room
module _ (pages : List (Vec ℕ Global)) (now : List (List ℕ)) (spot : Spot) (slot : ℕ) (old new : Vec ℕ Global) (each : All IsPage (seen pages)) (view : seen pages ≡ now)
    (room : HasRoom now spot) (is : old ≡ slice_index_or pages spot.page old) where
  old_is : page_at now spot.page ≡ old.items
  old_is = read_page pages now spot.page old view room.page_within is

  fits : spot.offset ≤ length old.items
  fits = subst (λ p. spot.offset ≤ length p) old_is room.offset_within

  pub added : new.items ≡ insert old.items spot.offset slot → concat (seen (slice_set pages spot.page new)) ≡ insert (concat now) (place_of now spot) slot
  added e =
      ap concat (seen-set pages now spot.page new view ∙ ap (slice_set now spot.page) (e ∙ ap (λ p. insert p spot.offset slot) (sym old_is)))
      ∙ concat-insert now spot slot room.page_within room.offset_within

  pub added_pages : new.items ≡ insert old.items spot.offset slot → All IsPage (seen (slice_set pages spot.page new))
  added_pages e =
      let longer : length new.items ≡ length old.items + 1 = ap length e ∙ length-insert old.items spot.offset slot fits in
      let few : length old.items < PAGE = subst (λ p. length p < PAGE) old_is room.room in
      subst (All IsPage) (sym (seen-set pages (seen pages) spot.page new refl))
      (All-set IsPage (seen pages) spot.page new.items (omega arith, omega arith) each)

  -- or not, where memory is wanting
  pub kept : new.items ≡ old.items → seen (slice_set pages spot.page new) ≡ now
  kept e =
      seen-set pages now spot.page new view ∙ ap (slice_set now spot.page) (e ∙ sym old_is) ∙ set-get_or now spot.page []

-- a page that is split
pub halves : (pages pages' : List (Vec ℕ Global)) (now : List (List ℕ)) (n : ℕ) (upper old lower : Vec ℕ Global) → seen pages ≡ now → n < length now
    → upper.items ≡ drop HALF (page_at now n) → pages' ≡ insert pages (n + 1) upper → old ≡ slice_index_or pages' n old → lower.items ≡ take HALF old.items
    → seen (slice_set pages' n lower) ≡ halved now n
halves pages pages' now n upper old lower view h up more is low =
    let front : take (n + 1) now ≡ take n now ++ page_at now n ∷ [] = take_more now n [] h in
    let more_seen : seen pages' ≡ insert now (n + 1) (drop HALF (page_at now n)) =
    ap seen more ∙ map-insert (λ (p : Vec ℕ Global). p.items) pages (n + 1) upper ∙ (λ i. insert (view i) (n + 1) (up i)) in
    let inserted : seen pages' ≡ take n now ++ page_at now n ∷ drop HALF (page_at now n) ∷ drop (suc n) now =
    more_seen
    ∙ (λ i. front i ++ drop HALF (page_at now n) ∷ drop (add-one n i) now)
    ∙ append_assoc (take n now) (page_at now n ∷ []) (drop HALF (page_at now n) ∷ drop (suc n) now) in
    let front_is : length (take n now) ≡ n = length-take-le n now (omega arith) in
    let many : n < length (take n now ++ page_at now n ∷ drop HALF (page_at now n) ∷ drop (suc n) now) =
    (let l = length-append (take n now) (page_at now n ∷ drop HALF (page_at now n) ∷ drop (suc n) now) in omega arith) in
    let old_is : old.items ≡ page_at now n =
    sym (read_page pages' (take n now ++ page_at now n ∷ drop HALF (page_at now n) ∷ drop (suc n) now) n old inserted many is)
    ∙ get_or_at (take n now) (page_at now n) (drop HALF (page_at now n) ∷ drop (suc n) now) [] n front_is in
    seen-set pages' (take n now ++ page_at now n ∷ drop HALF (page_at now n) ∷ drop (suc n) now) n lower inserted
    ∙ ap (slice_set (take n now ++ page_at now n ∷ drop HALF (page_at now n) ∷ drop (suc n) now) n) (low ∙ ap (take HALF) old_is)
    ∙ set_at (take n now) (page_at now n) (drop HALF (page_at now n) ∷ drop (suc n) now) (take HALF (page_at now n)) n front_is

pub IsPage-halved : (now : List (List ℕ)) (n : ℕ) → n < length now → All IsPage now → length (page_at now n) ≡ PAGE → All IsPage (halved now n)
IsPage-halved now n h each full =
    let low : length (take HALF (page_at now n)) ≡ HALF = length-take-le HALF (page_at now n) (omega arith) in
    let high = length-drop HALF (page_at now n) in
    All-append IsPage (take n now) (take HALF (page_at now n) ∷ drop HALF (page_at now n) ∷ drop (suc n) now) (All-take IsPage n now each)
    (All-cons IsPage (take HALF (page_at now n)) (drop HALF (page_at now n) ∷ drop (suc n) now) (omega arith, omega arith)
    (All-cons IsPage (drop HALF (page_at now n)) (drop (suc n) now) (omega arith, omega arith) (All-drop IsPage (suc n) now each)))

-- a page that is begun at the end
pub begun : (pages pages' : List (Vec ℕ Global)) (now : List (List ℕ)) (spot : Spot) (slot : ℕ) (page : Vec ℕ Global) → seen pages ≡ now → IsSpot now spot
    → spot.page ≡ length now → page.items ≡ slot ∷ [] → pages' ≡ pages ++ page ∷ [] → concat (seen pages') ≡ insert (concat now) (place_of now spot) slot
begun pages pages' now spot slot page view at last is more =
    let none : length (page_at now spot.page) ≡ 0 = ap length (get_or_past now spot.page [] (omega arith)) in
    let whole : place_of now spot ≡ length (concat now) =
    (let front : take spot.page now ≡ now = take_all spot.page now (omega arith) in
    let f = ap (λ l. length (concat l)) front in let o = at.offset_within in omega arith) in
    ap (λ p. concat (seen p)) more
    ∙ ap concat (map-append (λ (p : Vec ℕ Global). p.items) pages (page ∷ []) ∙ (λ i. view i ++ is i ∷ []))
    ∙ concat-append now ((slot ∷ []) ∷ [])
    ∙ sym (insert_end (concat now) slot)
    ∙ ap (λ k. insert (concat now) k slot) (sym whole)

-- a page of no less slots than a page may have
pub full_page : (pages : List (Vec ℕ Global)) (now : List (List ℕ)) (n : ℕ) (page : Vec ℕ Global) (long : ℕ) → All IsPage (seen pages) → seen pages ≡ now → n < length now
    → page ≡ slice_index_or pages n page → long ≡ page.len → PAGE ≤ long → length (page_at now n) ≡ PAGE
full_page pages now n page long each view h is l most =
    let same = ap length (read_page pages now n page view h is) in
    let few = (IsPage-read pages now n page each view h is).1 in
    let v = page.ok.0 in
    omega arith

-- ---- the slot at a place

module _ (pages : List (Vec ℕ Global)) (now : List (List ℕ)) (n left place : ℕ) (view : seen pages ≡ now)
    (come : length (concat (take n (seen pages))) + left ≡ place) where
  come_now : length (concat (take n now)) + left ≡ place
  come_now = subst (λ ps. length (concat (take n ps)) + left ≡ place) view come

  module _ (page : Vec ℕ Global) (h : n < length pages) (is : page ≡ slice_index_or pages n page) where
    below : n < length now
    below = let l = long_as_seen pages now view in omega arith

    page_is : page_at now n ≡ page.items
    page_is = read_page pages now n page view below is

    pub slot_here : (slot : ℕ) → left < length page.items → slot ≡ slice_index_or page.items left slot → Some slot ≡ slice_get (concat now) place
    slot_here slot inside read =
        let here = concat-at now (record { page = n; offset = left }) slot below (subst (λ p. left < length p) (sym page_is) inside) in
        let come = come_now in
        let low : place < length (concat now) = (let l = here.0 in omega arith) in
        sym
        (slice_get-get_or (concat now) place slot low
        ∙ ap Some (ap (λ k. slice_index_or (concat now) k slot) (sym come) ∙ here.1 ∙ ap (λ p. slice_index_or p left slot) page_is ∙ sym read))

    pub slot_later : (left' : ℕ) → length page.items ≤ left → left' ≡ left - length page.items → length (concat (take (n + 1) (seen pages))) + left' ≡ place
    slot_later left' past is' =
        let front = length-front now n below in
        let come = come_now in
        let long = ap length page_is in
        subst (λ ps. length (concat (take (n + 1) ps)) + left' ≡ place) (sym view) (omega arith)

  pub no_slot : length pages ≤ n → None ≡ slice_get (concat now) place
  no_slot past =
      let l = long_as_seen pages now view in
      let whole = ap (λ ps. length (concat ps)) (take_all n now (omega arith)) in
      let come = come_now in
      sym (slice_get_past (concat now) place (omega arith))

-- ---- pages that are copied

pub one_more_page : (pages copied copied' : List (Vec ℕ Global)) (n : ℕ) (page copy : Vec ℕ Global) → seen copied ≡ take n (seen pages) → n < length pages
    → page ≡ slice_index_or pages n page → copy.items ≡ page.items → copied' ≡ copied ++ copy ∷ [] → seen copied' ≡ take (n + 1) (seen pages)
one_more_page pages copied copied' n page copy far h read same more =
    let low : n < length (seen pages) = (let l = long_as_seen pages (seen pages) refl in omega arith) in
    let here = read_page pages (seen pages) n page refl low read in
    ap seen more
    ∙ map-append (λ (p : Vec ℕ Global). p.items) copied (copy ∷ [])
    ∙ (λ i. far i ++ (same ∙ sym here) i ∷ [])
    ∙ sym (take_more (seen pages) n [] low)

-- what holds of each slot of the list holds of each slot of a page
pub in_page : (P : ℕ → Type 0) (pages : List (List ℕ)) (n offset : ℕ) → All P (concat pages) → n < length pages → offset < length (page_at pages n)
    → P (slice_index (page_at pages n) offset)
in_page P pages n offset each h within =
    let here = concat-at pages (record { page = n; offset = offset }) 0 h within in
    subst P here.1 (each (place_of pages (record { page = n; offset = offset })) 0 here.0)
