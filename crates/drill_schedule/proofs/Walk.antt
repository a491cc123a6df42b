-- One part more.
use Rattle.std.proofs.Common.{arith, refl, sym, ap, ◌∙◌, ◌≡◌, ◌+◌, ◌-◌, ◌*◌, ◌<◌, ◌≤◌, ℕ, zero, suc, Bool, true, false, List, [], ◌++◌, append_assoc, Result, Ok, Err, OnOk}
use Rattle.std.specs.Prelude.{if◌then◌else◌, nat_le}
use Rattle.std.proofs.lemmas.Bool.{leb-false, lt-leb}
use Rattle.rand_chacha.specs.ChaCha.{ChaCha, next_word, word_at}
use Rattle.values.specs.declared.event.Event.{Event}
use Rattle.schedule_model.specs.Drill.{all_store, all_wish, stores, wishes, word}
use Rattle.drill_schedule.specs.Parts.{from_client, from_part, words_from}

-- a part was pushed
pub part_pushed : {T E : Type 0} (r : Result T E) (old new part now next : List Event) → OnOk r (new ≡ old ++ part) → now ≡ part ++ next
    → OnOk r ((x : List Event) × (new ≡ old ++ x) × (now ≡ x ++ next))
part_pushed (Err e) old new part now next pushed split = tt
part_pushed (Ok u) old new part now next pushed split = (part, pushed, split)

module _ (seed clients : ℕ) where
  -- what all clients want once they have stored
  abbrev later : List Event
  later = all_wish seed clients 1 (2 * clients + 1)

  of_client : (place : ℕ) → 1 ≤ place → from_part seed clients place ≡ from_client seed clients place
  of_client zero least = absurd (omega (arith, least))
  of_client (suc i) least = refl

  abbrev either : ℕ → Bool → List Event
  either place b =
      if b
      then all_store (clients + 1 - place) place (2 * place - 1) ++ later
      else all_wish seed (2 * clients + 1 - place) (place - clients) (clients + place)

  -- some clients have still to store, or none
  storing : (place : ℕ) → place ≤ clients + 1 → from_client seed clients place ≡ all_store (clients + 1 - place) place (2 * place - 1) ++ later
  storing place within = by_test (nat_le place clients) refl
    where
      by_test : (b : Bool) → nat_le place clients ≡ b → either place b ≡ all_store (clients + 1 - place) place (2 * place - 1) ++ later
      by_test true is = refl
      by_test false is =
          let last : place ≡ clients + 1 = omega (arith, within, leb-false place clients is) in
          let some : 2 * clients + 1 - place ≡ clients = omega (arith, last) in
          let first : place - clients ≡ 1 = omega (arith, last) in
          let answer : clients + place ≡ 2 * clients + 1 = omega (arith, last) in
          let none : clients + 1 - place ≡ 0 = omega (arith, last) in
          rw (some, first, answer, none) refl

  wishing : (place : ℕ) → clients < place → from_client seed clients place ≡ all_wish seed (2 * clients + 1 - place) (place - clients) (clients + place)
  wishing place past = ap (either place) (lt-leb place clients past)

  pub begin_part : from_client seed clients 1 ≡ all_store clients 1 1 ++ later
  begin_part =
      let all : clients + 1 - 1 ≡ clients = omega arith in
      storing 1 (omega arith) ∙ ap (λ n. all_store n 1 1 ++ later) all

  module _ (place : ℕ) (least : 1 ≤ place) where
    next_client : from_part seed clients (place + 1) ≡ from_client seed clients (place + 1)
    next_client = of_client (place + 1) (omega arith)

    -- a client stores
    pub store_part : place ≤ clients → from_part seed clients place ≡ stores place (2 * place - 1) ++ from_part seed clients (place + 1)
    store_part within =
        let k = clients - place in
        let this = stores place (2 * place - 1) in
        let count : clients + 1 - place ≡ suc k = omega (arith, within) in
        let left : clients + 1 - (place + 1) ≡ k = omega (arith, within) in
        let answer : 2 * (place + 1) - 1 ≡ 2 * place - 1 + 2 = omega (arith, least) in
        let more = all_store k (place + 1) (2 * place - 1 + 2) in
        let rest : from_part seed clients (place + 1) ≡ more ++ later =
        next_client ∙ storing (place + 1) (omega (arith, within)) ∙ (λ i. all_store (left i) (place + 1) (answer i) ++ later) in
        of_client place least
        ∙ storing place (omega (arith, within))
        ∙ ap (λ n. all_store n place (2 * place - 1) ++ later) count
        ∙ append_assoc this more later
        ∙ ap (λ (l : List Event). this ++ l) (sym rest)

    -- a client wants something by a word
    pub wish_part : clients < place → place < 2 * clients + 1 → (w : ℕ) → w ≡ word seed (place - (clients + 1))
        → from_part seed clients place ≡ wishes (place - clients) (clients + place) w ++ from_part seed clients (place + 1)
    wish_part past within w says =
        let k = 2 * clients - place in
        let i = place - clients in
        let a = clients + place in
        let count : 2 * clients + 1 - place ≡ suc k = omega (arith, within) in
        let left : 2 * clients + 1 - (place + 1) ≡ k = omega (arith, within) in
        let client : place + 1 - clients ≡ i + 1 = omega (arith, past) in
        let answer : clients + (place + 1) ≡ a + 1 = omega arith in
        let at : place - (clients + 1) ≡ i - 1 = omega (arith, past) in
        let rest : from_part seed clients (place + 1) ≡ all_wish seed k (i + 1) (a + 1) =
        next_client ∙ wishing (place + 1) (omega (arith, past)) ∙ (λ j. all_wish seed (left j) (client j) (answer j)) in
        of_client place least
        ∙ wishing place past
        ∙ ap (λ n. all_wish seed n i a) count
        ∙ ap (λ v. wishes i a v ++ all_wish seed k (i + 1) (a + 1)) (sym (says ∙ ap (word seed) at))
        ∙ ap (λ (l : List Event). wishes i a w ++ l) (sym rest)

  -- after the last part
  pub none_ahead : from_part seed clients (2 * clients + 1) ≡ []
  none_ahead =
      let none : 2 * clients + 1 - (2 * clients + 1) ≡ 0 = omega arith in
      of_client (2 * clients + 1) (omega arith) ∙ wishing (2 * clients + 1) (omega arith)
      ∙ ap (λ n. all_wish seed n (2 * clients + 1 - clients) (clients + (2 * clients + 1))) none

-- the next word of a seed
pub this_word : (seed taken : ℕ) (g : ChaCha) → g ≡ words_from seed taken → (w : ℕ) (after : ChaCha) → (w, after) ≡ next_word 4 g → w ≡ word seed taken
this_word seed taken g here w after step = ap (λ (p : ℕ × ChaCha). p.0) step ∙ ap (λ (h : ChaCha). word_at 4 h.key h.stream h.word_pos) here
