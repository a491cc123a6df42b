-- Bytes that lack one.
use Rattle.std.proofs.Common.{arith, refl, sym, ap, ◌∙◌, ◌≡◌, ◌<◌, ◌≤◌, ℕ, zero, suc, List, [], ◌∷◌, ◌++◌, length, take, get_or, true, false, append-nil, append_assoc, inl, inr, ◌==◌}
use Rattle.std.proofs.lemmas.Bool.{cases_Bool}
use Rattle.record_cutting.specs.Lines.{Record, last_part, line_records, records_after, whole_lines}
use Rattle.record_stream.specs.Plain.{cells}
use Rattle.record_stream.proofs.Cuts.{last_part-append, last_part-feed, records_after-append, records_after-feed}

-- none of the first n bytes is b
abbrev pub Lacks : ℕ → List ℕ → ℕ → Type 0
Lacks b xs n = (k : ℕ) → k < n → (get_or xs k 0 == b) ≡ true → ⊥

pub later : (b x : ℕ) (xs : List ℕ) (n : ℕ) → Lacks b (x ∷ xs) (suc n) → Lacks b xs n
later b x xs n h k lt = h (suc k) (omega arith)

pub first : (b x : ℕ) (xs : List ℕ) (n : ℕ) → Lacks b (x ∷ xs) (suc n) → (x == b) ≡ false
first b x xs n h = elim (cases_Bool (x == b)) [ inl y ↦ absurd (h 0 (omega arith) y) | inr no_b ↦ no_b ]

-- ---- lines

pub last_part-lacks : (p xs : List ℕ) → Lacks 10 xs (length xs) → last_part p xs ≡ p ++ xs
unfolding last_part
last_part-lacks p [] h = sym (append-nil p)
last_part-lacks p (b ∷ xs) h = rw (first 10 b xs (length xs) h) (last_part-lacks (p ++ (b ∷ [])) xs (later 10 b xs (length xs) h) ∙ append_assoc p (b ∷ []) xs)

pub whole_lines-lacks : (p xs : List ℕ) → Lacks 10 xs (length xs) → whole_lines p xs ≡ []
unfolding whole_lines
whole_lines-lacks p [] h = refl
whole_lines-lacks p (b ∷ xs) h = rw (first 10 b xs (length xs) h) (whole_lines-lacks (p ++ (b ∷ [])) xs (later 10 b xs (length xs) h))

-- no line feed: no record, and all of it is kept
pub lacks_records : (p xs : List ℕ) → Lacks 10 xs (length xs) → records_after p xs ≡ []
lacks_records p xs h = rw (whole_lines-lacks p xs h) refl

pub take_lacks : (b : ℕ) (xs : List ℕ) (n : ℕ) → n ≤ length xs → Lacks b xs n → Lacks b (take n xs) (length (take n xs))
take_lacks b [] zero lt h = h
take_lacks b [] (suc n) lt h = absurd (omega arith)
take_lacks b (x ∷ xs) zero lt h = λ k l. absurd (omega arith)
take_lacks b (x ∷ xs) (suc n) lt h = go (take_lacks b xs n (omega arith) (later b x xs n h))
  where
    go : Lacks b (take n xs) (length (take n xs)) → Lacks b (x ∷ take n xs) (suc (length (take n xs)))
    go more zero l e = h zero (omega arith) e
    go more (suc k) l e = more k (omega arith) e

-- bytes up to the first line feed: one line
pub line_ends : (p bytes : List ℕ) → Lacks 10 bytes (length bytes) → (records_after p (bytes ++ (10 ∷ [])) ≡ line_records (p ++ (bytes ++ (10 ∷ [])))) × (last_part p (bytes ++ (10 ∷ [])) ≡ [])
line_ends p bytes h = (
  records_after-append p bytes (10 ∷ [])
      ∙ ap (λ (l : List Record). l ++ records_after (last_part p bytes) (10 ∷ [])) (lacks_records p bytes h)
      ∙ records_after-feed (last_part p bytes)
      ∙ ap (λ (l : List ℕ). line_records (l ++ (10 ∷ []))) (last_part-lacks p bytes h)
      ∙ ap line_records (append_assoc p bytes (10 ∷ [])),
  last_part-append p bytes (10 ∷ []) ∙ last_part-feed (last_part p bytes),
)

-- ---- fields

-- no comma: one field
pub one_cell : (p xs : List ℕ) → Lacks 44 xs (length xs) → cells p xs ≡ (p ++ xs) ∷ []
unfolding cells
one_cell p [] h = ap (λ (l : List ℕ). l ∷ []) (sym (append-nil p))
one_cell p (b ∷ xs) h =
    rw (first 44 b xs (length xs) h) (one_cell (p ++ (b ∷ [])) xs (later 44 b xs (length xs) h) ∙ ap (λ (l : List ℕ). l ∷ []) (append_assoc p (b ∷ []) xs))
