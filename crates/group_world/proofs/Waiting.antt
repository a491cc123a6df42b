-- The letters that wait, where one more is sent or one has another fate.
use Rattle.std.proofs.Common.{arith, add-one, refl, sym, ap, subst, ◌∙◌, ◌≡◌, ◌≢◌, ℕ, zero, suc, ◌+◌, ◌≤◌, ◌<◌, ◌==◌, Bool, true, false, cond, not, List, [], ◌∷◌, ◌++◌, length, get_or, slice_get, slice_set, option_map, unwrap_or, Option, Some, inl, inr}
use Rattle.std.specs.List.{AllByRecursion}
use Rattle.std.proofs.lemmas.Bool.{cases_eq, eq-eqb, ne_eqb}
use Rattle.group_quorum.specs.Voters.{is_in}
use Rattle.group_model.specs.Group.{but, numbered}
use Rattle.group_world.specs.declared.post.Fate.{Fate}
use Rattle.group_world.specs.declared.post.Letter.{Letter}
use Rattle.group_world.specs.Posted.{fated, is_for, is_waiting, waiting_from, waiting_in}

-- numbers that rise, from n on
abbrev pub RiseFrom : ℕ → List ℕ → Type 0
RiseFrom n [] = Unit {0}
RiseFrom n (x ∷ xs) = (n ≤ x) × RiseFrom (x + 1) xs

rise_below : (n m : ℕ) (xs : List ℕ) → m ≤ n → RiseFrom n xs → RiseFrom m xs
rise_below n m [] le h = tt
rise_below n m (x ∷ xs) le h = (omega (arith, le, h.0), h.1)

rise_cond : (b : Bool) (n : ℕ) (xs : List ℕ) → RiseFrom (n + 1) xs → RiseFrom n (cond b (n ∷ xs) xs)
rise_cond true n xs h = (omega arith, h)
rise_cond false n xs h = rise_below (n + 1) n xs (omega arith) h

pub waiting_rise : (n : ℕ) (letters : List Letter) → RiseFrom n (waiting_from n letters)
waiting_rise n [] = tt
waiting_rise n (l ∷ ls) = rise_cond (is_waiting l.fate) n (waiting_from (n + 1) ls) (waiting_rise (n + 1) ls)

-- what does not stand among numbers is not taken out of them
pub but_below : (m n : ℕ) (xs : List ℕ) → m < n → RiseFrom n xs → but m xs ≡ xs
but_below m n [] lt h = refl
but_below m n (x ∷ xs) lt h =
    let apart : (x == m) ≡ false = ne_eqb x m (λ same. omega (arith, same, lt, h.0)) in
    ap (λ (b : Bool). cond (not b) (x ∷ but m xs) (but m xs)) apart ∙ ap (λ (r : List ℕ). x ∷ r) (but_below m (x + 1) xs (omega (arith, lt, h.0)) h.1)

-- ---- a letter has another fate

but_first : (w b : Bool) (n m : ℕ) (xs : List ℕ) → (n == m) ≡ b → cond w (cond (not b) (n ∷ but m xs) (but m xs)) (but m xs) ≡ but m (cond w (n ∷ xs) xs)
but_first true b n m xs is = ap (λ (b : Bool). cond (not b) (n ∷ but m xs) (but m xs)) (sym is)
but_first false b n m xs is = refl

cond_same : {A : Type 0} (w : Bool) (x : A) → cond w x x ≡ x
cond_same true x = refl
cond_same false x = refl

module _ (f : Fate) (idle : is_waiting f ≡ false) where
  pub waiting_fated : (n i : ℕ) (letters : List Letter) → waiting_from n (fated letters i f) ≡ but (n + i) (waiting_from n letters)
  waiting_fated n i [] = refl
  waiting_fated n zero (l ∷ ls) =
      let rest = waiting_from (n + 1) ls in
      ap (λ (b : Bool). cond b (n ∷ rest) rest) idle
      ∙ sym (but_below (n + 0) (n + 1) rest (omega arith) (waiting_rise (n + 1) ls))
      ∙ sym (cond_same (is_waiting l.fate) (but (n + 0) rest))
      ∙ but_first (is_waiting l.fate) true n (n + 0) rest (eq-eqb n (n + 0) (omega arith))
  waiting_fated n (suc i) (l ∷ ls) =
      let rest = waiting_from (n + 1) ls in
      let e : n + 1 + i ≡ n + suc i = omega arith in
      let later : waiting_from (n + 1) (fated ls i f) ≡ but (n + suc i) rest = waiting_fated (n + 1) i ls ∙ ap (λ (m : ℕ). but m rest) e in
      ap (λ (r : List ℕ). cond (is_waiting l.fate) (n ∷ r) r) later
      ∙ but_first (is_waiting l.fate) false n (n + suc i) rest (ne_eqb n (n + suc i) (λ same. omega (arith, same)))

pub fated_to : (h : ℕ → Bool) (f : Fate) (letters : List Letter) (i j : ℕ) → option_map (λ l. h l.to) (slice_get (fated letters i f) j) ≡ option_map (λ l. h l.to) (slice_get letters j)
fated_to h f [] i j = refl
fated_to h f (l ∷ ls) zero zero = refl
fated_to h f (l ∷ ls) zero (suc j) = refl
fated_to h f (l ∷ ls) (suc i) zero = refl
fated_to h f (l ∷ ls) (suc i) (suc j) = fated_to h f ls i j

pub fated_here : (h : Fate → Bool) (f : Fate) (letters : List Letter) (i : ℕ) → i < length letters → option_map (λ l. h l.fate) (slice_get (fated letters i f) i) ≡ Some (h f)
fated_here h f [] i lt = absurd (omega (arith, lt))
fated_here h f (l ∷ ls) zero lt = refl
fated_here h f (l ∷ ls) (suc i) lt = fated_here h f ls i (omega (arith, lt))

pub fated_apart : (f : Fate) (letters : List Letter) (i j : ℕ) → j ≢ i → slice_get (fated letters i f) j ≡ slice_get letters j
fated_apart f [] i j apart = refl
fated_apart f (l ∷ ls) zero zero apart = absurd (apart refl)
fated_apart f (l ∷ ls) zero (suc j) apart = refl
fated_apart f (l ∷ ls) (suc i) zero apart = refl
fated_apart f (l ∷ ls) (suc i) (suc j) apart = fated_apart f ls i j (λ same. apart (ap suc same))

abbrev refate : Fate → Letter → Letter
refate f l = record l { fate = f }

-- as it is written
pub fated_set : (f : Fate) (letters : List Letter) (i : ℕ) (l : Letter) → i < length letters → l ≡ get_or letters i l
    → slice_set letters i (record { from = l.from; to = l.to; frame = l.frame; fate = f }) ≡ fated letters i f
fated_set f [] i l lt is = absurd (omega (arith, lt))
fated_set f (k ∷ ls) zero l lt is = ap (λ (l : Letter). refate f l ∷ ls) is
fated_set f (k ∷ ls) (suc i) l lt is = ap (λ (r : List Letter). k ∷ r) (fated_set f ls i l (omega (arith, lt)) is)

pub length_fated : (f : Fate) (letters : List Letter) (i : ℕ) → length (fated letters i f) ≡ length letters
length_fated f [] i = refl
length_fated f (l ∷ ls) zero = refl
length_fated f (l ∷ ls) (suc i) = ap suc (length_fated f ls i)

pub is_for_fated : (ids : List ℕ) (f : Fate) (letters : List Letter) (i k : ℕ) → is_for ids (fated letters i f) k ≡ is_for ids letters k
is_for_fated ids f letters i zero = refl
is_for_fated ids f letters i (suc k) = ap (λ (o : Option Bool). unwrap_or o false) (fated_to (is_in ids) f letters i k)

-- of a letter at another place nothing changes, and of the one at this place all hangs on its fate
pub fate_fated : (h : Fate → Bool) (f : Fate) (letters : List Letter) (i k : ℕ) → i < length letters
    → unwrap_or (option_map (λ l. h l.fate) (numbered (fated letters i f) k)) false ≡ cond (k == i + 1) (h f) (unwrap_or (option_map (λ l. h l.fate) (numbered letters k)) false)
fate_fated h f letters i zero lt = ap (λ (b : Bool). cond b (h f) false) (sym (ne_eqb 0 (i + 1) (λ same. omega (arith, same))))
fate_fated h f letters i (suc k) lt = elim (cases_eq k i) [
  | inl same ↦ subst (λ (j : ℕ). unwrap_or (option_map (λ l. h l.fate) (slice_get (fated letters i f) j)) false ≡ h f) (sym same) (ap (λ (o : Option Bool). unwrap_or o false) (fated_here h f letters i lt))
      ∙ ap (λ (b : Bool). cond b (h f) (unwrap_or (option_map (λ l. h l.fate) (slice_get letters k)) false)) (sym (eq-eqb (suc k) (i + 1) (omega (arith, same))))
  | inr apart ↦ ap (λ (o : Option Letter). unwrap_or (option_map (λ l. h l.fate) o) false) (fated_apart f letters i k apart)
      ∙ ap (λ (b : Bool). cond b (h f) (unwrap_or (option_map (λ l. h l.fate) (slice_get letters k)) false)) (sym (ne_eqb (suc k) (i + 1) (λ same. apart (omega (arith, same)))))
]

-- ---- letters are sent

cond_append : (w : Bool) (n : ℕ) (xs ys : List ℕ) → cond w (n ∷ (xs ++ ys)) (xs ++ ys) ≡ cond w (n ∷ xs) xs ++ ys
cond_append true n xs ys = refl
cond_append false n xs ys = refl

pub waiting-append : (n : ℕ) (ls ms : List Letter) → waiting_from n (ls ++ ms) ≡ waiting_from n ls ++ waiting_from (n + length ls) ms
waiting-append n [] ms = ap (λ (k : ℕ). waiting_from k ms) (omega arith)
waiting-append n (l ∷ ls) ms =
    let e : n + 1 + length ls ≡ n + suc (length ls) = omega arith in
    let later : waiting_from (n + 1) (ls ++ ms) ≡ waiting_from (n + 1) ls ++ waiting_from (n + suc (length ls)) ms = waiting-append (n + 1) ls ms ∙ ap (λ (k : ℕ). waiting_from (n + 1) ls ++ waiting_from k ms) e in
    ap (λ (r : List ℕ). cond (is_waiting l.fate) (n ∷ r) r) later ∙ cond_append (is_waiting l.fate) n (waiting_from (n + 1) ls) (waiting_from (n + suc (length ls)) ms)

all_cond : (b : Bool) (n m : ℕ) (xs : List ℕ) → n ≤ m → AllByRecursion (λ k. k ≤ m) xs → AllByRecursion (λ k. k ≤ m) (cond b (n ∷ xs) xs)
all_cond true n m xs le h = (le, h)
all_cond false n m xs le h = h

waiting_sent_by : (n m : ℕ) (letters : List Letter) → n + length letters ≤ m + 1 → AllByRecursion (λ k. k ≤ m) (waiting_from n letters)
waiting_sent_by n m [] le = tt
waiting_sent_by n m (l ∷ ls) le = all_cond (is_waiting l.fate) n m (waiting_from (n + 1) ls) (omega (arith, le)) (waiting_sent_by (n + 1) m ls (omega (arith, le)))

-- only what was sent waits
pub waiting_sent : (letters : List Letter) → AllByRecursion (λ k. k ≤ length letters) (waiting_in letters)
waiting_sent letters = waiting_sent_by 1 (length letters) letters (omega arith)

get_sent : {A : Type 0} (xs ys : List A) (i : ℕ) → i < length xs → slice_get (xs ++ ys) i ≡ slice_get xs i
get_sent [] ys i lt = absurd (omega (arith, lt))
get_sent (x ∷ xs) ys zero lt = refl
get_sent (x ∷ xs) ys (suc i) lt = get_sent xs ys i (omega (arith, lt))

pub get_new : {A : Type 0} (xs : List A) (y : A) → slice_get (xs ++ y ∷ []) (length xs) ≡ Some y
get_new [] y = refl
get_new (x ∷ xs) y = get_new xs y

-- what was sent keeps its number
pub numbered_sent : {A : Type 0} (xs ys : List A) (k : ℕ) → k ≤ length xs → numbered (xs ++ ys) k ≡ numbered xs k
numbered_sent xs ys zero le = refl
numbered_sent xs ys (suc k) le = get_sent xs ys k (omega (arith, le))

pub numbered_new : {A : Type 0} (xs : List A) (y : A) → numbered (xs ++ y ∷ []) (length xs + 1) ≡ Some y
numbered_new xs y = ap (numbered (xs ++ y ∷ [])) (add-one (length xs)) ∙ get_new xs y
