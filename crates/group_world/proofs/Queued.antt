-- What the queues of the post hold, and that the least of their first numbers is the next one.
use Rattle.std.proofs.Common.{arith, refl, sym, ap, subst, ◌∙◌, ◌≡◌, ◌≢◌, ℕ, suc, ◌+◌, ◌≤◌, ◌<◌, ◌==◌, Bool, true, false, cond, not, ◌&&◌, ◌||◌, List, [], ◌∷◌, ◌++◌, length, drop, get_or, filter, find, slice_get, Bor, MatchOption, HoldsAt, option_copied, option_map, unwrap_or, Option, Some, None, IfSome, append-nil, length-append, inl, inr}
use Rattle.std.specs.List.{AllByRecursion}
use Rattle.std.proofs.lemmas.Bool.{cases_eq, ne_eqb}
use Rattle.std.proofs.lemmas.List.Elements.{filter-append, filter_agree}
use Rattle.std.proofs.lemmas.List.Folds.{list_any-append}
use Rattle.std.proofs.lemmas.Option.{IfSome_then}
use Rattle.group_quorum.specs.Voters.{is_in}
use Rattle.group_model.specs.Group.{but, numbered}
use Rattle.group_world.specs.declared.post.Fate.{Fate}
use Rattle.group_world.specs.declared.post.Letter.{Letter}
use Rattle.group_world.specs.Posted.{fated, is_for, is_waiting, next_in, waiting_in}
use Rattle.group_world.specs.Queues.{IsQueue, due, earlier, first, waits_in}
use Rattle.group_world.proofs.Waiting.{RiseFrom, fate_fated, is_for_fated, length_fated, numbered_new, numbered_sent, waiting-append, waiting_fated, waiting_rise, waiting_sent}

-- ---- the least number that passes either of two tests

found_cond : (b : Bool) (p : ℕ → Bool) (n x : ℕ) (xs : List ℕ) → n ≤ x → IfSome (find p xs) (λ y. x + 1 ≤ y) → IfSome (cond b (Some x) (find p xs)) (λ y. n ≤ y)
found_cond true p n x xs le later = le
found_cond false p n x xs le later = IfSome_then (find p xs) later (λ y h. omega (arith, le, h))

found_from : (p : ℕ → Bool) (n : ℕ) (xs : List ℕ) → RiseFrom n xs → IfSome (find p xs) (λ y. n ≤ y)
found_from p n [] h = tt
found_from p n (x ∷ xs) h = found_cond (p x) p n x xs h.0 (found_from p (x + 1) xs h.1)

earlier_left : (x : ℕ) (o : Option ℕ) → IfSome o (λ y. x + 1 ≤ y) → Some x ≡ earlier (Some x) o
earlier_left x None h = refl
earlier_left x (Some y) h = ap Some (omega (arith, h))

earlier_right : (x : ℕ) (o : Option ℕ) → IfSome o (λ y. x + 1 ≤ y) → Some x ≡ earlier o (Some x)
earlier_right x None h = refl
earlier_right x (Some y) h = ap Some (omega (arith, h))

either_cond : (a b : Bool) (x : ℕ) (o p r : Option ℕ) → IfSome o (λ y. x + 1 ≤ y) → IfSome p (λ y. x + 1 ≤ y) → r ≡ earlier o p
    → cond (a || b) (Some x) r ≡ earlier (cond a (Some x) o) (cond b (Some x) p)
either_cond true true x o p r ho hp is = ap Some (omega arith)
either_cond true false x o p r ho hp is = earlier_left x p hp
either_cond false true x o p r ho hp is = earlier_right x o ho
either_cond false false x o p r ho hp is = is

find_either : (p q : ℕ → Bool) (n : ℕ) (xs : List ℕ) → RiseFrom n xs → find (λ k. p k || q k) xs ≡ earlier (find p xs) (find q xs)
find_either p q n [] h = refl
find_either p q n (x ∷ xs) h =
    either_cond (p x) (q x) x (find p xs) (find q xs) (find (λ k. p k || q k) xs) (found_from p (x + 1) xs h.1) (found_from q (x + 1) xs h.1) (find_either p q (x + 1) xs h.1)

pub find_agree : (p q : ℕ → Bool) → ((k : ℕ) → p k ≡ q k) → (xs : List ℕ) → find p xs ≡ find q xs
find_agree p q same [] = refl
find_agree p q same (x ∷ xs) =
    ap (λ (b : Bool). cond b (Some x) (find p xs)) (same x) ∙ ap (λ (o : Option ℕ). cond (q x) (Some x) o) (find_agree p q same xs)

find_none : (p : ℕ → Bool) → ((k : ℕ) → p k ≡ false) → (xs : List ℕ) → find p xs ≡ None
find_none p none [] = refl
find_none p none (x ∷ xs) = ap (λ (b : Bool). cond b (Some x) (find p xs)) (none x) ∙ find_none p none xs

for_none : (o : Option Letter) → unwrap_or (option_map (λ (l : Letter). is_in [] l.to) o) false ≡ false
for_none None = refl
for_none (Some l) = refl

for_either : (ids : List ℕ) (id : ℕ) (o : Option Letter)
    → unwrap_or (option_map (λ (l : Letter). is_in (ids ++ id ∷ []) l.to) o) false ≡ (unwrap_or (option_map (λ (l : Letter). is_in ids l.to) o) false || unwrap_or (option_map (λ (l : Letter). is_in (id ∷ []) l.to) o) false)
for_either ids id None = refl
for_either ids id (Some l) = list_any-append (λ x. x == l.to) ids (id ∷ [])

pub next_none : (letters : List Letter) → next_in [] letters ≡ None
next_none letters = find_none (is_for [] letters) (λ k. for_none (numbered letters k)) (waiting_in letters)

-- where one more id runs
pub next_more : (ids : List ℕ) (id : ℕ) (letters : List Letter) → next_in (ids ++ id ∷ []) letters ≡ earlier (next_in ids letters) (next_in (id ∷ []) letters)
next_more ids id letters =
    find_agree (is_for (ids ++ id ∷ []) letters) (λ k. is_for ids letters k || is_for (id ∷ []) letters k) (λ k. for_either ids id (numbered letters k)) (waiting_in letters)
    ∙ find_either (is_for ids letters) (is_for (id ∷ []) letters) 1 (waiting_in letters) (waiting_rise 1 letters)

-- ---- the first number of a queue

first_cond : (b : Bool) (x : ℕ) (xs : List ℕ) (o : Option ℕ) → first xs ≡ o → first (cond b (x ∷ xs) xs) ≡ cond b (Some x) o
first_cond true x xs o is = refl
first_cond false x xs o is = is

first_filter : (p : ℕ → Bool) (xs : List ℕ) → first (filter p xs) ≡ find p xs
first_filter p [] = refl
first_filter p (x ∷ xs) = first_cond (p x) x (filter p xs) (find p xs) (first_filter p xs)

pub first_is_next : (letters : List Letter) (id : ℕ) (queue : List ℕ) → IsQueue letters id queue → first queue ≡ next_in (id ∷ []) letters
first_is_next letters id queue is = is.begins ∙ first_filter (is_for (id ∷ []) letters) (waiting_in letters)

-- as it is read
pub front_first : (o : Option (Bor ℕ)) (xs : List ℕ) → MatchOption o (length xs ≤ 0) (λ x. (0 < length xs) × HoldsAt {X = ℕ} (λ y. x.now ≡ y) xs 0) → IfSome o (λ x. x.now ≡ get_or xs 0 x.now) → option_copied o ≡ first xs
front_first None [] h is = refl
front_first None (x ∷ xs) h is = absurd (omega (arith, h))
front_first (Some b) [] h is = absurd (omega (arith, h.0))
front_first (Some b) (x ∷ xs) h is = ap Some is

-- where it is passed over
pub passed_first : (p : ℕ → Bool) (x : ℕ) (xs : List ℕ) → first xs ≡ Some x → p x ≡ false → filter p (drop 1 xs) ≡ filter p xs
passed_first p x [] is idle = refl
passed_first p x (y ∷ ys) is idle =
    let same : y ≡ x = cc is in
    ap (λ (b : Bool). cond b (y ∷ filter p ys) (filter p ys)) (sym (ap p same ∙ idle))

pub passed_sent : (n : ℕ) (xs : List ℕ) → AllByRecursion (λ k. k ≤ n) xs → AllByRecursion (λ k. k ≤ n) (drop 1 xs)
passed_sent n [] h = tt
passed_sent n (x ∷ xs) h = h.1

pub queue_none : (id : ℕ) → IsQueue [] id []
queue_none id = record { holds = refl; begins = refl; sent = tt }

-- ---- a letter waits no more

filter_and_cond : (a b : Bool) (q : ℕ → Bool) (x : ℕ) (xs rest : List ℕ) → q x ≡ b → rest ≡ filter q xs → cond (a && b) (x ∷ rest) rest ≡ filter q (cond a (x ∷ xs) xs)
filter_and_cond true b q x xs rest is later = ap (λ (r : List ℕ). cond b (x ∷ r) r) later ∙ ap (λ (b : Bool). cond b (x ∷ filter q xs) (filter q xs)) (sym is)
filter_and_cond false b q x xs rest is later = later

filter_and : (p q : ℕ → Bool) (xs : List ℕ) → filter (λ k. p k && q k) xs ≡ filter q (filter p xs)
filter_and p q [] = refl
filter_and p q (x ∷ xs) = filter_and_cond (p x) (q x) q x (filter p xs) (filter (λ k. p k && q k) xs) refl (filter_and p q xs)

and_comm : (a b : Bool) → (a && b) ≡ (b && a)
and_comm true true = refl
and_comm true false = refl
and_comm false true = refl
and_comm false false = refl

filter_comm : (p q : ℕ → Bool) (xs : List ℕ) → filter p (filter q xs) ≡ filter q (filter p xs)
filter_comm p q xs = sym (filter_and q p xs) ∙ filter_agree (λ k. q k && p k) (λ k. p k && q k) (λ k. and_comm (q k) (p k)) xs ∙ filter_and p q xs

within_by : (a b : Bool) → (a ≡ true → b ≡ true) → (b && a) ≡ a
within_by true b h = ap (λ (b : Bool). b && true) (h refl)
within_by false true h = refl
within_by false false h = refl

filter_within : (p q : ℕ → Bool) → ((k : ℕ) → p k ≡ true → q k ≡ true) → (xs : List ℕ) → filter p (filter q xs) ≡ filter p xs
filter_within p q within xs = sym (filter_and q p xs) ∙ filter_agree (λ k. q k && p k) p (λ k. within_by (p k) (q k) (within k)) xs

cond_and : (b w : Bool) → cond b false w ≡ (w && not b)
cond_and true true = refl
cond_and true false = refl
cond_and false true = refl
cond_and false false = refl

module _ (f : Fate) (idle : is_waiting f ≡ false) (letters : List Letter) (i : ℕ) (lt : i < length letters) where
  waits_fated : (k : ℕ) → waits_in (fated letters i f) k ≡ (waits_in letters k && not (k == i + 1))
  waits_fated k = fate_fated is_waiting f letters i k lt ∙ ap (λ (b : Bool). cond (k == i + 1) b (waits_in letters k)) idle ∙ cond_and (k == i + 1) (waits_in letters k)

  due_fated : (id : ℕ) → due (fated letters i f) id ≡ but (i + 1) (due letters id)
  due_fated id =
      let e : 1 + i ≡ i + 1 = omega arith in
      filter_agree (is_for (id ∷ []) (fated letters i f)) (is_for (id ∷ []) letters) (λ k. is_for_fated (id ∷ []) f letters i k) (waiting_in (fated letters i f))
      ∙ ap (filter (is_for (id ∷ []) letters)) (waiting_fated f idle 1 i letters ∙ ap (λ (n : ℕ). but n (waiting_in letters)) e)
      ∙ filter_comm (is_for (id ∷ []) letters) (λ n. not (n == i + 1)) (waiting_in letters)

  -- each queue holds what is then due to its addressee
  pub holds_fated : (id : ℕ) (queue : List ℕ) → IsQueue letters id queue → filter (waits_in (fated letters i f)) queue ≡ due (fated letters i f) id
  holds_fated id queue is =
      filter_agree (waits_in (fated letters i f)) (λ k. waits_in letters k && not (k == i + 1)) waits_fated queue
      ∙ filter_and (waits_in letters) (λ k. not (k == i + 1)) queue ∙ ap (but (i + 1)) is.holds ∙ sym (due_fated id)

  sent_fated : (queue : List ℕ) → AllByRecursion (λ k. k ≤ length letters) queue → AllByRecursion (λ k. k ≤ length (fated letters i f)) queue
  sent_fated queue sent = rw (length_fated f letters i) sent

  -- the one of its addressee begins with what waits
  pub queue_passed : (id : ℕ) (queue rest : List ℕ) → IsQueue letters id queue → filter (waits_in (fated letters i f)) rest ≡ filter (waits_in (fated letters i f)) queue
      → first rest ≡ first (filter (waits_in (fated letters i f)) rest) → AllByRecursion (λ k. k ≤ length letters) rest → IsQueue (fated letters i f) id rest
  queue_passed id queue rest is same begins sent =
      let holds = same ∙ holds_fated id queue is in
      record { holds = holds; begins = begins ∙ ap first holds; sent = sent_fated rest sent }

  -- and those of others stay
  pub queue_kept : (l : Letter) → slice_get letters i ≡ Some l → (id : ℕ) (queue : List ℕ) → id ≢ l.to → IsQueue letters id queue → IsQueue (fated letters i f) id queue
  queue_kept l at id queue apart is =
      let other : is_for (id ∷ []) letters (i + 1) ≡ false =
      ap (is_for (id ∷ []) letters) (omega arith ∙ refl {a = suc i}) ∙ ap (λ (o : Option Letter). unwrap_or (option_map (λ l. is_in (id ∷ []) l.to) o) false) at ∙ ap (λ (b : Bool). b || false) (ne_eqb id l.to apart) in
      let same : but (i + 1) (due letters id) ≡ due letters id =
      sym (filter_comm (is_for (id ∷ []) letters) (λ n. not (n == i + 1)) (waiting_in letters))
      ∙ filter_within (is_for (id ∷ []) letters) (λ n. not (n == i + 1))
      (λ k for_it. ap not (ne_eqb k (i + 1) (λ here. cc (sym other ∙ ap (is_for (id ∷ []) letters) (sym here) ∙ for_it)))) (waiting_in letters) in
      record { holds = holds_fated id queue is; begins = is.begins ∙ ap first (sym same ∙ sym (due_fated id)); sent = sent_fated queue is.sent }

  -- so all stay queues
  pub queues_marked : (l : Letter) (both : List Letter) (old new : ℕ → List ℕ) → slice_get letters i ≡ Some l → both ≡ fated letters i f → filter (waits_in both) (new l.to) ≡ filter (waits_in both) (old l.to)
      → first (new l.to) ≡ first (filter (waits_in both) (new l.to)) → ((n : ℕ) → AllByRecursion (λ k. k ≤ n) (old l.to) → AllByRecursion (λ k. k ≤ n) (new l.to)) → ((id : ℕ) → id ≢ l.to → new id ≡ old id)
      → ((id : ℕ) → IsQueue letters id (old id)) → (id : ℕ) → IsQueue both id (new id)
  queues_marked l both old new at is same begins sent others h id = elim (cases_eq id l.to) [
    | inl here ↦ rw (is, here)
        (queue_passed l.to (old l.to) (new l.to) (h l.to) (subst (λ (ls : List Letter). filter (waits_in ls) (new l.to) ≡ filter (waits_in ls) (old l.to)) is same) (subst (λ (ls : List Letter). first (new l.to) ≡ first (filter (waits_in ls) (new l.to))) is begins)
        (sent (length letters) ((h l.to).sent)))
    | inr apart ↦ rw (is, others id apart) (queue_kept l at id (old id) apart (h id))
  ]

-- ---- a letter is sent

agree_on : (p q : ℕ → Bool) (n : ℕ) → ((k : ℕ) → k ≤ n → p k ≡ q k) → (xs : List ℕ) → AllByRecursion (λ k. k ≤ n) xs → filter p xs ≡ filter q xs
agree_on p q n same [] h = refl
agree_on p q n same (x ∷ xs) h =
    ap (λ (b : Bool). cond b (x ∷ filter p xs) (filter p xs)) (same x h.0) ∙ ap (λ (r : List ℕ). cond (q x) (x ∷ r) r) (agree_on p q n same xs h.1)

first-append : (xs ys zs : List ℕ) → first xs ≡ first ys → first (xs ++ zs) ≡ first (ys ++ zs)
first-append [] [] zs is = refl
first-append [] (y ∷ ys) zs is = cc is
first-append (x ∷ xs) [] zs is = cc is
first-append (x ∷ xs) (y ∷ ys) zs is = is

all_below : (n m : ℕ) → n ≤ m → (xs : List ℕ) → AllByRecursion (λ k. k ≤ n) xs → AllByRecursion (λ k. k ≤ m) xs
all_below n m le [] h = tt
all_below n m le (x ∷ xs) h = (omega (arith, le, h.0), all_below n m le xs h.1)

all_push : (m x : ℕ) (xs : List ℕ) → AllByRecursion (λ k. k ≤ m) xs → x ≤ m → AllByRecursion (λ k. k ≤ m) (xs ++ x ∷ [])
all_push m x [] h le = (le, tt)
all_push m x (y ∷ ys) h le = (h.0, all_push m x ys h.1 le)

module _ (letters : List Letter) (l : Letter) (waits : is_waiting l.fate ≡ true) where
  waiting_push : waiting_in (letters ++ l ∷ []) ≡ waiting_in letters ++ (length letters + 1) ∷ []
  waiting_push =
      waiting-append 1 letters (l ∷ [])
      ∙ ap (λ (b : Bool). waiting_in letters ++ cond b ((1 + length letters) ∷ []) []) waits ∙ ap (λ (n : ℕ). waiting_in letters ++ n ∷ []) (omega arith)

  for_new : (id : ℕ) → is_for (id ∷ []) (letters ++ l ∷ []) (length letters + 1) ≡ ((id == l.to) || false)
  for_new id = ap (λ (o : Option Letter). unwrap_or (option_map (λ l. is_in (id ∷ []) l.to) o) false) (numbered_new letters l)

  due_push : (id : ℕ) → due (letters ++ l ∷ []) id ≡ due letters id ++ cond ((id == l.to) || false) ((length letters + 1) ∷ []) []
  due_push id =
      let both = letters ++ l ∷ [] in
      ap (filter (is_for (id ∷ []) both)) waiting_push ∙ filter-append (is_for (id ∷ []) both) (waiting_in letters) ((length letters + 1) ∷ [])
      ∙ ap (λ (r : List ℕ). r ++ filter (is_for (id ∷ []) both) ((length letters + 1) ∷ []))
      (agree_on (is_for (id ∷ []) both) (is_for (id ∷ []) letters) (length letters)
      (λ k le. ap (λ (o : Option Letter). unwrap_or (option_map (λ l. is_in (id ∷ []) l.to) o) false) (numbered_sent letters (l ∷ []) k le)) (waiting_in letters) (waiting_sent letters))
      ∙ ap (λ (b : Bool). due letters id ++ cond b ((length letters + 1) ∷ []) []) (for_new id)

  holds_push : (id : ℕ) (queue : List ℕ) → IsQueue letters id queue → filter (waits_in (letters ++ l ∷ [])) queue ≡ due letters id
  holds_push id queue is =
      agree_on (waits_in (letters ++ l ∷ [])) (waits_in letters) (length letters)
      (λ k le. ap (λ (o : Option Letter). unwrap_or (option_map (λ l. is_waiting l.fate) o) false) (numbered_sent letters (l ∷ []) k le)) queue is.sent
      ∙ is.holds

  waits_new : waits_in (letters ++ l ∷ []) (length letters + 1) ≡ true
  waits_new = ap (λ (o : Option Letter). unwrap_or (option_map (λ l. is_waiting l.fate) o) false) (numbered_new letters l) ∙ waits

  length_push : length (letters ++ l ∷ []) ≡ length letters + 1
  length_push = length-append letters (l ∷ [])

  pushed_by : (id : ℕ) (b : Bool) (queue : List ℕ) → ((id == l.to) || false) ≡ b → IsQueue letters id queue → IsQueue (letters ++ l ∷ []) id (queue ++ cond b ((length letters + 1) ∷ []) [])
  pushed_by id true queue here is =
      let all = due_push id ∙ ap (λ (b : Bool). due letters id ++ cond b ((length letters + 1) ∷ []) []) here in
      record {
        holds = filter-append (waits_in (letters ++ l ∷ [])) queue ((length letters + 1) ∷ [])
            ∙ ap (λ (r : List ℕ). r ++ filter (waits_in (letters ++ l ∷ [])) ((length letters + 1) ∷ [])) (holds_push id queue is)
            ∙ ap (λ (b : Bool). due letters id ++ cond b ((length letters + 1) ∷ []) []) waits_new ∙ sym all;
        begins = first-append queue (due letters id) ((length letters + 1) ∷ []) is.begins ∙ ap first (sym all);
        sent = rw length_push (all_push (length letters + 1) (length letters + 1) queue (all_below (length letters) (length letters + 1) (omega arith) queue is.sent) (omega arith));
      }
  pushed_by id false queue here is =
      let all = due_push id ∙ ap (λ (b : Bool). due letters id ++ cond b ((length letters + 1) ∷ []) []) here ∙ append-nil (due letters id) in
      rw (append-nil queue)
      (record {
        holds = holds_push id queue is ∙ sym all;
        begins = is.begins ∙ ap first (sym all);
        sent = rw length_push (all_below (length letters) (length letters + 1) (omega arith) queue is.sent);
      })

  queue_pushed : (id : ℕ) (queue : List ℕ) → IsQueue letters id queue → IsQueue (letters ++ l ∷ []) id (queue ++ cond ((id == l.to) || false) ((length letters + 1) ∷ []) [])
  queue_pushed id queue is = pushed_by id ((id == l.to) || false) queue refl is

or_false : (b : Bool) → (b || false) ≡ b
or_false true = refl
or_false false = refl

pub queue_sent : (letters both : List Letter) (l : Letter) (n id : ℕ) (queue after : List ℕ) → is_waiting l.fate ≡ true → both ≡ letters ++ l ∷ [] → n ≡ length both
    → after ≡ queue ++ cond (id == l.to) (n ∷ []) [] → IsQueue letters id queue → IsQueue both id after
queue_sent letters both l n id queue after waits is count more h =
    let last : n ≡ length letters + 1 = count ∙ ap length is ∙ length-append letters (l ∷ []) in
    let it : after ≡ queue ++ cond ((id == l.to) || false) ((length letters + 1) ∷ []) [] =
    more ∙ ap (λ (n : ℕ). queue ++ cond (id == l.to) (n ∷ []) []) last ∙ ap (λ (b : Bool). queue ++ cond b ((length letters + 1) ∷ []) []) (sym (or_false (id == l.to))) in
    rw (is, it) (queue_pushed letters l waits id queue h)
