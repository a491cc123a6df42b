-- What committed entries make of the table and the tickets is what the model's do.
use Rattle.std.proofs.Common.{◌≡◌, ℕ, suc, ◌+◌, ◌<◌, ◌≤◌, Bool, true, false, not, ◌==◌, nat_le, inl, inr, Option, Some, None, List, [], ◌∷◌, ◌++◌, length, map, filter, filter_map, refl, sym, ap, subst, ◌∙◌, arith, append_assoc, append-nil, length-append}
use Rattle.std.proofs.lemmas.Bool.{cases_eq, cond-true, cond-false, eq-eqb, ne_eqb, le-leb, lt-leb}
use Rattle.std.specs.Prelude.{option_map, slice_get}
use Rattle.std.specs.List.{cons_option}
use Rattle.std.specs.Option.{option_and_then}
use Rattle.std.proofs.Math.Seq.{take-append_seam}
use Rattle.std.proofs.lemmas.List.{length-map, map-append}
use Rattle.std.proofs.lemmas.List.Sums.{fold_push}
use Rattle.values.specs.declared.entry.LogEntry.{LogEntry}
use Rattle.values.specs.declared.ids.ClientId.{ClientId}
use Rattle.values.specs.declared.message.Answer.{Answer}
use Rattle.values.specs.declared.message.Answer.TheVariants.{Outcome}
use Rattle.values.specs.declared.message.Reply.{Reply}
use Rattle.record_rules.specs.Table.{RecordTable, empty_table}
use Rattle.record_rules.specs.Rules.{apply}
use Rattle.record_rules.specs.Places.{ClientAsk, Places, fold_places, apply_place, reply_at}
use Rattle.replica_model.specs.Path.{Path}
use Rattle.replica_model.specs.Folds.{place_of, places_of, fold_of, reply_of}
use Rattle.replica_model.specs.Replica as model
use Rattle.replica_model.specs.Raise.{numbered_from, outcome_of}
use Rattle.replica_core.specs.declared.tickets.Ticket.{Ticket}
use Rattle.replica_core.specs.Standing.{kept_ticket}
use Rattle.replica_core.specs.Keeping.{AreTickets}
use Rattle.replica_core.specs.Applying.{Applied, reply_in, rest_of, outcome_at, answers_at, applied_one, applied_all}

abbrev pub answer_list : Type 0
answer_list = List (ClientId × ℕ × Answer)

-- one entry more is applied to the table
fold-more : (limit : ℕ) (p : Path) (e : LogEntry) → fold_of limit (p ++ e ∷ []) ≡ apply_place (fold_of limit p) (place_of e.body)
fold-more limit p e =
    ap (fold_places limit) (map-append (λ (x : LogEntry). place_of x.body) p (e ∷ []))
    ∙ fold_push apply_place (empty_table limit) (places_of p) (place_of e.body)

get-seam : {A : Type 0} (xs : List A) (x : A) (ys : List A) → slice_get (xs ++ x ∷ ys) (length xs) ≡ Some x
get-seam [] x ys = refl
get-seam (z ∷ xs) x ys = get-seam xs x ys

-- the reply that the place after a path gives
reply-next : (limit : ℕ) (p q : Path) (e : LogEntry) → reply_of limit (p ++ (e ∷ q)) (suc (length p)) ≡ reply_in (fold_of limit p) e.body
reply-next limit p q e =
    let f : LogEntry → Option ClientAsk = λ x. place_of x.body in
    let xs : Places = map f p in
    let ys : Places = map f q in
    let replies : Places → Option (Option ClientAsk) → Option Reply = λ before at.
    option_map (λ (ask : ClientAsk). (apply (fold_places limit before) ask.client ask.number ask.request).1) (option_and_then (λ place. place) at) in
    ap (λ places. reply_at limit places (suc (length p))) (map-append f p (e ∷ q))
    ∙ (ap (λ n. reply_at limit (xs ++ (f e ∷ ys)) (suc n)) (sym (length-map p f))
    ∙ (ap (λ before. replies before (slice_get (xs ++ (f e ∷ ys)) (length xs))) (take-append_seam xs (f e ∷ ys))
    ∙ ap (replies xs) (get-seam xs (f e) ys)))

abbrev pub made : RecordTable → List Ticket → List (ℕ × LogEntry) → answer_list → Applied
made table tickets commits answers = record { table = table; tickets = tickets; commits = commits; answers = answers }

-- the tickets above an index, and those up to it
abbrev pub later : ℕ → model.Ticket → Bool
later i t = not (nat_le t.index i)

abbrev pub upto : ℕ → model.Ticket → Bool
upto i t = nat_le t.index i

-- tickets above an index are all later
pub none-due : (i c : ℕ) (ts : List model.Ticket) → i ≤ c → AreTickets c (map kept_ticket ts)
    → (filter (later i) ts ≡ ts) × (filter (upto i) ts ≡ [])
none-due i c [] le h = (refl, refl)
none-due i c (t ∷ ts) le h =
    let above : c < t.index = h.0 in
    let not_so : nat_le t.index i ≡ false = lt-leb t.index i (omega (arith, above, le)) in
    let rest = none-due i t.index ts (omega (arith, above, le)) h.1 in (
      cond-true (later i t) (t ∷ filter (later i) ts) (filter (later i) ts) (ap not not_so) ∙ ap (λ us. t ∷ us) rest.0,
      cond-false (upto i t) (t ∷ filter (upto i) ts) (filter (upto i) ts) not_so ∙ rest.1,
    )

cons-outcome : (t : model.Ticket) (reply : Option Reply) (rest : answer_list)
    → cons_option (option_map (λ r. (t.client, t.number, Outcome t.index r)) reply) rest ≡ outcome_at (kept_ticket t) reply ++ rest
cons-outcome t None rest = refl
cons-outcome t (Some reply) rest = refl

longer : (p : Path) (e : LogEntry) (c : ℕ) → c ≡ length p → c + 1 ≡ length (p ++ e ∷ [])
longer p e c at = let l = length-append p (e ∷ []) in omega (arith, at, l)

module _ (s : model.Replica) where
  -- the entries es that follow the path p of length c are applied
  pub record Settled (p es : Path) (c : ℕ) (ts : List model.Ticket) (commits : List (ℕ × LogEntry)) (answers : answer_list) (a : Applied) : Type 0 where
    pub table : a.table ≡ fold_of s.limit (p ++ es)
    pub tickets : a.tickets ≡ map kept_ticket (filter (later (c + length es)) ts)
    pub commits_are : a.commits ≡ commits ++ numbered_from (c + 1) es
    pub answers_are : a.answers ≡ answers ++ filter_map (outcome_of s) (filter (upto (c + length es)) ts)

  -- one entry, and then the others: so far these tickets are left, and these answers given
  stepped : (e : LogEntry) (es p : Path) (c : ℕ) (ts us : List model.Ticket) (commits : List (ℕ × LogEntry)) (answers given : answer_list)
      → Settled (p ++ e ∷ []) es (c + 1) us (commits ++ (c + 1, e) ∷ []) (answers ++ given)
      (applied_all (made (fold_of s.limit (p ++ e ∷ [])) (map kept_ticket us) (commits ++ (c + 1, e) ∷ []) (answers ++ given)) (numbered_from (c + 1 + 1) es))
      → rest_of (map kept_ticket ts) (c + 1) ≡ map kept_ticket us
      → answers_at (map kept_ticket ts) (c + 1) (reply_in (fold_of s.limit p) e.body) ≡ given
      → filter (later (c + suc (length es))) ts ≡ filter (later (c + suc (length es))) us
      → filter_map (outcome_of s) (filter (upto (c + suc (length es))) ts) ≡ given ++ filter_map (outcome_of s) (filter (upto (c + suc (length es))) us)
      → Settled p (e ∷ es) c ts commits answers (applied_all (made (fold_of s.limit p) (map kept_ticket ts) commits answers) (numbered_from (c + 1) (e ∷ es)))
  stepped e es p c ts us commits answers given ih rest gives same-left same-given =
      let table : RecordTable = fold_of s.limit p in
      let entry : ℕ × LogEntry = (c + 1, e) in
      let first : Applied = applied_one (made table (map kept_ticket ts) commits answers) entry in
      let after : Applied = made (fold_of s.limit (p ++ e ∷ [])) (map kept_ticket us) (commits ++ entry ∷ []) (answers ++ given) in
      let first-is : first ≡ after =
      ap (λ t. made t (rest_of (map kept_ticket ts) (c + 1)) (commits ++ entry ∷ []) (answers ++ answers_at (map kept_ticket ts) (c + 1) (reply_in table e.body))) (sym (fold-more s.limit p e))
      ∙ (ap (λ ks. made (fold_of s.limit (p ++ e ∷ [])) ks (commits ++ entry ∷ []) (answers ++ answers_at (map kept_ticket ts) (c + 1) (reply_in table e.body))) rest
      ∙ ap (λ xs. made (fold_of s.limit (p ++ e ∷ [])) (map kept_ticket us) (commits ++ entry ∷ []) (answers ++ xs)) gives) in
      let n : (c + 1) + length es ≡ c + suc (length es) = omega arith in
      let goes : applied_all after (numbered_from (c + 1 + 1) es) ≡ applied_all first (numbered_from (c + 1 + 1) es) =
      ap (λ a. applied_all a (numbered_from (c + 1 + 1) es)) (sym first-is) in
      subst (Settled p (e ∷ es) c ts commits answers) goes (record {
        table = ih.table ∙ ap (fold_of s.limit) (append_assoc p (e ∷ []) es);
        tickets = ih.tickets ∙ ap (map kept_ticket) (ap (λ i. filter (later i) us) n ∙ sym same-left);
        commits_are = ih.commits_are ∙ append_assoc commits (entry ∷ []) (numbered_from (c + 1 + 1) es);
        answers_are = ih.answers_are ∙ (append_assoc answers given (filter_map (outcome_of s) (filter (upto ((c + 1) + length es)) us))
            ∙ ap (λ xs. answers ++ xs) (ap (λ i. given ++ filter_map (outcome_of s) (filter (upto i) us)) n ∙ sym same-given));
      })

  pub settled : (es p q : Path) (c : ℕ) (ts : List model.Ticket) (commits : List (ℕ × LogEntry)) (answers : answer_list)
      → c ≡ length p → s.path ≡ p ++ (es ++ q) → AreTickets c (map kept_ticket ts)
      → Settled p es c ts commits answers (applied_all (made (fold_of s.limit p) (map kept_ticket ts) commits answers) (numbered_from (c + 1) es))
  settled [] p q c ts commits answers at is h =
      let none = none-due (c + 0) c ts (omega arith) h in
      record {
        table = ap (fold_of s.limit) (sym (append-nil p));
        tickets = ap (map kept_ticket) (sym none.0);
        commits_are = sym (append-nil commits);
        answers_are = sym (ap (λ us. answers ++ filter_map (outcome_of s) us) none.1 ∙ append-nil answers);
      }
  settled (e ∷ es) p q c [] commits answers at is h = stepped e es p c [] [] commits answers []
      (settled es (p ++ e ∷ []) q (c + 1) [] (commits ++ (c + 1, e) ∷ []) (answers ++ []) (longer p e c at) (is ∙ sym (append_assoc p (e ∷ []) (es ++ q))) tt)
      refl refl refl refl
  settled (e ∷ es) p q c (t ∷ ts) commits answers at is h =
      let i : ℕ = c + suc (length es) in
      let table : RecordTable = fold_of s.limit p in
      let above : c < t.index = h.0 in
      elim (cases_eq t.index (c + 1)) [
        | inl here ↦
            let due : nat_le t.index i ≡ true = le-leb t.index i (omega (arith, here)) in
            let test : (t.index == c + 1) ≡ true = eq-eqb t.index (c + 1) here in
            let reply : reply_of s.limit s.path t.index ≡ reply_in table e.body =
            ap (reply_of s.limit s.path) (let k : t.index ≡ suc (length p) = omega (arith, here, at) in k)
            ∙ (ap (λ path. reply_of s.limit path (suc (length p))) is ∙ reply-next s.limit p (es ++ q) e) in
            let given : answer_list = outcome_at (kept_ticket t) (reply_in table e.body) in
            stepped e es p c (t ∷ ts) ts commits answers given
            (settled es (p ++ e ∷ []) q (c + 1) ts (commits ++ (c + 1, e) ∷ []) (answers ++ given) (longer p e c at)
            (is ∙ sym (append_assoc p (e ∷ []) (es ++ q))) (subst (λ k. AreTickets k (map kept_ticket ts)) here h.1))
            (cond-true (t.index == c + 1) (map kept_ticket ts) (kept_ticket t ∷ map kept_ticket ts) test)
            (cond-true (t.index == c + 1) (outcome_at (kept_ticket t) (reply_in table e.body)) [] test)
            (cond-false (later i t) (t ∷ filter (later i) ts) (filter (later i) ts) (ap not due))
            (ap (filter_map (outcome_of s)) (cond-true (upto i t) (t ∷ filter (upto i) ts) (filter (upto i) ts) due)
            ∙ (ap (λ r. cons_option (option_map (λ x. (t.client, t.number, Outcome t.index x)) r) (filter_map (outcome_of s) (filter (upto i) ts))) reply
            ∙ cons-outcome t (reply_in table e.body) (filter_map (outcome_of s) (filter (upto i) ts))))
        | inr other ↦
            let test : (t.index == c + 1) ≡ false = ne_eqb t.index (c + 1) other in
            stepped e es p c (t ∷ ts) (t ∷ ts) commits answers []
            (settled es (p ++ e ∷ []) q (c + 1) (t ∷ ts) (commits ++ (c + 1, e) ∷ []) (answers ++ []) (longer p e c at)
            (is ∙ sym (append_assoc p (e ∷ []) (es ++ q))) (omega (arith, above, other), h.1))
            (cond-false (t.index == c + 1) (map kept_ticket ts) (kept_ticket t ∷ map kept_ticket ts) test)
            (cond-false (t.index == c + 1) (outcome_at (kept_ticket t) (reply_in table e.body)) [] test)
            refl refl
      ]
