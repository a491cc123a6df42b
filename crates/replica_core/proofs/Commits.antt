-- Entries that are committed, at a replica and at the model's.
use Rattle.std.proofs.Common.{◌≡◌, ℕ, ◌+◌, ◌-◌, ◌<◌, ◌≤◌, cond, not, ◌&&◌, nat_le, max, inl, inr, List, [], ◌∷◌, ◌++◌, length, take, drop, map, filter, filter_map, refl, sym, ap, subst, ◌∙◌, arith, append_assoc, take-append-drop, length-drop}
use Rattle.std.proofs.lemmas.Bool.{cases_lt, lt-ltb}
use Rattle.std.proofs.lemmas.List.{drop_all, drop-take, drop-drop, take-take, length-take-le, length-take}
use Rattle.values.specs.declared.batch.Batch.{Batch}
use Rattle.values.specs.declared.entry.LogEntry.{LogEntry}
use Rattle.record_rules.specs.Table.{RecordTable}
use Rattle.replica_model.specs.Path.{Path}
use Rattle.replica_model.specs.Linked.{sha_link}
use Rattle.replica_model.specs.Folds.{fold_of}
use Rattle.replica_model.specs.Replica as model
use Rattle.replica_model.specs.Call.{Call}
use Rattle.replica_model.specs.Raise.{numbered_from, is_due, outcome_of, commit_to}
use Rattle.replica_model.specs.Send.{with_sent}
use Rattle.replica_log.specs.Window.{IsOrdered, base_index, last_index}
use Rattle.replica_log.specs.Models.{StandsFor as LogStandsFor}
use Rattle.replica_core.specs.Logs.{LogsAreTheModels}
use Rattle.replica_core.specs.declared.tickets.Ticket.{Ticket}
use Rattle.replica_core.specs.declared.holder.Holder.{Holder}
use Rattle.replica_core.specs.Standing.{kept_ticket, RoleAs}
use Rattle.replica_core.specs.Keeping.{AreTickets}
use Rattle.replica_core.specs.Applying.{Applied, applied_all, kept_between, before_applied, applied_from, holder_applied, batch_applied}
use Rattle.replica_core.specs.Calling.{Reaches}
use Rattle.replica_core.proofs.Applied.{later, upto, none-due, Settled, settled}
use Rattle.replica_core.proofs.Holding.{base-model, last-model}

-- of tickets above the committed index those are due that are up to i
due-upto : (s : model.Replica) (i c : ℕ) (ts : List model.Ticket) → s.committed ≤ c → AreTickets c (map kept_ticket ts)
    → (filter (is_due s i) ts ≡ filter (upto i) ts) × (filter (λ t. not (is_due s i t)) ts ≡ filter (later i) ts)
due-upto s i c [] le h = (refl, refl)
due-upto s i c (t ∷ ts) le h =
    let above : c < t.index = h.0 in
    let is : is_due s i t ≡ nat_le t.index i = ap (λ b. b && nat_le t.index i) (lt-ltb s.committed t.index (omega (arith, above, le))) in
    let rest = due-upto s i t.index ts (omega (arith, above, le)) h.1 in (
      ap (λ b. cond b (t ∷ filter (is_due s i) ts) (filter (is_due s i) ts)) is
          ∙ ap (λ us. cond (nat_le t.index i) (t ∷ us) us) rest.0,
      ap (λ b. cond (not b) (t ∷ filter (λ u. not (is_due s i u)) ts) (filter (λ u. not (is_due s i u)) ts)) is
          ∙ ap (λ us. cond (not (nat_le t.index i)) (t ∷ us) us) rest.1,
    )

-- a replica whose log is committed up to i already, and all else of which is as before
pub record Before (h : Holder) (s : model.Replica) (i : ℕ) : Type 0 where
  pub me : h.me ≡ s.me
  pub term : h.ballot.term ≡ s.term
  pub vote : h.ballot.vote ≡ s.vote
  pub known : h.known ≡ s.known
  pub log : LogStandsFor sha_link h.log (record s { committed = max s.committed i })
  pub table : h.table ≡ fold_of s.limit (take s.committed s.path)
  pub role : RoleAs s.limit s.first h.role s.role
  pub tickets : h.tickets ≡ map kept_ticket s.tickets
  pub halted : h.halted ≡ s.halted

module _ (logs : LogsAreTheModels) (h : Holder) (b : Batch) (c : Call) (i : ℕ) (st : Before h c.state i) (o : IsOrdered h.log)
    (rising : AreTickets c.state.committed h.tickets) (low : base_index h.log ≤ c.state.committed) (is : b ≡ (with_sent c).batch) where
  committed-is : h.log.committed ≡ max c.state.committed i
  committed-is = st.log.is_committed

  base-is : base_index h.log ≡ c.state.base
  base-is = base-model logs h.log (record (c.state) { committed = max c.state.committed i }) st.log

  j-last : max c.state.committed i ≤ length c.state.path
  j-last =
      let a = o.promised in let d = o.last in let e = committed-is in
      let l : last_index h.log ≡ length c.state.path = last-model logs h.log (record (c.state) { committed = max c.state.committed i }) st.log in
      omega (arith, a, d, e, l)

  kept-are : kept_between h.log c.state.committed h.log.committed ≡ drop c.state.committed (take (max c.state.committed i) c.state.path)
  kept-are =
      let n : ℕ = max c.state.committed i in
      let low-base : c.state.base ≤ c.state.committed = (let e = base-is in omega (arith, e, low)) in
      ap (λ k. drop (c.state.committed - k) (take (h.log.committed - k) h.log.entries)) base-is
      ∙ (ap (λ k. drop (c.state.committed - c.state.base) (take (k - c.state.base) h.log.entries)) committed-is
      ∙ (ap (λ xs. drop (c.state.committed - c.state.base) (take (n - c.state.base) xs)) st.log.entries
      ∙ (ap (drop (c.state.committed - c.state.base)) (sym (drop-take c.state.base (n - c.state.base) c.state.path))
      ∙ (ap (λ k. drop (c.state.committed - c.state.base) (drop c.state.base (take k c.state.path))) (let k : c.state.base + (n - c.state.base) ≡ n = omega arith in k)
      ∙ (drop-drop (c.state.committed - c.state.base) c.state.base (take n c.state.path)
      ∙ ap (λ k. drop k (take n c.state.path)) (let k : c.state.base + (c.state.committed - c.state.base) ≡ c.state.committed = omega arith in k))))))

  front-is : take c.state.committed c.state.path ++ drop c.state.committed (take (max c.state.committed i) c.state.path) ≡ take (max c.state.committed i) c.state.path
  front-is =
      let n : ℕ = max c.state.committed i in
      ap (λ xs. xs ++ drop c.state.committed (take n c.state.path)) (sym (take-take c.state.committed n c.state.path (omega arith)))
      ∙ take-append-drop c.state.committed (take n c.state.path)

  path-is : c.state.path ≡ take c.state.committed c.state.path ++ (drop c.state.committed (take (max c.state.committed i) c.state.path) ++ drop (max c.state.committed i) c.state.path)
  path-is =
      let n : ℕ = max c.state.committed i in
      sym (take-append-drop n c.state.path)
      ∙ (ap (λ xs. xs ++ drop n c.state.path) (sym front-is)
      ∙ append_assoc (take c.state.committed c.state.path) (drop c.state.committed (take n c.state.path)) (drop n c.state.path))

  begun : Applied
  begun = record { table = fold_of c.state.limit (take c.state.committed c.state.path); tickets = map kept_ticket c.state.tickets; commits = b.commits; answers = b.answers }

  begun-is : before_applied h b ≡ begun
  unfolding begun
  begun-is =
      ap (λ (t : RecordTable). record { table = t; tickets = h.tickets; commits = b.commits; answers = b.answers }) st.table
      ∙ ap (λ (ts : List Ticket). record { table = fold_of c.state.limit (take c.state.committed c.state.path); tickets = ts; commits = b.commits; answers = b.answers }) st.tickets

  length-es : c.state.committed + length (drop c.state.committed (take (max c.state.committed i) c.state.path)) ≡ max c.state.committed i
  length-es =
      let n : ℕ = max c.state.committed i in
      let d = length-drop c.state.committed (take n c.state.path) in
      let t = length-take-le n c.state.path j-last in
      omega (arith, d, t)

  settles : Settled c.state (take c.state.committed c.state.path) (drop c.state.committed (take (max c.state.committed i) c.state.path)) c.state.committed c.state.tickets b.commits b.answers
      (applied_from h b c.state.committed)
  unfolding begun
  settles =
      let n : ℕ = max c.state.committed i in
      let p : Path = take c.state.committed c.state.path in
      let news : Path = drop c.state.committed (take n c.state.path) in
      let made : List LogEntry → Applied = λ xs. applied_all begun (numbered_from (c.state.committed + 1) xs) in
      subst (Settled c.state p news c.state.committed c.state.tickets b.commits b.answers)
      (sym (ap (λ a. applied_all a (numbered_from (c.state.committed + 1) (kept_between h.log c.state.committed h.log.committed))) begun-is
      ∙ ap made kept-are))
      (settled c.state news p (drop n c.state.path) c.state.committed c.state.tickets b.commits b.answers
      (sym (length-take-le c.state.committed c.state.path (let l = j-last in omega (arith, l)))) path-is
      (subst (AreTickets c.state.committed) st.tickets rising))

  -- the tickets that are left, and those that are due
  due : (filter (is_due c.state i) c.state.tickets ≡ filter (upto (max c.state.committed i)) c.state.tickets)
      × (filter (λ t. not (is_due c.state i t)) c.state.tickets ≡ filter (later (max c.state.committed i)) c.state.tickets)
  due =
      let ts : List model.Ticket = c.state.tickets in
      let tickets = subst (AreTickets c.state.committed) st.tickets rising in
      let at-i = due-upto c.state i c.state.committed ts (omega arith) tickets in
      elim (cases_lt c.state.committed i) [
        | inl above ↦
            let e : i ≡ max c.state.committed i = omega (arith, above) in
            (at-i.0 ∙ ap (λ n. filter (upto n) ts) e, at-i.1 ∙ ap (λ n. filter (later n) ts) e)
        | inr below ↦
            let e : c.state.committed ≡ max c.state.committed i = omega (arith, below) in
            let none-i = none-due i c.state.committed ts below tickets in
            let none-c = none-due c.state.committed c.state.committed ts (omega arith) tickets in
            (at-i.0 ∙ (none-i.1 ∙ (sym none-c.1 ∙ ap (λ n. filter (upto n) ts) e)), at-i.1 ∙ (none-i.0 ∙ (sym none-c.0 ∙ ap (λ n. filter (later n) ts) e)))
      ]

  news-are : drop c.state.committed (take (max c.state.committed i) c.state.path) ≡ drop c.state.committed (take i c.state.path)
  news-are = elim (cases_lt c.state.committed i) [
    | inl above ↦ ap (λ n. drop c.state.committed (take n c.state.path)) (let e : max c.state.committed i ≡ i = omega (arith, above) in e)
    | inr below ↦
        drop_all c.state.committed (take (max c.state.committed i) c.state.path) (let t = length-take (max c.state.committed i) c.state.path in omega (arith, t, below))
        ∙ sym (drop_all c.state.committed (take i c.state.path) (let t = length-take i c.state.path in omega (arith, t, below)))
  ]

  -- the entries up to i are committed
  pub commits : Reaches (holder_applied h (applied_from h b c.state.committed)) (batch_applied b (applied_from h b c.state.committed)) (commit_to c i)
  commits =
      let n : ℕ = max c.state.committed i in
      let a : Applied = applied_from h b c.state.committed in
      let news : Path = drop c.state.committed (take n c.state.path) in
      let told-is : Batch → Batch = λ d. record d { commits = a.commits; answers = a.answers } in
      record {
        stands = record {
          me = st.me;
          term = st.term;
          vote = st.vote;
          known = st.known;
          log = st.log;
          table = settles.table ∙ ap (fold_of c.state.limit) front-is;
          role = st.role;
          tickets = settles.tickets ∙ ap (map kept_ticket) (ap (λ k. filter (later k) c.state.tickets) length-es ∙ sym due.1);
          halted = st.halted;
        };
        batch_is =
            ap (λ cs. record b { commits = cs; answers = a.answers }) (settles.commits_are ∙ ap (λ xs. b.commits ++ numbered_from (c.state.committed + 1) xs) news-are)
            ∙ (ap (λ xs. record b { commits = b.commits ++ numbered_from (c.state.committed + 1) (drop c.state.committed (take i c.state.path)); answers = xs })
            (settles.answers_are ∙ ap (λ ts. b.answers ++ filter_map (outcome_of c.state) ts) (ap (λ k. filter (upto k) c.state.tickets) length-es ∙ sym due.0))
            ∙ ap (λ (d : Batch). record d {
              commits = d.commits ++ numbered_from (c.state.committed + 1) (drop c.state.committed (take i c.state.path));
              answers = d.answers ++ filter_map (outcome_of c.state) (filter (is_due c.state i) c.state.tickets);
            }) is);
      }
