-- What a run keeps of tickets and outcomes, and that it is kept where one replica moves.
use Rattle.std.proofs.Common.{◌≡◌, ℕ, inr, Option, Some, None, List, [], ◌∷◌, ◌++◌, map, slice_get, refl, sym, subst, ◌∙◌, arith}
use Rattle.std.specs.List.{AllByRecursion}
use Rattle.std.proofs.lemmas.Option.{none-some}
use Rattle.std.proofs.lemmas.List.{append-nil}
use Rattle.replica_model.specs.Path.{Link}
use Rattle.replica_model.specs.Keyed.{value_at, without}
use Rattle.replica_model.specs.Replica.{Replica, Ticket}
use Rattle.replica_model.specs.Message.{Message}
use Rattle.replica_model.specs.Call.{Call, still}
use Rattle.replica_model.specs.Call as step
use Rattle.replica_model.specs.Step.{step as step_of}
use Rattle.group_model.specs.Enclave.{Hello, Begin, Learn, hello_id, HostInput, Peer, Client, Save, Roll, Connect, Enclave, Called, called, started as started_as}
use Rattle.group_model.specs.Group.{Sent, sent_by}
use Rattle.group_model.specs.Run.{Recorded, Enclaves, moves, newly, start_enclave}
use Rattle.group_model.specs.Log.{asked_in}
use Rattle.group_model.specs.Due.{tickets_in, IsAnswered, AreAnswered}
use Rattle.log_laws.proofs.History.{with_call, all_more}
use Rattle.event_walk.specs.Enclosed.{idle_input, Handed, Enclosed}
use Rattle.event_walk.proofs.Enclosed.{call_keeps}
use Rattle.log_laws.proofs.Moving.{all_get}
use Rattle.log_laws.proofs.Standing.{Throughout, Standing, started_throughout, throughout_more, called_throughout, mailed, standing_on, standing_stopped}
use Rattle.outcome_laws.proofs.Tickets.{LimitTold, FairCall}
use Rattle.outcome_laws.proofs.Stepped.{IsFairInput, new_tickets, step_fair}
use Rattle.outcome_laws.proofs.Recorded.{found, TicketKept, FairReplica, AnswerKept, all_from, found_waits, found_fair, still_fair, new_fair, after_fair, answers_kept, tickets_answered}

-- the outcomes of each call of a history
abbrev pub OutcomesKept : ℕ → List Recorded → Type 0
OutcomesKept run [] = Unit {0}
OutcomesKept run (r ∷ rs) = AllByRecursion (AnswerKept run r (r ∷ rs)) r.call.batch.answers × OutcomesKept run rs

abbrev pub MailTold : ℕ → Sent Message → Type 0
MailTold run m = LimitTold run m.message

pub record FairRun (run : ℕ) (messages : List (Sent Message)) (f : Enclaves) : Type 0 where
  pub standing : Standing (FairReplica run f.history) (MailTold run) messages f.running
  pub outcomes : OutcomesKept run f.history
  pub due : AllByRecursion (λ (r : Recorded). AreAnswered r r.input) f.history

-- histories grow
replica_later : (run : ℕ) (history : List Recorded) (r : Recorded) (v : ℕ) (s : Replica) → FairReplica run history v s → FairReplica run (r ∷ history) v s
replica_later run history r v s g = record {
  reads = g.reads;
  kept = all_more (TicketKept history v s.path) (TicketKept (r ∷ history) v s.path) (λ t h. (h.0, inr h.1)) s.tickets g.kept;
}

-- what is handed is fair. A roll that puts a state back is no call of the replica
abbrev pub FairHostInput : ℕ → Enclave → HostInput Message → Type 0
FairHostInput run e (Peer from to m) = LimitTold run m
FairHostInput run e (Roll k) = slice_get e.saved k ≡ None
FairHostInput run e other = Unit {0}

module _ (link : Link) (run : ℕ) (history : List Recorded) (v : ℕ) (e : Enclave) (g : FairReplica run history v e.replica) where
  abbrev all : HostInput Message → List Ticket
  all input = found e.replica (Some input)

  abbrev Fair : HostInput Message → Call → Type 0
  Fair input = FairCall (all input) (all input) e.replica.committed run

  -- what the replica is told makes the tickets that the host's input makes, and is fair
  abbrev Told : HostInput Message → step.Input → Type 0
  Told input told =
      (asked_in e.replica (Some input) ≡ new_tickets (all input) e.replica.tickets e.replica.committed run link e.replica told)
      × IsFairInput (all input) e.replica.tickets e.replica.committed run link e.replica told

  told_so : (input : HostInput Message) → FairHostInput run e input → Handed e Told (λ k. slice_get e.saved k ≡ None) input
  told_so (Peer from to m) x = (refl, x)
  told_so (Client client number bytes) x = (refl, λ request is. new_fair run history v e.replica g client number bytes request is)
  told_so (Roll k) x = x
  told_so Save x = tt
  told_so (Connect id) x = tt
  told_so other x = (refl, tt)

  called_fair : (input : HostInput Message) → FairHostInput run e input → Enclosed (Fair input) e (called link e input)
  called_fair input x = call_keeps link e Told (λ k. slice_get e.saved k ≡ None) Fair
      (record {
        stays = λ why x. still_fair run history v e.replica g (Some (idle_input why));
        steps = λ input told x.
            subst (λ new. FairCall (all input) (e.replica.tickets ++ new) e.replica.committed run (step_of link e.replica told)) (sym x.0)
            (step_fair (all input) e.replica.tickets e.replica.committed run link e.replica (record { state = found_fair run history v e.replica g (Some input); waits = found_waits run history v e.replica g; now = refl }) told x.1);
        rolls = λ k s some none. absurd (none-some s (sym none ∙ some));
      })
      input (told_so input x)

-- a voter is started with the limit of the run
abbrev pub IsOfLimit : ℕ → Hello → Type 0
IsOfLimit run (Begin id margin limit voters) = limit ≡ run
IsOfLimit run (Learn id linked) = Unit {0}

fresh_fair : (run : ℕ) (history : List Recorded) (hello : Hello) → IsOfLimit run hello → FairReplica run history (hello_id hello) (started_as hello).replica
fresh_fair run history (Begin id margin limit voters) of_run = record { reads = of_run; kept = tt }
fresh_fair run history (Learn id linked) of_run = record { reads = (refl, λ some. absurd (omega arith)); kept = tt }

-- what holds of each ticket of a call, unless it is a roll
due_unless_roll : (r : Recorded) (input : Option (HostInput Message)) → AllByRecursion (IsAnswered r) (tickets_in r) → AreAnswered r input
due_unless_roll r (Some (Roll state)) h = tt
due_unless_roll r other h = h

module _ (run : ℕ) (messages : List (Sent Message)) (f : Enclaves) (k : FairRun run messages f) where
  -- one replica goes on
  moves_fair : (v : ℕ) (before : Replica) (input : Option (HostInput Message)) (c : Called) (new : List (Sent Message)) → Throughout (FairReplica run (with_call f.history v before input c.call) v) c.enclave → AllByRecursion (AnswerKept run (record { replica = v; before = before; input = input; call = c.call }) (with_call f.history v before input c.call)) c.call.batch.answers → AreAnswered (record { replica = v; before = before; input = input; call = c.call }) input → AllByRecursion (MailTold run) new → FairRun run (messages ++ new) (moves f v before input c)
  moves_fair v before input c new good kept due told = record {
    standing = standing_on (FairReplica run f.history) (MailTold run) messages f.running k.standing
        (FairReplica run (with_call f.history v before input c.call)) (replica_later run f.history (record { replica = v; before = before; input = input; call = c.call })) (MailTold run) (λ m told. told) v c.enclave good new told;
    outcomes = (kept, k.outcomes);
    due = (due, k.due);
  }

  -- a replica stops
  pub stopped_fair : (v : ℕ) → FairRun run messages (record f { running = without f.running v })
  stopped_fair v = record { standing = standing_stopped (FairReplica run f.history) (MailTold run) messages f.running k.standing v; outcomes = k.outcomes; due = k.due }

  -- what stood throughout an enclave stands after one more call
  later : (v : ℕ) (e : Enclave) (input : Option (HostInput Message)) (call : Call) → value_at f.running v ≡ Some e → Throughout (FairReplica run (with_call f.history v e.replica input call) v) e
  later v e input call is = throughout_more (FairReplica run f.history v) _ (replica_later run f.history (record { replica = v; before = e.replica; input = input; call = call }) v) e (k.standing.states v e is)

  -- a call of a replica that runs
  pub call_kept : (link : Link) (v : ℕ) (e : Enclave) (input : HostInput Message) → value_at f.running v ≡ Some e → FairHostInput run e input → FairRun run (messages ++ map (sent_by v) (called link e input).call.sent) (moves f v e.replica (Some input) (called link e input))
  call_kept link v e input is x =
      let c : Called = called link e input in
      let r : Recorded = record { replica = v; before = e.replica; input = Some input; call = c.call } in
      let old = (k.standing.states v e is).now in
      let fair = called_fair link run f.history v e old input x in
      moves_fair v e.replica (Some input) c (map (sent_by v) c.call.sent)
      (called_throughout (FairReplica run (r ∷ f.history) v) _ e c (later v e (Some input) c.call is) fair (after_fair run f.history v e.replica old (Some input) c.call fair.call))
      (answers_kept run f.history v e.replica old (Some input) c.call fair.call)
      (due_unless_roll r (Some input) (tickets_answered run f.history v e.replica old (Some input) c.call fair.call))
      (mailed (MailTold run) v c.call.sent fair.call.told)

  -- a roll puts a saved state back
  pub rolled_kept : (v j : ℕ) (e : Enclave) (s : Replica) → value_at f.running v ≡ Some e → slice_get e.saved j ≡ Some s → FairRun run (messages ++ []) (moves f v e.replica (Some (Roll j)) (record { enclave = record e { replica = s }; call = still s }))
  rolled_kept v j e s is some =
      let up = later v e (Some (Roll j)) (still s) is in
      moves_fair v e.replica (Some (Roll j)) (record { enclave = record e { replica = s }; call = still s }) [] (record { now = all_get _ e.saved j s some up.saved; saved = up.saved }) tt tt tt

  -- a start moves no index
  started_due : (v : ℕ) (s : Replica) → AllByRecursion (IsAnswered (record { replica = v; before = s; input = None; call = still s })) (s.tickets ++ [])
  started_due v s = all_from (IsAnswered (record { replica = v; before = s; input = None; call = still s })) (s.tickets ++ []) (λ t m after passed. absurd (omega (arith, after, passed)))

  -- a replica starts
  pub start_kept : (hello : Hello) → IsOfLimit run hello → FairRun run messages (start_enclave f hello)
  start_kept hello of_run =
      let e : Enclave = started_as hello in
      let history' : List Recorded = with_call f.history (hello_id hello) e.replica None (still e.replica) in
      subst (λ m. FairRun run m (start_enclave f hello)) (append-nil messages)
      (moves_fair (hello_id hello) e.replica None (newly e) [] (started_throughout _ hello (fresh_fair run history' hello of_run)) tt (started_due (hello_id hello) e.replica) tt)
