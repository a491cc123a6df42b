-- A world of five running replicas, and what an event makes of it.
use Rattle.std.proofs.Common.{◌≡◌, ℕ, ◌+◌, ◌≤◌, ◌<◌, ◌&&◌, false, Some, None, List, [], ◌∷◌, ◌++◌, length, map, sym, subst, ◌∙◌, arith}
use Rattle.std.proofs.lemmas.Bool.{le-ltb, lt-leb}
use Rattle.std.specs.Prelude.{nat_le, nat_lt, cond, fold, is_some, option_to_list}
use Rattle.std.specs.List.{range_with_len}
use Rattle.std.proofs.lemmas.List.{length-append, length-map}
use Rattle.values.specs.declared.event.Event.{Event}
use Rattle.values.specs.declared.ids.ClientId.{ClientId}
use Rattle.values.specs.declared.limits.TheConstants.{MAX_ANSWERS, MAX_CLIENTS, MAX_EVENTS, MAX_MESSAGES, MAX_REPLICAS, MAX_STATES}
use Rattle.values.specs.declared.message.Answer.{Answer}
use Rattle.schedule_model.specs.Client.{Core}
use Rattle.schedule_model.specs.Quantities.{Events, Messages, Answers, Replicas, States, Clients}
use Rattle.schedule_model.specs.Written.{Written, On, Off, onto, follow}
use Rattle.replica_model.specs.Path.{Link}
use Rattle.replica_model.specs.Keyed.{value_at, put}
use Rattle.replica_model.specs.Replica.{Replica}
use Rattle.replica_model.specs.Message.{Message}
use Rattle.replica_model.specs.Call.{Call}
use Rattle.group_model.specs.Enclave.{HostInput, Enclave, calls, called}
use Rattle.group_model.specs.Group.{Setup, Hearing, Sent, Answered, sent_by, answered_by, keeps}
use Rattle.group_model.specs.Happens as happening
use Rattle.group_model.specs.Happens.{Came, Replied, Happening, Happened, happens}
use Rattle.group_model.specs.Run.{Recorded, Enclaves, World, moves, call_enclave, enclaves, replies}
use Rattle.trace_model.specs.Limits.{passed_before, passed_after, starts_one}
use Rattle.trace_model.specs.Summary.{halts}
use Rattle.trace_model.specs.Trace.{Playing, happened_text, within_limits, happened, tried, played}
use Rattle.drill_laws.specs.Laws.{HoldsALog, AllHoldLogs}
use Rattle.drill_laws.proofs.Setting.{five}
use Rattle.drill_laws.proofs.Follows.{Did}
use Rattle.drill_laws.proofs.Queue.{Queued, queued_more}

-- ---- what is written goes on
abbrev pub Goes : {S : Type 0} → Written S → (S → Type 0) → Type 0
Goes (On text s) P = P s
Goes (Off text stop s) P = ⊥

pub goes_onto : {S : Type 0} (P : S → Type 0) (text : List ℕ) (w : Written S) → Goes w P → Goes (onto text w) P
goes_onto P text (On more s) h = h
goes_onto P text (Off more stop s) h = h

pub goes_follow : {S : Type 0} (P : S → Type 0) (w : Written S) (next : S → Written S) → Goes w (λ s. Goes (next s) P) → Goes (follow w next) P
goes_follow P (On text s) next h = goes_onto P text (next s) h
goes_follow P (Off text stop s) next h = h

-- ---- a world
-- without what each event may change
abbrev pub steady : World → World
steady w = record w { waiting = []; cores = []; hearings = []; past = [] }

-- five run, nothing is lost or saved, and nobody halted or was rolled back
pub record Runs (w : World) (enclaves : List (ℕ × Enclave)) : Type 0 where
  pub setup : Setup
  pub begun : w.setup ≡ Some setup
  pub five_run : w.running ≡ five
  pub none_lost : w.lost ≡ []
  pub none_saved : w.saves ≡ []
  pub run_is : w.field.running ≡ enclaves
  pub no_halt : halts w ≡ 0
  pub all_hold : AllHoldLogs w
  pub none_rolled : w.rolled ≡ []

pub record At (w : World) (queue : List (Sent Message)) (enclaves : List (ℕ × Enclave)) (events messages : ℕ) (answers : List Answered) (cores : List (ClientId × Core)) : Type 0 where
  pub runs : Runs (steady w) enclaves
  pub mail : Queued w.waiting w.messages queue
  pub past_is : length w.past ≡ events
  pub sent_is : length w.messages ≡ messages
  pub answers_are : w.answers ≡ answers
  pub cores_are : w.cores ≡ cores

abbrev pub Room : ℕ → List Answered → List (ClientId × Core) → Type 0
Room messages answers cores = (messages ≤ 200000) × (length answers ≤ 1000000) × (length cores ≤ 20000)

module _ {q : List (Sent Message)} {enc : List (ℕ × Enclave)} {events messages : ℕ} {answers : List Answered} {cores : List (ClientId × Core)} where
  -- the same in other words
  pub restated : {w : World} {q' : List (Sent Message)} {enc' : List (ℕ × Enclave)} {events' messages' : ℕ} {answers' : List Answered} → At w q enc events messages answers cores
      → q ≡ q' → enc ≡ enc' → events ≡ events' → messages ≡ messages' → answers ≡ answers' → At w q' enc' events' messages' answers' cores
  restated {w} a queue run past sent answered =
      record {
        runs = subst (λ (y : List (ℕ × Enclave)). Runs (steady w) y) run a.runs;
        mail = subst (λ (y : List (Sent Message)). Queued w.waiting w.messages y) queue a.mail;
        past_is = a.past_is ∙ past;
        sent_is = a.sent_is ∙ sent;
        answers_are = a.answers_are ∙ answered;
        cores_are = a.cores_are;
      }

  -- an event is noted, and may change the mail, the cores and what was heard
  pub noted_at : {w : World} {waiting : List ℕ} {now cores' : List (ClientId × Core)} {heard : List Hearing} {q' : List (Sent Message)} (e : Event) → At w q enc events messages answers cores
      → Queued waiting w.messages q' → now ≡ cores' → At (record w { waiting = waiting; cores = now; hearings = heard; past = e ∷ w.past }) q' enc (events + 1) messages answers cores'
  noted_at e a mail are = record { runs = a.runs; mail = mail; past_is = omega (arith, a.past_is); sent_is = a.sent_is; answers_are = a.answers_are; cores_are = are }

  pub room_after : {g : World} → At g q enc events messages answers cores → Room messages answers cores → passed_after g ≡ None
  room_after {g} a room =
      λ i. cond (few_messages i) (Some Messages) (cond (few_answers i) (Some Answers) (cond (few_states i) (Some States) (cond (few_clients i) (Some Clients) None)))
    where
      few_messages : nat_lt MAX_MESSAGES (length g.messages) ≡ false
      few_messages = (λ i. nat_lt MAX_MESSAGES (a.sent_is i)) ∙ le-ltb MAX_MESSAGES messages room.0

      few_answers : nat_lt MAX_ANSWERS (length g.answers) ≡ false
      few_answers = (λ i. nat_lt MAX_ANSWERS (length (a.answers_are i))) ∙ le-ltb MAX_ANSWERS (length answers) room.1

      few_states : nat_lt MAX_STATES (length g.saves) ≡ false
      few_states = λ i. nat_lt MAX_STATES (length (a.runs.none_saved i))

      few_clients : nat_lt MAX_CLIENTS (length g.cores) ≡ false
      few_clients = (λ i. nat_lt MAX_CLIENTS (length (a.cores_are i))) ∙ le-ltb MAX_CLIENTS (length cores) room.2

  -- ---- a call
  module _ (link : Link) {g : World} (a : At g q enc events messages answers cores) (r : ℕ) (input : HostInput Message) (e : Enclave) (c : Call) (is : called link e input ≡ calls e c) where
    -- the world after it
    abbrev pub after_call : World
    after_call = keeps g r c.batch c.sent (moves g.field r e.replica (Some input) (calls e c))

    pub call_is : value_at enc r ≡ Some e → happening.calls (enclaves link) r input g ≡ Happened (Replied r c.batch) after_call
    call_is here =
        (λ i. happening.replied (enclaves link) r g (call_enclave link g.field r input (value_at (a.runs.run_is i) r)))
        ∙ (λ i. happening.replied (enclaves link) r g (call_enclave link g.field r input (here i)))
        ∙ (λ i. happening.replied (enclaves link) r g (replies g.field r e.replica input (is i)))

    pub call_at : {now : Replica} {sent : List (ℕ × Message)} {outs : List (ClientId × ℕ × Answer)} → HoldsALog e.replica.role → Did c now sent outs
        → At after_call (q ++ map (sent_by r) sent) (put enc r (record e { replica = now })) events (messages + length sent) (answers ++ map (answered_by r) outs) cores
    call_at {now} {sent} holds d =
        record {
          runs = record {
            setup = a.runs.setup;
            begun = a.runs.begun;
            five_run = a.runs.five_run;
            none_lost = a.runs.none_lost;
            none_saved = λ i. map (λ (k : ℕ). r) (option_to_list (d.saved i)) ++ a.runs.none_saved i;
            run_is = λ i. put (a.runs.run_is i) r (record e { replica = d.state i });
            no_halt = (λ i. fold (λ (n : ℕ) (x : Recorded). n + cond (is_some x.call.batch.halt) 1 0) (0 + cond (is_some (d.halt i)) 1 0) g.field.history) ∙ a.runs.no_halt;
            all_hold = (holds, a.runs.all_hold);
            none_rolled = a.runs.none_rolled;
          };
          mail = subst (λ (s : List (ℕ × Message)). Queued (g.waiting ++ range_with_len (length g.messages + 1) (length s)) (g.messages ++ map (sent_by r) s) (q ++ map (sent_by r) sent)) (sym d.sent)
              (subst (λ (k : ℕ). Queued (g.waiting ++ range_with_len (length g.messages + 1) k) (g.messages ++ map (sent_by r) sent) (q ++ map (sent_by r) sent)) (length-map sent (sent_by r))
              (queued_more g.waiting g.messages q (map (sent_by r) sent) a.mail));
          past_is = a.past_is;
          sent_is = length-append g.messages (map (sent_by r) c.sent) ∙ (λ i. a.sent_is i + length (map (sent_by r) (d.sent i))) ∙ (λ i. messages + length-map sent (sent_by r) i);
          answers_are = λ i. a.answers_are i ++ map (answered_by r) (d.answers i);
          cores_are = a.cores_are;
        }

-- an event is played, from where there is room to where there is room
pub room_before : (g : World) (e : Event) → starts_one g e ≡ false → length g.past < 1000000 → passed_before g e ≡ None
room_before g e none few = λ i. cond (lt-leb MAX_EVENTS (length g.past) few i) (Some Events) (cond (none i && nat_le MAX_REPLICAS (length g.started)) (Some Replicas) None)

module _ (link : Link) (p : Playing Message Enclaves) (e : Event) where
  pub plays : (came : Came) (g : World) → happens (enclaves link) e p.group ≡ Happened came g → passed_before p.group e ≡ None → passed_after g ≡ None
      → played (enclaves link) p e ≡ On (happened_text p.group e came) (record p { group = g; stands = g.field })
  plays came g is before after =
      (λ i. tried (enclaves link) p e (before i))
      ∙ (λ i. happened (enclaves link) p e (is i))
      ∙ (λ i. within_limits (enclaves link) p (happened_text p.group e came) g (after i))

  -- the world at such an event
  abbrev pub noted : World
  noted = record (p.group) { past = e ∷ p.group.past }

  pub acts_is : {enc : List (ℕ × Enclave)} → Runs (steady p.group) enc → happens (enclaves link) e p.group ≡ happening.acts (enclaves link) e noted
  acts_is runs = λ i. happening.acts_in (enclaves link) (runs.begun i) e noted
