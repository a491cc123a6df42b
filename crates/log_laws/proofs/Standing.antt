-- What stands of each enclave that runs and of each message, where one replica goes on.
use Rattle.std.proofs.Common.{◌≡◌, ℕ, inl, inr, Some, List, [], ◌∷◌, ◌++◌, map, sym, subst, ◌∙◌}
use Rattle.std.specs.List.{AllByRecursion}
use Rattle.std.proofs.lemmas.Option.{none-some, same_Some}
use Rattle.replica_model.specs.Keyed.{value_at, put, without}
use Rattle.replica_model.specs.Replica.{Replica}
use Rattle.replica_model.specs.Message.{Message}
use Rattle.replica_model.specs.Call.{Call}
use Rattle.group_model.specs.Enclave.{Hello, Begin, Learn, Enclave, Called, started}
use Rattle.group_model.specs.Group.{Sent, sent_by}
use Rattle.event_walk.specs.Enclosed.{Enclosed}
use Rattle.log_laws.proofs.Ending.{all-append}
use Rattle.log_laws.proofs.History.{all_more}
use Rattle.log_laws.proofs.Lookups.{put_cases, without_stood}

-- S stands of the replica of an enclave, and of each state of it that was saved
pub record Throughout (S : Replica → Type 0) (e : Enclave) : Type 0 where
  pub now : S e.replica
  pub saved : AllByRecursion S e.saved

-- S stands throughout each enclave that runs, and M of each message
pub record Standing (S : ℕ → Replica → Type 0) (M : Sent Message → Type 0) (messages : List (Sent Message)) (running : List (ℕ × Enclave)) : Type 0 where
  pub states : (v : ℕ) (e : Enclave) → value_at running v ≡ Some e → Throughout (S v) e
  pub mail : AllByRecursion M messages

-- an enclave that has just started
pub started_throughout : (S : Replica → Type 0) (hello : Hello) → S (started hello).replica → Throughout S (started hello)
started_throughout S (Begin id margin limit voters) now = record { now = now; saved = (now, tt) }
started_throughout S (Learn id linked) now = record { now = now; saved = (now, tt) }

pub throughout_more : (S S' : Replica → Type 0) → ((s : Replica) → S s → S' s) → (e : Enclave) → Throughout S e → Throughout S' e
throughout_more S S' more e g = record { now = more e.replica g.now; saved = all_more S S' more e.saved g.saved }

-- after a call there is at most the state that it found among those that were saved
pub called_throughout : (S : Replica → Type 0) (C : Call → Type 0) (e : Enclave) (c : Called) → Throughout S e → Enclosed C e c → S c.call.state → Throughout S c.enclave
called_throughout S C e c g done now = record {
  now = subst S done.same now;
  saved = elim done.saved [
    | inl same ↦ subst (AllByRecursion S) (sym same) g.saved
    | inr more ↦ subst (AllByRecursion S) (sym more) (all-append S e.saved (e.replica ∷ []) g.saved (g.now, tt))
  ];
}

-- one replica goes on, and each other is as it was
pub goes_on : (P Q : ℕ → Enclave → Type 0) (running : List (ℕ × Enclave)) (v : ℕ) (now : Enclave) → Q v now → ((u : ℕ) (e : Enclave) → (v ≡ u → ⊥) → P u e → Q u e) → ((u : ℕ) (e : Enclave) → value_at running u ≡ Some e → P u e) → (u : ℕ) (e : Enclave) → value_at (put running v now) u ≡ Some e → Q u e
goes_on P Q running v now mine others old u e is = elim (put_cases running v now u) [
  | inl here ↦ subst (λ u. Q u e) here.0 (subst (Q v) (same_Some now e (sym here.1 ∙ is)) mine)
  | inr there ↦ others u e there.0 (old u e (sym there.1 ∙ is))
]

-- what it sends is mail
pub mailed : (M : Sent Message → Type 0) (v : ℕ) (sent : List (ℕ × Message)) → AllByRecursion (λ m. M (sent_by v m)) sent → AllByRecursion M (map (sent_by v) sent)
mailed M v [] h = tt
mailed M v (m ∷ sent) h = (h.0, mailed M v sent h.1)

pub nothing_stands : (S : ℕ → Replica → Type 0) (M : Sent Message → Type 0) → Standing S M [] []
nothing_stands S M = record { states = λ v e is. absurd (none-some e is); mail = tt }

module _ (S : ℕ → Replica → Type 0) (M : Sent Message → Type 0) (messages : List (Sent Message)) (running : List (ℕ × Enclave)) (k : Standing S M messages running) where
  -- what stood still stands of all that there was
  module _ (S' : ℕ → Replica → Type 0) (more : (u : ℕ) (s : Replica) → S u s → S' u s) (M' : Sent Message → Type 0) (mail_more : (m : Sent Message) → M m → M' m) where
    pub standing_more : Standing S' M' messages running
    standing_more = record { states = λ u e is. throughout_more (S u) (S' u) (more u) e (k.states u e is); mail = all_more M M' mail_more messages k.mail }

    pub standing_on : (v : ℕ) (now : Enclave) → Throughout (S' v) now → (new : List (Sent Message)) → AllByRecursion M' new → Standing S' M' (messages ++ new) (put running v now)
    standing_on v now mine new sent = record {
      states = goes_on (λ u. Throughout (S u)) (λ u. Throughout (S' u)) running v now mine (λ u e apart. throughout_more (S u) (S' u) (more u) e) k.states;
      mail = all-append M' messages new (all_more M M' mail_more messages k.mail) sent;
    }

  -- a replica stops
  pub standing_stopped : (v : ℕ) → Standing S M messages (without running v)
  standing_stopped v = record { states = λ u e is. k.states u e (without_stood running v u e is); mail = k.mail }
