-- What a run keeps of all that was told, and that it is kept where one replica moves.
use Rattle.log_laws.proofs.History.{any_more, any_right, all_more}
use Rattle.std.proofs.Common.{◌≡◌, ℕ, ◌≤◌, ◌⊎◌, max, inl, inr, Option, Some, None, List, [], ◌∷◌, ◌++◌, map, arith}
use Rattle.std.specs.Prelude.{IsSomeAnd, IfSome}
use Rattle.std.specs.List.{AllByRecursion}
use Rattle.std.proofs.lemmas.Bool.{cases_lt}
use Rattle.group_quorum.specs.Conf.{Conf}
use Rattle.replica_model.specs.Path.{Link}
use Rattle.replica_model.specs.Keyed.{value_at, without}
use Rattle.replica_model.specs.Replica.{Replica}
use Rattle.replica_model.specs.Message.{Message}
use Rattle.group_model.specs.Enclave.{Hello, Begin, Learn, HostInput, Peer, Enclave, Called, called, started as started_as}
use Rattle.group_model.specs.Group.{Setup, Sent, sent_by, committed_in, conf_told}
use Rattle.group_model.specs.Run.{Recorded, Enclaves, moves}
use Rattle.group_model.specs.Log.{AnyByRecursion, state_of}
use Rattle.log_laws.proofs.Ending.{all-append}
use Rattle.log_laws.proofs.Moving.{all_get}
use Rattle.event_walk.specs.Enclosed.{Handed, Enclosed}
use Rattle.event_walk.proofs.Enclosed.{call_keeps}
use Rattle.log_laws.proofs.Standing.{Throughout, Standing, started_throughout, throughout_more, called_throughout, mailed, standing_on, standing_stopped}
use Rattle.closing_laws.proofs.Tells.{IsAmong, IsTable, Holds, TellsCall, TellsState, table_more, none_from, state_later, state_after}
use Rattle.closing_laws.proofs.Stepped.{IsKnownInput, step_tells}

-- a message names a path whose configurations were told
abbrev pub MailTold : ℕ → List Conf → Sent Message → Type 0
MailTold seen confs m = IsTable seen confs m.message.names.path

-- a configuration is the first one, or that of an entry that some replica held
abbrev pub IsFound : Option Setup → List Recorded → Conf → Type 0
IsFound setup history c =
    IsSomeAnd setup (λ s. s.first ≡ c) ⊎ AnyByRecursion (λ (r : Recorded). Holds (state_of r).path c) history

-- the greatest index and the configurations that were told, against all that ever was
pub record KeptRun (setup : Option Setup) (seen : ℕ) (confs : List Conf) (messages : List (Sent Message)) (f : Enclaves) : Type 0 where
  pub first : IfSome setup (λ s. IsAmong confs s.first)
  pub standing : Standing (λ v. TellsState seen confs) (MailTold seen confs) messages f.running
  pub history : AllByRecursion (λ (r : Recorded). TellsState seen confs (state_of r)) f.history
  pub reached : (seen ≡ 0) ⊎ AnyByRecursion (λ (r : Recorded). seen ≤ (state_of r).committed) f.history
  pub found : AllByRecursion (IsFound setup f.history) confs

abbrev pub KnownHostInput : ℕ → List Conf → HostInput Message → Type 0
KnownHostInput seen confs (Peer from to m) = IsTable seen confs m.names.path
KnownHostInput seen confs other = Unit {0}

-- a call of an enclave
pub called_kept : (link : Link) (seen : ℕ) (confs : List Conf) (e : Enclave) → Throughout (TellsState seen confs) e → (input : HostInput Message) → KnownHostInput seen confs input → Enclosed (TellsCall seen confs) e (called link e input)
called_kept link seen confs e g input x = call_keeps link e (λ input. IsKnownInput seen confs link) (λ k. Unit {0}) (λ input. TellsCall seen confs)
    (record {
      stays = λ why x. g.now;
      steps = λ input told x. step_tells seen confs link e.replica g.now told x;
      rolls = λ k s some x. all_get (TellsState seen confs) e.saved k s some g.saved;
    })
    input (known_so input x)
  where
    known_so : (input : HostInput Message) → KnownHostInput seen confs input → Handed e (λ input. IsKnownInput seen confs link) (λ k. Unit {0}) input
    known_so (Peer from to m) x = x
    known_so other x = tt

-- a replica that has just started
fresh_state : (seen : ℕ) (confs : List Conf) (hello : Hello) → TellsState seen confs (started_as hello).replica
fresh_state seen confs (Begin id margin limit voters) = record { within = omega arith; fits = omega arith; below = omega arith; above = omega arith; told = tt; held = tt; sendings = tt; named = tt; from = none_from seen [] 0 (omega arith) }
fresh_state seen confs (Learn id linked) = record { within = omega arith; fits = omega arith; below = omega arith; above = omega arith; told = tt; held = tt; sendings = tt; named = tt; from = none_from seen [] 0 (omega arith) }

pub fresh_kept : (seen : ℕ) (confs : List Conf) (hello : Hello) → Throughout (TellsState seen confs) (started_as hello)
fresh_kept seen confs hello = started_throughout (TellsState seen confs) hello (fresh_state seen confs hello)

module _ (setup : Option Setup) (seen : ℕ) (confs : List Conf) (messages : List (Sent Message)) (f : Enclaves) (k : KeptRun setup seen confs messages f) where
  -- one replica goes on, and tells this much
  module _ (v : ℕ) (before : Replica) (input : Option (HostInput Message)) (c : Called) (tells : TellsCall seen confs c.call) where
    abbrev later : ℕ
    later = max seen (committed_in c.call.batch)

    abbrev new : List Conf
    new = map conf_told c.call.batch.members

    abbrev now : Recorded
    now = record { replica = v; before = before; input = input; call = c.call }

    after : TellsState later (new ++ confs) c.call.state
    after = state_after seen confs c.call tells

    reached_after : (later ≡ 0) ⊎ AnyByRecursion (λ (r : Recorded). later ≤ (state_of r).committed) (now ∷ f.history)
    reached_after = elim (cases_lt seen (committed_in c.call.batch)) [
      | inl rises ↦ inr (inl (omega (arith, rises, tells.above)))
      | inr stays ↦ elim k.reached [
        | inl none ↦ inl (omega (arith, none, stays))
        | inr old ↦ inr (inr (any_more (λ (r : Recorded). seen ≤ (state_of r).committed) (λ (r : Recorded). later ≤ (state_of r).committed) (λ r h. omega (arith, h, stays)) f.history old))
      ]
    ]

    found_later : (d : Conf) → IsFound setup f.history d → IsFound setup (now ∷ f.history) d
    found_later d (inl first) = inl first
    found_later d (inr held) = inr (inr held)

    pub moves_kept : Throughout (TellsState later (new ++ confs)) c.enclave → KeptRun setup later (new ++ confs) (messages ++ map (sent_by v) c.call.sent) (moves f v before input c)
    moves_kept good = record {
      first = first_kept setup k.first;
      standing = standing_on (λ v. TellsState seen confs) (MailTold seen confs) messages f.running k.standing
          (λ v. TellsState later (new ++ confs)) (λ v s. state_later seen later new confs s (omega arith)) (MailTold later (new ++ confs)) (λ m. table_more seen later new confs m.message.names.path (omega arith))
          v c.enclave good (map (sent_by v) c.call.sent)
          (mailed (MailTold later (new ++ confs)) v c.call.sent (all_more (λ (m : ℕ × Message). IsTable seen (new ++ confs) m.1.names.path) (λ (m : ℕ × Message). IsTable later (new ++ confs) m.1.names.path) (λ m. table_more seen later [] (new ++ confs) m.1.names.path (omega arith)) c.call.sent tells.named));
      history = (after, all_more (λ (r : Recorded). TellsState seen confs (state_of r)) (λ (r : Recorded). TellsState later (new ++ confs) (state_of r)) (λ r h. state_later seen later new confs (state_of r) (omega arith) h) f.history k.history);
      reached = reached_after;
      found = all-append (IsFound setup (now ∷ f.history)) new confs
          (all_more (Holds c.call.state.path) (IsFound setup (now ∷ f.history)) (λ d h. inr (inl h)) new tells.held)
          (all_more (IsFound setup f.history) (IsFound setup (now ∷ f.history)) found_later confs k.found);
    }
      where
        first_kept : (o : Option Setup) → IfSome o (λ s. IsAmong confs s.first) → IfSome o (λ s. IsAmong (new ++ confs) s.first)
        first_kept None h = h
        first_kept (Some s) h = any_right (λ d. d ≡ s.first) new confs h

  -- a replica that runs is called
  pub call_kept : (link : Link) (v : ℕ) (e : Enclave) (input : HostInput Message) → value_at f.running v ≡ Some e → KnownHostInput seen confs input
      → KeptRun setup (max seen (committed_in (called link e input).call.batch)) (map conf_told (called link e input).call.batch.members ++ confs) (messages ++ map (sent_by v) (called link e input).call.sent) (moves f v e.replica (Some input) (called link e input))
  call_kept link v e input is x =
      let c : Called = called link e input in
      let old = k.standing.states v e is in
      let done = called_kept link seen confs e old input x in
      moves_kept v e.replica (Some input) c done.call
      (called_throughout _ _ e c (throughout_more (TellsState seen confs) _ (λ s. state_later seen (max seen (committed_in c.call.batch)) (map conf_told c.call.batch.members) confs s (omega arith)) e old) done (after v e.replica (Some input) c done.call))

  -- a replica stops
  pub stopped_kept : (v : ℕ) → KeptRun setup seen confs messages (record f { running = without f.running v })
  stopped_kept v = record { first = k.first; standing = standing_stopped (λ v. TellsState seen confs) (MailTold seen confs) messages f.running k.standing v; history = k.history; reached = k.reached; found = k.found }
