-- Every run keeps what it keeps of all that was told.
use Rattle.std.proofs.Common.{◌≡◌, ℕ, ◌++◌, suc, max, inl, inr, Option, Some, None, List, [], ◌∷◌, refl, subst, arith}
use Rattle.std.proofs.lemmas.List.{append-nil}
use Rattle.group_quorum.specs.Conf.{Conf}
use Rattle.values.specs.declared.event.Event.{Event}
use Rattle.replica_model.specs.Path.{Link}
use Rattle.replica_model.specs.Message.{Message}
use Rattle.group_model.specs.Enclave.{Begin, Learn, Hello, hello_id, Roll, rolls_to, started}
use Rattle.group_model.specs.Group.{Setup, Sent}
use Rattle.group_model.specs.Run.{Enclaves, World, newly, start_enclave, run}
use Rattle.log_laws.proofs.Moving.{all_numbered}
use Rattle.log_laws.proofs.History.{all_more}
use Rattle.event_walk.specs.Cases.{Handing, Delivered, handed, after_call, Survives}
use Rattle.event_walk.proofs.Walk as walk
use Rattle.closing_laws.proofs.Tells.{TellsState, table_more, state_later}
use Rattle.log_laws.proofs.Standing.{standing_more, nothing_stands}
use Rattle.closing_laws.proofs.Moved.{IsFound, MailTold, KeptRun, KnownHostInput, fresh_kept, moves_kept, call_kept, stopped_kept}

-- the greatest index and the configurations that a world tells, against all that ever was in it
abbrev pub KeptWorld : World → Type 0
KeptWorld w = KeptRun w.setup w.committed w.confs w.messages w.field

-- where nothing is told
module _ (setup : Option Setup) (seen : ℕ) (confs : List Conf) (messages : List (Sent Message)) where
  untold : (f : Enclaves) → KeptRun setup (max seen 0) confs (messages ++ []) f → KeptRun setup seen confs messages f
  untold f k =
      let same : max seen 0 ≡ seen = omega arith in
      subst (λ n. KeptRun setup n confs messages f) same (subst (λ m. KeptRun setup (max seen 0) confs m f) (append-nil messages) k)

  start_kept : (f : Enclaves) (hello : Hello) → KeptRun setup seen confs messages f → KeptRun setup seen confs messages (start_enclave f hello)
  start_kept f hello k =
      untold (start_enclave f hello) (moves_kept setup seen confs messages f k (hello_id hello) (started hello).replica None (newly (started hello)) (fresh_kept seen confs hello).now (fresh_kept (max seen 0) confs hello))

-- the begin event tells the first configuration
first_told : (w : World) (c : Conf) (limit : ℕ) → w.setup ≡ None → KeptWorld w → KeptRun (Some (record { limit = limit; first = c })) w.committed (c ∷ w.confs) w.messages w.field
first_told w c limit unset k = record {
  first = inl refl;
  standing = standing_more (λ v. TellsState w.committed w.confs) (MailTold w.committed w.confs) w.messages w.field.running k.standing
      (λ v. TellsState w.committed (c ∷ w.confs)) (λ v s. state_later w.committed w.committed (c ∷ []) w.confs s (omega arith)) (MailTold w.committed (c ∷ w.confs)) (λ m. table_more w.committed w.committed (c ∷ []) w.confs m.message.names.path (omega arith));
  history = all_more (λ r. TellsState w.committed w.confs r.call.state) (λ r. TellsState w.committed (c ∷ w.confs) r.call.state) (λ r h. state_later w.committed w.committed (c ∷ []) w.confs r.call.state (omega arith) h) w.field.history k.history;
  reached = k.reached;
  found = (inl refl, all_more (IsFound w.setup w.field.history) (IsFound (Some (record { limit = limit; first = c })) w.field.history) (λ d h. held_again d (subst (λ o. IsFound o w.field.history d) unset h)) w.confs k.found);
}
  where
    held_again : (d : Conf) → IsFound None w.field.history d → IsFound (Some (record { limit = limit; first = c })) w.field.history d
    held_again d (inl never) = absurd never
    held_again d (inr held) = inr held

-- what is handed over tells no more than the world does
known_handed : (w : World) → KeptWorld w → (v : ℕ) (h : Handing w v) → KnownHostInput w.committed w.confs (handed h)
known_handed w kept v (Delivered k m is to) = all_numbered (MailTold w.committed w.confs) w.messages k m is kept.standing.mail
known_handed w kept v other = tt

survives : (link : Link) → Survives link (λ w. Unit {0}) KeptWorld
survives link = record {
  counted = λ w e k. k;
  begun = λ w limit margin voters c known unset made k.
      walk.starts_all_keep link (KeptRun (Some (record { limit = limit; first = c })) w.committed (c ∷ w.confs) w.messages) c limit c.voters
      (λ v f among. start_kept (Some (record { limit = limit; first = c })) w.committed (c ∷ w.confs) w.messages f (Begin v c.margin limit c.voters)) w.field (first_told w c limit unset k);
  started = λ w setup x set new k. start_kept w.setup w.committed w.confs w.messages w.field (Learn (suc x) w.running) k;
  called = λ w v h e is k. call_kept w.setup w.committed w.confs w.messages w.field k link v e (handed h) is (known_handed w k v h);
  -- a roll is a call like any other
  rolled = λ w v j e s is some k. subst (λ o. KeptWorld (after_call w v e (Roll j) (rolls_to e j o))) some (call_kept w.setup w.committed w.confs w.messages w.field k link v e (Roll j) is tt);
  stopped = λ w v k. stopped_kept w.setup w.committed w.confs w.messages w.field k v;
  sorted = λ w lost waiting k. k;
  wanted = λ w client want core is k. k;
  heard = λ w client k' a core is its has k. k;
}

-- in every run
pub run_keeps : (link : Link) (events : List Event) → KeptWorld (run link events)
run_keeps link events = walk.run_keeps link (λ w. Unit {0}) KeptWorld (λ w k. tt) (survives link) (record { first = tt; standing = nothing_stands _ _; history = tt; reached = inl refl; found = tt }) events
