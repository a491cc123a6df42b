-- Every run sends true parts alone, and hands its enclaves nothing but what was sent. So what its learners take was sent.
use Rattle.log_laws.proofs.History.{any_left, all_more}
use Rattle.std.proofs.Common.{◌≡◌, ℕ, inl, inr, Option, Some, None, List, [], ◌∷◌, ◌++◌, zero, suc, map, refl, sym, subst}
use Rattle.std.specs.Prelude.{◌⊎◌}
use Rattle.std.specs.List.{AllByRecursion}
use Rattle.std.proofs.lemmas.List.{append-nil}
use Rattle.std.proofs.lemmas.Option.{none-some, same_Some}
use Rattle.values.specs.declared.event.Event.{Event}
use Rattle.values.specs.declared.peer.PeerMsg.{PeerMsg}
use Rattle.values.specs.declared.peer.PeerMsg.TheVariants.{Part}
use Rattle.values.specs.declared.peer.TablePart.{TablePart}
use Rattle.replica_model.specs.Path.{Link}
use Rattle.replica_model.specs.Keyed.{value_at}
use Rattle.replica_model.specs.Replica.{Named, nothing_named, Replica}
use Rattle.replica_model.specs.Message.{Message}
use Rattle.group_model.specs.Enclave.{Hello, Begin, Learn, hello_id, HostInput, Peer, Roll, Enclave, Called, rolls_to, called, started as started_as}
use Rattle.group_model.specs.Group.{Sent, sent_by, numbered}
use Rattle.group_model.specs.Log.{AnyByRecursion}
use Rattle.group_model.specs.Run.{Recorded, Enclaves, World, moves, newly, start_enclave, run}
use Rattle.log_laws.proofs.Moving.{all_get}
use Rattle.log_laws.proofs.Standing.{Throughout, Standing, started_throughout, throughout_more, called_throughout, mailed, nothing_stands, standing_on, standing_stopped}
use Rattle.event_walk.specs.Cases.{Handing, Delivered, handed, after_call, Survives}
use Rattle.event_walk.specs.Enclosed.{Handed, Enclosed}
use Rattle.event_walk.proofs.Enclosed.{call_keeps}
use Rattle.event_walk.proofs.Walk as walk
use Rattle.part_laws.proofs.True.{HasGoodTables, TakesOf, TakesIn, IsTrue, AreTrue, TrueCall, good_more}
use Rattle.part_laws.proofs.Stepped.{step_true}

abbrev pub PartOf : Named → Named → PeerMsg → Type 0
PartOf names other (Part term part) = other ≡ names
PartOf names other msg = ⊥

-- a part that was sent names this
abbrev pub IsPartOf : Named → Sent Message → Type 0
IsPartOf names m = PartOf names m.message.names m.message.msg

-- what a learner's table names: no part was taken, or a part that names it was sent
abbrev pub WasTold : List (Sent Message) → Named → Type 0
WasTold messages names = (names ≡ nothing_named) ⊎ AnyByRecursion (IsPartOf names) messages

-- a message that is handed is one of those that were sent
abbrev pub WasSent : List (Sent Message) → HostInput Message → Type 0
WasSent messages (Peer from to m) = AnyByRecursion (λ (s : Sent Message). s ≡ record { from = from; to = to; message = m }) messages
WasSent messages other = Unit {0}

-- what has a number was sent
among_numbered : (messages : List (Sent Message)) (j : ℕ) (m : Sent Message) → numbered messages j ≡ Some m → AnyByRecursion (λ (s : Sent Message). s ≡ m) messages
among_numbered messages zero m is = absurd (none-some m is)
among_numbered [] (suc j) m is = absurd (none-some m is)
among_numbered (s ∷ messages) (suc zero) m is = inl (same_Some s m is)
among_numbered (s ∷ messages) (suc (suc j)) m is = inr (among_numbered messages (suc j) m is)

-- nothing is handed at a start
abbrev pub HandedSent : List (Sent Message) → Option (HostInput Message) → Type 0
HandedSent messages None = Unit {0}
HandedSent messages (Some input) = WasSent messages input

pub record TrueRun (link : Link) (messages : List (Sent Message)) (f : Enclaves) : Type 0 where
  pub standing : Standing (λ v. HasGoodTables (WasTold messages)) (λ m. IsTrue link m.message) messages f.running
  pub handed : AllByRecursion (λ (r : Recorded). HandedSent messages r.input) f.history
  pub found : AllByRecursion (λ (r : Recorded). HasGoodTables (WasTold messages) r.before) f.history

-- ---- what was sent stays sent
sent_more : (messages new : List (Sent Message)) (input : HostInput Message) → WasSent messages input → WasSent (messages ++ new) input
sent_more messages new (Peer from to m) h = any_left (λ (s : Sent Message). s ≡ record { from = from; to = to; message = m }) messages new h
sent_more messages new other h = h

handed_more : (messages new : List (Sent Message)) (input : Option (HostInput Message)) → HandedSent messages input → HandedSent (messages ++ new) input
handed_more messages new None h = h
handed_more messages new (Some input) h = sent_more messages new input h

-- ---- so what was told stays told
told_more : (messages new : List (Sent Message)) (names : Named) → WasTold messages names → WasTold (messages ++ new) names
told_more messages new names (inl nothing) = inl nothing
told_more messages new names (inr told) = inr (any_left (IsPartOf names) messages new told)

state_more : (messages new : List (Sent Message)) (s : Replica) → HasGoodTables (WasTold messages) s → HasGoodTables (WasTold (messages ++ new)) s
state_more messages new s g = good_more (told_more messages new) s g

-- ---- a part that is handed was sent
part_told : (from to : ℕ) (names : Named) (term : ℕ) (part : TablePart) (messages : List (Sent Message)) → AnyByRecursion (λ (s : Sent Message). s ≡ record { from = from; to = to; message = record { msg = Part term part; names = names } }) messages → AnyByRecursion (IsPartOf names) messages
part_told from to names term part [] any = absurd any
part_told from to names term part (m ∷ messages) (inl here) = inl (subst (IsPartOf names) (sym here) refl)
part_told from to names term part (m ∷ messages) (inr there) = inr (part_told from to names term part messages there)

module _ (messages : List (Sent Message)) (from to : ℕ) (names : Named) where
  msg_told : (msg : PeerMsg) → AnyByRecursion (λ (s : Sent Message). s ≡ record { from = from; to = to; message = record { msg = msg; names = names } }) messages → TakesOf (WasTold messages) names msg
  msg_told (Part term part) sent = inr (part_told from to names term part messages sent)
  msg_told other sent = tt

module _ (link : Link) where
  -- ---- one call of an enclave
  called_true : (messages : List (Sent Message)) (e : Enclave) → Throughout (HasGoodTables (WasTold messages)) e → (input : HostInput Message) → WasSent messages input → Enclosed (TrueCall link (WasTold messages)) e (called link e input)
  called_true messages e g input sent = call_keeps link e (λ input. TakesIn (WasTold messages)) (λ k. Unit {0}) (λ input. TrueCall link (WasTold messages))
      (record {
        stays = λ why x. record { sends = g.now; true = tt };
        steps = λ input told x. step_true link (WasTold messages) e.replica g.now told x;
        rolls = λ k s some x. record { sends = all_get (HasGoodTables (WasTold messages)) e.saved k s some g.saved; true = tt };
      })
      input (told_so input sent)
    where
      told_so : (input : HostInput Message) → WasSent messages input → Handed e (λ input. TakesIn (WasTold messages)) (λ k. Unit {0}) input
      told_so (Peer from to m) sent = msg_told messages from to m.names m.msg sent
      told_so other sent = tt

  started_good : (messages : List (Sent Message)) (hello : Hello) → HasGoodTables (WasTold messages) (started_as hello).replica
  started_good messages (Begin id margin limit voters) = tt
  started_good messages (Learn id linked) = inl refl

  -- ---- one enclave goes on
  module _ (messages : List (Sent Message)) (f : Enclaves) (k : TrueRun link messages f) where
    moves_true : (v : ℕ) (before : Replica) → HasGoodTables (WasTold messages) before → (input : Option (HostInput Message)) (c : Called) → Throughout (HasGoodTables (WasTold messages)) c.enclave → AreTrue link c.call.sent → HandedSent messages input → TrueRun link (messages ++ map (sent_by v) c.call.sent) (moves f v before input c)
    moves_true v before fine input c good truly sent =
        let new : List (Sent Message) = map (sent_by v) c.call.sent in
        let more = state_more messages new in
        record {
          standing = standing_on (λ v. HasGoodTables (WasTold messages)) (λ m. IsTrue link m.message) messages f.running k.standing (λ v. HasGoodTables (WasTold (messages ++ new))) (λ v. more) (λ m. IsTrue link m.message) (λ m h. h)
              v c.enclave (throughout_more (HasGoodTables (WasTold messages)) _ more c.enclave good) new (mailed (λ m. IsTrue link m.message) v c.call.sent truly);
          handed = (
            handed_more messages new input sent,
            all_more (λ (r : Recorded). HandedSent messages r.input) (λ (r : Recorded). HandedSent (messages ++ new) r.input) (λ r h. handed_more messages new r.input h) f.history k.handed,
          );
          found = (
            more before fine,
            all_more (λ (r : Recorded). HasGoodTables (WasTold messages) r.before) (λ (r : Recorded). HasGoodTables (WasTold (messages ++ new)) r.before) (λ r h. more r.before h) f.history k.found,
          );
        }

    start_true : (hello : Hello) → TrueRun link messages (start_enclave f hello)
    start_true hello =
        let good = started_good messages hello in
        subst (λ m. TrueRun link m (start_enclave f hello)) (append-nil messages)
        (moves_true (hello_id hello) (started_as hello).replica good None (newly (started_as hello)) (started_throughout _ hello good) tt tt)

    call_true : (v : ℕ) (e : Enclave) (input : HostInput Message) → value_at f.running v ≡ Some e → WasSent messages input → TrueRun link (messages ++ map (sent_by v) (called link e input).call.sent) (moves f v e.replica (Some input) (called link e input))
    call_true v e input is sent =
        let old = k.standing.states v e is in
        let done = called_true messages e old input sent in
        moves_true v e.replica old.now (Some input) (called link e input) (called_throughout _ _ e (called link e input) old done done.call.sends) done.call.true sent

  abbrev TrueWorld : World → Type 0
  TrueWorld w = TrueRun link w.messages w.field

  was_sent : (w : World) (v : ℕ) (h : Handing w v) → WasSent w.messages (handed h)
  was_sent w v (Delivered k m is to) = among_numbered w.messages k m is
  was_sent w v other = tt

  survives : Survives link (λ w. Unit {0}) TrueWorld
  survives = record {
    counted = λ w e k. k;
    begun = λ w limit margin voters c known unset made k. walk.starts_all_keep link (TrueRun link w.messages) c limit c.voters (λ v f among k. start_true w.messages f k (Begin v c.margin limit c.voters)) w.field k;
    started = λ w setup x set new k. start_true w.messages w.field k (Learn (suc x) w.running);
    called = λ w v h e is k. call_true w.messages w.field k v e (handed h) is (was_sent w v h);
    -- a roll is a call like any other
    rolled = λ w v j e s is some k. subst (λ o. TrueWorld (after_call w v e (Roll j) (rolls_to e j o))) some (call_true w.messages w.field k v e (Roll j) is tt);
    stopped = λ w v k. record { standing = standing_stopped _ _ w.messages w.field.running k.standing v; handed = k.handed; found = k.found };
    sorted = λ w lost waiting k. k;
    wanted = λ w client want core is k. k;
    heard = λ w client j a core is its has k. k;
  }

  pub run_true : (events : List Event) → TrueRun link (run link events).messages (run link events).field
  run_true events = walk.run_keeps link (λ w. Unit {0}) TrueWorld (λ w k. tt) survives (record { standing = nothing_stands _ _; handed = tt; found = tt }) events
