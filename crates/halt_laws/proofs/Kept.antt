-- Each run without a rollback and without a collision stands beside the machine, and so has its laws.
use Rattle.std.proofs.Common.{◌≡◌, ℕ, suc, Bool, true, false, inl, inr, Option, Some, None, Ok, List, [], ◌∷◌, ◌++◌, map, refl, sym, ap, subst, arith}
use Rattle.std.specs.List.{AllByRecursion}
use Rattle.std.proofs.lemmas.Option.{none-some, same_Some}
use Rattle.values.specs.declared.event.Event.{Event}
use Rattle.group_quorum.specs.Conf.{Conf}
use Rattle.group_quorum.specs.Voters.{conf_of, is_in}
use Rattle.replica_model.specs.Path.{Path, Link}
use Rattle.replica_model.specs.Keyed.{value_at}
use Rattle.replica_model.specs.Replica.{Replica, learner}
use Rattle.replica_model.specs.Message.{Message}
use Rattle.replica_model.specs.Call.{Call, still}
use Rattle.group_model.specs.Enclave.{Learn, HostInput, Peer, Enclave, called}
use Rattle.group_model.specs.Group.{Setup, sent_by}
use Rattle.group_model.specs.Happens as happening
use Rattle.group_model.specs.Run.{Recorded, Enclaves, World, moves, no_enclaves, start_enclave, enclaves, run}
use Rattle.group_model.specs.Log.{AnyByRecursion, IsFrontOf, NoCollision, state_of}
use Rattle.group_model.specs.Halts.{LedIn, HoldsEnough, PromiseLies, HaltLaws, NoHalt}
use Rattle.log_laws.proofs.Chain.{NoCollisionIn}
use Rattle.log_laws.proofs.History.{with_call, HeldIn, all_more, none_larger}
use Rattle.log_laws.proofs.Moving.{all_numbered}
use Rattle.event_walk.specs.Cases.{Handing, Delivered, NoState, handed, HasBegun, Survives}
use Rattle.event_walk.proofs.Walk as walk
use Rattle.path_machine.specs.Machine.{Machine, In}
use Rattle.path_machine.specs.Laws as machine
use Rattle.path_machine.specs.Changes.{is_rising, is_single_change}
use Rattle.path_machine.proofs.Rising.{made_rises}
use Rattle.halt_laws.proofs.Moving.{EnoughIn, MailFits, Recounted, Simulated, stopped_simulated}
use Rattle.halt_laws.proofs.Stepping.{HostInputFits}
use Rattle.halt_laws.proofs.Events.{called_simulated, learner_simulated}
use Rattle.halt_laws.proofs.Begun.{begun, made_ids}

-- what the world keeps, where nothing collided and nobody was rolled back
record KeptWorld (link : Link) (w : World) : Type 0 where
  rising : (setup : Setup) → w.setup ≡ Some setup → is_rising setup.first.voters ≡ true
  kept : NoCollisionIn link (HeldIn w.field.history) → w.rolled ≡ [] → (setup : Setup) → w.setup ≡ Some setup → Simulated link setup.first (is_in setup.first.voters) w.started w.messages w.field

module _ (link : Link) (w : World) (k : KeptWorld link w) where
  begins : (limit margin : ℕ) (voters : List ℕ) (c : Conf) → conf_of margin voters ≡ Ok c → HasBegun w → w.setup ≡ None → Simulated link c (is_in c.voters) c.voters w.messages (happening.starts_all (enclaves link) w.field c limit c.voters)
  begins limit margin voters c made known unset =
      let early = known unset in
      subst (λ (f : Enclaves). Simulated link c (is_in c.voters) c.voters w.messages (happening.starts_all (enclaves link) f c limit c.voters)) (sym early.0)
      (subst (λ m. Simulated link c (is_in c.voters) c.voters m (happening.starts_all (enclaves link) no_enclaves c limit c.voters)) (sym early.1)
      (begun link c limit (made_rises margin voters c made) (made_ids margin voters c made)))

  -- a run beside the machine up to the last call, where there is no collision now
  before_call : (v : ℕ) (before : Replica) (input : Option (HostInput Message)) (call : Call) → NoCollisionIn link (HeldIn (with_call w.field.history v before input call)) → w.rolled ≡ [] → (setup : Setup) → w.setup ≡ Some setup → Simulated link setup.first (is_in setup.first.voters) w.started w.messages w.field
  before_call v before input call none = k.kept (none_larger link (HeldIn w.field.history) (HeldIn (with_call w.field.history v before input call)) (λ p h. inr h) none)

  -- what is handed stands beside what was sent
  fits_handed : (first : Conf) (holds : ℕ → Bool) (old : Simulated link first holds w.started w.messages w.field) (v : ℕ) (h : Handing w v) (e : Enclave) → value_at w.field.running v ≡ Some e → HostInputFits link first (HeldIn w.field.history) old.machine.history.messages v e (handed h)
  fits_handed first holds old v (Delivered j m is to) e runs =
      subst (λ u. HostInputFits link first (HeldIn w.field.history) old.machine.history.messages u e (Peer m.from m.to m.message)) (sym to)
      (all_numbered (MailFits link first w.field.history old.machine.history.messages) w.messages j m is old.mail)
  fits_handed first holds old v (NoState j none) e runs = none e runs
  fits_handed first holds old v other e runs = tt

  module _ (setup : Setup) (set : w.setup ≡ Some setup) (unrolled : w.rolled ≡ []) where
    abbrev first : Conf
    first = setup.first

    abbrev holds : ℕ → Bool
    holds = is_in setup.first.voters

    starts : (x : ℕ) → is_in w.started (suc x) ≡ false → NoCollisionIn link (HeldIn (with_call w.field.history (suc x) (learner (suc x)) None (still (learner (suc x))))) → Simulated link first holds (suc x ∷ w.started) w.messages (start_enclave w.field (Learn (suc x) w.running))
    starts x new none =
        learner_simulated link first holds w.started w.messages w.field (before_call (suc x) (learner (suc x)) None (still (learner (suc x))) none unrolled setup set) (suc x) w.running new (omega arith)

    calls : (v : ℕ) (h : Handing w v) (e : Enclave) → value_at w.field.running v ≡ Some e → NoCollisionIn link (HeldIn (with_call w.field.history v e.replica (Some (handed h)) (called link e (handed h)).call)) → Simulated link first holds w.started (w.messages ++ map (sent_by v) (called link e (handed h)).call.sent) (moves w.field v e.replica (Some (handed h)) (called link e (handed h)))
    calls v h e is none =
        let old = before_call v e.replica (Some (handed h)) (called link e (handed h)).call none unrolled setup set in
        called_simulated link first holds w.started w.messages w.field old (k.rising setup set) v e (handed h) is (fits_handed first holds old v h e is) none

survives : (link : Link) → Survives link HasBegun (KeptWorld link)
survives link = record {
  counted = λ w e k. record { rising = k.rising; kept = k.kept };
  begun = λ w limit margin voters c early unset made k. record {
    rising = λ setup is. subst (λ (s : Setup). is_rising s.first.voters ≡ true) (same_Some (record { limit = limit; first = c }) setup is) (made_rises margin voters c made);
    kept = λ none unrolled setup is. subst (λ (s : Setup). Simulated link s.first (is_in s.first.voters) c.voters w.messages (happening.starts_all (enclaves link) w.field c limit c.voters)) (same_Some (record { limit = limit; first = c }) setup is) (begins link w k limit margin voters c made early unset);
  };
  started = λ w setup x set new k. record { rising = k.rising; kept = λ none unrolled s is. starts link w k s is unrolled x new none };
  called = λ w v h e is k. record { rising = k.rising; kept = λ none unrolled s set. calls link w k s set unrolled v h e is none };
  -- a roll that is accepted makes its replica a rolled-back one
  rolled = λ w v j e s is some k. record { rising = k.rising; kept = λ none rolls. absurd (let apart : v ∷ w.rolled ≡ [] = rolls in cc) };
  stopped = λ w v k. record { rising = k.rising; kept = λ none unrolled s set. stopped_simulated link s.first (is_in s.first.voters) w.started w.messages w.field (k.kept none unrolled s set) v };
  sorted = λ w lost waiting k. record { rising = k.rising; kept = k.kept };
  wanted = λ w client want core is k. record { rising = k.rising; kept = k.kept };
  heard = λ w client j a core is its has k. record { rising = k.rising; kept = k.kept };
}

run_kept : (link : Link) (events : List Event) → HasBegun (run link events) × KeptWorld link (run link events)
run_kept link events = walk.begun_keeps link (KeptWorld link) (survives link)
    (record { rising = λ setup is. absurd (none-some setup is); kept = λ none unrolled setup is. absurd (none-some setup is) }) events

module _ (m : Machine) (Enough : ℕ → Path → Type 0) where
  -- who led is recorded
  led_there : (t v : ℕ) (history : List Recorded) → AllByRecursion (Recounted m Enough) history → AnyByRecursion (λ (r : Recorded). (r.replica ≡ v) × LedIn t r) history → (p : Path) × In (record { term = t; leader = v; path = p }) m.leads
  led_there t v [] all h = absurd h
  led_there t v (r ∷ history) all (inr h) = led_there t v history all.1 h
  led_there t v (r ∷ history) all (inl (is, inl told)) =
      let x = all.0.led t told in
      (x.0, subst (λ u. In (record { term = t; leader = u; path = x.0 }) m.leads) is x.1)
  led_there t v (r ∷ history) all (inl (is, inr leads)) =
      ((state_of r).path, subst (λ u. In (record { term = t; leader = u; path = (state_of r).path }) m.leads) is (subst (λ n. In (record { term = n; leader = r.replica; path = (state_of r).path }) m.leads) leads.1 (all.0.leads leads.0)))

  -- what was held is recorded
  held_there : (p : Path) (history : List Recorded) → AllByRecursion (Recounted m Enough) history → AnyByRecursion (λ r. IsFrontOf p (state_of r).path) history → machine.Held m p
  held_there p [] all h = absurd h
  held_there p (r ∷ history) all (inl h) = ((state_of r).path, all.0.held, h)
  held_there p (r ∷ history) all (inr h) = held_there p history all.1 h

-- a run beside the machine has its laws
simulated_laws : machine.LawsOfRuns is_single_change → (link : Link) (w : World) (setup : Setup) → Simulated link setup.first (is_in setup.first.voters) w.started w.messages w.field → HaltLaws w
simulated_laws hold link w setup k =
    let laws : machine.MachineLaws setup.first is_single_change k.machine =
    subst (machine.MachineLaws setup.first is_single_change) k.reached.1 (hold setup.first (is_in setup.first.voters) k.reached.0) in
    record {
      one_leader = λ t u v hu hv.
          let a = led_there k.machine (EnoughIn w.field.history) t u w.field.history k.recounted hu in
          let b = led_there k.machine (EnoughIn w.field.history) t v w.field.history k.recounted hv in
          laws.one_leader (record { term = t; leader = u; path = a.0 }) (record { term = t; leader = v; path = b.0 }) a.1 b.1 refl;
      log_matching = λ p q a b hp hq. laws.log_matching p q a b (held_there k.machine (EnoughIn w.field.history) (p ++ a ∷ []) w.field.history k.recounted hp) (held_there k.machine (EnoughIn w.field.history) (q ++ b ∷ []) w.field.history k.recounted hq);
      leader_completeness = all_more (Recounted k.machine (EnoughIn w.field.history)) (HoldsEnough w)
          (λ r x t p was so later. laws.leader_completeness (record { term = (state_of r).term; leader = r.replica; path = (state_of r).path }) t p (x.leads so) (k.enough (record { term = t; path = p }) was) later)
          w.field.history k.recounted;
      promises_lie = all_more (Recounted k.machine (EnoughIn w.field.history)) (PromiseLies w) (λ r x. x.lies) w.field.history k.recounted;
      no_halt = all_more (Recounted k.machine (EnoughIn w.field.history)) (λ r. (state_of r).halted ≡ None) (λ r x. x.awake) w.field.history k.recounted;
      no_halt_told = all_more (Recounted k.machine (EnoughIn w.field.history)) (λ (r : Recorded). r.call.batch.halt ≡ None) (λ r x. x.untold) w.field.history k.recounted;
    }

-- where nothing has happened
nothing_laws : (w : World) → w.field.history ≡ [] → HaltLaws w
nothing_laws w empty = record {
  one_leader = λ t u v hu hv. absurd (subst (λ h. AnyByRecursion (λ (r : Recorded). (r.replica ≡ u) × LedIn t r) h) empty hu);
  log_matching = λ p q a b hp hq. absurd (subst (λ h. AnyByRecursion (λ r. IsFrontOf (p ++ a ∷ []) (state_of r).path) h) empty hp);
  leader_completeness = subst (AllByRecursion (HoldsEnough w)) (sym empty) tt;
  promises_lie = subst (AllByRecursion (PromiseLies w)) (sym empty) tt;
  no_halt = subst (AllByRecursion (λ r. (state_of r).halted ≡ None)) (sym empty) tt;
  no_halt_told = subst (AllByRecursion (λ (r : Recorded). r.call.batch.halt ≡ None)) (sym empty) tt;
}

kept_laws : machine.LawsOfRuns is_single_change → (link : Link) (w : World) → HasBegun w → KeptWorld link w → w.rolled ≡ [] → NoCollision link w → HaltLaws w
kept_laws hold link w early k unrolled none = by_setup w.setup refl
  where
    by_setup : (o : Option Setup) → w.setup ≡ o → HaltLaws w
    by_setup None unset = nothing_laws w (ap (λ (f : Enclaves). f.history) (early unset).0)
    by_setup (Some setup) set = simulated_laws hold link w setup (k.kept none unrolled setup set)

pub no_halt_of : machine.LawsOfRuns is_single_change → NoHalt
no_halt_of hold link events unrolled none = kept_laws hold link (run link events) (run_kept link events).0 (run_kept link events).1 unrolled none
