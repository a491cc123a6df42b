-- Every run keeps what it keeps of one client.
use Rattle.std.proofs.Common.{◌≡◌, ℕ, inl, inr, suc, not, true, false, Option, Some, None, Ok, List, [], ◌∷◌, ◌++◌, map, sym, ap, ◌∙◌, subst}
use Rattle.std.specs.Prelude.{unwrap_or}
use Rattle.std.specs.List.{AllByRecursion}
use Rattle.std.proofs.lemmas.Bool.{cases_Bool}
use Rattle.std.proofs.lemmas.List.{append-nil}
use Rattle.std.proofs.lemmas.Slice.Eq.{bytes_eq-Decides}
use Rattle.values.specs.declared.event.Event.{Event}
use Rattle.values.specs.declared.ids.ClientId.{ClientId}
use Rattle.values.specs.declared.want.Want.{Want}
use Rattle.schedule_model.specs.Client.{Core, new_core, wanted, heard, said}
use Rattle.replica_model.specs.Path.{Link}
use Rattle.replica_model.specs.Replica.{Replica}
use Rattle.replica_model.specs.Message.{Message}
use Rattle.replica_model.specs.Call.{Call}
use Rattle.group_model.specs.Enclave.{Begin, Learn, Hello, hello_id, HostInput, Roll, Connect, started}
use Rattle.group_model.specs.Enclave as group_enclave
use Rattle.group_model.specs.Group.{Answered, Hearing, answered_by, numbered, core_of, put_core, is_client}
use Rattle.group_model.specs.Run.{Enclaves, World, newly, start_enclave, run}
use Rattle.group_model.specs.Log.{outcomes_in}
use Rattle.group_model.specs.Reports.{Names, IsOnlySaid}
use Rattle.group_model.proofs.Cores.{same_client, client_self, core_of-put_same, core_of-put_other}
use Rattle.log_laws.proofs.History.{with_call}
use Rattle.log_laws.proofs.Moving.{all_numbered}
use Rattle.event_walk.specs.Cases.{Handing, Asked, Said, handed, Survives}
use Rattle.event_walk.proofs.Walk as walk
use Rattle.report_laws.proofs.Kept.{InputSaid, Listed, Follows, call_follows, wanted_follows, heard_follows, stays_follows, say_follows}

abbrev pub core_for : List (ClientId × Core) → ClientId → Core
core_for cores c = unwrap_or (core_of cores c) new_core

module _ (c : ClientId) where
  abbrev pub WorldFollows : World → Type 0
  WorldFollows w = IsOnlySaid w c → Follows c (core_for w.cores c) w.answers w.hearings w.field.history

  abbrev FieldFollows : World → Enclaves → Type 0
  FieldFollows g f = IsOnlySaid g c → Follows c (core_for g.cores c) g.answers g.hearings f.history

  start_follows : (g : World) (f : Enclaves) (hello : Hello) → FieldFollows g f → FieldFollows g (start_enclave f hello)
  start_follows g f hello k = λ only.
      subst (λ a. Follows c (core_for g.cores c) a g.hearings (start_enclave f hello).history) (append-nil g.answers)
      (call_follows c (core_for g.cores c) g.answers g.hearings f.history (k only) (hello_id hello) (started hello).replica None (newly (started hello)).call tt)

module _ (c : ClientId) (g : World) (k : WorldFollows c g) where
  put_follows : (d : ClientId) (core : Core) (hearings : List Hearing) → (d ≡ c → IsOnlySaid g c → Follows c core g.answers hearings g.field.history) → (is_client d c ≡ false → IsOnlySaid g c → Follows c (core_for g.cores c) g.answers hearings g.field.history) → IsOnlySaid g c → Follows c (core_for (put_core g.cores d core) c) g.answers hearings g.field.history
  put_follows d core hearings mine others only = elim (cases_Bool (is_client d c)) [
    | inl is ↦ subst (λ o. Follows c (unwrap_or o new_core) g.answers hearings g.field.history)
        (sym (subst (λ e. core_of (put_core g.cores e core) c ≡ Some core) (sym (same_client d c is)) (core_of-put_same g.cores c core))) (mine (same_client d c is) only)
    | inr not ↦ subst (λ o. Follows c (unwrap_or o new_core) g.answers hearings g.field.history) (sym (core_of-put_other g.cores d c core not)) (others not only)
  ]

  wants : (d : ClientId) (want : Want) (core : Core) → wanted (core_for g.cores d) want ≡ Ok core → WorldFollows c (record g { cores = put_core g.cores d core })
  wants d want core is = put_follows d core g.hearings
      (λ mine only. wanted_follows c (core_for g.cores c) g.answers g.hearings g.field.history (k only) want core (subst (λ e. wanted (core_for g.cores e) want ≡ Ok core) mine is))
      (λ not only. k only)

  module _ (d : ClientId) (j : ℕ) (a : Answered) (core : Core) (is : numbered g.answers j ≡ Some a) (its : is_client a.client d ≡ true) (has : core_of g.cores d ≡ Some core) where
    abbrev hearing : ClientId → Hearing
    hearing e = record { client = e; flight = core.flight; answered = a; report = (heard core a.number a.answer).1 }

    now : d ≡ c → IsOnlySaid g c → Follows c core g.answers g.hearings g.field.history
    now mine only = subst (λ o. Follows c (unwrap_or o new_core) g.answers g.hearings g.field.history) (subst (λ e. core_of g.cores e ≡ Some core) mine has) (k only)

    differ : d ≡ c → is_client d c ≡ false → ⊥
    differ mine not = let t : is_client d c ≡ true = subst (λ e. is_client e c ≡ true) (sym mine) (client_self c) in cc

    hears : WorldFollows c (record g { cores = put_core g.cores d (heard core a.number a.answer).0; hearings = hearing d ∷ g.hearings })
    hears = put_follows d (heard core a.number a.answer).0 (hearing d ∷ g.hearings)
        (λ mine only. subst (λ e. Follows c (heard core a.number a.answer).0 g.answers (hearing e ∷ g.hearings) g.field.history) (sym mine)
        (heard_follows c core g.answers g.hearings g.field.history (now mine only) a (same_client a.client d its ∙ mine) (all_numbered (Listed (outcomes_in g.field.history)) g.answers j a is (k only).listed)))
        (λ not only. stays_follows c (core_for g.cores c) g.answers g.hearings g.field.history (k only) (hearing d) (λ here. absurd (differ here not)))

  -- what a client's own core says is said of it; an ask names its client
  said_handed : (v : ℕ) (h : Handing g v) → IsOnlySaid g c → InputSaid c (core_for g.cores c).last (core_for g.cores c).flight (Some (handed h))
  said_handed v (Asked client number request before is) only = λ mine. absurd ((subst (AllByRecursion (λ e. ¬ (Names c e))) is only).0 mine)
  said_handed v (Said client core number request has says) only = λ mine.
      say_follows c (core_for g.cores c) g.answers g.hearings g.field.history (k only) number request
      (subst (λ e. said (core_for g.cores e) ≡ Some (number, request)) mine (ap (λ o. said (unwrap_or o new_core)) has ∙ says))
  said_handed v other only = tt

  -- a call of which that is said
  calls : (v : ℕ) (before : Replica) (input : Option (HostInput Message)) (call : Call) → (IsOnlySaid g c → InputSaid c (core_for g.cores c).last (core_for g.cores c).flight input) → IsOnlySaid g c → Follows c (core_for g.cores c) (g.answers ++ map (answered_by v) call.batch.answers) g.hearings (with_call g.field.history v before input call)
  calls v before input call x only = call_follows c (core_for g.cores c) g.answers g.hearings g.field.history (k only) v before input call (x only)

survives : (c : ClientId) (link : Link) → Survives link (λ w. Unit {0}) (WorldFollows c)
survives c link = record {
  counted = λ w e k only. k only.1;
  begun = λ w limit margin voters d known unset made k. walk.starts_all_keep link (FieldFollows c w) d limit d.voters (λ v f among. start_follows c w f (Begin v d.margin limit d.voters)) w.field k;
  started = λ w setup x set new k. start_follows c w w.field (Learn (suc x) w.running) k;
  called = λ w v h e is k. calls c w k v e.replica (Some (handed h)) (group_enclave.called link e (handed h)).call (said_handed c w k v h);
  rolled = λ w v j e s is some k. calls c w k v e.replica (Some (Roll j)) (group_enclave.rolls_to e j (Some s)).call (λ only. tt);
  stopped = λ w v k. k;
  sorted = λ w lost waiting k. k;
  wanted = λ w d want core is k. wants c w k d want core is;
  heard = λ w d j a core is its has k. hears c w k d j a core is its has;
}

-- in every run
pub run_follows : (c : ClientId) (link : Link) (events : List Event) → WorldFollows c (run link events)
run_follows c link events = walk.run_keeps link (λ w. Unit {0}) (WorldFollows c) (λ w k. tt) (survives c link) (λ only. record { fits = tt; said = tt; listed = tt; heard = tt; began = tt }) events
