-- Every run keeps what it keeps of tickets and outcomes, whatever is rolled back.
use Rattle.std.proofs.Common.{◌≡◌, ℕ, suc, Some, List, [], refl, sym, subst}
use Rattle.group_quorum.specs.Conf.{Conf}
use Rattle.values.specs.declared.event.Event.{Event}
use Rattle.replica_model.specs.Path.{Link}
use Rattle.replica_model.specs.Keyed.{value_at}
use Rattle.group_model.specs.Enclave.{Begin, Learn, Enclave}
use Rattle.group_model.specs.Happens as happening
use Rattle.group_model.specs.Run.{World, no_enclaves, enclaves, run}
use Rattle.group_model.specs.Laws.{limit_of}
use Rattle.log_laws.proofs.Moving.{all_numbered}
use Rattle.event_walk.specs.Cases.{Handing, Delivered, NoState, handed, HasBegun, Survives}
use Rattle.event_walk.proofs.Walk as walk
use Rattle.log_laws.proofs.Standing.{nothing_stands}
use Rattle.outcome_laws.proofs.Moved.{MailTold, FairRun, FairHostInput, stopped_fair, call_kept, rolled_kept, start_kept}

abbrev pub FairWorld : World → Type 0
FairWorld w = FairRun (limit_of w) w.messages w.field

nothing_fair : (limit : ℕ) → FairRun limit [] no_enclaves
nothing_fair limit = record { standing = nothing_stands _ _; outcomes = tt; due = tt }

-- the voters start with the run's limit
begins : (link : Link) (w : World) (c : Conf) (limit : ℕ) → w.field ≡ no_enclaves → w.messages ≡ [] → FairRun limit w.messages (happening.starts_all (enclaves link) w.field c limit c.voters)
begins link w c limit none unsent =
    walk.starts_all_keep link (FairRun limit w.messages) c limit c.voters (λ v f among k. start_kept limit w.messages f k (Begin v c.margin limit c.voters) refl) w.field
    (subst (λ f. FairRun limit w.messages f) (sym none) (subst (λ m. FairRun limit m no_enclaves) (sym unsent) (nothing_fair limit)))

fair_handed : (w : World) → FairWorld w → (v : ℕ) (h : Handing w v) (e : Enclave) → value_at w.field.running v ≡ Some e → FairHostInput (limit_of w) e (handed h)
fair_handed w k v (Delivered j m is to) e runs = all_numbered (MailTold (limit_of w)) w.messages j m is k.standing.mail
fair_handed w k v (NoState j none) e runs = none e runs
fair_handed w k v other e runs = tt

survives : (link : Link) → Survives link HasBegun FairWorld
survives link = record {
  counted = λ w e k. k;
  begun = λ w limit margin voters c early unset made k. begins link w c limit (early unset).0 (early unset).1;
  started = λ w setup x set new k. start_kept (limit_of w) w.messages w.field k (Learn (suc x) w.running) tt;
  called = λ w v h e is k. call_kept (limit_of w) w.messages w.field k link v e (handed h) is (fair_handed w k v h e is);
  rolled = λ w v j e s is some k. rolled_kept (limit_of w) w.messages w.field k v j e s is some;
  stopped = λ w v k. stopped_fair (limit_of w) w.messages w.field k v;
  sorted = λ w lost waiting k. k;
  wanted = λ w client want core is k. k;
  heard = λ w client j a core is its has k. k;
}

-- in every run
pub run_fair : (link : Link) (events : List Event) → FairWorld (run link events)
run_fair link events = (walk.begun_keeps link FairWorld (survives link) (nothing_fair _) events).1
