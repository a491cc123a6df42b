-- Each run keeps what a run keeps, and so has one log.
use Rattle.std.proofs.Common.{◌≡◌, ℕ, suc, ◌==◌, false, inl, inr, Option, Some, None, List, [], ◌∷◌, ◌++◌, refl, sym, ap, subst}
use Rattle.std.specs.Prelude.{map, unwrap_or, IfSome}
use Rattle.std.specs.List.{AllByRecursion}
use Rattle.std.proofs.lemmas.Bool.{or_left, eq-eqb}
use Rattle.std.proofs.lemmas.Option.{none-some}
use Rattle.values.specs.declared.entry.Body.TheVariants.{Members}
use Rattle.values.specs.declared.event.Event.{Event}
use Rattle.group_quorum.specs.Conf.{Conf}
use Rattle.group_quorum.specs.Sharing.{QuorumsOutlast, CountsOverlap}
use Rattle.group_quorum.specs.Voters.{is_in}
use Rattle.replica_model.specs.Path.{Path, Link}
use Rattle.replica_model.specs.Keyed.{value_at}
use Rattle.replica_model.specs.Replica.{Replica, learner}
use Rattle.replica_model.specs.Message.{Message}
use Rattle.replica_model.specs.Call.{Call, still}
use Rattle.group_model.specs.Enclave.{Begin, Learn, HostInput, Roll, Enclave, called}
use Rattle.group_model.specs.Group.{Setup}
use Rattle.group_model.specs.Happens as happening
use Rattle.group_model.specs.Run.{Enclaves, World, no_enclaves, start_enclave, enclaves, run}
use Rattle.group_model.specs.Log.{setup_of, state_of, committed_path, fronts_of, log_of, WithinBound, NoCollision, IsFrontOf}
use Rattle.agreement.specs.Promised.{EachPlacePromised, Bears}
use Rattle.agreement.proofs.Promised.{agree_each, each_nil}
use Rattle.log_laws.specs.OneLog.{IsOneLog}
use Rattle.log_laws.proofs.Chain.{NoCollisionIn}
use Rattle.log_laws.proofs.History.{with_call, EverIn, HeldIn, ever_shorter, promised_held, none_larger, begin_longest}
use Rattle.log_laws.proofs.Enclosed.{GoodHostInput}
use Rattle.log_laws.proofs.Standing.{nothing_stands}
use Rattle.log_laws.proofs.Moving.{KeptRun, GoodMail, all_numbered, none_promised, started_more, stopped_kept, called_kept, rolled_kept, start_kept}
use Rattle.event_walk.specs.Cases.{Handing, Delivered, NoState, handed, HasBegun, Survives}
use Rattle.event_walk.proofs.Walk as walk

-- nothing is kept of nothing
empty_kept : (link : Link) (first : Conf) (rolled started : List ℕ) → KeptRun link first rolled started [] no_enclaves
empty_kept link first rolled started = record {
  standing = nothing_stands _ _;
  used = λ v e is. absurd (none-some e is);
  recorded = tt;
  latest = λ v e free is p ever. absurd ever;
  one_path = λ v p q free a b. absurd a;
  fronts = tt;
}

front_of_nil : (p : Path) → IsFrontOf p [] → p ≡ []
front_of_nil [] pre = refl
front_of_nil (e ∷ p) pre = absurd (let no : e ∷ (p ++ pre.0) ≡ [] = pre.1 in cc)

-- the voters start, and promise nothing
voters_kept : (link : Link) (c : Conf) (limit : ℕ) (rolled : List ℕ) → KeptRun link c rolled c.voters [] (happening.starts_all (enclaves link) no_enclaves c limit c.voters)
voters_kept link c limit rolled =
    (walk.starts_all_keep link (λ f. KeptRun link c rolled c.voters [] f × ((u : ℕ) (p : Path) → EverIn f.history u p → p ≡ [])) c limit c.voters
    (λ v f among k. (
      start_kept link c rolled c.voters [] f k.0 (Begin v c.margin limit c.voters) refl c.voters (λ u h. h) among (λ p ever. k.1 v p ever),
      λ u p ever. elim ever [ inl e ↦ front_of_nil p e.1 | inr old ↦ k.1 u p old ],
    ))
    no_enclaves (empty_kept link c rolled c.voters, λ u p ever. absurd ever)).0

-- what a world keeps
abbrev pub KeptWorld : Link → World → Type 0
KeptWorld link w = KeptRun link (setup_of w).first w.rolled w.started w.messages w.field

-- without a collision in all that was ever held
abbrev KeptSo : Link → World → Type 0
KeptSo link w = NoCollisionIn link (HeldIn w.field.history) → KeptWorld link w

module _ (link : Link) (w : World) (k : KeptSo link w) where
  abbrev first : Conf
  first = (setup_of w).first

  -- without a collision now there was none before the last call
  before_call : (v : ℕ) (before : Replica) (input : Option (HostInput Message)) (call : Call) → NoCollisionIn link (HeldIn (with_call w.field.history v before input call)) → KeptWorld link w
  before_call v before input call none = k (none_larger link (HeldIn w.field.history) (HeldIn (with_call w.field.history v before input call)) (λ p h. inr h) none)

  begins : (c : Conf) (limit : ℕ) → w.field ≡ no_enclaves → w.messages ≡ [] → KeptRun link c w.rolled c.voters w.messages (happening.starts_all (enclaves link) w.field c limit c.voters)
  begins c limit none unsent =
      subst (λ (f : Enclaves). KeptRun link c w.rolled c.voters w.messages (happening.starts_all (enclaves link) f c limit c.voters)) (sym none)
      (subst (λ m. KeptRun link c w.rolled c.voters m (happening.starts_all (enclaves link) no_enclaves c limit c.voters)) (sym unsent) (voters_kept link c limit w.rolled))

  starts : (x : ℕ) → is_in w.started (suc x) ≡ false → KeptWorld link w → KeptRun link first w.rolled (suc x ∷ w.started) w.messages (start_enclave w.field (Learn (suc x) w.running))
  starts x new old =
      start_kept link first w.rolled w.started w.messages w.field old (Learn (suc x) w.running) tt (suc x ∷ w.started) (λ u. started_more w.started (suc x) u) (or_left (suc x == suc x) (is_in w.started (suc x)) (eq-eqb (suc x) (suc x) refl)) (λ p ever. absurd (none_promised w.field.history w.started (suc x) p new old.recorded ever))

  good_handed : KeptWorld link w → (v : ℕ) (h : Handing w v) (e : Enclave) → value_at w.field.running v ≡ Some e → GoodHostInput link first (EverIn w.field.history) (HeldIn w.field.history) e (handed h)
  good_handed old v (Delivered j m is to) e runs = all_numbered (GoodMail link first w.field.history) w.messages j m is old.standing.mail
  good_handed old v (NoState j none) e runs = none e runs
  good_handed old v other e runs = tt

survives : (link : Link) → Survives link HasBegun (KeptSo link)
survives link = record {
  counted = λ w e k. k;
  begun = λ w limit margin voters c early unset made k none. begins link w k c limit (early unset).0 (early unset).1;
  started = λ w setup x set new k none. starts link w k x new (before_call link w k (suc x) (learner (suc x)) None (still (learner (suc x))) none);
  called = λ w v h e is k none.
      let old = before_call link w k v e.replica (Some (handed h)) (called link e (handed h)).call none in
      called_kept link (setup_of w).first w.rolled w.started w.messages w.field old v e (handed h) is (good_handed link w k old v h e is) none;
  rolled = λ w v j e s is some k none. rolled_kept link (setup_of w).first w.rolled w.started w.messages w.field (before_call link w k v e.replica (Some (Roll j)) (still s) none) v j e s is some;
  stopped = λ w v k none. stopped_kept link (setup_of w).first w.rolled w.started w.messages w.field (k none) v;
  sorted = λ w lost waiting k. k;
  wanted = λ w client want core is k. k;
  heard = λ w client j a core is its has k. k;
}

run_begun : (link : Link) (events : List Event) → HasBegun (run link events) × KeptSo link (run link events)
run_begun link events = walk.begun_keeps link (KeptSo link) (survives link) (λ none. empty_kept link _ [] []) events

pub run_kept : (link : Link) (events : List Event) → NoCollision link (run link events) → KeptWorld link (run link events)
run_kept link events none = (run_begun link events).1 none

-- where nothing has begun there is one log, and else by what is kept
kept_one_log : QuorumsOutlast → CountsOverlap → (link : Link) (w : World) → HasBegun w → KeptWorld link w → WithinBound w → IsOneLog w
kept_one_log outlast overlap link w begun k bound = by_setup w.setup refl
  where
    agreeing : Bears (is_in w.rolled) (setup_of w).first → IsOneLog w
    agreeing bears =
        begin_longest (EachPlacePromised (setup_of w).first (EverIn w.field.history)) (each_nil (setup_of w).first (EverIn w.field.history))
        (agree_each outlast overlap (setup_of w).first (is_in w.rolled) (EverIn w.field.history)
        (record {
          shorter = ever_shorter w.field.history;
          one_path = k.one_path;
          first_bears = bears;
          gained_bear = λ v p term margin voters ever. bound.gained p term margin voters (promised_held w.field.history v (p ++ record { term = term; body = Members margin voters } ∷ []) ever);
        }))
        (fronts_of w) k.fronts

    by_setup : (o : Option Setup) → w.setup ≡ o → IsOneLog w
    by_setup None unset = subst (λ h. AllByRecursion (λ p. IsFrontOf p (log_of w)) (map (λ r. committed_path (state_of r)) h)) (sym (ap (λ (f : Enclaves). f.history) (begun unset).0)) tt
    by_setup (Some setup) set =
        let bears : Bears (is_in w.rolled) setup.first = subst (λ o. IfSome o (λ (x : Setup). Bears (is_in w.rolled) x.first)) set bound.first in
        agreeing (subst (λ o. Bears (is_in w.rolled) (unwrap_or {T = Setup} o (record { limit = 0; first = record { margin = 0; voters = [] } })).first) (sym set) bears)

pub one_log_of : QuorumsOutlast → CountsOverlap → (link : Link) (events : List Event) → WithinBound (run link events) → NoCollision link (run link events) → IsOneLog (run link events)
one_log_of outlast overlap link events bound none = kept_one_log outlast overlap link (run link events) (run_begun link events).0 (run_kept link events none) bound
