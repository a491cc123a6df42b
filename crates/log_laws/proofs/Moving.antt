-- What a run keeps, and that it is kept where one replica moves.
use Rattle.std.proofs.Common.{◌≡◌, ℕ, Bool, true, false, ◌==◌, ◌||◌, inl, inr, Option, Some, None, List, [], ◌∷◌, ◌++◌, zero, suc, slice_get, refl, sym, ap, subst, arith}
use Rattle.std.specs.Prelude.{map}
use Rattle.std.specs.List.{AllByRecursion}
use Rattle.std.proofs.lemmas.Bool.{cases_eq, or_parts, eq-eqb, both_ways}
use Rattle.std.proofs.lemmas.Option.{none-some}
use Rattle.std.proofs.lemmas.List.{append-nil}
use Rattle.values.specs.declared.entry.LogEntry.{LogEntry}
use Rattle.group_quorum.specs.Conf.{Conf}
use Rattle.group_quorum.specs.Voters.{is_in}
use Rattle.replica_model.specs.Path.{Path, Link}
use Rattle.replica_model.specs.Keyed.{value_at, without}
use Rattle.replica_model.specs.Replica.{Replica}
use Rattle.replica_model.specs.Message.{Message}
use Rattle.replica_model.specs.Call.{Call, still}
use Rattle.group_model.specs.Enclave.{Hello, Begin, Learn, hello_id, HostInput, Roll, Enclave, Called, called}
use Rattle.group_model.specs.Enclave.{started as started_as}
use Rattle.group_model.specs.Group.{Sent, numbered, sent_by}
use Rattle.group_model.specs.Run.{Recorded, Enclaves, moves, newly, start_enclave}
use Rattle.group_model.specs.Log.{state_of, committed_path, promised_path}
use Rattle.group_model.specs.Log.{IsFrontOf}
use Rattle.agreement.specs.Promised.{IsComparable}
use Rattle.agreement.specs.Promised.{EachPlacePromised}
use Rattle.agreement.proofs.Promised.{each_more, each_nil}
use Rattle.log_laws.proofs.Chain.{NoCollisionIn}
use Rattle.log_laws.proofs.Good.{GoodPath, GoodReplica, GoodMessage, replica_more, msg_more, front_refl}
use Rattle.log_laws.proofs.Leading.{begins}
use Rattle.log_laws.proofs.Lookups.{without_stood}
use Rattle.log_laws.proofs.History.{with_call, EverIn, HeldIn, ever_shorter, held_shorter, all_more, both_fronts}
use Rattle.log_laws.proofs.Enclosed.{GoodHostInput, input_more, called_good}
use Rattle.log_laws.proofs.Standing.{Throughout, Standing, started_throughout, throughout_more, called_throughout, goes_on, mailed, standing_on, standing_stopped}

abbrev pub GoodMail : Link → Conf → List Recorded → Sent Message → Type 0
GoodMail link first history m = GoodMessage link first (EverIn history) (HeldIn history) m.from m.message

-- what a run keeps: of who was rolled back and who was ever started, of all messages, and of the enclaves with their history
pub record KeptRun (link : Link) (first : Conf) (rolled started : List ℕ) (messages : List (Sent Message)) (f : Enclaves) : Type 0 where
  pub standing : Standing (GoodReplica first (EverIn f.history) (HeldIn f.history)) (GoodMail link first f.history) messages f.running
  pub used : (v : ℕ) (e : Enclave) → value_at f.running v ≡ Some e → is_in started v ≡ true
  pub recorded : AllByRecursion (λ (r : Recorded). is_in started r.replica ≡ true) f.history
  pub latest : (v : ℕ) (e : Enclave) → is_in rolled v ≡ false → value_at f.running v ≡ Some e → (p : Path) → EverIn f.history v p → IsFrontOf p (promised_path e.replica)
  pub one_path : (v : ℕ) (p q : Path) → is_in rolled v ≡ false → EverIn f.history v p → EverIn f.history v q → IsComparable p q
  pub fronts : AllByRecursion (EachPlacePromised first (EverIn f.history)) (map (λ r. committed_path (state_of r)) f.history)

-- who was never started promised nothing
pub none_promised : (history : List Recorded) (started : List ℕ) (v : ℕ) (p : Path) → is_in started v ≡ false → AllByRecursion (λ (r : Recorded). is_in started r.replica ≡ true) history → EverIn history v p → ⊥
none_promised [] started v p new all h = h
none_promised (r ∷ history) started v p new all (inl h) = both_ways (is_in started v) new (subst (λ x. is_in started x ≡ true) h.0 all.0)
none_promised (r ∷ history) started v p new all (inr h) = none_promised history started v p new all.1 h

-- the same with one more id that was started
pub started_more : (started : List ℕ) (x v : ℕ) → is_in started v ≡ true → is_in (x ∷ started) v ≡ true
started_more started x v h = rw h (or_true (x == v))
  where
    or_true : (b : Bool) → (b || true) ≡ true
    or_true true = refl
    or_true false = refl

pub all_get : {A : Type 0} (P : A → Type 0) (xs : List A) (i : ℕ) (x : A) → slice_get xs i ≡ Some x → AllByRecursion P xs → P x
all_get P [] i x is h = cc
all_get P (y ∷ xs) zero x is h = let same : y ≡ x = cc in subst P same h.0
all_get P (y ∷ xs) (suc i) x is h = all_get P xs i x is h.1

-- as things are numbered, from 1
pub all_numbered : {A : Type 0} (P : A → Type 0) (xs : List A) (k : ℕ) (x : A) → numbered xs k ≡ Some x → AllByRecursion P xs → P x
all_numbered P xs zero x is h = absurd (none-some x is)
all_numbered P xs (suc k) x is h = all_get P xs k x is h

-- a voter is started with the first configuration of the run
abbrev pub IsOf : Conf → Hello → Type 0
IsOf first (Begin id margin limit voters) = record { margin = margin; voters = voters } ≡ first
IsOf first (Learn id linked) = Unit {0}

-- what has just started is good
nothing_good : (first : Conf) (Ever : ℕ → Path → Type 0) → GoodPath first Ever 0 []
nothing_good first Ever = record { safe = each_nil first Ever; older = λ u e z is m h. absurd (nothing u e z is) }
  where
    nothing : (u : Path) (e : LogEntry) (z : Path) → u ++ e ∷ z ≡ [] → ⊥
    nothing [] e z is = cc
    nothing (x ∷ u) e z is = cc

module _ (first : Conf) (history : List Recorded) where
  -- with the call that is its start
  abbrev begun_history : Hello → List Recorded
  begun_history hello = with_call history (hello_id hello) (started_as hello).replica None (still (started_as hello).replica)

  fresh_replica : (hello : Hello) → IsOf first hello → GoodReplica first (EverIn (begun_history hello)) (HeldIn (begun_history hello)) (hello_id hello) (started_as hello).replica
  fresh_replica (Begin id margin limit voters) of_first = record {
    mine = refl;
    state = record { within = omega arith; based = omega arith; fits = omega arith; good = nothing_good first _; acts = of_first };
    held = inl (front_refl []);
    own = inl (refl, front_refl []);
  }
  fresh_replica (Learn id linked) of_first = record {
    mine = refl;
    state = record { within = omega arith; based = omega arith; fits = omega arith; good = nothing_good first _; acts = refl };
    held = inl (front_refl []);
    own = inl (refl, front_refl []);
  }

module _ (link : Link) (first : Conf) (rolled started : List ℕ) (messages : List (Sent Message)) (f : Enclaves) (k : KeptRun link first rolled started messages f) where
  module _ (rolled' : List ℕ) (fewer : (u : ℕ) → is_in rolled' u ≡ false → is_in rolled u ≡ false) (started' : List ℕ) (more : (u : ℕ) → is_in started u ≡ true → is_in started' u ≡ true) (v : ℕ) (before : Replica) (input : Option (HostInput Message)) (c : Called) (same : c.call.state ≡ c.enclave.replica) (new : List (Sent Message)) where
    abbrev history' : List Recorded
    history' = with_call f.history v before input c.call

    abbrev Good : ℕ → Replica → Type 0
    Good = GoodReplica first (EverIn history') (HeldIn history')

    -- one replica goes on to a good state, and sends good messages
    pub moves_kept : Throughout (Good v) c.enclave → is_in started' v ≡ true → AllByRecursion (GoodMail link first history') new → (is_in rolled' v ≡ false → (p : Path) → EverIn f.history v p → IsFrontOf p (promised_path c.enclave.replica)) → KeptRun link first rolled' started' (messages ++ new) (moves f v before input c)
    moves_kept good used sent keeps = record {
      standing = standing_on (GoodReplica first (EverIn f.history) (HeldIn f.history)) (GoodMail link first f.history) messages f.running k.standing Good
          (replica_more first (EverIn f.history) (EverIn history') (λ u p h. inr h) (HeldIn f.history) (HeldIn history') (λ p h. inr h)) (GoodMail link first history')
          (λ m. msg_more first (EverIn f.history) (EverIn history') (λ u p h. inr h) (HeldIn f.history) (HeldIn history') (λ p h. inr h) link m.from m.message.names m.message.msg)
          v c.enclave good new sent;
      used = goes_on (λ u e. is_in started u ≡ true) (λ u e. is_in started' u ≡ true) f.running v c.enclave used (λ u e apart. more u) k.used;
      recorded = (used, all_more (λ (r : Recorded). is_in started r.replica ≡ true) (λ (r : Recorded). is_in started' r.replica ≡ true) (λ r. more r.replica) f.history k.recorded);
      latest = λ u e free is. goes_on (λ u e. is_in rolled u ≡ false → (p : Path) → EverIn f.history u p → IsFrontOf p (promised_path e.replica)) (λ u e. is_in rolled' u ≡ false → (p : Path) → EverIn history' u p → IsFrontOf p (promised_path e.replica)) f.running v c.enclave
          (λ free. begun v free refl) (λ u e apart' old free p ever. old (fewer u free) p (apart u apart' p ever)) (λ u e is free. k.latest u e free is) u e is free;
      one_path = one_path;
      fronts = (
        subst (λ s. EachPlacePromised first (EverIn history') (committed_path s)) (sym same) good.now.state.good.safe,
        all_more (EachPlacePromised first (EverIn f.history)) (EachPlacePromised first (EverIn history')) (λ p. each_more first (EverIn f.history) (EverIn history') p (λ u q h. inr h)) (map (λ r. committed_path (state_of r)) f.history) k.fronts,
      );
    }
      where
        -- what v ever promised is a front of what it promises now
        begun : (u : ℕ) → is_in rolled' u ≡ false → v ≡ u → (p : Path) → EverIn history' u p → IsFrontOf p (promised_path c.enclave.replica)
        begun u free is p (inl e) = subst (λ s. IsFrontOf p (promised_path s)) same e.1
        begun u free is p (inr old) = keeps (subst (λ x. is_in rolled' x ≡ false) (sym is) free) p (subst (λ x. EverIn f.history x p) (sym is) old)

        apart : (u : ℕ) → (v ≡ u → ⊥) → (p : Path) → EverIn history' u p → EverIn f.history u p
        apart u other p (inl e) = absurd (other e.0)
        apart u other p (inr old) = old

        one_path : (u : ℕ) (p q : Path) → is_in rolled' u ≡ false → EverIn history' u p → EverIn history' u q → IsComparable p q
        one_path u p q free a b = elim (cases_eq v u) [
          | inl is ↦ both_fronts p q (promised_path c.enclave.replica) (begun u free is p a) (begun u free is q b)
          | inr other ↦ k.one_path u p q (fewer u free) (apart u other p a) (apart u other q b)
        ]

  -- a replica stops
  pub stopped_kept : (v : ℕ) → KeptRun link first rolled started messages (record f { running = without f.running v })
  stopped_kept v = record {
    standing = standing_stopped (GoodReplica first (EverIn f.history) (HeldIn f.history)) (GoodMail link first f.history) messages f.running k.standing v;
    used = λ u e is. k.used u e (without_stood f.running v u e is);
    recorded = k.recorded;
    latest = λ u e free is. k.latest u e free (without_stood f.running v u e is);
    one_path = k.one_path;
    fronts = k.fronts;
  }

  -- what stood throughout an enclave stands after one more call
  later : (v : ℕ) (e : Enclave) (input : Option (HostInput Message)) (call : Call) → value_at f.running v ≡ Some e → Throughout (GoodReplica first (EverIn (with_call f.history v e.replica input call)) (HeldIn (with_call f.history v e.replica input call)) v) e
  later v e input call is =
      throughout_more (GoodReplica first (EverIn f.history) (HeldIn f.history) v) _ (replica_more first (EverIn f.history) _ (λ u p h. inr h) (HeldIn f.history) _ (λ p h. inr h) v) e (k.standing.states v e is)

  -- a call of a replica that runs
  pub called_kept : (v : ℕ) (e : Enclave) (input : HostInput Message) → value_at f.running v ≡ Some e → GoodHostInput link first (EverIn f.history) (HeldIn f.history) e input → NoCollisionIn link (HeldIn (with_call f.history v e.replica (Some input) (called link e input).call)) → KeptRun link first rolled started (messages ++ map (sent_by v) (called link e input).call.sent) (moves f v e.replica (Some input) (called link e input))
  called_kept v e input is x none =
      let c : Called = called link e input in
      let history' : List Recorded = with_call f.history v e.replica (Some input) c.call in
      let old = later v e (Some input) c.call is in
      let good = called_good link first (EverIn history') (HeldIn history') (held_shorter history') none (ever_shorter history') v e old.now input (input_more link first (EverIn f.history) (EverIn history') (λ u p h. inr h) (HeldIn f.history) (HeldIn history') (λ p h. inr h) e input x) in
      let held : HeldIn history' c.call.state.path = inl (front_refl c.call.state.path) in
      let own : EverIn history' v (promised_path c.call.state) = inl (refl, front_refl (promised_path c.call.state)) in
      let after = good.call.after held own in
      let now : GoodReplica first (EverIn history') (HeldIn history') v c.call.state = record { mine = good.call.mine; state = after.0; held = held; own = own } in
      moves_kept rolled (λ u free. free) started (λ u h. h) v e.replica (Some input) c good.same (map (sent_by v) c.call.sent)
      (called_throughout (GoodReplica first (EverIn history') (HeldIn history') v) _ e c old good now)
      (k.used v e is)
      (mailed (GoodMail link first history') v c.call.sent after.1)
      (λ free p ever. subst (λ s. IsFrontOf p (promised_path s)) good.same (begins p (promised_path e.replica) (promised_path c.call.state) (k.latest v e free is p ever) good.call.keeps))

  -- a saved state is put back
  pub rolled_kept : (v j : ℕ) (e : Enclave) (s : Replica) → value_at f.running v ≡ Some e → slice_get e.saved j ≡ Some s → KeptRun link first (v ∷ rolled) started (messages ++ []) (moves f v e.replica (Some (Roll j)) (record { enclave = record e { replica = s }; call = still s }))
  rolled_kept v j e s is some =
      let up = later v e (Some (Roll j)) (still s) is in
      moves_kept (v ∷ rolled) (λ u free. (or_parts (v == u) (is_in rolled u) free).1) started (λ u h. h) v e.replica (Some (Roll j)) (record { enclave = record e { replica = s }; call = still s }) refl []
      (record { now = all_get _ e.saved j s some up.saved; saved = up.saved }) (k.used v e is) tt
      (λ free. absurd (both_ways (v == v) (or_parts (v == v) (is_in rolled v) free).0 (eq-eqb v v refl)))

  -- a replica starts that promised nothing
  pub start_kept : (hello : Hello) → IsOf first hello → (started' : List ℕ) → ((u : ℕ) → is_in started u ≡ true → is_in started' u ≡ true) → is_in started' (hello_id hello) ≡ true → ((p : Path) → EverIn f.history (hello_id hello) p → p ≡ []) → KeptRun link first rolled started' messages (start_enclave f hello)
  start_kept hello of_first started' more stands fresh =
      subst (λ m. KeptRun link first rolled started' m (start_enclave f hello)) (append-nil messages)
      (moves_kept rolled (λ u free. free) started' more (hello_id hello) (started_as hello).replica None (newly (started_as hello)) refl []
      (started_throughout _ hello (fresh_replica first f.history hello of_first))
      stands tt
      (λ free p ever. (promised_path (started_as hello).replica, ap (λ x. x ++ promised_path (started_as hello).replica) (fresh p ever))))
