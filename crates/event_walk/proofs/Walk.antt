-- What every event keeps, every run keeps.
use Rattle.std.proofs.Common.{◌≡◌, ℕ, zero, suc, not, max, Bool, true, false, Option, Some, None, Result, Ok, Err, List, [], ◌∷◌, ◌==◌, slice_get, refl, sym, ap, subst, ◌∙◌, arith}
use Rattle.std.specs.Prelude.{unwrap_or, nat_le, fold}
use Rattle.std.proofs.lemmas.Bool.{or_left, or_right, eq-eqb}
use Rattle.std.proofs.lemmas.List.{append-nil}
use Rattle.std.proofs.lemmas.Option.{none-some, same_Some}
use Rattle.group_quorum.specs.Conf.{Conf}
use Rattle.group_quorum.specs.Voters.{conf_of, insert_rising, is_in}
use Rattle.group_quorum.specs.declared.ConfigFault.{ConfigFault}
use Rattle.values.specs.declared.event.Event.{Event}
use Rattle.values.specs.declared.event.Event.TheVariants as event
use Rattle.values.specs.declared.ids.ClientId.{ClientId}
use Rattle.values.specs.declared.want.Want.{Want}
use Rattle.values.specs.declared.want.WantFault.{WantFault}
use Rattle.schedule_model.specs.Client.{Core, new_core, wanted, said}
use Rattle.schedule_model.specs.Refusals.{GroupRefusal}
use Rattle.replica_model.specs.Path.{Link}
use Rattle.replica_model.specs.Keyed.{value_at}
use Rattle.replica_model.specs.Replica.{Replica}
use Rattle.replica_model.specs.Message.{Message}
use Rattle.group_model.specs.Enclave.{Begin, Learn, Roll, Connect, Enclave, called, rolls_to}
use Rattle.group_model.specs.Field.{Answers, Unreadable, Nothing}
use Rattle.group_model.specs.Group.{Setup, Sent, Answered, numbered, but, is_client, core_of, saves_of}
use Rattle.group_model.specs.Happens as happening
use Rattle.group_model.specs.Happens.{Happening, Happened, Broken, Unanswered, happens}
use Rattle.group_model.specs.Run.{Enclaves, World, moves, start_enclave, replies, call_enclave, enclaves, group_after, run, empty_world}
use Rattle.event_walk.specs.Cases.{Handing, Ticked, Saved, Joins, Admits, Removes, Margins, Delivered, Asked, Said, Linked, NoState, handed, after_call, HasBegun, Survives}

-- a fact stands after what happened. The model's enclaves answer nothing that is no batch
abbrev pub LeavesIt : (World → Type 0) → Happening Message Enclaves → Type 0
LeavesIt K (Happened came g) = K g
LeavesIt K (Broken at f) = ⊥
LeavesIt K Unanswered = Unit {0}

-- the voters of a group start one after another
pub starts_all_keep : (link : Link) (K : Enclaves → Type 0) (c : Conf) (limit : ℕ) (vs : List ℕ) → ((v : ℕ) (f : Enclaves) → is_in vs v ≡ true → K f → K (start_enclave f (Begin v c.margin limit c.voters))) → (f : Enclaves) → K f → K (happening.starts_all (enclaves link) f c limit vs)
starts_all_keep link K c limit [] keeps f k = k
starts_all_keep link K c limit (v ∷ vs) keeps f k =
    starts_all_keep link K c limit vs (λ u f among. keeps u f (or_right (v == u) (is_in vs u) among)) (start_enclave f (Begin v c.margin limit c.voters)) (keeps v f (or_left (v == v) (is_in vs v) (eq-eqb v v refl)) k)

-- a link tells nothing, so that nothing but the field changes
links_tell_nothing : (link : Link) (g : World) (x r : ℕ) (e : Enclave) → after_call g r e (Connect x) (called link e (Connect x)) ≡ record g { field = moves g.field r e.replica (Some (Connect x)) (called link e (Connect x)) }
links_tell_nothing link g x r e =
    let told : max g.committed 0 ≡ g.committed = omega arith in
    λ i. record g {
      messages = append-nil g.messages i;
      waiting = append-nil g.waiting i;
      answers = append-nil g.answers i;
      committed = told i;
      field = moves g.field r e.replica (Some (Connect x)) (called link e (Connect x));
    }

module _ (link : Link) (E K : World → Type 0) (knows : (w : World) → K w → E w) (s : Survives link E K) where
  abbrev Leaves : Happening Message Enclaves → Type 0
  Leaves h = LeavesIt K h

  module _ (g : World) (k : K g) where
    refused_if_keeps : (b : Bool) (refusal : GroupRefusal) (next : World → Happening Message Enclaves) → (b ≡ false → Leaves (next g)) → Leaves (happening.refused_if (enclaves link) b refusal g next)
    refused_if_keeps true refusal next goes = k
    refused_if_keeps false refusal next goes = goes refl

    replied_keeps : (v : ℕ) (h : Handing g v) (o : Option Enclave) → value_at g.field.running v ≡ o → Leaves (happening.replied (enclaves link) v g (call_enclave link g.field v (handed h) o))
    replied_keeps v h None is = tt
    replied_keeps v h (Some e) is = s.called g v h e is k

    calls_keeps : (v : ℕ) (h : Handing g v) → Leaves (happening.calls (enclaves link) v (handed h) g)
    calls_keeps v h = replied_keeps v h (value_at g.field.running v) refl

    tells_keeps : (v : ℕ) (h : Handing g v) → Leaves (happening.tells (enclaves link) v (handed h) g)
    tells_keeps v h = refused_if_keeps (not (is_in g.running v)) _ (happening.calls (enclaves link) v (handed h)) (λ runs. calls_keeps v h)

    -- a roll, by the state that it names
    put_back : (v j : ℕ) (e : Enclave) → value_at g.field.running v ≡ Some e → (o : Option Replica) → slice_get e.saved j ≡ o → Leaves (happening.rolled (enclaves link) v g (replies g.field v e.replica (Roll j) (rolls_to e j o)))
    put_back v j e is None none =
        let h : Handing g v = NoState j (λ e' is'. subst (λ (x : Enclave). slice_get x.saved j ≡ None) (same_Some e e' (sym is ∙ is')) none) in
        subst (λ o. K (after_call g v e (Roll j) (rolls_to e j o))) none (s.called g v h e is k)
    put_back v j e is (Some state) some = s.rolled g v j e state is some k

    rolled_keeps : (v j : ℕ) (o : Option Enclave) → value_at g.field.running v ≡ o → Leaves (happening.rolled (enclaves link) v g (call_enclave link g.field v (Roll j) o))
    rolled_keeps v j None is = tt
    rolled_keeps v j (Some e) is = put_back v j e is (slice_get e.saved j) refl

    rolls_keeps : (v j : ℕ) → Leaves (happening.rolls (enclaves link) v j g)
    rolls_keeps v j = refused_if_keeps (not (nat_le j (saves_of g.saves v))) _ (λ g. happening.rolled (enclaves link) v g ((enclaves link).call g.field v (Roll j))) (λ b. rolled_keeps v j (value_at g.field.running v) refl)

    loses_keeps : (j : ℕ) (o : Option (Sent Message)) → Leaves (happening.loses (enclaves link) j o g)
    loses_keeps j None = k
    loses_keeps j (Some m) = refused_if_keeps (is_in g.lost j) _ (λ g. Happened happening.Passed (record g { lost = j ∷ g.lost; waiting = but j g.waiting })) (λ b. s.sorted g (j ∷ g.lost) (but j g.waiting) k)

    wants_keeps : (client : ClientId) (want : Want) (r : Result Core WantFault) → wanted (unwrap_or (core_of g.cores client) new_core) want ≡ r → Leaves (happening.wants (enclaves link) client r g)
    wants_keeps client want (Err fault) is = k
    wants_keeps client want (Ok core) is = s.wanted g client want core is k

    says_keeps : (client : ClientId) (v : ℕ) (core : Core) → core_of g.cores client ≡ Some core → (o : Option (ℕ × List ℕ)) → said core ≡ o → Leaves (happening.says (enclaves link) client v o g)
    says_keeps client v core has None is = k
    says_keeps client v core has (Some (number, request)) is = tells_keeps v (Said client core number request has is)

    says_by_keeps : (client : ClientId) (v : ℕ) (o : Option Core) → core_of g.cores client ≡ o → Leaves (happening.says (enclaves link) client v (happening.said_if_any (enclaves link) o) g)
    says_by_keeps client v None has = k
    says_by_keeps client v (Some core) has = says_keeps client v core has (said core) refl

    hears_with_keeps : (client : ClientId) (j : ℕ) (a : Answered) → numbered g.answers j ≡ Some a → is_client a.client client ≡ true → (o : Option Core) → core_of g.cores client ≡ o → Leaves (happening.hears_with (enclaves link) client a o g)
    hears_with_keeps client j a is its None has = k
    hears_with_keeps client j a is its (Some core) has = s.heard g client j a core is its has k

    hears_keeps : (client : ClientId) (j : ℕ) (o : Option Answered) → numbered g.answers j ≡ o → Leaves (happening.hears (enclaves link) client j o g)
    hears_keeps client j None is = k
    hears_keeps client j (Some a) is = by_client _ (is_client a.client client) refl
      where
        by_client : (refusal : GroupRefusal) (b : Bool) → is_client a.client client ≡ b → Leaves (happening.refused_if (enclaves link) (not b) refusal g (happening.hears_with (enclaves link) client a (core_of g.cores client)))
        by_client refusal true its = hears_with_keeps client j a is its (core_of g.cores client) refl
        by_client refusal false its = k

  -- links with a learner are made, one after another
  abbrev linked_with : World → ℕ → List ℕ → Happening Message Enclaves
  linked_with g x rs = (happening.connected (enclaves link) x rs g.field (λ f. Happened happening.Passed (record g { field = f })))

  linked_next : (g : World) (x r : ℕ) (rs : List ℕ) → ((g : World) → K g → Leaves (linked_with g x rs)) → K g → (o : Option Enclave) → value_at g.field.running r ≡ o → Leaves (elim (call_enclave link g.field r (Connect x) o) [ Answers batch sent f ↦ happening.connected (enclaves link) x rs f (λ f. Happened happening.Passed (record g { field = f })) | Unreadable at f ↦ Broken at f | Nothing ↦ Unanswered ])
  linked_next g x r rs rest k None is = tt
  linked_next g x r rs rest k (Some e) is = rest (record g { field = moves g.field r e.replica (Some (Connect x)) (called link e (Connect x)) }) (subst K (links_tell_nothing link g x r e) (s.called g r (Linked x) e is k))

  connected_keeps : (x : ℕ) (rs : List ℕ) (g : World) → K g → Leaves (linked_with g x rs)
  connected_keeps x [] g k = k
  connected_keeps x (r ∷ rs) g k = linked_next g x r rs (connected_keeps x rs) k (value_at g.field.running r) refl

  starts_keeps : (g : World) (setup : Setup) (x : ℕ) → g.setup ≡ Some setup → is_in g.started (suc x) ≡ false → K g → Leaves (happening.starts (enclaves link) (suc x) g)
  starts_keeps g setup x set new k =
      connected_keeps (suc x) g.running (record g { running = insert_rising (suc x) g.running; started = suc x ∷ g.started; field = start_enclave g.field (Learn (suc x) g.running) }) (s.started g setup x set new k)

  delivers_keeps : (g : World) → K g → (j : ℕ) (o : Option (Sent Message)) → numbered g.messages j ≡ o → Leaves (happening.delivers (enclaves link) j o g)
  delivers_keeps g k j None is = k
  delivers_keeps g k j (Some m) is = refused_if_keeps g k (is_in g.lost j) _ (λ g. happening.running (enclaves link) m.to g (happening.hands (enclaves link) j m))
      (λ b. refused_if_keeps g k (not (is_in g.running m.to)) _ (happening.hands (enclaves link) j m)
      (λ b. calls_keeps (record g { waiting = but j g.waiting }) (s.sorted g g.lost (but j g.waiting) k) m.to (Delivered j m is refl)))

  -- an event of a group that has begun
  acts_keeps : (g : World) (setup : Setup) (e : Event) (before : List Event) → g.setup ≡ Some setup → g.past ≡ e ∷ before → K g → Leaves (happening.acts (enclaves link) e g)
  acts_keeps g setup (event.Begin margin limit voters) before set past k = k
  acts_keeps g setup (event.Start zero) before set past k = k
  acts_keeps g setup (event.Start (suc x)) before set past k = refused_if_keeps g k (is_in g.started (suc x)) _ (happening.starts (enclaves link) (suc x)) (λ new. starts_keeps g setup x set new k)
  acts_keeps g setup (event.Tick v) before set past k = tells_keeps g k v Ticked
  acts_keeps g setup (event.Deliver j) before set past k = delivers_keeps g k j (numbered g.messages j) refl
  acts_keeps g setup (event.Lose j) before set past k = loses_keeps g k j (numbered g.messages j)
  acts_keeps g setup (event.Settle n) before set past k = k
  acts_keeps g setup (event.Crash v) before set past k = refused_if_keeps g k (not (is_in g.running v)) _ (happening.crashes (enclaves link) v) (λ b. s.stopped g v k)
  acts_keeps g setup (event.Save v) before set past k = tells_keeps g k v Saved
  acts_keeps g setup (event.Roll v j) before set past k = refused_if_keeps g k (not (is_in g.running v)) _ (happening.rolls (enclaves link) v j) (λ b. rolls_keeps g k v j)
  acts_keeps g setup (event.Join v x) before set past k = tells_keeps g k v (Joins x)
  acts_keeps g setup (event.Admit v x) before set past k = tells_keeps g k v (Admits x)
  acts_keeps g setup (event.Remove v x) before set past k = tells_keeps g k v (Removes x)
  acts_keeps g setup (event.Ask v client number request) before set past k = tells_keeps g k v (Asked client number request before past)
  acts_keeps g setup (event.Want client want) before set past k = wants_keeps g k client want (wanted (unwrap_or (core_of g.cores client) new_core) want) refl
  acts_keeps g setup (event.Say client v) before set past k = says_by_keeps g k client v (core_of g.cores client) refl
  acts_keeps g setup (event.Hear client j) before set past k = hears_keeps g k client j (numbered g.answers j) refl
  acts_keeps g setup (event.Margin v margin) before set past k = tells_keeps g k v (Margins margin)
  acts_keeps g setup (event.Again client) before set past k = k

  -- the begin event, and any other before it
  begins_keeps : (g : World) (limit margin : ℕ) (voters : List ℕ) (r : Result Conf ConfigFault) → g.setup ≡ None → conf_of margin voters ≡ r → K g → Leaves (happening.begins (enclaves link) limit r g)
  begins_keeps g limit margin voters (Err fault) unset made k = k
  begins_keeps g limit margin voters (Ok c) unset made k = s.begun g limit margin voters c (knows g k) unset made k

  first_keeps : (g : World) (e : Event) → g.setup ≡ None → K g → Leaves (happening.acts_first (enclaves link) e g)
  first_keeps g (event.Begin margin limit voters) unset k = begins_keeps g limit margin voters (conf_of margin voters) unset refl k
  first_keeps g e unset k = k

  acts_in_keeps : (g : World) (e : Event) (before : List Event) → g.past ≡ e ∷ before → K g → (o : Option Setup) → g.setup ≡ o → Leaves (happening.acts_in (enclaves link) o e g)
  acts_in_keeps g e before past k None unset = first_keeps g e unset k
  acts_in_keeps g e before past k (Some setup) set = acts_keeps g setup e before set past k

  -- one event
  pub happens_leaves : (w : World) (e : Event) → K w → Leaves (happens (enclaves link) e w)
  happens_leaves w e k = acts_in_keeps (record w { past = e ∷ w.past }) e w.past refl (s.counted w e k) w.setup refl

  left_kept : (w : World) → K w → (h : Happening Message Enclaves) → Leaves h → K (group_after w h)
  left_kept w k (Happened came g) left = left
  left_kept w k (Broken at f) left = absurd left
  left_kept w k Unanswered left = k

  pub events_keep : (events : List Event) (w : World) → K w → K (fold (λ w e. group_after w (happens (enclaves link) e w)) w events)
  events_keep [] w k = k
  events_keep (e ∷ events) w k = events_keep events (group_after w (happens (enclaves link) e w)) (left_kept w k (happens (enclaves link) e w) (happens_leaves w e k))

  -- a whole run
  pub run_keeps : K empty_world → (events : List Event) → K (run link events)
  run_keeps k events = events_keep events empty_world k

-- what is known by itself may be known to another fact
module _ (link : Link) (E K : World → Type 0) (known : Survives link (λ w. Unit {0}) E) (s : Survives link E K) where
  both : Survives link E (λ w. E w × K w)
  both = record {
    counted = λ w e k. (known.counted w e k.0, s.counted w e k.1);
    begun = λ w limit margin voters c it unset made k. (known.begun w limit margin voters c tt unset made k.0, s.begun w limit margin voters c it unset made k.1);
    started = λ w setup x set new k. (known.started w setup x set new k.0, s.started w setup x set new k.1);
    called = λ w v h e is k. (known.called w v h e is k.0, s.called w v h e is k.1);
    rolled = λ w v j e t is some k. (known.rolled w v j e t is some k.0, s.rolled w v j e t is some k.1);
    stopped = λ w v k. (known.stopped w v k.0, s.stopped w v k.1);
    sorted = λ w lost waiting k. (known.sorted w lost waiting k.0, s.sorted w lost waiting k.1);
    wanted = λ w client want core is k. (known.wanted w client want core is k.0, s.wanted w client want core is k.1);
    heard = λ w client j a core is its has k. (known.heard w client j a core is its has k.0, s.heard w client j a core is its has k.1);
  }

-- where a replica runs, the group has begun
runs_begun : (w : World) → HasBegun w → (v : ℕ) (e : Enclave) → value_at w.field.running v ≡ Some e → w.setup ≡ None → ⊥
runs_begun w k v e is unset = none-some e (subst (λ (f : Enclaves). value_at f.running v ≡ Some e) (k unset).0 is)

begins : (link : Link) → Survives link (λ w. Unit {0}) HasBegun
begins link = record {
  counted = λ w e k. k;
  begun = λ w limit margin voters c it unset made k never. absurd (none-some (record { limit = limit; first = c }) (sym never));
  started = λ w setup x set new k unset. absurd (none-some setup (subst (λ o. o ≡ Some setup) unset set));
  called = λ w v h e is k unset. absurd (runs_begun w k v e is unset);
  rolled = λ w v j e t is some k unset. absurd (runs_begun w k v e is unset);
  stopped = λ w v k unset. let early = k unset in (ap (λ (f : Enclaves). (enclaves link).stop f v) early.0, early.1);
  sorted = λ w lost waiting k. k;
  wanted = λ w client want core is k. k;
  heard = λ w client j a core is its has k. k;
}

-- a fact of a run of which it is known that before it has begun it has nothing
pub begun_keeps : (link : Link) (K : World → Type 0) → Survives link HasBegun K → K empty_world → (events : List Event) → HasBegun (run link events) × K (run link events)
begun_keeps link K s k events = run_keeps link HasBegun (λ w. HasBegun w × K w) (λ w k. k.0) (both link HasBegun K (begins link) s) ((λ unset. (refl, refl)), k) events

-- the model's enclaves answer no frame that is no batch
pub unbroken : (link : Link) (w : World) (e : Event) (at : _) (f : Enclaves) → happens (enclaves link) e w ≡ Broken at f → ⊥
unbroken link w e at f is = subst (LeavesIt (λ w. Unit {0})) is (happens_leaves link (λ w. Unit {0}) (λ w. Unit {0}) (λ w k. tt) nothing w e tt)
  where
    nothing : Survives link (λ w. Unit {0}) (λ w. Unit {0})
    nothing = record {
      counted = λ w e k. tt;
      begun = λ w limit margin voters c known unset made k. tt;
      started = λ w setup x set new k. tt;
      called = λ w v h e is k. tt;
      rolled = λ w v j e s is some k. tt;
      stopped = λ w v k. tt;
      sorted = λ w lost waiting k. tt;
      wanted = λ w client want core is k. tt;
      heard = λ w client j a core is its has k. tt;
    }
