-- What is played of a schedule is in range, event by event: so where the bytes that it hashes do not collide, its entries
-- do not.
use Rattle.std.proofs.Common.{◌≡◌, ℕ, ◌+◌, ◌≤◌, Bool, true, false, Result, Ok, Err, Option, Some, None, List, [], ◌∷◌, length, refl, sym, ap, subst, arith}
use Rattle.std.specs.Prelude.{◌&&◌, nat_le, nat_lt, find, is_some}
use Rattle.std.specs.List.{AllByRecursion}
use Rattle.std.proofs.lemmas.Bool.{cond_both, leb-false, ltb-false}
use Rattle.std.proofs.lemmas.Option.{none-some, same_Some}
use Rattle.values.specs.declared.limits.TheConstants.{MAX_ANSWERS, MAX_CLIENTS, MAX_EVENTS, MAX_MESSAGES, MAX_REPLICAS, MAX_STATES}
use Rattle.values.specs.declared.event.Event.{Event}
use Rattle.values.specs.declared.event.Event.TheVariants as event
use Rattle.hash_chain.specs.Links.{BytesTellInputs}
use Rattle.record_cutting.specs.Lines.{Record}
use Rattle.schedule_model.specs.Quantities.{Quantity, Events, Messages, Answers, Replicas, States, Clients}
use Rattle.schedule_model.specs.Reading.{RecordFault, max_u64}
use Rattle.schedule_model.specs.Records.{event_of}
use Rattle.replica_model.specs.Path.{Link}
use Rattle.replica_model.specs.Linked.{sha_link}
use Rattle.replica_model.specs.Laws.{BytesTellBodies}
use Rattle.group_model.specs.Group.{next_message, is_addressed}
use Rattle.group_model.specs.Happens.{Came, Happened, happens}
use Rattle.group_model.specs.Run.{World, enclaves, empty_world}
use Rattle.trace_model.specs.Hashing.{GivesHashes}
use Rattle.trace_model.specs.Limits.{passed_before, passed_after, first_passed, starts_one}
use Rattle.trace_model.specs.Schedules.{world_of}
use Rattle.range_laws.specs.Ranges.{EventIn}
use Rattle.range_laws.proofs.Worlds.{WorldIn, CameIn, IsShort, Stays}
use Rattle.range_laws.proofs.Events.{first_in, happens_stays}
use Rattle.range_laws.proofs.ReadEvents.{IsReadAs, read_event}
use Rattle.range_laws.proofs.OwnLink.{own_link}
use Rattle.range_laws.proofs.Colliding.{no_collision}
use Rattle.log_laws.proofs.History.{all_more}
use Rattle.headline_laws.specs.Bytes.{BytesTellSchedules}
use Rattle.headline_laws.proofs.Past.{HasPast, happens_past}
use Rattle.play_walk.proofs.Ends.{ReadsFine}
use Rattle.play_walk.proofs.Played.{FineRead}
use Rattle.headline_laws.proofs.Played.{schedule_keeps}

-- a world in range by its events, of which there are no more than may be, and so of its messages and answers
pub record Ranged (w : World) : Type 0 where
  pub within : WorldIn (length w.past) w
  pub events : length w.past ≤ MAX_EVENTS
  pub messages : length w.messages ≤ MAX_MESSAGES
  pub answers : length w.answers ≤ MAX_ANSWERS

pub ranged_first : Ranged empty_world
ranged_first = record { within = first_in; events = omega arith; messages = omega arith; answers = omega arith }

found_waiting : (P : ℕ → Type 0) (test : ℕ → Bool) (ks : List ℕ) → AllByRecursion P ks → (k : ℕ) → find test ks ≡ Some k → P k
found_waiting P test [] h k is = absurd (none-some k is)
found_waiting P test (x ∷ ks) h k is =
    cond_both (test x) (Some x) (find test ks) (λ o. o ≡ Some k → P k) (λ b is. subst P (same_Some x k is) h.0) (λ b is. found_waiting P test ks h.1 k is) is

-- what a settle delivers next
pub ranged_next : (g : World) (k : ℕ) → Ranged g → next_message g ≡ Some k → EventIn (event.Deliver k)
ranged_next g k r is =
    let x = found_waiting (λ k. (1 ≤ k) × (k ≤ length g.messages)) (is_addressed g) g.waiting r.within.waiting k is in
    (x.0, omega (arith, x.1, r.messages))

-- a test that is not passed fails
not_passed : (test : Bool) (q : Quantity) (tests : List (Bool × Quantity)) → first_passed ((test, q) ∷ tests) ≡ None → (test ≡ false) × (first_passed tests ≡ None)
not_passed true q tests is = absurd (none-some q (sym is))
not_passed false q tests is = (refl, is)

-- an event that has passed no limit, with what came of it
pub record RangedOn (most : ℕ) (g : World) (e : Event) (came : Came) (h : World) : Type 0 where
  pub before : length g.past + 1 ≤ MAX_EVENTS
  pub ranged : Ranged h
  pub came_in : CameIn (IsShort most e) (length g.past + 1) h came

pub ranged_on : (link : Link) → GivesHashes link → (most : ℕ) → most ≤ max_u64 → (g h : World) (e : Event) (came : Came) → Ranged g → EventIn e → happens (enclaves link) e g ≡ Happened came h → passed_before g e ≡ None → passed_after h ≡ None → RangedOn most g e came h
ranged_on link hashes most fits g h e came r x is before after =
    let some : length g.past + 1 ≤ MAX_EVENTS = omega (arith, leb-false MAX_EVENTS (length g.past) (not_passed (nat_le MAX_EVENTS (length g.past)) Events ((starts_one g e && nat_le MAX_REPLICAS (length g.started), Replicas) ∷ []) before).0) in
    let past : h.past ≡ e ∷ g.past = subst (HasPast (e ∷ g.past)) is (happens_past (enclaves link) e g) in
    let longer : length h.past ≡ length g.past + 1 = omega (arith, ap length past) in
    let last : List (Bool × Quantity) = (nat_lt MAX_STATES (length h.saves), States) ∷ (nat_lt MAX_CLIENTS (length h.cores), Clients) ∷ [] in
    let one = not_passed (nat_lt MAX_MESSAGES (length h.messages)) Messages ((nat_lt MAX_ANSWERS (length h.answers), Answers) ∷ last) after in
    let two = not_passed (nat_lt MAX_ANSWERS (length h.answers)) Answers last one.1 in
    let stays = subst (Stays (IsShort most e) (length g.past + 1)) is (happens_stays (length g.past) some link hashes most fits g r.within e x) in
    record {
      before = some;
      ranged = record {
        within = subst (λ n. WorldIn n h) (sym longer) stays.0;
        events = omega (arith, longer, some);
        messages = ltb-false MAX_MESSAGES (length h.messages) one.0;
        answers = ltb-false MAX_ANSWERS (length h.answers) two.0;
      };
      came_in = stays.1;
    }

-- ---- a schedule
-- no field is longer than all together
abbrev all_long : Record → ℕ
all_long [] = 0
all_long (f ∷ fields) = length f + all_long fields

longer : (n m : ℕ) → n ≤ m → (fields : Record) → AllByRecursion (λ (f : List ℕ). length f ≤ n) fields → AllByRecursion (λ (f : List ℕ). length f ≤ m) fields
longer n m le fields h = all_more (λ (f : List ℕ). length f ≤ n) (λ (f : List ℕ). length f ≤ m) (λ f x. omega (arith, x, le)) fields h

each_within : (fields : Record) → AllByRecursion (λ (f : List ℕ). length f ≤ all_long fields) fields
each_within [] = tt
each_within (f ∷ fields) = (omega arith, longer (all_long fields) (all_long (f ∷ fields)) (omega arith) fields (each_within fields))

module _ (link : Link) (hashes : GivesHashes link) where
  each_on : (g h : World) (e : Event) (came : Came) → Ranged g → EventIn e → passed_before g e ≡ None → happens (enclaves link) e g ≡ Happened came h → passed_after h ≡ None → Ranged h
  each_on g h e came r fine before is after = (ranged_on link hashes max_u64 (omega arith) g h e came r fine is before after).ranged

  abbrev Reads : World → Event → Type 0
  Reads g e = FineRead (λ g e. EventIn e) g e

  read_fine : (most : ℕ) (begun : Bool) (g : World) (e : Event) → IsReadAs most begun e → Reads g e
  read_fine most begun g (event.Settle n) h = tt
  read_fine most begun g e h = h.0

  reads_fine : (g : World) (fields : Record) (begun : Bool) (r : Result (Option Event) RecordFault) → event_of false begun fields ≡ r → ReadsFine (Reads g) r
  reads_fine g fields begun (Ok (Some e)) is = read_fine (all_long fields) begun g e (read_event (all_long fields) fields (each_within fields) e begun is)
  reads_fine g fields begun (Ok None) is = tt
  reads_fine g fields begun (Err fault) is = tt

  pub schedule_in : (bytes : List ℕ) → Ranged (world_of link bytes)
  schedule_in bytes =
      schedule_keeps link Ranged (λ g e. EventIn e) each_on ranged_next ranged_first
      (λ g fields. reads_fine g fields (is_some g.setup) (event_of false (is_some g.setup) fields) refl) bytes

pub bytes_tell_schedules : BytesTellInputs → BytesTellBodies → BytesTellSchedules
bytes_tell_schedules inputs bodies bytes none =
    let r = schedule_in sha_link own_link bytes in
    no_collision inputs bodies (length (world_of sha_link bytes).past) r.events (world_of sha_link bytes) r.within.field.history none
