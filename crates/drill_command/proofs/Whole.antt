-- The whole drill: where it begins, what may come next, and what it came to.
use Rattle.std.proofs.Common.{refl, sym, ap, subst, ◌∙◌, ◌≡◌, ◌+◌, ◌-◌, ◌*◌, ◌%◌, ◌==◌, ◌<◌, ◌≤◌, cond, ℕ, zero, suc, Bool, true, false, List, [], ◌∷◌, ◌++◌, length, Option, Some, None, append-nil, append_assoc, arith}
use Rattle.std.specs.Prelude.{nat_le, if◌then◌else◌, is_some, IfOk, Result, Ok, Err}
use Rattle.std.specs.List.{AllByRecursion}
use Rattle.sha2.specs.Hashers.{Holds256}
use Rattle.sha2.specs.Sha256.{sha256}
use Rattle.values.specs.declared.event.Event.{Event}
use Rattle.values.specs.declared.event.Event.TheVariants as event
use Rattle.values.specs.declared.limits.TheConstants.{MOST_ROWS}
use Rattle.schedule_model.specs.Drill.{all_store, all_wish, client, drill_events, exchange, stores, wishes, wish, word}
use Rattle.schedule_model.specs.Lines.{bound_word, hex, lines_text}
use Rattle.schedule_model.specs.Written.{Written, On, Off, follow, last_of, onto, stop_of, text_with}
use Rattle.replica_model.specs.Linked.{sha_link}
use Rattle.group_model.specs.Group.{is_within}
use Rattle.group_model.specs.Run.{empty_world, no_enclaves}
use Rattle.trace_model.specs.Claims.{drill_world}
use Rattle.trace_model.specs.Summary.{drill_played, number_line, summary}
use Rattle.trace_model.specs.Trace.{closing, playing}
use Rattle.drill_laws.specs.Laws.{DrillIsPlayed, NobodyLearns}
use Rattle.drill_schedule.specs.Parts.{Ahead, ahead, from_part, from_client}
use Rattle.group_world.specs.declared.world.World.{World}
use Rattle.group_world.specs.Closing.{closing_of}
use Rattle.group_world.specs.Meanings.{OfEnclaves, AreNamed, Fits, SaysMessage, model_of}
use Rattle.group_world.specs.Plays.{SeesPlaying, passed_in}
use Rattle.enclave_host.specs.declared.running.Running.{Running}
use Rattle.group_quorum.specs.Voters.{is_in}
use Rattle.group_world.specs.Scripts.{map_of}
use Rattle.group_world.specs.Standing.{IsNew, IsWorld}
use Rattle.group_world.proofs.ClosingLines.{closing_same}
use Rattle.group_world.proofs.Named.{GoesOnSo}
use Rattle.drill_command.specs.declared.player.Player.{Player}
use Rattle.drill_command.specs.declared.tally.Tally.{Tally}
use Rattle.drill_command.specs.Counting.{AreCounts, nothing_counted}
use Rattle.drill_command.specs.declared.counts.Counts.{Counts as Counted}
use Rattle.drill_command.specs.Drilled.{AreNext, IsLive, IsNext, IsPlain, IsShort, IsWhole, Model, Stands, Tells, to_play}
use Rattle.drill_command.specs.Tallies.{Counts, tally_lines}
use Rattle.drill_command.proofs.Names.{events_so, holders_named}
use Rattle.drill_command.proofs.Steps.{restated}
use Rattle.drill_command.proofs.Written.{onto_none, played_none}
use Rattle.drill_schedule.proofs.Walk.{none_ahead}

-- ---- where it begins

pub drill_begins : (seed clients : ℕ) → drill_played sha_link seed clients ≡ to_play (drill_events seed clients) (playing empty_world)
unfolding model_of
drill_begins seed clients = refl

pub sees_new : (w : World) → IsNew w → SeesPlaying OfEnclaves w (Some (map_of [])) [] (playing empty_world)
unfolding Fits
sees_new w is_new = (record { world = is_new OfEnclaves no_enclaves; field = λ id. tt }, refl)

-- nothing is played yet
module _ (d : Player) (is_new : IsNew d.world) (field : d.field ≡ []) where
  pub stands_new : d.counts ≡ nothing_counted → Holds256 d.hasher [] → (whole : Written Model) (next : Model → Written Model) → whole ≡ next (playing empty_world) → Stands d whole next
  stands_new counts hashed whole next is = record {
    at = playing empty_world;
    text = [];
    goes = is ∙ sym (onto_none (next (playing empty_world)));
    sees = subst (λ (f : List (ℕ × Option Running)). SeesPlaying OfEnclaves d.world (Some (map_of f)) [] (playing empty_world)) (sym field) (sees_new d.world is_new);
    hashed = hashed;
    counted = subst (λ (c : Counted). AreCounts c empty_world) (sym counts) (record { stored = refl; recovered = refl; wrongpin = refl; deleted = refl; halts = refl });
    short = record { heard = omega arith; halted = omega arith };
  }

  pub live_new : passed_in d.world ≡ None → IsLive d
  live_new within = record {
    runs = λ id. ap (λ (f : List (ℕ × Option Running)). is_some (map_of f id)) field ∙ ap (λ (ids : List ℕ). is_in ids id) (sym (is_new OfEnclaves no_enclaves).running);
    within = within;
  }

pub begun_new : (w : World) → IsNew w → w.begun ≡ false
begun_new w is_new = (is_new OfEnclaves no_enclaves).begun

-- ---- the whole goes on, and all its calls are named

last_so : (w : Written Model) → stop_of w ≡ None → GoesOnSo OfEnclaves w → (last_of w).stands ≡ (last_of w).group.field
last_so (On text p) none so = so
last_so (Off text stop p) none so = cc

pub drill_whole : DrillIsPlayed → NobodyLearns → (seed clients : ℕ) → 1 ≤ clients → clients ≤ 2000 → IsWhole (drill_played sha_link seed clients)
drill_whole played learns seed clients some few =
    let goes_on = played sha_link seed clients some few in
    let same = drill_begins seed clients in
    let begins : Model = playing empty_world in
    let so = subst (GoesOnSo OfEnclaves) (sym same) (events_so (drill_events seed clients) begins refl) in
    record {
      goes_on = goes_on;
      named = subst (AreNamed OfEnclaves) (sym (last_so (drill_played sha_link seed clients) goes_on so)) (holders_named (drill_world sha_link seed clients).field (learns sha_link seed clients some few));
    }

-- ---- what may come next

abbrev Plain : List Event → Type 0
Plain events = AllByRecursion IsPlain events

both_plain : (es fs : List Event) → Plain es → Plain fs → Plain (es ++ fs)
both_plain [] fs a b = b
both_plain (e ∷ es) fs a b = (a.0, both_plain es fs a.1 b)

exchange_plain : (i a : ℕ) → Plain (exchange i a)
exchange_plain i a = ((λ b. tt), ((λ b. tt), ((λ b. tt), tt)))

stores_plain : (n i a : ℕ) → Plain (all_store n i a)
stores_plain zero i a = tt
stores_plain (suc n) i a =
    both_plain (stores i a) (all_store n (i + 1) (a + 2))
    ((λ b. tt), both_plain (exchange i a) (exchange i (a + 1)) (exchange_plain i a) (exchange_plain i (a + 1)))
    (stores_plain n (i + 1) (a + 2))

round_plain : (b : Bool) → Plain (if b then event.Tick 1 ∷ event.Settle 8 ∷ [] else [])
round_plain true = ((λ b. tt), ((λ b. tt), tt))
round_plain false = tt

wishes_plain : (i a w : ℕ) → Plain (wishes i a w)
wishes_plain i a w =
    both_plain (if w % 4 == 3 then event.Tick 1 ∷ event.Settle 8 ∷ [] else []) (event.Want (client i) (wish i w) ∷ exchange i a)
    (round_plain (w % 4 == 3)) ((λ b. tt), exchange_plain i a)

all_wish_plain : (seed n i a : ℕ) → Plain (all_wish seed n i a)
all_wish_plain seed zero i a = tt
all_wish_plain seed (suc n) i a = both_plain (wishes i a (word seed (i - 1))) (all_wish seed n (i + 1) (a + 1)) (wishes_plain i a (word seed (i - 1))) (all_wish_plain seed n (i + 1) (a + 1))

client_plain : (seed clients place : ℕ) (b : Bool)
    → Plain (if b then all_store (clients + 1 - place) place (2 * place - 1) ++ all_wish seed clients 1 (2 * clients + 1) else all_wish seed (2 * clients + 1 - place) (place - clients) (clients + place))
client_plain seed clients place true =
    both_plain (all_store (clients + 1 - place) place (2 * place - 1)) (all_wish seed clients 1 (2 * clients + 1)) (stores_plain (clients + 1 - place) place (2 * place - 1)) (all_wish_plain seed clients 1 (2 * clients + 1))
client_plain seed clients place false = all_wish_plain seed (2 * clients + 1 - place) (place - clients) (clients + place)

plain_from : (seed clients place : ℕ) → 1 ≤ place → Plain (from_part seed clients place)
plain_from seed clients zero least = absurd (omega (arith, least))
plain_from seed clients (suc i) least = client_plain seed clients (suc i) (nat_le (suc i) clients)

next_plain : (begun : Bool) (events : List Event) → Plain events → AreNext begun events
next_plain begun [] plain = tt
next_plain begun (e ∷ events) plain = (plain.0 begun, plain.1)

-- after the first part anything that is ahead may come
pub later_next : (begun : Bool) (a : Ahead) → 1 ≤ a.next → AreNext begun (ahead a)
later_next begun a least = next_plain begun (ahead a) (plain_from a.seed a.clients a.next least)

pub first_next : (seed clients : ℕ) → AreNext false (drill_events seed clients)
first_next seed clients = (
  (refl, record { conf = refl; limit_from = omega arith; limit_to = omega arith }),
  (
    (λ b. tt),
    (
      (λ b. tt),
      both_plain (all_store clients 1 1) (all_wish seed clients 1 (2 * clients + 1)) (stores_plain clients 1 1) (all_wish_plain seed clients 1 (2 * clients + 1)),
    ),
  ),
)

front_plain : (es fs : List Event) → Plain (es ++ fs) → Plain es
front_plain [] fs plain = tt
front_plain (e ∷ es) fs plain = (plain.0, front_plain es fs plain.1)

pub front_next : (begun : Bool) (es fs : List Event) → AreNext begun (es ++ fs) → AreNext begun es
front_next begun [] fs next = tt
front_next begun (e ∷ es) fs next = (next.0, front_plain es fs next.1)

-- after the first of these events
pub rest_next : (begun begun' : Bool) (e : Event) (es : List Event) → AreNext begun (e ∷ es) → AreNext begun' es
rest_next begun begun' e es next = next_plain begun' es next.1

-- ---- what it came to

module _ (d : Player) (tally : Tally) (lines : List ℕ) (whole : Written Model) (st : Stands d whole (On [])) where
  at_end : whole ≡ On (st.text ++ []) st.at
  at_end = st.goes

  -- the numbers that the world tells, those that were counted, and the hash of all lines
  pub tells_it : tally.events ≡ d.world.events → tally.messages ≡ length st.at.group.messages → tally.answers ≡ length st.at.group.answers → tally.log ≡ d.world.committed → tally.within ≡ is_within st.at.group
      → AreCounts (record { stored = tally.stored; recovered = tally.recovered; wrongpin = tally.wrongpin; deleted = tally.deleted; halts = tally.halts }) st.at.group
      → lines ≡ closing_of d.world → tally.trace.0 ≡ sha256 (st.text ++ lines) → Tells tally whole
  tells_it events messages answers log within counted closed hash = subst (Tells tally) (sym at_end) (record {
    counts = record {
      events = events ∙ st.sees.0.world.events;
      messages = messages;
      answers = answers;
      stored = counted.stored;
      recovered = counted.recovered;
      wrongpin = counted.wrongpin;
      deleted = counted.deleted;
      halts = counted.halts;
      log = log ∙ st.sees.0.world.committed;
      within = within;
    };
    trace = hash ∙ ap (λ (l : List ℕ). sha256 (st.text ++ l)) (closed ∙ sym (closing_same (SaysMessage OfEnclaves) d.world st.at st.sees.0.world)) ∙ ap (λ (l : List ℕ). sha256 (l ++ closing st.at)) (sym (append-nil st.text));
  })

module _ (tally : Tally) (seed clients : ℕ) where
  pub is_summary : Tells tally (drill_played sha_link seed clients) → lines_text (tally_lines seed clients tally) ≡ summary sha256 sha_link seed clients
  is_summary t = λ i. lines_text (tally_lines seed clients (record {
    events = t.counts.events i;
    messages = t.counts.messages i;
    answers = t.counts.answers i;
    stored = t.counts.stored i;
    recovered = t.counts.recovered i;
    wrongpin = t.counts.wrongpin i;
    deleted = t.counts.deleted i;
    halts = t.counts.halts i;
    log = t.counts.log i;
    within = t.counts.within i;
    trace = record { 0 = t.trace i };
  }))

if_ok : {T E : Type 0} (r : Result T E) (A B : T → Type 0) → ((x : T) → A x → B x) → IfOk r A → IfOk r B
if_ok (Ok x) A B f h = f x h
if_ok (Err e) A B f h = tt

-- all parts were played
module _ {E : Type 0} (d : Player) (seed clients : ℕ) (a : Ahead) (of_clients : a.clients ≡ clients) (place : a.next ≡ 2 * clients + 1)
    (st : Stands d (drill_played sha_link seed clients) (to_play (ahead a))) (r : Result Tally E) (closed : IfOk r (λ tally. (whole : Written Model) → Stands d whole (On []) → Tells tally whole)) where
  none_left : ahead a ≡ []
  none_left = (λ i. from_part a.seed (of_clients i) (place i)) ∙ none_ahead a.seed clients

  at_rest : Stands d (drill_played sha_link seed clients) (On [])
  at_rest = restated d (drill_played sha_link seed clients) (to_play (ahead a)) (On []) st (ap (λ (es : List Event). to_play es st.at) none_left ∙ played_none st.at)

  pub tells_all : (B : Tally → Type 0) → ((tally : Tally) → Tells tally (drill_played sha_link seed clients) → B tally) → IfOk r B
  tells_all B f = if_ok r (λ tally. (whole : Written Model) → Stands d whole (On []) → Tells tally whole) B (λ tally tells. f tally (tells (drill_played sha_link seed clients) at_rest)) closed
