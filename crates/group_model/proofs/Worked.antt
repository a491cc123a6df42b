-- Short runs of a group, with a link that is easy to read.
use Rattle.std.proofs.Common.{◌≡◌, ℕ, ◌+◌, ◌*◌, true, false, List, [], ◌∷◌, ◌++◌, map, length, take, replicate, refl}
use Rattle.std.specs.Prelude.{Option, Some, None, option_map}
use Rattle.std.specs.List.{range_with_len}
use Rattle.values.specs.declared.event.Event.{Event}
use Rattle.values.specs.declared.event.Event.TheVariants as event
use Rattle.values.specs.declared.ids.ClientId.{ClientId}
use Rattle.values.specs.declared.want.Want.TheVariants as want
use Rattle.values.specs.declared.want.Report.TheVariants as report
use Rattle.proto_wire.specs.Fields.{payload_field, field_at, sequence_behind}
use Rattle.proto_wire.specs.Varint.{groups, number_in}
use Rattle.values.specs.declared.message.Request.TheVariants.{Delete}
use Rattle.replica_model.specs.Message.{Message}
use Rattle.replica_model.specs.Path.{Path, Link}
use Rattle.replica_model.specs.Keyed.{value_at}
use Rattle.schedule_model.specs.Refusals.{GroupRefusal, Lost, NotRunning, AlreadyStarted, NoSuchState, NothingInFlight, NoAnswer, NotYours}
use Rattle.group_model.specs.Enclave.{Enclave}
use Rattle.group_model.specs.Group.{next_message, is_within}
use Rattle.group_model.specs.Happens.{Came, Refused, Reported, Passed, Happening, Happened, Broken, Unanswered, happens}
use Rattle.group_model.specs.Run.{World, Enclaves, enclaves, run}
use Rattle.group_model.specs.Log.{log_of, fronts_of, outcomes_of, Outcome}

-- what requests are read with
unfoldable reading : Unit {0}
unfolding payload_field field_at sequence_behind groups number_in
reading = tt

-- 1000 times the index and the term, for each entry
abbrev toy : Link
toy h index e = record { 0 = h.0 ++ (1000 * index + e.term) ∷ [] }

abbrev terms : Path → List ℕ
terms p = map (λ e. e.term) p

abbrev deliveries : ℕ → ℕ → List Event
deliveries k n = map event.Deliver (range_with_len k n)

-- three voters, of which the first leads and commits its Noop
abbrev led : List Event
led = event.Begin 0 100 (3 ∷ 1 ∷ 2 ∷ []) ∷ event.Tick 1 ∷ deliveries 1 16

after_led : terms (log_of (run toy led)) ≡ 1 ∷ []
after_led = refl

sorted_voters : (run toy led).running ≡ 1 ∷ 2 ∷ 3 ∷ []
sorted_voters = refl

-- what came of one more event
abbrev came_of : Happening Message Enclaves → Option Came
came_of (Happened came g) = Some came
came_of (Broken at f) = None
came_of Unanswered = None

abbrev came : List Event → Event → Option Came
came events e = came_of (happens (enclaves toy) e (run toy events))

abbrev refused : GroupRefusal → Option Came
refused refusal = Some (Refused refusal)

-- two more messages wait: an ask of the leader is sent to both followers
abbrev client : ClientId
client = record { 0 = replicate 16 7 }

abbrev asked : List Event
asked = led ++ (event.Ask 1 client 1 (34 ∷ 0 ∷ []) ∷ [])

both_wait : (run toy asked).waiting ≡ 17 ∷ 18 ∷ []
unfolding reading
both_wait = refl

-- a message that is lost is delivered no more, and the next one waits
lost : came (asked ++ (event.Lose 17 ∷ [])) (event.Deliver 17) ≡ refused (Lost 17)
unfolding reading
lost = refl

next_waits : next_message (run toy (asked ++ (event.Lose 17 ∷ []))) ≡ Some 18
unfolding reading
next_waits = refl

-- a message to a replica that has crashed waits for nobody, and is refused
crashed : came (asked ++ (event.Crash 2 ∷ [])) (event.Deliver 17) ≡ refused (NotRunning 2)
unfolding reading
crashed = refl

next_is_third : next_message (run toy (asked ++ (event.Crash 2 ∷ []))) ≡ Some 18
unfolding reading
next_is_third = refl

-- a message may be delivered again: each time its addressee is called
twice : length (run toy (asked ++ deliveries 17 1 ++ deliveries 17 1)).field.history ≡ length (run toy asked).field.history + 2
unfolding reading
twice = refl

-- an id is started once; a learner is linked both ways, with those that run
started_once : came led (event.Start 2) ≡ refused (AlreadyStarted 2)
started_once = refl

abbrev links_of : World → ℕ → Option (List ℕ)
links_of w r = option_map (λ (e : Enclave). e.links) (value_at w.field.running r)

abbrev joined : List Event
joined = led ++ (event.Crash 3 ∷ event.Start 4 ∷ [])

learner_linked : links_of (run toy joined) 4 ≡ Some (1 ∷ 2 ∷ [])
learner_linked = refl

others_linked : links_of (run toy joined) 1 ≡ Some (4 ∷ 2 ∷ 3 ∷ [])
others_linked = refl

-- a state is saved, and later put back: what was promised since is forgotten
abbrev path_at : World → ℕ → Option (List ℕ)
path_at w r = option_map (λ (e : Enclave). terms (take e.replica.promised e.replica.path)) (value_at w.field.running r)

abbrev saved : List Event
saved = event.Begin 0 100 (1 ∷ 2 ∷ 3 ∷ []) ∷ event.Save 2 ∷ event.Tick 1 ∷ deliveries 1 16

promised : path_at (run toy saved) 2 ≡ Some (1 ∷ [])
promised = refl

rolled_back : path_at (run toy (saved ++ (event.Roll 2 1 ∷ []))) 2 ≡ Some []
rolled_back = refl

noted : (run toy (saved ++ (event.Roll 2 1 ∷ []))).rolled ≡ 2 ∷ []
noted = refl

no_state : came saved (event.Roll 2 2) ≡ refused (NoSuchState 2)
no_state = refl

no_state_of_another : came saved (event.Roll 1 1) ≡ refused (NoSuchState 1)
no_state_of_another = refl

first_state : path_at (run toy (saved ++ (event.Roll 1 0 ∷ []))) 1 ≡ Some []
first_state = refl

-- one of three voters is more than margin 0 bears, and two of five are what margin 1 bears
beyond : is_within (run toy (saved ++ (event.Roll 2 1 ∷ []))) ≡ false
beyond = refl

abbrev five : List Event
five = event.Begin 1 100 (1 ∷ 2 ∷ 3 ∷ 4 ∷ 5 ∷ []) ∷ event.Roll 1 0 ∷ event.Roll 2 0 ∷ event.Roll 2 0 ∷ []

within : is_within (run toy five) ≡ true
within = refl

three_beyond : is_within (run toy (five ++ (event.Roll 3 0 ∷ []))) ≡ false
three_beyond = refl

-- of two logs as long the earlier one is the run's
abbrev forked : List Event
forked =
    event.Begin 0 100 (1 ∷ 2 ∷ []) ∷ event.Tick 1 ∷ deliveries 1 6
    ++ (event.Roll 1 0 ∷ event.Roll 2 0 ∷ event.Tick 2 ∷ event.Deliver 7 ∷ event.Tick 2 ∷ deliveries 8 9)

both_commit : take 1 (map terms (fronts_of (run toy forked))) ≡ (2 ∷ []) ∷ []
both_commit = refl

earlier_is_the_log : terms (log_of (run toy forked)) ≡ 1 ∷ []
earlier_is_the_log = refl

-- nothing happens before the begin event, nor at a second one
no_begin : came [] (event.Tick 1) ≡ Some Passed
no_begin = refl

begun_once : (run toy (led ++ (event.Begin 1 7 (1 ∷ 2 ∷ 3 ∷ []) ∷ []))).running ≡ 1 ∷ 2 ∷ 3 ∷ []
begun_once = refl

-- a client says what it has in flight, and hears its own answers alone
abbrev wanted : List Event
wanted = event.Begin 0 100 (1 ∷ []) ∷ event.Tick 1 ∷ event.Want client want.Erase ∷ []

nothing_said : came led (event.Say client 9) ≡ refused NothingInFlight
nothing_said = refl

said_to_nobody : came wanted (event.Say client 9) ≡ refused (NotRunning 9)
said_to_nobody = refl

no_answer : came wanted (event.Hear client 1) ≡ refused (NoAnswer 1)
no_answer = refl

abbrev said : List Event
said = wanted ++ (event.Say client 1 ∷ [])

deleted : came said (event.Hear client 1) ≡ Some (Reported client report.Deleted)
unfolding reading
deleted = refl

not_yours : came said (event.Hear (record { 0 = replicate 16 8 }) 1) ≡ refused (NotYours 1)
unfolding reading
not_yours = refl

-- its outcome has the ticket's request, of the call that was handed it
one_outcome : map (λ (o : Outcome). o.request) (outcomes_of (run toy said)) ≡ Some Delete ∷ []
unfolding reading
one_outcome = refl
