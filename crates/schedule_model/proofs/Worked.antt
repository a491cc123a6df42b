-- Records, lines and a client's core, run on short texts.
use Rattle.std.proofs.Common.{◌≡◌, ℕ, ◌-◌, ◌^◌, true, false, List, [], ◌∷◌, replicate, Some, None, Ok, Err, refl}
use Rattle.std.specs.Prelude.{Bool, Option, Result, codes}
use Rattle.std.specs.Fmt.{digits}
use Rattle.hex.proofs.OnLiterals.{hex_on_literals}
use Rattle.values.specs.declared.event.Cause.{Cause}
use Rattle.values.specs.declared.event.Cause.TheVariants as cause
use Rattle.values.specs.declared.event.Event.{Event}
use Rattle.values.specs.declared.event.Event.TheVariants as event
use Rattle.values.specs.declared.ids.ClientId.{ClientId}
use Rattle.values.specs.declared.message.Answer.TheVariants.{Outcome}
use Rattle.values.specs.declared.message.Reply.TheVariants.{Applied, Stale}
use Rattle.values.specs.declared.message.Response.TheVariants.{Backup, Expose}
use Rattle.values.specs.declared.want.Report.TheVariants as report
use Rattle.values.specs.declared.want.Want.{Want}
use Rattle.values.specs.declared.want.Want.TheVariants as want
use Rattle.values.specs.declared.want.WantFault.TheVariants as fault
use Rattle.schedule_model.specs.Reading.{RecordFault}
use Rattle.schedule_model.specs.Records.{event_of}
use Rattle.schedule_model.specs.Lines.{event_line, line_text}
use Rattle.schedule_model.specs.Client.{Core, new_core, wanted, heard}

-- what texts are read and written with
unfoldable reading : Unit {0}
unfolding digits hex_on_literals line_text
reading = tt

abbrev fault_at : Cause → ℕ → Result (Option Event) RecordFault
fault_at cause field = Err (record { cause = cause; field = field })

leading_zero : event_of false true (codes "tick" ∷ codes "01" ∷ []) ≡ fault_at cause.Number 2
leading_zero = refl

count_before_begin : event_of false false (codes "tick" ∷ []) ≡ fault_at cause.Fields 0
count_before_begin = refl

left_to_right : event_of false true (codes "join" ∷ codes "0" ∷ codes "x" ∷ []) ≡ fault_at cause.Range 2
left_to_right = refl

third_word : event_of false true (codes "want" ∷ codes "x" ∷ codes "keep" ∷ []) ≡ fault_at cause.Word 3
third_word = refl

double_voter : event_of false false (codes "begin" ∷ codes "0" ∷ codes "9" ∷ codes "2" ∷ codes "2" ∷ []) ≡ fault_at cause.Double 0
double_voter = refl

client : ClientId
client = record { 0 = replicate 16 171 }

-- printed in lower case, with the voters of a begin as they came
abbrev printed : Event → List ℕ
printed e = line_text (event_line 5 e)

voters_as_they_came : printed (event.Begin 0 9 (3 ∷ 1 ∷ [])) ≡ codes "event,5,begin,0,9,3,1\n"
unfolding reading
voters_as_they_came = refl

lower_case : printed (event.Say client 1) ≡ codes "event,5,say,abababababababababababababababab,1\n"
unfolding reading client
lower_case = refl

-- a client stores: backup, then expose under the next number, then the report
abbrev store : Want
store = want.Store (replicate 16 1) (record { 0 = replicate 32 2 }) 3

abbrev flying : ℕ → Bool → Core
flying number exposes = record { last = number; flight = Some (record { want = store; number = number; exposes = exposes }) }

takes_up : wanted new_core store ≡ Ok (flying 1 false)
takes_up = refl

is_busy : wanted (flying 1 false) store ≡ Err fault.ClientBusy
is_busy = refl

numbers_out : wanted (record { last = 2 ^ 64 - 2; flight = None }) store ≡ Err (fault.NumbersOut (2 ^ 64 - 2))
numbers_out = refl

exposes_next : heard (flying 1 false) 1 (Outcome 7 (Applied (Backup 1))) ≡ (flying 2 true, None)
exposes_next = refl

stored : heard (flying 2 true) 2 (Outcome 8 (Applied (Expose 1))) ≡ (record { last = 2; flight = None }, Some report.Stored)
stored = refl

-- what is no answer to it changes nothing
other_number : heard (flying 2 true) 1 (Outcome 8 (Applied (Expose 1))) ≡ (flying 2 true, None)
other_number = refl

other_kind : heard (flying 2 true) 2 (Outcome 8 (Applied (Backup 1))) ≡ (flying 2 true, None)
other_kind = refl

unknown_status : heard (flying 2 true) 2 (Outcome 8 (Applied (Expose 3))) ≡ (flying 2 true, None)
unknown_status = refl

-- a stale number is used
stale : heard (flying 2 true) 2 (Outcome 8 (Stale 9)) ≡ (record { last = 9; flight = None }, Some (report.Undecided 9))
stale = refl
