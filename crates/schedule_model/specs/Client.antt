-- A client's core: what it wants, the request in flight, and what it makes of the answers that it hears.
use Rattle.std.specs.Prelude.{ℕ, ◌+◌, ◌-◌, ◌==◌, nat_lt, max, if◌then◌else◌, Bool, true, false, List, Option, Some, None, option_map, Result, Ok, Err}
use Rattle.values.specs.declared.message.Answer.{Answer}
use Rattle.values.specs.declared.message.Answer.TheVariants as answer
use Rattle.values.specs.declared.message.Part.{Part}
use Rattle.values.specs.declared.message.Reply.{Reply}
use Rattle.values.specs.declared.message.Reply.TheVariants as reply
use Rattle.values.specs.declared.message.Request.{Request}
use Rattle.values.specs.declared.message.Request.TheVariants as request
use Rattle.values.specs.declared.message.Response.{Response}
use Rattle.values.specs.declared.message.Response.TheVariants as response
use Rattle.values.specs.declared.want.Report.{Report}
use Rattle.values.specs.declared.want.Report.TheVariants as report
use Rattle.values.specs.declared.want.Want.{Want}
use Rattle.values.specs.declared.want.Want.TheVariants as want
use Rattle.values.specs.declared.want.WantFault.{WantFault}
use Rattle.values.specs.declared.want.WantFault.TheVariants as fault
use Rattle.schedule_model.specs.Reading.{max_u64}
use Rattle.client_msgs.specs.Canonical.{canonical_request}
use Rattle.client_msgs.specs.Sizes.{size_fault}

-- a want in flight, under the number of its request. A store has two requests: the backup, and then the expose
pub record Flight : Type 0 where
  pub want : Want
  pub number : ℕ
  pub exposes : Bool

-- the last number that the client has used or has heard of in a Stale answer, and what is in flight
pub record Core : Type 0 where
  pub last : ℕ
  pub flight : Option Flight

abbrev pub new_core : Core
new_core = record { last = 0; flight = None }

-- the first request of a want
abbrev pub first_request : Want → Request
first_request (want.Store secret pin tries) = request.Backup secret pin tries
first_request (want.Recover pin) = request.Restore pin
first_request want.Erase = request.Delete

-- how many numbers it needs
abbrev pub numbers_needed : Want → ℕ
numbers_needed (want.Store secret pin tries) = 2
numbers_needed (want.Recover pin) = 1
numbers_needed want.Erase = 1

-- the second request of a store
abbrev pub second_request : Want → Request
second_request (want.Store secret pin tries) = request.Expose secret
second_request w = first_request w

abbrev pub flight_request : Flight → Request
flight_request f = if f.exposes then second_request f.want else first_request f.want

-- what is in flight moves to the next number
abbrev pub flies : Core → Want → Bool → Core
flies core w exposes =
    record { last = core.last + 1; flight = Some (record { want = w; number = core.last + 1; exposes = exposes }) }

abbrev pub want_numbers : Core → Want → Result Core WantFault
want_numbers core w =
    if nat_lt (max_u64 - core.last) (numbers_needed w) then Err (fault.NumbersOut core.last) else Ok (flies core w false)

abbrev pub want_sizes : Core → Want → Option (Part × ℕ) → Result Core WantFault
want_sizes core w (Some (part, length)) = Err (fault.Size part length)
want_sizes core w None = want_numbers core w

abbrev pub want_in : Core → Want → Option Flight → Result Core WantFault
want_in core w (Some flight) = Err fault.ClientBusy
want_in core w None = want_sizes core w (size_fault (first_request w))

-- the core after a want, or why the want is not taken up
abbrev pub wanted : Core → Want → Result Core WantFault
wanted core w = want_in core w core.flight

-- the number and the bytes of the request in flight
abbrev pub said : Core → Option (ℕ × List ℕ)
said core = option_map (λ f. (f.number, canonical_request (flight_request f))) core.flight

-- what a response means to a want whose request it answers
pub data Meaning : Type 0 where
  Nothing : Meaning
  GoesOn : Meaning
  Reports : (report : Report) → Meaning

abbrev pub restore_meaning : ℕ → List ℕ → ℕ → Meaning
restore_meaning status secret tries =
    if status == 1 then Reports (report.Recovered secret tries)
    else if status == 2 then Reports report.Missing
    else if status == 3 then Reports (report.WrongPin tries)
    else Nothing

abbrev pub expose_meaning : ℕ → Meaning
expose_meaning status =
    if status == 1 then Reports report.Stored else if status == 2 then Reports report.ExposeError else Nothing

-- the meaning of a response of the kind that was asked for and of a known status; any other means nothing
abbrev pub response_meaning : Want → Bool → Response → Meaning
response_meaning (want.Store secret pin tries) false (response.Backup status) = if status == 1 then GoesOn else Nothing
response_meaning (want.Store secret pin tries) true (response.Expose status) = expose_meaning status
response_meaning (want.Recover pin) exposes (response.Restore status secret tries) = restore_meaning status secret tries
response_meaning want.Erase exposes response.Delete = Reports report.Deleted
response_meaning w exposes other = Nothing

abbrev pub reply_meaning : Flight → Reply → Meaning
reply_meaning f (reply.Applied what) = response_meaning f.want f.exposes what
reply_meaning f (reply.Stale last) = Reports (report.Undecided last)
reply_meaning f (reply.TableFull rows) = Reports (report.Full rows)

-- the meaning of an answer to the number in flight
abbrev pub answer_meaning : Flight → Answer → Meaning
answer_meaning f (answer.Outcome index what) = reply_meaning f what
answer_meaning f (answer.Undecided at kept offered) = Reports (report.Undecided f.number)
answer_meaning f (answer.NotLeader id) = Nothing
answer_meaning f (answer.Busy waiting) = Nothing
answer_meaning f (answer.Malformed offset) = Nothing
answer_meaning f (answer.Invalid part length) = Nothing
answer_meaning f (answer.Halted index) = Nothing

-- the last number after a report: a number that a Stale answer tells is used too
abbrev pub last_after : Core → Report → ℕ
last_after core (report.Undecided last) = max core.last last
last_after core other = core.last

-- the core after an answer of this meaning, and the report. Each report ends the want
abbrev pub heard_as : Core → Flight → Meaning → Core × Option Report
heard_as core f Nothing = (core, None)
heard_as core f GoesOn = (flies core f.want true, None)
heard_as core f (Reports r) = (record { last = last_after core r; flight = None }, Some r)

abbrev pub hear_in : Core → ℕ → Answer → Option Flight → Core × Option Report
hear_in core number what None = (core, None)
hear_in core number what (Some f) = if number == f.number then heard_as core f (answer_meaning f what) else (core, None)

-- the core after an answer to a number, and the report
abbrev pub heard : Core → ℕ → Answer → Core × Option Report
heard core number what = hear_in core number what core.flight
