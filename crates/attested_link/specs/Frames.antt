-- Link frames, and which of them a replica takes.
use Rattle.std.specs.Prelude.{◌≡◌, ℕ, ◌==◌, Bool, List, length, Option, Some, None, Result, Ok, Err, if◌then◌else◌}
use Rattle.std.specs.Int.{w32}
use Rattle.fixed_fields.specs.Formats.{Content, number, rest, before}
use Rattle.attested_link.specs.declared.frames.LinkFault.{LinkFault}
use Rattle.attested_link.specs.declared.frames.LinkFault.TheVariants.{Short, NotForMe, NoLink}

-- the sender's id and the addressee's in four bytes each, and the message
abbrev pub link_frame : Content (ℕ × (ℕ × List ℕ))
link_frame = before (number w32) (before (number w32) rest)

abbrev pub frame_bytes : (from to : ℕ) → List ℕ → List ℕ
frame_bytes from to message = link_frame.spelled (from, (to, message))

-- what a replica makes of the parts of a frame of so many bytes, where it has parts
abbrev pub taken_by : (ℕ → Bool) → (me size : ℕ) → Option (ℕ × (ℕ × List ℕ)) → Result (ℕ × List ℕ) LinkFault
taken_by linked me size None = Err (Short size)
taken_by linked me size (Some (from, (to, message))) =
    if to == me then (if linked from then Ok (from, message) else Err (NoLink from)) else Err (NotForMe to)

-- the sender and the message of a frame for this replica, from one that is linked, or the first of the faults
abbrev pub accepted_of : (ℕ → Bool) → (me : ℕ) → List ℕ → Result (ℕ × List ℕ) LinkFault
accepted_of linked me frame = taken_by linked me (length frame) (link_frame.read frame)

-- a result, seen without where its bytes lie in memory, is this answer
abbrev pub Gives : {X Y E : Type 0} → (X → Y) → Result X E → Result Y E → Type 0
Gives view (Ok x) answer = answer ≡ Ok (view x)
Gives view (Err e) answer = answer ≡ Err e
