-- What a peer message makes of its fields: the member that stands last, the items that it lists, and the first fault.
use Rattle.std.specs.Prelude.{ℕ, Bool, false, ◌&&◌, is_some, ◌==◌, List, filter, map, Option, None, if◌then◌else◌}
use Rattle.proto_wire.specs.declared.field.WireFault.{WireFault}
use Rattle.proto_wire.specs.Fields.{Field, Sequence}
use Rattle.proto_wire.specs.Reading.{block_in, embedded, is_member, first_fault_in, last_member}

-- the members of the oneof that list messages of their own, and the field of the list: an append its entries, a part its rows
abbrev pub is_listed : (member : ℕ) → Field → Bool
is_listed member f =
    if member == 4 then f.number == 3 && is_some (block_in f.content)
    else if member == 7 then f.number == 10 && is_some (block_in f.content)
    else false

-- the fields of each listed message, in their order
abbrev pub listed_in : (member : ℕ) → List Field → List (List Field)
listed_in member fs = map (λ f. (embedded f).fields) (filter (is_listed member) fs)

-- the fault inside a listed message, which is read where it stands
abbrev pub listed_fault : (member : ℕ) → Field → Option WireFault
listed_fault member f = if is_listed member f then (embedded f).fault else None

-- the first fault inside a member
abbrev pub member_fault : Field → Option WireFault
member_fault f = if is_member 2 8 f then first_fault_in (listed_fault f.number) (embedded f) else None

-- the first fault of the whole message, in the order of the bytes
abbrev pub wire_fault : Sequence → Option WireFault
wire_fault s = first_fault_in member_fault s

-- the member that stands last: its number and the fields of its run
abbrev pub member_of : List Field → Option (ℕ × List Field)
member_of fs = last_member 2 8 fs
