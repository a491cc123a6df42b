-- What a known message makes of its fields. Fields of other numbers, and of other wire types, count for nothing.
use Rattle.std.specs.Prelude.{ℕ, ◌%◌, ◌^◌, Bool, ◌&&◌, nat_le, is_some, ◌==◌, List, [], ◌∷◌, ◌++◌, filter, reverse, slice_get, take_while, Option, None, Some, unwrap_or, if◌then◌else◌}
use Rattle.std.specs.Option.{option_to_list}
use Rattle.std.specs.List.{filter_map, flat_map, last_or}
use Rattle.proto_wire.specs.declared.field.WireFault.{WireFault}
use Rattle.proto_wire.specs.Fields.{Content, Varint, Eight, Block, Four, Field, Sequence, nothing, sequence_at}

abbrev pub varint_in : Content → Option ℕ
varint_in (Varint n) = Some n
varint_in (Eight x) = None
varint_in (Block x) = None
varint_in (Four x) = None

abbrev pub block_in : Content → Option (List ℕ)
block_in (Varint n) = None
block_in (Eight x) = None
block_in (Block x) = Some x
block_in (Four x) = None

-- what a field holds, where it has this number
abbrev pub varint_under : ℕ → Field → Option ℕ
varint_under number f = if f.number == number then varint_in f.content else None

abbrev pub block_under : ℕ → Field → Option (List ℕ)
block_under number f = if f.number == number then block_in f.content else None

-- what the fields of a number hold, in their order
abbrev pub varints_of : ℕ → List Field → List ℕ
varints_of number fs = filter_map (varint_under number) fs

abbrev pub blocks_of : ℕ → List Field → List (List ℕ)
blocks_of number fs = filter_map (block_under number) fs

-- The last one counts, and without any the default: of a number of 64 bits, of the low 32 bits of one, and of bytes.
abbrev pub u64_of : ℕ → List Field → ℕ
u64_of number fs = unwrap_or (last_or None (varints_of number fs)) 0

abbrev pub u32_of : ℕ → List Field → ℕ
u32_of number fs = u64_of number fs % 2 ^ 32

abbrev pub bytes_of : ℕ → List Field → List ℕ
bytes_of number fs = unwrap_or (last_or None (blocks_of number fs)) []

-- the sequence of an embedded message, read where it stands
abbrev pub embedded : Field → Sequence
embedded f = of_content f.content
  where
    of_content : Content → Sequence
    of_content (Varint n) = nothing
    of_content (Eight x) = nothing
    of_content (Block x) = sequence_at f.content_at x
    of_content (Four x) = nothing

-- whether a field is a member of a oneof of embedded messages, which has the numbers from low to high
abbrev pub is_member : (low high : ℕ) → Field → Bool
is_member low high f = nat_le low f.number && nat_le f.number high && is_some (block_in f.content)

abbrev pub members_of : (low high : ℕ) → List Field → List Field
members_of low high fs = filter (is_member low high) fs

-- The member that stands last: its number and the fields of its run, which are the members at the end that
-- are all of that number. They are read on into one value.
abbrev pub last_member : (low high : ℕ) → List Field → Option (ℕ × List Field)
last_member low high fs = run (reverse (members_of low high fs))
  where
    run : List Field → Option (ℕ × List Field)
    run [] = None
    run (last ∷ before) = Some (last.number, flat_map (λ m. (embedded m).fields) (reverse (take_while (λ m. m.number == last.number) (last ∷ before))))

-- the fields of the run that a member of this number goes on with, behind what stood last before
abbrev pub run_so_far : Option (ℕ × List Field) → ℕ → List Field
run_so_far None number = []
run_so_far (Some (last, fs)) number = if last == number then fs else []

-- the fault inside a member
abbrev pub member_fault : (low high : ℕ) → Field → Option WireFault
member_fault low high f = if is_member low high f then (embedded f).fault else None

-- the first fault in the order of the bytes: inside a field, where it stands, or else of the message's own fields
abbrev pub first_fault_in : (inside : Field → Option WireFault) → Sequence → Option WireFault
first_fault_in inside s = slice_get (filter_map inside s.fields ++ option_to_list s.fault) 0

-- the same where the members of the oneof are read inside
abbrev pub first_fault : (low high : ℕ) → Sequence → Option WireFault
first_fault low high s = first_fault_in (member_fault low high) s
