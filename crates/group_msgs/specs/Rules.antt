-- The rules of a peer message's fields, in the order in which they are tried.
use Rattle.std.specs.Prelude.{ℕ, ◌+◌, ◌*◌, ◌%◌, Bool, true, ◌&&◌, nat_le, nat_lt, ◌==◌, List, [], ◌∷◌, length, Option, Some, None, if◌then◌else◌}
use Rattle.std.specs.Option.{option_or}
use Rattle.group_quorum.specs.declared.TheConstants.{MAX_VOTERS, MAX_ID, MAX_MARGIN}
use Rattle.client_msgs.specs.Strict.{is_canonical}
use Rattle.values.specs.declared.limits.TheConstants.{MAX_ENTRIES, ROWS_PER_PART, TOP, MAX_PARTS, MOST_ROWS}
use Rattle.group_msgs.specs.declared.fault.PeerFault.{PeerFault}
use Rattle.group_msgs.specs.declared.fault.PeerFault.TheVariants.{Range, Size, NotCanonical}
use Rattle.group_msgs.specs.Known.{Known, u64_at, u32_at, bytes_at}
use Rattle.group_msgs.specs.Values.{ids_in}

-- what a rule finds: nothing where it holds, else its fault
abbrev pub rule : Bool → PeerFault → Option PeerFault
rule holds fault = if holds then None else Some fault

-- the first fault that the rules find
abbrev pub first_of : List (Option PeerFault) → Option PeerFault
first_of [] = None
first_of (found ∷ rest) = option_or found (first_of rest)

-- the number of this field is at most a bound, and lies between two bounds
abbrev pub at_most : (field most n : ℕ) → Option PeerFault
at_most field most n = rule (nat_le n most) (Range field)

abbrev pub from_1_to : (field most n : ℕ) → Option PeerFault
from_1_to field most n = rule (nat_le 1 n && nat_le n most) (Range field)

-- an index or a term is at most TOP
abbrev pub index_rule : ℕ → Known → Option PeerFault
index_rule field x = at_most field TOP (u64_at field x)

-- the bytes of this field are so many
abbrev pub size_rule : (field size : ℕ) → List ℕ → Option PeerFault
size_rule field size bytes = rule (length bytes == size) (Size field (length bytes))

-- voters: 1 to 31 of them in four bytes each, and then strictly rising ids from 1 to 65,535
abbrev pub are_voters_long : List ℕ → Bool
are_voters_long bytes = nat_le 4 (length bytes) && nat_le (length bytes) (4 * MAX_VOTERS) && length bytes % 4 == 0

abbrev pub rise_above : ℕ → List ℕ → Bool
rise_above last [] = true
rise_above last (id ∷ ids) = nat_lt last id && nat_le id MAX_ID && rise_above id ids

abbrev pub voters_fault : List ℕ → Option PeerFault
voters_fault bytes = first_of (rule (are_voters_long bytes) (Size 6 (length bytes)) ∷ rule (rise_above 0 (ids_in bytes)) (Range 6) ∷ [])

-- the voters are enough for the margin
abbrev pub are_enough : (margin : ℕ) → List ℕ → Bool
are_enough margin voters = nat_le (2 * margin + 1) (length voters)

-- ---- entries

abbrev pub ask_fault : (place : ℕ) → Known → Option PeerFault
ask_fault place x = first_of (size_rule 3 16 (bytes_at 3 x) ∷ rule (is_canonical (bytes_at 5 x)) (NotCanonical place) ∷ [])

abbrev pub members_fault : Known → Option PeerFault
members_fault x =
    first_of (voters_fault (bytes_at 6 x) ∷ rule (nat_le (u32_at 7 x) MAX_MARGIN && are_enough (u32_at 7 x) (ids_in (bytes_at 6 x))) (Range 7) ∷ [])

abbrev pub kind_fault : (place kind : ℕ) → Known → Option PeerFault
kind_fault place kind x =
    if kind == 0 then None
    else if kind == 1 then ask_fault place x
    else if kind == 2 then members_fault x
    else Some (Range 2)

abbrev pub entry_fault : (place : ℕ) → Known → Option PeerFault
entry_fault place x = first_of (index_rule 1 x ∷ kind_fault place (u32_at 2 x) x ∷ [])

-- of entries, the first of which has this place
abbrev pub entries_fault : (place : ℕ) → List Known → Option PeerFault
entries_fault place [] = None
entries_fault place (x ∷ entries) = option_or (entry_fault place x) (entries_fault (place + 1) entries)

-- ---- rows

abbrev pub kept_fault : (secret : List ℕ) → Known → Option PeerFault
kept_fault [] x = None
kept_fault (b ∷ bytes) x =
    first_of (rule (nat_le 16 (length (b ∷ bytes)) && nat_le (length (b ∷ bytes)) 48) (Size 3 (length (b ∷ bytes))) ∷ size_rule 4 32 (bytes_at 4 x) ∷ from_1_to 5 255 (u32_at 5 x) ∷ [])

abbrev pub row_fault : Known → Option PeerFault
row_fault x = first_of (size_rule 1 16 (bytes_at 1 x) ∷ kept_fault (bytes_at 3 x) x ∷ [])

abbrev pub rows_fault : List Known → Option PeerFault
rows_fault [] = None
rows_fault (x ∷ rows) = option_or (row_fault x) (rows_fault rows)

-- ---- what a member lists: an append its entries, a part its rows

abbrev pub item_fault : (member place : ℕ) → Known → Option PeerFault
item_fault member place x = if member == 4 then entry_fault place x else row_fault x

abbrev pub items_fault : (member : ℕ) → List Known → Option PeerFault
items_fault member listed = if member == 4 then entries_fault 0 listed else rows_fault listed

-- ---- members

abbrev pub point_fault : Known → Option PeerFault
point_fault x = first_of (index_rule 1 x ∷ size_rule 2 32 (bytes_at 2 x) ∷ [])

abbrev pub append_fault : Known → List Known → Option PeerFault
append_fault x entries = first_of (
    point_fault x
    ∷ at_most 3 TOP (u64_at 1 x + length entries)
    ∷ rule (nat_le (length entries) MAX_ENTRIES) (Size 3 (length entries))
    ∷ entries_fault 0 entries
    ∷ index_rule 4 x
    ∷ index_rule 5 x
    ∷ [])

abbrev pub part_fault : Known → List Known → Option PeerFault
part_fault x rows = first_of (
    point_fault x
    ∷ index_rule 3 x
    ∷ index_rule 4 x
    ∷ at_most 4 (u64_at 1 x) (u64_at 4 x)
    ∷ at_most 5 MAX_MARGIN (u32_at 5 x)
    ∷ voters_fault (bytes_at 6 x)
    ∷ rule (are_enough (u32_at 5 x) (ids_in (bytes_at 6 x))) (Range 5)
    ∷ from_1_to 7 MOST_ROWS (u32_at 7 x)
    ∷ rule (nat_lt (u32_at 8 x) (u32_at 9 x)) (Range 8)
    ∷ from_1_to 9 MAX_PARTS (u32_at 9 x)
    ∷ rule (nat_le (length rows) ROWS_PER_PART) (Size 10 (length rows))
    ∷ rows_fault rows
    ∷ [])

abbrev pub fields_fault : (number : ℕ) → Known → List Known → Option PeerFault
fields_fault number x listed =
    if number == 2 then first_of (index_rule 1 x ∷ index_rule 2 x ∷ [])
    else if number == 3 then None
    else if number == 4 then append_fault x listed
    else if number == 5 then first_of (point_fault x ∷ index_rule 3 x ∷ [])
    else if number == 6 then first_of (index_rule 1 x ∷ index_rule 2 x ∷ [])
    else if number == 7 then part_fault x listed
    else point_fault x

-- the first rule that is broken, by the term and then by the member's fields in rising number
abbrev pub range_fault : (term number : ℕ) → Known → List Known → Option PeerFault
range_fault term number x listed = option_or (at_most 1 TOP term) (fields_fault number x listed)
