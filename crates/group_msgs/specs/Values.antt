-- The values that scalars stand for, where any numbers and sizes are let stand.
use Rattle.std.specs.Prelude.{ℕ, ◌*◌, ◌/◌, ◌==◌, List, [], ◌∷◌, length, drop, map, Option, Some, None, if◌then◌else◌}
use Rattle.std.specs.List.{range_with_len}
use Rattle.byteorder.specs.Endian.{big_number}
use Rattle.values.specs.declared.entry.Point.{Point}
use Rattle.values.specs.declared.entry.Body.{Body}
use Rattle.values.specs.declared.entry.Body.TheVariants.{Noop, Ask, Members}
use Rattle.values.specs.declared.entry.LogEntry.{LogEntry}
use Rattle.values.specs.declared.row.Row.{Row}
use Rattle.values.specs.declared.row.Kept.{Kept}
use Rattle.values.specs.declared.peer.TablePart.{TablePart}
use Rattle.values.specs.declared.peer.PeerMsg.{PeerMsg}
use Rattle.values.specs.declared.peer.PeerMsg.TheVariants.{AskVote, Vote, Append, Accepted, Rejected, Part, PartTaken}
use Rattle.group_msgs.specs.Known.{Known, u64_at, u32_at, bool_at, bytes_at}

-- the ids that stand in bytes, four bytes each, the highest first
abbrev pub ids_in : List ℕ → List ℕ
ids_in bytes = map (λ k. big_number 4 (drop (4 * k) bytes)) (range_with_len 0 (length bytes / 4))

-- a point of two fields
abbrev pub point_of : (index hash : ℕ) → Known → Point
point_of index hash x = record { index = u64_at index x; hash = record { 0 = bytes_at hash x } }

-- an entry: its kind is 0 Noop, 1 Ask or 2 Members, and fields that its kind does not use count for nothing
abbrev pub body_of : Known → Body
body_of x =
    if u32_at 2 x == 0 then Noop
    else if u32_at 2 x == 1 then Ask (record { 0 = bytes_at 3 x }) (u64_at 4 x) (bytes_at 5 x)
    else Members (u32_at 7 x) (ids_in (bytes_at 6 x))

abbrev pub entry_of : Known → LogEntry
entry_of x = record { term = u64_at 1 x; body = body_of x }

-- a row: without data it has no record
abbrev pub kept_with : List ℕ → Known → Option Kept
kept_with [] x = None
kept_with (b ∷ bytes) x = Some (record { secret = b ∷ bytes; pin = record { 0 = bytes_at 4 x }; left = u32_at 5 x; exposed = bool_at 6 x })

abbrev pub row_of : Known → Row
row_of x = record { client = record { 0 = bytes_at 1 x }; last = u64_at 2 x; kept = kept_with (bytes_at 3 x) x }

abbrev pub part_of : Known → List Known → TablePart
part_of x rows = record {
  point = point_of 1 2 x;
  last_term = u64_at 3 x;
  conf_index = u64_at 4 x;
  margin = u32_at 5 x;
  voters = ids_in (bytes_at 6 x);
  limit = u32_at 7 x;
  part = u32_at 8 x;
  parts = u32_at 9 x;
  rows = map row_of rows;
}

-- the message of a term, and of a member of this number with these scalars and what it lists
abbrev pub message_of : (term number : ℕ) → Known → List Known → PeerMsg
message_of term number x listed =
    if number == 2 then AskVote term (u64_at 1 x) (u64_at 2 x)
    else if number == 3 then Vote term (bool_at 1 x)
    else if number == 4 then Append term (point_of 1 2 x) (map entry_of listed) (u64_at 4 x) (u64_at 5 x)
    else if number == 5 then Accepted term (point_of 1 2 x) (u64_at 3 x)
    else if number == 6 then Rejected term (u64_at 1 x) (u64_at 2 x)
    else if number == 7 then Part term (part_of x listed)
    else PartTaken term (point_of 1 2 x) (u32_at 3 x)
