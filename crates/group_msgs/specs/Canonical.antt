-- The one list of bytes that a message is written as: rising field numbers, shortest varints, defaults left out.
use Rattle.std.specs.Prelude.{ℕ, Bool, List, [], ◌++◌, Option, None, Some, if◌then◌else◌}
use Rattle.std.specs.List.{flat_map}
use Rattle.byteorder.specs.Endian.{big_bytes}
use Rattle.proto_wire.specs.Written.{varint_field, block_field, message_field}
use Rattle.values.specs.Terms.{term_of}
use Rattle.values.specs.declared.entry.Point.{Point}
use Rattle.values.specs.declared.entry.Body.{Body}
use Rattle.values.specs.declared.entry.Body.TheVariants.{Noop, Ask, Members}
use Rattle.values.specs.declared.entry.LogEntry.{LogEntry}
use Rattle.values.specs.declared.row.Row.{Row}
use Rattle.values.specs.declared.row.Kept.{Kept}
use Rattle.values.specs.declared.peer.TablePart.{TablePart}
use Rattle.values.specs.declared.peer.PeerMsg.{PeerMsg}
use Rattle.values.specs.declared.peer.PeerMsg.TheVariants.{AskVote, Vote, Append, Accepted, Rejected, Part, PartTaken}

-- true is 1, and false is the default
abbrev pub flag : Bool → ℕ
flag b = if b then 1 else 0

-- ids in four bytes each, the highest first
abbrev pub id_bytes : List ℕ → List ℕ
id_bytes ids = flat_map (big_bytes 4) ids

abbrev pub point_fields : Point → List ℕ
point_fields point = varint_field 1 point.index ++ block_field 2 point.hash.0

abbrev pub body_fields : Body → List ℕ
body_fields Noop = []
body_fields (Ask client number request) = varint_field 2 1 ++ block_field 3 client.0 ++ varint_field 4 number ++ block_field 5 request
body_fields (Members margin voters) = varint_field 2 2 ++ block_field 6 (id_bytes voters) ++ varint_field 7 margin

abbrev pub entry_fields : LogEntry → List ℕ
entry_fields e = varint_field 1 e.term ++ body_fields e.body

abbrev pub entries_field : List LogEntry → List ℕ
entries_field entries = flat_map (λ e. message_field 3 (entry_fields e)) entries

abbrev pub kept_fields : Option Kept → List ℕ
kept_fields None = []
kept_fields (Some kept) = block_field 3 kept.secret ++ block_field 4 kept.pin.0 ++ varint_field 5 kept.left ++ varint_field 6 (flag kept.exposed)

abbrev pub row_fields : Row → List ℕ
row_fields row = block_field 1 row.client.0 ++ varint_field 2 row.last ++ kept_fields row.kept

abbrev pub rows_field : List Row → List ℕ
rows_field rows = flat_map (λ row. message_field 10 (row_fields row)) rows

-- a part: its point, the configuration there, the counts, and the rows
abbrev pub config_fields : TablePart → List ℕ
config_fields part = varint_field 3 part.last_term ++ varint_field 4 part.conf_index ++ varint_field 5 part.margin ++ block_field 6 (id_bytes part.voters)

abbrev pub count_fields : TablePart → List ℕ
count_fields part = varint_field 7 part.limit ++ varint_field 8 part.part ++ varint_field 9 part.parts

abbrev pub part_fields : TablePart → List ℕ
part_fields part = point_fields part.point ++ config_fields part ++ count_fields part ++ rows_field part.rows

-- the number of the message's member, and its fields
abbrev pub member_number : PeerMsg → ℕ
member_number (AskVote term last_index last_term) = 2
member_number (Vote term granted) = 3
member_number (Append term prev entries promise commit) = 4
member_number (Accepted term end promised) = 5
member_number (Rejected term asked hint) = 6
member_number (Part term part) = 7
member_number (PartTaken term point next) = 8

abbrev pub member_fields : PeerMsg → List ℕ
member_fields (AskVote term last_index last_term) = varint_field 1 last_index ++ varint_field 2 last_term
member_fields (Vote term granted) = varint_field 1 (flag granted)
member_fields (Append term prev entries promise commit) = point_fields prev ++ entries_field entries ++ varint_field 4 promise ++ varint_field 5 commit
member_fields (Accepted term end promised) = point_fields end ++ varint_field 3 promised
member_fields (Rejected term asked hint) = varint_field 1 asked ++ varint_field 2 hint
member_fields (Part term part) = part_fields part
member_fields (PartTaken term point next) = point_fields point ++ varint_field 3 next

-- the bytes of a message
abbrev pub canonical_peer : PeerMsg → List ℕ
canonical_peer msg = varint_field 1 (term_of msg) ++ message_field (member_number msg) (member_fields msg)
