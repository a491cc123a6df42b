-- The transfer of a table: its parts, who takes them, and who sends them.
use Rattle.std.specs.Prelude.{◌≡◌, ℕ, ◌+◌, ◌-◌, ◌*◌, ◌/◌, ◌<◌, Bool, cond, ◌&&◌, ◌==◌, nat_lt, max, Option, Some, None, List, length, take, drop}
use Rattle.values.specs.declared.entry.Point.{Point}
use Rattle.values.specs.declared.row.Row.{Row}
use Rattle.values.specs.declared.peer.TablePart.{TablePart}
use Rattle.values.specs.declared.peer.PeerMsg.{PeerMsg}
use Rattle.values.specs.declared.peer.PeerMsg.TheVariants.{Rejected, Part, PartTaken}
use Rattle.group_quorum.specs.Voters.{is_in}
use Rattle.values.specs.declared.limits.TheConstants.{ROWS_PER_PART}
use Rattle.replica_model.specs.Path.{Path, Link, end_point, same_point, last_term}
use Rattle.replica_model.specs.Configs.{conf, conf_index}
use Rattle.replica_model.specs.Folds.{fold_of}
use Rattle.replica_model.specs.Keyed.{value_at, put, without}
use Rattle.replica_model.specs.Message.{Message, plain}
use Rattle.replica_model.specs.Replica.{Named, Sending, Taking, Role, Learner, Follower, Leader, Leading, Replica}
use Rattle.replica_model.specs.Term.{learner_term}
use Rattle.replica_model.specs.Peers.{progress_of, with_progress, leads_with}
use Rattle.replica_model.specs.Call.{Call, empty_batch, still, says, send_to}
use Rattle.replica_model.specs.Graft.{matches}
use Rattle.replica_model.specs.Heard.{to_peer}

-- the rows of a path's table, in rising client order
abbrev pub rows_of : Named → List Row
rows_of n = (fold_of n.limit n.path).rows

-- parts hold 32 rows each, the last one the rest. An empty table has one part without rows
abbrev pub parts_of : List Row → ℕ
parts_of rows = max 1 ((length rows + (ROWS_PER_PART - 1)) / ROWS_PER_PART)

-- the rows of a part
abbrev pub rows_in_part : List Row → ℕ → List Row
rows_in_part rows number = take ROWS_PER_PART (drop (ROWS_PER_PART * number) rows)

-- a part, where these are the rows of the path's table
abbrev part_with : Link → Named → List Row → ℕ → TablePart
part_with link n rows number =
    record {
      point = end_point link n.path;
      last_term = last_term n.path;
      conf_index = conf_index n.path;
      margin = (conf n.first n.path).margin;
      voters = (conf n.first n.path).voters;
      limit = n.limit;
      part = number;
      parts = parts_of rows;
      rows = rows_in_part rows number;
    }

-- a part of a path's table, by its number from 0
abbrev pub part_of : Link → Named → ℕ → TablePart
part_of link n number = part_with link n (rows_of n) number

-- a true part: its rows and its other fields are those of the path that it names
pub record IsTruePart (link : Link) (part : TablePart) (n : Named) : Type 0 where
  pub is_part : part ≡ part_of link n part.part
  pub below : part.part < part.parts

-- the names of a leader's tables: the path, with the leader's own limit and first configuration
abbrev pub named_by : Replica → Path → Named
named_by s p = record { path = p; limit = s.limit; first = s.first }

-- the outstanding part of a table that is being sent
abbrev pub part_message : Link → Replica → Sending → Message
part_message link s sending =
    record { msg = Part s.term (part_of link (named_by s sending.path) sending.part); names = named_by s sending.path }

-- the point of the table whose parts a learner takes; of no table it is index 0 with the first hash
abbrev pub point_taken : Link → Taking → Point
point_taken link t = end_point link t.names.path

-- the part has the expected point and number, or it is number 0 of another point
abbrev pub is_taken : Link → Taking → TablePart → Bool
is_taken link t part =
    cond (same_point part.point (point_taken link t)) (part.part == t.next) (part.part == 0)

-- what has been taken with this part: number 0 says whose table it is
abbrev pub taken_with : Taking → TablePart → Named → Taking
taken_with t part names = record { names = cond (part.part == 0) names t.names; next = part.part + 1 }

-- the learner answers with the point and the number that it expects
abbrev pub expects : Link → Replica → ℕ → Taking → Call
expects link s from t = says s from (PartTaken s.term (point_taken link t) t.next)

-- with the last part a learner follows the sender. Its log begins at the point, all promised and committed. The limit
-- is that of number 0, all else that of the last part
abbrev pub with_table : Replica → ℕ → Path → ℕ → Named → Replica
with_table s from p limit names =
    record s {
      limit = limit;
      first = names.first;
      path = p;
      base = length p;
      promised = length p;
      committed = length p;
      known = from;
      role = Follower;
    }

-- it tells the point of the table, and answers that all parts are taken
abbrev pub takes_whole : Link → Replica → ℕ → TablePart → Named → ℕ → Call
takes_whole link s from part names limit =
    send_to
    (record (still (with_table s from names.path limit names)) {
      batch = record empty_batch { taken = Some (end_point link names.path) };
    })
    from (plain (PartTaken s.term (end_point link names.path) part.parts))

-- the last part makes the table whole
abbrev pub takes : Link → Replica → ℕ → Taking → TablePart → Named → Call
takes link s from t part names =
    cond (part.part + 1 == part.parts)
    (takes_whole link s from part names t.names.limit)
    (expects link (record s { role = Learner t }) from t)

-- a part at a learner that holds nothing
abbrev pub take_part : Link → Replica → Taking → ℕ → TablePart → Named → Call
take_part link s t from part names =
    cond (is_taken link t part) (takes link s from (taken_with t part names) part names) (expects link s from t)

-- a learner that holds nothing takes parts alone, of any term
abbrev pub learner_hears : Link → Replica → Taking → ℕ → Named → PeerMsg → Call
learner_hears link s t from names (Part term part) = take_part link (learner_term s term) t from part names
learner_hears link s t from names _ = still s

-- table part, of the replica's own term, where it holds a log: it takes nothing
abbrev pub part_heard : Link → Replica → ℕ → TablePart → Call
part_heard link s from part =
    cond (matches link s part.point)
    (says s from (PartTaken s.term part.point part.parts))
    (says s from (Rejected s.term part.point.index (cond (nat_lt (length s.path) part.point.index) (length s.path) s.promised)))

-- the next part goes out
abbrev pub sends_next : Link → Replica → Leading → ℕ → Sending → Call
sends_next link s l v sending =
    send_to (still (leads_with s (record l { sendings = put l.sendings v sending }))) v (part_message link s sending)

-- the table was taken whole: the sending ends, and the peer is sent what follows the point
abbrev pub sending_done : Replica → Leading → ℕ → ℕ → Call
sending_done s l v index =
    to_peer
    (still (leads_with s (with_progress (record l { sendings = without l.sendings v }) v (record (progress_of l v) { next = index + 1 }))))
    v

-- the number after the last part ends the sending; a later part than the outstanding one is sent
abbrev pub sending_heard : Link → Replica → Leading → ℕ → Sending → ℕ → ℕ → Call
sending_heard link s l v sending next parts =
    cond (next == parts) (sending_done s l v (length sending.path))
    (cond (nat_lt sending.part next && nat_lt next parts)
    (sends_next link s l v (record sending { part = next }))
    (still s))

-- only the point of the table counts
abbrev pub taken_by : Link → Replica → Leading → ℕ → Option Sending → Point → ℕ → Call
taken_by link s l v None point next = still s
taken_by link s l v (Some sending) point next =
    cond (same_point point (end_point link sending.path))
    (sending_heard link s l v sending next (parts_of (rows_of (named_by s sending.path))))
    (still s)

-- part taken: at a leader, for a learner to which a table is being sent
abbrev pub part_taken : Link → Replica → Role → ℕ → Point → ℕ → Call
part_taken link s (Leader l) from point next =
    cond (is_in l.learners from) (taken_by link s l from (value_at l.sendings from) point next) (still s)
part_taken link s _ from point next = still s
