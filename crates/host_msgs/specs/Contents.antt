-- A batch as it is written.
use Rattle.std.specs.Prelude.{ℕ, List, [], ◌∷◌, ◌++◌, Option, Some, None}
use Rattle.std.specs.List.{flat_map}
use Rattle.values.specs.declared.batch.Batch.{Batch}
use Rattle.values.specs.declared.batch.Refusal.{Refusal}
use Rattle.values.specs.declared.entry.Body.{Body}
use Rattle.values.specs.declared.entry.Body.TheVariants as body
use Rattle.values.specs.declared.entry.Hash.{Hash}
use Rattle.values.specs.declared.entry.LogEntry.{LogEntry}
use Rattle.values.specs.declared.entry.Point.{Point}
use Rattle.values.specs.declared.ids.ClientId.{ClientId}
use Rattle.values.specs.declared.message.Answer.{Answer}
use Rattle.values.specs.declared.message.Answer.TheVariants as answer
use Rattle.values.specs.declared.message.Part.{Part}
use Rattle.values.specs.declared.message.Part.TheVariants as part
use Rattle.values.specs.declared.message.Reply.{Reply}
use Rattle.values.specs.declared.message.Reply.TheVariants as reply
use Rattle.values.specs.declared.peer.PeerMsg.{PeerMsg}
use Rattle.client_msgs.specs.Canonical.{canonical_response}
use Rattle.group_msgs.specs.Canonical.{canonical_peer}
use Rattle.attested_link.specs.Frames.{frame_bytes}
use Rattle.host_msgs.specs.Refusals.{refusal_numbers}
use Rattle.host_msgs.specs.Items.{long_field, word_field, members_fields, halt_fields, point_fields, commit_fields, ask_fields, conf_fields, answer_fields, outcome_fields, part_fields, refusal_fields}
use Rattle.host_msgs.specs.Batches.{item_bytes}

-- ---- the content of each item

abbrev pub members_content : ℕ × ℕ × List ℕ → List ℕ
members_content (index, margin, voters) = members_fields.spelled (index, (margin, voters))

abbrev pub halt_content : ℕ × Hash × Hash → List ℕ
halt_content (index, kept, offered) = halt_fields.spelled (index, (kept.0, offered.0))

abbrev pub taken_content : Point → List ℕ
taken_content point = point_fields.spelled (point.index, point.hash.0)

-- the kind of a body, and its bytes
abbrev pub body_kind : Body → ℕ
body_kind body.Noop = 0
body_kind (body.Ask client number request) = 1
body_kind (body.Members margin voters) = 2

abbrev pub body_content : Body → List ℕ
body_content body.Noop = []
body_content (body.Ask client number request) = ask_fields.spelled (client.0, (number, request))
body_content (body.Members margin voters) = conf_fields.spelled (margin, voters)

abbrev pub commit_content : ℕ × LogEntry → List ℕ
commit_content (index, entry) = commit_fields.spelled (index, (entry.term, (body_kind entry.body, body_content entry.body)))

-- the kind of a reply, and its bytes
abbrev pub reply_kind : Reply → ℕ
reply_kind (reply.Applied response) = 0
reply_kind (reply.Stale last) = 1
reply_kind (reply.TableFull rows) = 2

abbrev pub reply_content : Reply → List ℕ
reply_content (reply.Applied response) = canonical_response response
reply_content (reply.Stale last) = long_field.spelled last
reply_content (reply.TableFull rows) = word_field.spelled rows

abbrev pub part_number : Part → ℕ
part_number part.Nothing = 0
part_number part.Secret = 1
part_number part.Pin = 2
part_number part.Tries = 3

-- the number of an answer, and its bytes
abbrev pub answer_kind : Answer → ℕ
answer_kind (answer.Outcome index reply) = 0
answer_kind (answer.NotLeader id) = 1
answer_kind (answer.Busy count) = 2
answer_kind (answer.Undecided at kept offered) = 3
answer_kind (answer.Malformed offset) = 4
answer_kind (answer.Invalid part size) = 5
answer_kind (answer.Halted index) = 6

abbrev pub answer_bytes : Answer → List ℕ
answer_bytes (answer.Outcome index reply) = outcome_fields.spelled (index, (reply_kind reply, reply_content reply))
answer_bytes (answer.NotLeader id) = word_field.spelled id
answer_bytes (answer.Busy count) = long_field.spelled count
answer_bytes (answer.Undecided at kept offered) = halt_fields.spelled (at, (kept.0, offered.0))
answer_bytes (answer.Malformed offset) = long_field.spelled offset
answer_bytes (answer.Invalid part size) = part_fields.spelled (part_number part, size)
answer_bytes (answer.Halted index) = long_field.spelled index

abbrev pub answer_content : ClientId × ℕ × Answer → List ℕ
answer_content (client, number, answer) = answer_fields.spelled (client.0, (number, (answer_kind answer, answer_bytes answer)))

abbrev pub sent_content : (from : ℕ) → ℕ × PeerMsg → List ℕ
sent_content from (to, message) = frame_bytes from to (canonical_peer message)

abbrev pub refused_content : Refusal → List ℕ
refused_content refusal = refusal_fields.spelled (refusal_numbers refusal)

-- ---- the items of a batch

-- at most one, and one for each of a list
abbrev pub once : {X : Type 0} → (kind : ℕ) → (X → List ℕ) → Option X → List ℕ
once kind content None = []
once kind content (Some x) = item_bytes kind (content x)

abbrev pub each : {X : Type 0} → (kind : ℕ) → (X → List ℕ) → List X → List ℕ
each kind content xs = flat_map (λ x. item_bytes kind (content x)) xs

-- what the replica says of itself, what it did since, and what came of its host's word
abbrev pub standing_bytes : Batch → List ℕ
standing_bytes batch =
    once 1 long_field.spelled batch.lead
    ++ (each 2 members_content batch.members ++ (once 3 halt_content batch.halt ++ once 4 taken_content batch.taken))

abbrev pub doing_bytes : (me : ℕ) → Batch → List ℕ
doing_bytes me batch = each 5 commit_content batch.commits ++ (each 6 answer_content batch.answers ++ each 7 (sent_content me) batch.sent)

abbrev pub hosting_bytes : Batch → List ℕ
hosting_bytes batch = once 8 word_field.spelled batch.saved ++ once 9 refused_content batch.refused

-- the items that the replica `me` leaves
abbrev pub batch_bytes : (me : ℕ) → Batch → List ℕ
batch_bytes me batch = standing_bytes batch ++ (doing_bytes me batch ++ hosting_bytes batch)
