-- The items of the grammar, as values, and that what is written of them is read again.
use Rattle.std.specs.Prelude.{◌≡◌, ℕ, ◌<◌, ◌≤◌, ◌^◌, true, List, length, Some}
use Rattle.std.specs.Int.{w8, w32, w64}
use Rattle.fixed_fields.specs.Formats.{IsOfWidth, AreWords, AreFewWords}
use Rattle.group_quorum.specs.Voters.{is_id}
use Rattle.values.specs.declared.limits.TheConstants.{TOP}
use Rattle.group_quorum.specs.declared.TheConstants.{MAX_ID, MAX_MARGIN}
use Rattle.values.specs.declared.batch.Refusal.{Refusal}
use Rattle.values.specs.declared.batch.Refusal.TheVariants as refusal
use Rattle.values.specs.declared.entry.Body.{Body}
use Rattle.values.specs.declared.entry.Body.TheVariants as body
use Rattle.values.specs.declared.entry.Hash.{Hash}
use Rattle.values.specs.declared.entry.LogEntry.{LogEntry}
use Rattle.values.specs.declared.entry.Point.{Point}
use Rattle.values.specs.declared.ids.ClientId.{ClientId}
use Rattle.values.specs.declared.message.Answer.{Answer}
use Rattle.values.specs.declared.message.Answer.TheVariants as answer
use Rattle.values.specs.declared.message.Reply.{Reply}
use Rattle.values.specs.declared.message.Reply.TheVariants as reply
use Rattle.values.specs.declared.peer.PeerMsg.{PeerMsg}
use Rattle.client_msgs.specs.Sizes.{FitsResponse}
use Rattle.group_msgs.specs.Canonical.{canonical_peer}
use Rattle.attested_link.specs.Frames.{frame_bytes}
use Rattle.host_msgs.specs.declared.item.Item.TheVariants as item
use Rattle.host_msgs.specs.Items.{long_field, word_field, is_conf, item_in}
use Rattle.host_msgs.specs.Wrapped.{is_request, message_in}
use Rattle.host_msgs.specs.Contents.{members_content, halt_content, taken_content, commit_content, answer_content, refused_content}

-- an index, or a term
abbrev pub IsIndex : ℕ → Type 0
IsIndex n = n ≤ TOP

-- 32 bytes
abbrev pub IsHash : Hash → Type 0
IsHash hash = length hash.0 ≡ 32

abbrev pub IsClient : ClientId → Type 0
IsClient client = length client.0 ≡ 16

-- a request has its canonical bytes, and a configuration no fault
abbrev pub IsBody : Body → Type 0
IsBody body.Noop = Unit {0}
IsBody (body.Ask client number request) = IsClient client × (IsOfWidth w64 number × (is_request request ≡ true))
IsBody (body.Members margin voters) = IsOfWidth w8 margin × (AreFewWords voters × (is_conf margin voters ≡ true))

abbrev pub IsReply : Reply → Type 0
IsReply (reply.Applied response) = FitsResponse response
IsReply (reply.Stale last) = IsOfWidth w64 last
IsReply (reply.TableFull rows) = IsOfWidth w32 rows

abbrev pub IsAnswer : Answer → Type 0
IsAnswer (answer.Outcome index reply) = IsIndex index × IsReply reply
IsAnswer (answer.NotLeader id) = id ≤ MAX_ID
IsAnswer (answer.Busy count) = IsOfWidth w64 count
IsAnswer (answer.Undecided at kept offered) = IsIndex at × (IsHash kept × IsHash offered)
IsAnswer (answer.Malformed offset) = IsOfWidth w64 offset
IsAnswer (answer.Invalid part size) = IsOfWidth w64 size
IsAnswer (answer.Halted index) = IsIndex index

abbrev pub IsRefusal : Refusal → Type 0
IsRefusal (refusal.NotLeader known) = known < 2 ^ 32
IsRefusal (refusal.ChangePending newest committed) = IsIndex newest × IsIndex committed
IsRefusal (refusal.AlreadyVoter id) = id < 2 ^ 32
IsRefusal (refusal.NotVoter id) = id < 2 ^ 32
IsRefusal (refusal.TooFew count) = count < 2 ^ 32
IsRefusal (refusal.TooMany count) = count < 2 ^ 32
IsRefusal (refusal.NotCaughtUp mark committed) = IsIndex mark × IsIndex committed
IsRefusal (refusal.NoLink id) = id < 2 ^ 32
IsRefusal (refusal.LogFull last) = IsIndex last
IsRefusal (refusal.NoState k) = k < 2 ^ 32
IsRefusal (refusal.NotForMe to) = to < 2 ^ 32
IsRefusal (refusal.BadPeer offset) = IsOfWidth w64 offset
IsRefusal (refusal.SameMargin margin) = margin ≤ MAX_MARGIN

-- each item of the grammar is read again from the content that is written of it
pub record ItemsAreReadAgain : Type 0 where
  pub lead : (term : ℕ) → IsIndex term → item_in 1 (long_field.spelled term) ≡ Some (item.Lead term)
  pub members : (index margin : ℕ) (voters : List ℕ) → IsIndex index → IsOfWidth w8 margin → AreWords voters → is_conf margin voters ≡ true → item_in 2 (members_content (index, margin, voters)) ≡ Some (item.Members index margin voters)
  pub halt : (index : ℕ) (kept offered : Hash) → IsIndex index → IsHash kept → IsHash offered → item_in 3 (halt_content (index, kept, offered)) ≡ Some (item.Halt index kept offered)
  pub taken : (point : Point) → IsIndex point.index → IsHash point.hash → item_in 4 (taken_content point) ≡ Some (item.Taken point)
  pub commit : (index : ℕ) (entry : LogEntry) → IsIndex index → IsIndex entry.term → IsBody entry.body → item_in 5 (commit_content (index, entry)) ≡ Some (item.Commit index entry)
  pub answer : (client : ClientId) (number : ℕ) (said : Answer) → IsClient client → IsOfWidth w64 number → IsAnswer said → item_in 6 (answer_content (client, number, said)) ≡ Some (item.Answer client number said)
  pub sent : (from to : ℕ) (message : PeerMsg) → is_id from ≡ true → is_id to ≡ true → message_in (canonical_peer message) ≡ Some message
      → item_in 7 (frame_bytes from to (canonical_peer message)) ≡ Some (item.Sent from to message (frame_bytes from to (canonical_peer message)))
  pub saved : (k : ℕ) → k < 2 ^ 32 → item_in 8 (word_field.spelled k) ≡ Some (item.Saved k)
  pub refused : (why : Refusal) → IsRefusal why → item_in 9 (refused_content why) ≡ Some (item.Refused why)
