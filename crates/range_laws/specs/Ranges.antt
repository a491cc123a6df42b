-- The ranges of what a run of a group is handed, holds and tells. Every index, term and length is at most the number n of
-- its events, so that one number bounds them all.
use Rattle.std.specs.Prelude.{◌≡◌, ℕ, ◌+◌, ◌≤◌, ◌&&◌, List, length, None, IsTrue, IfSome, Some}
use Rattle.std.specs.List.{AllByRecursion, list_all}
use Rattle.group_quorum.specs.Conf.{Conf}
use Rattle.group_quorum.specs.Voters.{fault_of}
use Rattle.values.specs.declared.limits.TheConstants.{MAX_EVENTS, MAX_REQUEST}
use Rattle.values.specs.declared.batch.Batch.{Batch}
use Rattle.values.specs.declared.batch.Refusal.{Refusal}
use Rattle.values.specs.declared.entry.Body.{Body}
use Rattle.values.specs.declared.entry.Body.TheVariants.{Noop, Ask, Members}
use Rattle.values.specs.declared.entry.Hash.{Hash}
use Rattle.values.specs.declared.entry.LogEntry.{LogEntry}
use Rattle.values.specs.declared.entry.Point.{Point}
use Rattle.values.specs.declared.event.Event.{Event}
use Rattle.values.specs.declared.event.Event.TheVariants as event
use Rattle.values.specs.declared.ids.ClientId.{ClientId}
use Rattle.values.specs.declared.message.Answer.{Answer}
use Rattle.values.specs.declared.message.Answer.TheVariants as answer
use Rattle.values.specs.declared.message.Reply.{Reply}
use Rattle.values.specs.declared.message.Reply.TheVariants as reply
use Rattle.values.specs.declared.message.Response.{Response}
use Rattle.values.specs.declared.message.Response.TheVariants as response
use Rattle.values.specs.declared.peer.PeerMsg.{PeerMsg}
use Rattle.values.specs.declared.peer.PeerMsg.TheVariants.{AskVote, Vote, Append, Accepted, Rejected, Part, PartTaken}
use Rattle.values.specs.declared.want.Want.{Want}
use Rattle.values.specs.declared.want.Want.TheVariants as want
use Rattle.client_msgs.specs.Strict.{IsCanonical}
use Rattle.schedule_model.specs.Reading.{max_u32, max_u64}
use Rattle.replica_model.specs.declared.Progress.{Progress}
use Rattle.replica_model.specs.Path.{Path}
use Rattle.replica_model.specs.Keyed.{value_at}
use Rattle.replica_model.specs.Replica.{Named, Sending, Taking, Ticket, Role, Learner, Follower, Candidate, Leader, Leading, Replica}
use Rattle.replica_model.specs.Message.{Message}
use Rattle.replica_model.specs.Call.{Call}
use Rattle.trace_model.specs.TraceLines.{is_hash, is_byte, is_client_id, is_members, is_replica, is_u64, is_reply, refusal_numbers}

-- ---- plain values
abbrev pub IsId : ℕ → Type 0
IsId v = IsTrue (is_replica v)

abbrev pub AreIds : List ℕ → Type 0
AreIds vs = AllByRecursion IsId vs

abbrev pub AreBytes : List ℕ → Type 0
AreBytes bytes = IsTrue (list_all is_byte bytes)

-- a configuration without a fault
pub record ConfIn (c : Conf) : Type 0 where
  pub sound : IsTrue (is_members c.margin c.voters)
  pub ids : AreIds c.voters

abbrev pub BodyIn : Body → Type 0
BodyIn Noop = Unit {0}
BodyIn (Ask client number request) = IsTrue (is_client_id client && (is_u64 number && list_all is_byte request)) × IsCanonical request
BodyIn (Members margin voters) = ConfIn (record { margin = margin; voters = voters })

-- ---- what a replica holds
abbrev pub EntryIn : ℕ → LogEntry → Type 0
EntryIn n e = (e.term ≤ n) × BodyIn e.body

abbrev pub EntriesIn : ℕ → Path → Type 0
EntriesIn n p = AllByRecursion (EntryIn n) p

pub record PathIn (n : ℕ) (p : Path) : Type 0 where
  pub entries : EntriesIn n p
  pub long : length p ≤ n

-- what a leader keeps of a peer, and of a table that it sends: the next part
pub record ProgressIn (n : ℕ) (p : Progress) : Type 0 where
  pub next : p.next ≤ n + 1
  pub mark : p.mark ≤ n

pub record SendingIn (n : ℕ) (x : Sending) : Type 0 where
  pub path : PathIn n x.path
  pub part : x.part ≤ MAX_EVENTS

pub record LeadingIn (n : ℕ) (l : Leading) : Type 0 where
  pub progress : (v : ℕ) (p : Progress) → value_at l.progress v ≡ Some p → ProgressIn n p
  pub learners : AreIds l.learners
  pub sendings : (v : ℕ) (x : Sending) → value_at l.sendings v ≡ Some x → SendingIn n x

-- what a part of a table names, and what a learner has taken of one
pub record NamedIn (n : ℕ) (x : Named) : Type 0 where
  pub path : PathIn n x.path
  pub limit : x.limit ≤ max_u32
  pub first : ConfIn x.first

pub record TakingIn (n : ℕ) (t : Taking) : Type 0 where
  pub path : PathIn n t.names.path
  pub limit : t.names.limit ≤ max_u32
  pub next : t.next ≤ MAX_EVENTS + 1

abbrev pub RoleIn : ℕ → Role → Type 0
RoleIn n (Learner taking) = TakingIn n taking
RoleIn n Follower = Unit {0}
RoleIn n (Candidate votes) = Unit {0}
RoleIn n (Leader l) = LeadingIn n l

-- the first configuration of who holds a log; a learner that holds nothing has none yet
abbrev pub FirstIn : Role → Conf → Type 0
FirstIn (Learner taking) first = Unit {0}
FirstIn Follower first = ConfIn first
FirstIn (Candidate votes) first = ConfIn first
FirstIn (Leader l) first = ConfIn first

abbrev pub TicketIn : Ticket → Type 0
TicketIn t = IsTrue (is_client_id t.client && is_u64 t.number)

-- an index where two logs differ, with the hash that was kept and the one that was offered
pub record ApartIn (n : ℕ) (d : ℕ × Hash × Hash) : Type 0 where
  pub index : d.0 ≤ n
  pub kept : IsTrue (is_hash d.1)
  pub offered : IsTrue (is_hash d.2)

pub record StateIn (n : ℕ) (s : Replica) : Type 0 where
  pub me : IsId s.me
  pub limit : s.limit ≤ max_u32
  pub path : PathIn n s.path
  pub base : s.base ≤ n
  pub promised : s.promised ≤ n
  pub committed : s.committed ≤ n
  pub term : s.term ≤ n
  pub known : s.known ≤ 65535
  pub role : RoleIn n s.role
  pub tickets : AllByRecursion TicketIn s.tickets
  pub halted : IfSome s.halted (ApartIn n)

-- ---- what it tells: a message, with what it names
pub record AppendIn (n : ℕ) (prev : Point) (entries : Path) (promise commit : ℕ) : Type 0 where
  pub hash : IsTrue (is_hash prev.hash)
  pub entries_in : EntriesIn n entries
  pub ends : prev.index + length entries ≤ n
  pub promised : promise ≤ n
  pub committed : commit ≤ n

abbrev pub MsgIn : ℕ → Named → PeerMsg → Type 0
MsgIn n names (AskVote term last_index last_term) = (term ≤ n) × (last_index ≤ n) × (last_term ≤ n)
MsgIn n names (Vote term granted) = term ≤ n
MsgIn n names (Append term prev entries promise commit) = (term ≤ n) × AppendIn n prev entries promise commit
MsgIn n names (Accepted term end promised) = (term ≤ n) × (end.index ≤ n) × (promised ≤ n)
MsgIn n names (Rejected term asked hint) = (term ≤ n) × (asked ≤ n) × (hint ≤ n)
MsgIn n names (Part term p) = (term ≤ n) × (p.point.index ≤ n) × (p.part ≤ MAX_EVENTS) × (p.parts ≤ MAX_EVENTS) × (length p.rows ≤ 32) × NamedIn n names
MsgIn n names (PartTaken term at next) = (term ≤ n) × (at.index ≤ n) × IsTrue (is_u64 next)

abbrev pub MessageIn : ℕ → Message → Type 0
MessageIn n m = MsgIn n m.names m.msg

-- a message to this replica
abbrev pub SentIn : ℕ → ℕ × Message → Type 0
SentIn n m = IsId m.0 × MessageIn n m.1

-- a reply. A secret that a reply gives is one that was backed up
abbrev pub ResponseIn : Response → Type 0
ResponseIn (response.Restore status secret tries) = length secret ≤ 48
ResponseIn other = Unit {0}

abbrev pub ReplyIn : Reply → Type 0
ReplyIn (reply.Applied what) = IsTrue (is_reply (reply.Applied what)) × ResponseIn what
ReplyIn (reply.Stale last) = IsTrue (is_u64 last)
ReplyIn (reply.TableFull rows) = rows ≤ max_u32

abbrev pub AnswerIn : ℕ → Answer → Type 0
AnswerIn n (answer.Outcome index what) = (index ≤ n) × ReplyIn what
AnswerIn n (answer.NotLeader id) = id ≤ 65535
AnswerIn n (answer.Busy waiting) = waiting ≤ n
AnswerIn n (answer.Undecided at kept offered) = ApartIn n (at, kept, offered)
AnswerIn n (answer.Malformed offset) = IsTrue (is_u64 offset)
AnswerIn n (answer.Invalid part size) = IsTrue (is_u64 size)
AnswerIn n (answer.Halted index) = index ≤ n

-- an answer to this client and number
abbrev pub AnsweredIn : ℕ → ClientId × ℕ × Answer → Type 0
AnsweredIn n a = IsTrue (is_client_id a.0 && is_u64 a.1) × AnswerIn n a.2

-- ---- one call: what its batch tells, and the state that it leaves
pub record BatchIn (n : ℕ) (b : Batch) : Type 0 where
  pub lead : IfSome b.lead (λ term. term ≤ n)
  pub members : AllByRecursion (λ (m : ℕ × ℕ × List ℕ). (m.0 ≤ n) × ConfIn (record { margin = m.1; voters = m.2 })) b.members
  pub halt : IfSome b.halt (ApartIn n)
  pub taken : IfSome b.taken (λ (p : Point). (p.index ≤ n) × IsTrue (is_hash p.hash))
  pub commits : AllByRecursion (λ (c : ℕ × LogEntry). (c.0 ≤ n) × EntryIn n c.1) b.commits
  pub answers : AllByRecursion (AnsweredIn n) b.answers
  pub saved : IfSome b.saved (λ k. IsTrue (is_u64 k))
  pub refused : IfSome b.refused (λ (r : Refusal). IsTrue (list_all is_u64 (refusal_numbers r)))

pub record CallIn (n : ℕ) (c : Call) : Type 0 where
  pub state : StateIn n c.state
  pub first : FirstIn c.state.role c.state.first
  pub sent : AllByRecursion (SentIn n) c.sent
  pub batch : BatchIn n c.batch
  pub appends : AreIds c.appends

-- ---- what is handed to a group
abbrev pub WantIn : Want → Type 0
WantIn (want.Store secret pin tries) = AreBytes secret × IsTrue (is_hash pin) × (tries ≤ max_u32)
WantIn (want.Recover pin) = IsTrue (is_hash pin)
WantIn want.Erase = Unit {0}

-- an event that a record may stand for. A settle and an again are played as other events
abbrev pub EventIn : Event → Type 0
EventIn (event.Begin margin limit voters) = (margin ≤ 15) × (1 ≤ limit) × (limit ≤ 20000) × AreIds voters × (fault_of margin voters ≡ None)
EventIn (event.Start r) = IsId r
EventIn (event.Tick r) = IsId r
EventIn (event.Deliver k) = (1 ≤ k) × (k ≤ max_u64)
EventIn (event.Lose k) = (1 ≤ k) × (k ≤ max_u64)
EventIn (event.Settle n) = ⊥
EventIn (event.Crash r) = IsId r
EventIn (event.Save r) = IsId r
EventIn (event.Roll r k) = IsId r × (k ≤ max_u32)
EventIn (event.Join r x) = IsId r × IsId x
EventIn (event.Admit r x) = IsId r × IsId x
EventIn (event.Remove r x) = IsId r × IsId x
EventIn (event.Ask r c n bytes) = IsId r × IsTrue (is_client_id c) × (n ≤ max_u64) × AreBytes bytes × (length bytes ≤ MAX_REQUEST)
EventIn (event.Want c w) = IsTrue (is_client_id c) × WantIn w
EventIn (event.Say c r) = IsTrue (is_client_id c) × IsId r
EventIn (event.Hear c a) = IsTrue (is_client_id c) × (1 ≤ a) × (a ≤ max_u64)
EventIn (event.Margin r m) = IsId r × (m ≤ 15)
EventIn (event.Again c) = ⊥
