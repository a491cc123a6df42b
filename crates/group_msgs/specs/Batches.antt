-- The ranges of what a replica leaves for its host, beside those of its messages.
use Rattle.std.specs.Prelude.{ℕ, ◌≤◌, List, length, IfSome, All}
use Rattle.values.specs.declared.batch.Batch.{Batch}
use Rattle.values.specs.declared.batch.Refusal.{Refusal}
use Rattle.values.specs.declared.batch.Refusal.TheVariants as refusal
use Rattle.values.specs.declared.entry.Hash.{Hash}
use Rattle.values.specs.declared.entry.LogEntry.{LogEntry}
use Rattle.values.specs.declared.entry.Point.{Point}
use Rattle.values.specs.declared.ids.ClientId.{ClientId}
use Rattle.values.specs.declared.message.Answer.{Answer}
use Rattle.values.specs.declared.message.Answer.TheVariants as answer
use Rattle.values.specs.declared.message.Reply.{Reply}
use Rattle.values.specs.declared.message.Reply.TheVariants as reply
use Rattle.values.specs.declared.message.Response.{Response}
use Rattle.values.specs.declared.message.Response.TheVariants as response
use Rattle.values.specs.declared.peer.PeerMsg.{PeerMsg}
use Rattle.group_quorum.specs.Voters.{IsId, IsSound}
use Rattle.group_quorum.specs.declared.TheConstants.{MAX_ID, MAX_MARGIN}
use Rattle.group_msgs.specs.Ranges.{IsIndex, IsEntryInRange, IsInRange}

-- a secret that is given has at most 48 bytes
abbrev pub IsResponseInRange : Response → Type 0
IsResponseInRange (response.Restore status secret tries) = length secret ≤ 48
IsResponseInRange _ = Unit {0}

abbrev pub IsReplyInRange : Reply → Type 0
IsReplyInRange (reply.Applied response) = IsResponseInRange response
IsReplyInRange _ = Unit {0}

-- indices are indices, a known leader is an id or 0, and a reply is one of a table's
abbrev pub IsAnswerInRange : Answer → Type 0
IsAnswerInRange (answer.Outcome index reply) = IsIndex index × IsReplyInRange reply
IsAnswerInRange (answer.NotLeader id) = id ≤ MAX_ID
IsAnswerInRange (answer.Undecided at kept offered) = IsIndex at
IsAnswerInRange (answer.Halted index) = IsIndex index
IsAnswerInRange _ = Unit {0}

-- indices and marks are indices, and a margin is one
abbrev pub IsRefusalInRange : Refusal → Type 0
IsRefusalInRange (refusal.ChangePending newest committed) = IsIndex newest × IsIndex committed
IsRefusalInRange (refusal.NotCaughtUp mark committed) = IsIndex mark × IsIndex committed
IsRefusalInRange (refusal.LogFull last) = IsIndex last
IsRefusalInRange (refusal.SameMargin margin) = margin ≤ MAX_MARGIN
IsRefusalInRange _ = Unit {0}

-- a batch that a replica leaves: entries and messages have the ranges of peers, and messages are for ids
pub record IsBatchInRange (batch : Batch) : Type 0 where
  pub lead : IfSome batch.lead IsIndex
  pub members : All (λ (m : ℕ × ℕ × List ℕ). IsIndex m.0 × IsSound (record { margin = m.1; voters = m.2 })) batch.members
  pub halt : IfSome batch.halt (λ (d : ℕ × Hash × Hash). IsIndex d.0)
  pub taken : IfSome batch.taken (λ (p : Point). IsIndex p.index)
  pub commits : All (λ (c : ℕ × LogEntry). IsIndex c.0 × IsEntryInRange c.1) batch.commits
  pub answers : All (λ (a : ClientId × ℕ × Answer). IsAnswerInRange a.2) batch.answers
  pub sent : All (λ (m : ℕ × PeerMsg). IsId m.0 × IsInRange m.1) batch.sent
  pub refused : IfSome batch.refused IsRefusalInRange
