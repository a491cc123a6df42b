-- What is read of the bytes that are written of a whole batch.
use Rattle.std.specs.Prelude.{◌≡◌, ℕ, true, List, [], ◌∷◌, map, All, IfSome, Result, Ok}
use Rattle.std.specs.Result.{IsOkAnd}
use Rattle.std.specs.Int.{w8, w32, w64}
use Rattle.fixed_fields.specs.Formats.{IsOfWidth, AreWords}
use Rattle.group_quorum.specs.Voters.{is_id}
use Rattle.values.specs.declared.batch.Batch.{Batch}
use Rattle.values.specs.declared.entry.Hash.{Hash}
use Rattle.values.specs.declared.entry.LogEntry.{LogEntry}
use Rattle.values.specs.declared.entry.Point.{Point}
use Rattle.values.specs.declared.ids.ClientId.{ClientId}
use Rattle.values.specs.declared.message.Answer.{Answer}
use Rattle.values.specs.declared.peer.PeerMsg.{PeerMsg}
use Rattle.group_msgs.specs.Canonical.{canonical_peer}
use Rattle.group_msgs.specs.Peer.{peer_of}
use Rattle.host_msgs.specs.declared.gathered.Gathered.{Gathered}
use Rattle.host_msgs.specs.Items.{is_conf}
use Rattle.host_msgs.specs.Contents.{sent_content}
use Rattle.host_msgs.specs.Grammar.{IsIndex, IsHash, IsClient, IsBody, IsAnswer, IsRefusal}

-- a configuration at its index
abbrev pub IsMembersItem : ℕ × ℕ × List ℕ → Type 0
IsMembersItem (index, margin, voters) = IsIndex index × (IsOfWidth w8 margin × (AreWords voters × (is_conf margin voters ≡ true)))

-- the hash promised at an index, and the one offered
abbrev pub IsHaltItem : ℕ × Hash × Hash → Type 0
IsHaltItem (index, kept, offered) = IsIndex index × (IsHash kept × IsHash offered)

-- a point
abbrev pub IsTakenItem : Point → Type 0
IsTakenItem point = IsIndex point.index × IsHash point.hash

-- an entry at its index
abbrev pub IsCommitItem : ℕ × LogEntry → Type 0
IsCommitItem (index, entry) = IsIndex index × (IsIndex entry.term × IsBody entry.body)

-- an answer to a client's number
abbrev pub IsAnswerItem : ClientId × ℕ × Answer → Type 0
IsAnswerItem (client, number, said) = IsClient client × (IsOfWidth w64 number × IsAnswer said)

-- a message from one replica to another, which its bytes stand for
abbrev pub IsSentItem : (me : ℕ) → ℕ × PeerMsg → Type 0
IsSentItem me (to, message) = (is_id me ≡ true) × ((is_id to ≡ true) × (peer_of (canonical_peer message) ≡ Ok message))

-- each item of what the replica `me` leaves is one of the grammar
pub record IsInGrammar (me : ℕ) (batch : Batch) : Type 0 where
  pub lead : IfSome batch.lead IsIndex
  pub members : All IsMembersItem batch.members
  pub halt : IfSome batch.halt IsHaltItem
  pub taken : IfSome batch.taken IsTakenItem
  pub commits : All IsCommitItem batch.commits
  pub answers : All IsAnswerItem batch.answers
  pub sent : All (IsSentItem me) batch.sent
  pub saved : IfSome batch.saved (IsOfWidth w32)
  pub refused : IfSome batch.refused IsRefusal

-- the sender that messages of the replica `me` name: none where nothing is sent
abbrev pub sender_of : (me : ℕ) → List (ℕ × PeerMsg) → ℕ
sender_of me [] = 0
sender_of me (s ∷ ss) = me

-- the batch was read, with the sender of its messages and their frames
abbrev pub IsReadAgain : (me : ℕ) → Batch → Result Gathered ℕ → Type 0
IsReadAgain me batch read = IsOkAnd read (λ g. (g.batch ≡ batch) × (g.sender ≡ sender_of me batch.sent) × (g.frames ≡ map (sent_content me) batch.sent))
