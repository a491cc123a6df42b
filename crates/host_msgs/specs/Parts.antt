-- The items of a batch that are written together: they are of the grammar, and short enough for their lengths.
use Rattle.std.specs.Prelude.{ℕ, All, IfSome}
use Rattle.std.specs.Int.{w32}
use Rattle.fixed_fields.specs.Formats.{IsOfWidth}
use Rattle.values.specs.declared.batch.Batch.{Batch}
use Rattle.host_msgs.specs.Contents.{members_content, commit_content, answer_content, sent_content}
use Rattle.host_msgs.specs.Grammar.{IsIndex, IsRefusal}
use Rattle.host_msgs.specs.Needs.{IsShort}
use Rattle.host_msgs.specs.Again.{IsMembersItem, IsHaltItem, IsTakenItem, IsCommitItem, IsAnswerItem, IsSentItem}

pub record IsStanding (batch : Batch) : Type 0 where
  pub lead : IfSome batch.lead IsIndex
  pub members : All IsMembersItem batch.members
  pub short : All (λ m. IsShort (members_content m)) batch.members
  pub halt : IfSome batch.halt IsHaltItem
  pub taken : IfSome batch.taken IsTakenItem

pub record IsDoing (me : ℕ) (batch : Batch) : Type 0 where
  pub commits : All IsCommitItem batch.commits
  pub short_commits : All (λ c. IsShort (commit_content c)) batch.commits
  pub answers : All IsAnswerItem batch.answers
  pub short_answers : All (λ a. IsShort (answer_content a)) batch.answers
  pub sent : All (IsSentItem me) batch.sent
  pub short_sent : All (λ s. IsShort (sent_content me s)) batch.sent

pub record IsHosting (batch : Batch) : Type 0 where
  pub saved : IfSome batch.saved (IsOfWidth w32)
  pub refused : IfSome batch.refused IsRefusal
