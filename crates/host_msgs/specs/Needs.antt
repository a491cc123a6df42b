-- Which items are short enough for their length.
use Rattle.std.specs.Prelude.{ℕ, ◌+◌, ◌<◌, ◌≤◌, ◌^◌, List, length, All}
use Rattle.values.specs.declared.batch.Batch.{Batch}
use Rattle.host_msgs.specs.Contents.{members_content, commit_content, answer_content, sent_content}

-- four bytes have its length
abbrev pub IsShort : List ℕ → Type 0
IsShort content = length content < 2 ^ 32

-- as many bytes as an item has room for
abbrev pub IsBlock : List ℕ → Type 0
IsBlock bytes = length bytes ≤ 2 ^ 31

-- what stands behind a few numbers in an item leaves it short
abbrev pub IsShortPart : List ℕ → Type 0
IsShortPart bytes = length bytes + 64 < 2 ^ 32

-- so it is with each item whose size is not fixed
pub record AreShort (me : ℕ) (batch : Batch) : Type 0 where
  pub members : All (λ m. IsShort (members_content m)) batch.members
  pub commits : All (λ c. IsShort (commit_content c)) batch.commits
  pub answers : All (λ a. IsShort (answer_content a)) batch.answers
  pub sent : All (λ s. IsShort (sent_content me s)) batch.sent
