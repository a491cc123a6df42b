-- How far a log is promised and committed by the marks of its voters.
use Rattle.std.specs.Prelude.{◌≡◌, ℕ, ◌<◌, ◌≤◌, Bool, true, false, ◌&&◌, ◌||◌, ◌==◌, nat_le, List, length, take, Option, Some, None}
use Rattle.group_quorum.specs.Conf.{met}
use Rattle.group_quorum.specs.Marks.{mark_of}
use Rattle.group_quorum.specs.Voters.{is_in}
use Rattle.replica_model.specs.Path.{Link}
use Rattle.replica_model.specs.Enough.{greatest_upto}
use Rattle.replica_model.specs.Replica.{Replica, Leading}
use Rattle.replica_model.specs.Peers.{voters_counted}
use Rattle.replica_model.specs.Raise.{accepted_mark, promised_mark, promise_index, commit_index}
use Rattle.replica_log.specs.declared.configs.Configs.{Configs}
use Rattle.replica_log.specs.Window.{Window, IsOrdered, last_index, term_at, configs_at}
use Rattle.replica_log.specs.Models.{OfEach}

-- the newest configuration is committed, or a quorum of the one before it has marks of at least the newest one's index
abbrev pub is_settled_by : Configs → ℕ → (ℕ → ℕ) → Bool
is_settled_by c committed mark =
    nat_le c.newest_index committed || met c.older (λ v. nat_le c.newest_index (mark v))

-- the marks are enough for an index at which these configurations stand: besides, a quorum of the newest one has marks
-- of at least the index
abbrev pub enough_by : Configs → ℕ → (ℕ → ℕ) → ℕ → Bool
enough_by c committed mark i = met c.newest (λ v. nat_le i (mark v)) && is_settled_by c committed mark

-- the marks are enough for an index of the log
abbrev pub is_enough_at : Window → (ℕ → ℕ) → ℕ → Bool
is_enough_at w mark i = enough_by (configs_at w i) w.committed mark i

-- what stands is this term
abbrev pub is_term : ℕ → Option ℕ → Bool
is_term term None = false
is_term term (Some t) = t == term

-- the entry at an index is of the term, where one is given
abbrev pub is_of_term : Window → Option ℕ → ℕ → Bool
is_of_term w None i = true
is_of_term w (Some term) i = is_term term (term_at w i)

-- both
abbrev pub passes : Window → Option ℕ → (ℕ → ℕ) → ℕ → Bool
passes w term mark i = is_of_term w term i && is_enough_at w mark i

-- the promised index after the marks of what was accepted: the greatest of an entry of the term, or what it was
abbrev pub promised_by : Window → ℕ → List (ℕ × ℕ) → ℕ
promised_by w term marks = greatest_upto (passes w (Some term) (mark_of marks)) w.promised (last_index w)

-- the committed index after the marks of what was promised: the greatest up to the promised one, or what it was
abbrev pub committed_by : Window → List (ℕ × ℕ) → ℕ
committed_by w promises = greatest_upto (passes w None (mark_of promises)) w.committed w.promised

-- the id counts at an index: it is one of the voters that count of a replica with so many entries of the path
abbrev pub counts_at : Replica → ℕ → ℕ → Bool
counts_at s i v = is_in (voters_counted (record s { path = take i s.path })) v

-- of each voter that counts at an index above `had` and up to `top`, the mark is the model's
abbrev pub AreMarks : Replica → ℕ → ℕ → List (ℕ × ℕ) → (ℕ → ℕ) → Type 0
AreMarks s had top marks mark = (i v : ℕ) → had < i → i ≤ top → counts_at s i v ≡ true → mark_of marks v ≡ mark v

-- where a log's indices are in order, the promised index that a leader's marks make is the model's
abbrev pub PromisesAreTheModels : Type 0
PromisesAreTheModels = (link : Link) (w : Window) → IsOrdered w → OfEach link w (λ s. (l : Leading) (marks : List (ℕ × ℕ))
    → AreMarks s s.promised (length s.path) marks (accepted_mark s l) → promised_by w s.term marks ≡ promise_index s l)

-- and so is the committed index that the promises make
abbrev pub CommitsAreTheModels : Type 0
CommitsAreTheModels = (link : Link) (w : Window) → IsOrdered w → OfEach link w (λ s. (l : Leading) (promises : List (ℕ × ℕ))
    → AreMarks s s.committed s.promised promises (promised_mark s l) → committed_by w promises ≡ commit_index s l)
