-- What a higher term does.
use Rattle.std.specs.Prelude.{ℕ, cond, nat_lt, max}
use Rattle.replica_model.specs.Replica.{Role, Learner, Follower, Candidate, Leader, Replica}

-- who holds a log follows. A leader's learners and sendings end
abbrev pub followed : Role → Role
followed (Learner taking) = Learner taking
followed Follower = Follower
followed (Candidate votes) = Follower
followed (Leader leading) = Follower

-- higher term: it becomes the replica's, without a vote and a known leader, and who holds a log follows
abbrev pub higher_term : Replica → ℕ → Replica
higher_term s t = cond (nat_lt s.term t) (record s { term = t; vote = 0; known = 0; role = followed s.role }) s

-- a learner that holds nothing takes the term alone
abbrev pub learner_term : Replica → ℕ → Replica
learner_term s t = record s { term = max s.term t }
