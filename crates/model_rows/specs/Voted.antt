-- Whose votes a candidate keeps.
use Rattle.std.specs.Prelude.{ℕ, true, List, [], ◌∷◌}
use Rattle.values.specs.declared.entry.Body.TheVariants.{Members}
use Rattle.values.specs.declared.peer.PeerMsg.TheVariants.{Vote}
use Rattle.group_quorum.specs.Conf.{Conf}
use Rattle.replica_model.specs.Message.{plain}
use Rattle.replica_model.specs.Replica.{Replica, begin}
use Rattle.replica_model.specs.Call.{Tick, Peer}
use Rattle.replica_model.specs.Step.{step}
use Rattle.model_rows.specs.Toy.{toy_link}

abbrev pub three : Conf
three = record { margin = 0; voters = 1 ∷ 2 ∷ 3 ∷ [] }

-- replica 1 of three voters stands for election
abbrev pub standing : Replica
standing = (step toy_link (begin 1 three 100) Tick).state

-- it hears a granted vote
abbrev pub after_vote_of : ℕ → Replica
after_vote_of v = (step toy_link standing (Peer v (plain (Vote 1 true)))).state

-- replica 1, with an entry that removes voter 3, which is committed up to an index
abbrev pub removing : ℕ → Replica
removing committed = record (begin 1 three 100) { path = record { term = 1; body = Members 0 (1 ∷ 2 ∷ []) } ∷ []; promised = 1; committed = committed }
