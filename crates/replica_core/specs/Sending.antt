-- What a leader sends again, and from where on.
use Rattle.std.specs.Prelude.{ℕ, ◌+◌, ◌==◌, cond, max, List, [], ◌∷◌, filter_map, option_map}
use Rattle.values.specs.declared.peer.PeerMsg.{PeerMsg}
use Rattle.values.specs.declared.peer.PeerMsg.TheVariants.{Part}
use Rattle.replica_model.specs.declared.Progress.{Progress}
use Rattle.replica_model.specs.Keyed.{value_at, has, put}
use Rattle.group_quorum.specs.Conf.{Conf}
use Rattle.replica_model.specs.Linked.{sha_link}
use Rattle.replica_model.specs.Replica as model
use Rattle.replica_model.specs.Tables.{part_of}
use Rattle.table_transfer.specs.SentTable.{SentTable}
use Rattle.replica_core.specs.Keeping.{progress_in}

-- the outstanding parts of the tables that the model sends to these peers, by which limit and first configuration its
-- paths are read
abbrev pub parts_as : ℕ → Conf → ℕ → List (ℕ × model.Sending) → List ℕ → List (ℕ × PeerMsg)
parts_as limit first term sendings peers =
    filter_map (λ v. option_map (λ (k : model.Sending).
    (v, Part term (part_of sha_link (record { path = k.path; limit = limit; first = first }) k.part))) (value_at sendings v)) peers

-- next goes back to what follows the mark, or the base where that is higher
abbrev pub fallen_back : ℕ → Progress → Progress
fallen_back base p = cond (p.mark == 0) p (record p { next = max p.mark base + 1 })

-- the same for each of these peers to which no table is being sent
abbrev pub all_fallen_back : ℕ → List (ℕ × SentTable) → List (ℕ × Progress) → List ℕ → List (ℕ × Progress)
all_fallen_back base sendings progress [] = progress
all_fallen_back base sendings progress (v ∷ vs) =
    all_fallen_back base sendings (cond (has sendings v) progress (put progress v (fallen_back base (progress_in progress v)))) vs
