-- The voters that count, the peers of a leader, and what it knows of each.
use Rattle.std.specs.Prelude.{ℕ, Bool, cond, not, ◌==◌, nat_lt, List, [], ◌∷◌, filter, unwrap_or}
use Rattle.group_quorum.specs.Conf.{Conf}
use Rattle.group_quorum.specs.Voters.{is_in, insert_rising}
use Rattle.replica_model.specs.declared.Progress.{Progress}
use Rattle.replica_model.specs.Configs.{conf, conf_index, older_conf}
use Rattle.replica_model.specs.Keyed.{value_at, put}
use Rattle.replica_model.specs.Replica.{Leader, Leading, Replica}

-- rising ids with this one among them
abbrev pub with_id : ℕ → List ℕ → List ℕ
with_id v ids = cond (is_in ids v) ids (insert_rising v ids)

-- all that stand in either list
abbrev pub united : List ℕ → List ℕ → List ℕ
united [] ids = ids
united (v ∷ more) ids = with_id v (united more ids)

-- the ids but this one
abbrev pub others : ℕ → List ℕ → List ℕ
others me ids = filter (λ v. not (v == me)) ids

-- the newest configuration of a replica
abbrev pub newest : Replica → Conf
newest s = conf s.first s.path

-- the newest configuration is above the committed index
abbrev pub is_pending : Replica → Bool
is_pending s = nat_lt s.committed (conf_index s.path)

-- it is a voter of its newest configuration
abbrev pub is_voter : Replica → Bool
is_voter s = is_in (newest s).voters s.me

-- the voters of the newest configuration, and of the one before it while the newest is above the committed index
abbrev pub voters_counted : Replica → List ℕ
voters_counted s = cond (is_pending s) (united (older_conf s.first s.path).voters (newest s).voters) (newest s).voters

-- the peers of a leader: these voters and its learners, without itself
abbrev pub peers : Replica → Leading → List ℕ
peers s l = others s.me (united l.learners (voters_counted s))

-- the id is one of them
abbrev pub is_peer : Replica → Leading → ℕ → Bool
is_peer s l v = is_in (peers s l) v

-- what a leader knows of a peer
abbrev pub progress_of : Leading → ℕ → Progress
progress_of l v = unwrap_or (value_at l.progress v) (record { next = 0; mark = 0; promised = 0 })

-- the same with other progress of a peer
abbrev pub with_progress : Leading → ℕ → Progress → Leading
with_progress l v p = record l { progress = put l.progress v p }

-- the replica leads with this
abbrev pub leads_with : Replica → Leading → Replica
leads_with s l = record s { role = Leader l }
