-- The voters that count and the votes that win are the model's.
use Rattle.std.proofs.Common.{◌≡◌, ℕ, ◌<◌, Bool, true, false, cond, ◌&&◌, ◌||◌, List, length, take, refl, sym, ap, subst, ◌∙◌, arith}
use Rattle.std.specs.Prelude.{◌==◌, nat_lt, nat_le, filter}
use Rattle.std.proofs.lemmas.Bool.{leb-false, ltb-true}
use Rattle.std.proofs.lemmas.List.{take_all}
use Rattle.group_quorum.specs.Conf.{Conf, met}
use Rattle.group_quorum.specs.Voters.{is_in}
use Rattle.replica_model.specs.Configs.{conf, conf_index, older_conf}
use Rattle.replica_model.specs.Replica.{Replica}
use Rattle.replica_model.specs.Peers.{united, newest, is_pending, voters_counted}
use Rattle.replica_model.specs.Votes.{is_elected, with_vote}
use Rattle.replica_log.specs.declared.configs.Configs.{Configs}
use Rattle.vote_rules.specs.Elections.{voters_by, counted, is_won, CountsBy}

module _ (c : Configs) (s : Replica) (committed : ℕ) (by : CountsBy s c committed) where
  whole : take (length s.path) s.path ≡ s.path
  whole = take_all (length s.path) s.path (omega arith)

  newest_is : c.newest ≡ newest s
  newest_is = by.are_configs.newest ∙ ap (conf s.first) whole

  index_is : c.newest_index ≡ conf_index s.path
  index_is = by.are_configs.newest_index ∙ ap conf_index whole

  older_is : committed < c.newest_index → c.older ≡ older_conf s.first s.path
  older_is above = by.are_configs.older (subst (λ n. n < c.newest_index) (sym by.is_committed) above) ∙ ap (older_conf s.first) whole

  pending_is : nat_lt committed c.newest_index ≡ is_pending s
  pending_is = ap (nat_lt committed) index_is ∙ ap (λ n. nat_lt n (conf_index s.path)) (sym by.is_committed)

  -- the older configuration counts only while the newest is above the committed index
  united_is : (b : Bool) → nat_lt committed c.newest_index ≡ b
      → cond b (united c.older.voters c.newest.voters) c.newest.voters ≡ cond b (united (older_conf s.first s.path).voters c.newest.voters) c.newest.voters
  united_is true above = ap (λ (o : Conf). united o.voters c.newest.voters) (older_is (ltb-true committed c.newest_index above))
  united_is false past = refl

  voters_are : voters_by c committed ≡ voters_counted s
  voters_are =
      united_is (nat_lt committed c.newest_index) refl
      ∙ ap (λ b. cond b (united (older_conf s.first s.path).voters c.newest.voters) c.newest.voters) pending_is
      ∙ ap (λ (n : Conf). cond (is_pending s) (united (older_conf s.first s.path).voters n.voters) n.voters) newest_is

  -- the votes after one more
  pub votes_are : (before : List ℕ) (from : ℕ) → counted c committed before from ≡ with_vote s before from
  votes_are before from = ap (filter (λ v. v == from || is_in before v)) voters_are

  module _ (votes : List ℕ) where
    older_counts : (b : Bool) → nat_le c.newest_index committed ≡ b
        → (b || met c.older (is_in votes)) ≡ (b || met (older_conf s.first s.path) (is_in votes))
    older_counts true e = refl
    older_counts false e = ap (λ (o : Conf). met o (is_in votes)) (older_is (leb-false c.newest_index committed e))

    -- an election is won where it is in the model
    pub won : is_won c committed votes ≡ is_elected s votes
    won =
        ap (λ (n : Conf). met n (is_in votes) && (nat_le c.newest_index committed || met c.older (is_in votes))) newest_is
        ∙ ap (λ m. met (newest s) (is_in votes) && m) (
        older_counts (nat_le c.newest_index committed) refl
        ∙ ap (λ n. nat_le n committed || met (older_conf s.first s.path) (is_in votes)) index_is
        ∙ ap (λ n. nat_le (conf_index s.path) n || met (older_conf s.first s.path) (is_in votes)) (sym by.is_committed)
        )
