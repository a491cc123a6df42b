-- What quorums share.
use Rattle.std.specs.Prelude.{◌≡◌, ℕ, ◌+◌, ◌*◌, ◌<◌, ◌≤◌, Bool, true, false, ◌&&◌, List, length, count_by}
use Rattle.group_quorum.specs.Conf.{Conf, Met, met}
use Rattle.group_quorum.specs.Voters.{is_in}

-- two quorums of one configuration share at least one voter more than twice its margin
abbrev pub QuorumsShare : Type 0
QuorumsShare = (c : Conf) (who others : ℕ → Bool) → Met c who → Met c others → 2 * c.margin + 1 ≤ count_by (λ v. who v && others v) c.voters

-- so they share a voter that is not lost, where at most twice the margin of the voters are
abbrev pub QuorumsOutlast : Type 0
QuorumsOutlast =
    (c : Conf) (who others lost : ℕ → Bool) → Met c who → Met c others → count_by lost c.voters ≤ 2 * c.margin
    → (v : ℕ) × (is_in c.voters v ≡ true) × (who v ≡ true) × (others v ≡ true) × (lost v ≡ false)

-- where two tests together count more of a list than it has, some number passes both
abbrev pub CountsOverlap : Type 0
CountsOverlap = (xs : List ℕ) (who others : ℕ → Bool) → length xs < count_by who xs + count_by others xs → (v : ℕ) × (who v ≡ true) × (others v ≡ true)

-- a quorum stays one where more pass
abbrev pub MoreMeet : Type 0
MoreMeet = (c : Conf) (who more : ℕ → Bool) → ((v : ℕ) → who v ≡ true → more v ≡ true) → Met c who → Met c more

-- whether a configuration is met is told by its voters alone
abbrev pub VotersDecide : Type 0
VotersDecide = (c : Conf) (who others : ℕ → Bool) → ((v : ℕ) → is_in c.voters v ≡ true → who v ≡ others v) → met c who ≡ met c others
