-- Two quorums of one configuration share a voter that was never rolled back.
use Rattle.std.proofs.Common.{◌≡◌, ℕ, Bool, true, false, arith}
use Rattle.group_quorum.specs.Conf.{Conf}
use Rattle.group_quorum.specs.Sharing.{QuorumsOutlast, CountsOverlap}
use Rattle.group_model.specs.Log.{MetBy}
use Rattle.agreement.specs.Promised.{Bears}

-- a quorum has a voter
pub some_voter : CountsOverlap → (c : Conf) (R : ℕ → Type 0) → MetBy c R → (v : ℕ) × R v
some_voter overlap c R met =
    let v : (v : ℕ) × (met.who v ≡ true) × (met.who v ≡ true) = overlap c.voters met.who met.who (let enough = met.enough in omega (arith, enough)) in
    (v.0, met.each v.0 v.1)

-- two quorums of one configuration that bears the rollbacks share a voter that was never rolled back
pub shared_voter : QuorumsOutlast → (c : Conf) (rolled : ℕ → Bool) (R S : ℕ → Type 0) → Bears rolled c → MetBy c R → MetBy c S → (v : ℕ) × (rolled v ≡ false) × R v × S v
shared_voter outlast c rolled R S within a b =
    let v = outlast c a.who b.who rolled a.enough b.enough within in
    (v.0, v.4, a.each v.0 v.2, b.each v.0 v.3)
