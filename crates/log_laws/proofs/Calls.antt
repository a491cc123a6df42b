-- Calls in which neither the path nor an index moves.
use Rattle.std.proofs.Common.{ℕ, List, [], ◌∷◌, take}
use Rattle.group_quorum.specs.Conf.{Conf}
use Rattle.replica_model.specs.Path.{Path, Link}
use Rattle.replica_model.specs.Message.{Message}
use Rattle.replica_model.specs.Replica.{Role, Replica}
use Rattle.log_laws.proofs.Good.{GoodRole, GoodReplica, GoodSent, GoodParts, front_refl}

module _ (link : Link) (first : Conf) (Ever : ℕ → Path → Type 0) (Held : Path → Type 0) (v : ℕ) (s : Replica) (g : GoodReplica first Ever Held v s) where
  -- nothing moves but the role, and some messages are sent
  pub unmoved : (role : Role) → GoodRole first Ever Held s.first s.path role → (sent : List (ℕ × Message)) → GoodSent link first Ever Held v sent → GoodParts link first Ever Held v (take s.promised s.path) s.me s.base s.committed s.promised s.first s.path role sent
  unmoved role acts sent fine = record {
    mine = g.mine;
    keeps = front_refl (take s.promised s.path);
    after = λ held own. (record { within = g.state.within; based = g.state.based; fits = g.state.fits; good = g.state.good; acts = acts }, fine);
  }

  pub as_was : GoodParts link first Ever Held v (take s.promised s.path) s.me s.base s.committed s.promised s.first s.path s.role []
  as_was = unmoved s.role g.state.acts [] tt

  -- one message that needs nothing is sent
  pub saying : (m : ℕ × Message) → GoodSent link first Ever Held v (m ∷ []) → GoodParts link first Ever Held v (take s.promised s.path) s.me s.base s.committed s.promised s.first s.path s.role (m ∷ [])
  saying m fine = unmoved s.role g.state.acts (m ∷ []) fine
