-- One call of an enclave is good, where what it is handed is.
use Rattle.std.proofs.Common.{◌≡◌, ℕ, None, slice_get, sym, ◌∙◌, take}
use Rattle.std.proofs.lemmas.Option.{none-some}
use Rattle.group_quorum.specs.Conf.{Conf}
use Rattle.replica_model.specs.Path.{Path, Link}
use Rattle.replica_model.specs.Message.{Message}
use Rattle.group_model.specs.Enclave.{HostInput, Peer, Enclave, called}
use Rattle.group_model.specs.Log.{IsFrontOf}
use Rattle.event_walk.specs.Enclosed.{Handed, Enclosed}
use Rattle.event_walk.proofs.Enclosed.{call_keeps}
use Rattle.log_laws.proofs.Chain.{NoCollisionIn}
use Rattle.log_laws.proofs.Good.{GoodReplica, GoodCall, msg_more}
use Rattle.log_laws.proofs.Calls.{as_was}
use Rattle.log_laws.proofs.Stepping.{GoodInput, step_good}

-- what is handed is good. A roll that puts a state back is no call of the replica
abbrev pub GoodHostInput : Link → Conf → (ℕ → Path → Type 0) → (Path → Type 0) → Enclave → HostInput Message → Type 0
GoodHostInput link first Ever Held e = Handed e (λ input. GoodInput link first Ever Held) (λ k. slice_get e.saved k ≡ None)

pub input_more : (link : Link) (first : Conf) (Ever More : ℕ → Path → Type 0) → ((v : ℕ) (q : Path) → Ever v q → More v q) → (Held Larger : Path → Type 0) → ((p : Path) → Held p → Larger p) → (e : Enclave) (input : HostInput Message) → GoodHostInput link first Ever Held e input → GoodHostInput link first More Larger e input
input_more link first Ever More more Held Larger larger e (Peer from to m) x = msg_more first Ever More more Held Larger larger link from m.names m.msg x
input_more link first Ever More more Held Larger larger e other x = x

module _ (link : Link) (first : Conf) (Ever : ℕ → Path → Type 0) (Held : Path → Type 0) (closed : (p w : Path) → IsFrontOf p w → Held w → Held p) (none : NoCollisionIn link Held) (shorter : (v : ℕ) (p w : Path) → IsFrontOf p w → Ever v w → Ever v p) (v : ℕ) (e : Enclave) (g : GoodReplica first Ever Held v e.replica) where
  pub called_good : (input : HostInput Message) → GoodHostInput link first Ever Held e input → Enclosed (GoodCall link first Ever Held v (take e.replica.promised e.replica.path)) e (called link e input)
  called_good = call_keeps link e (λ input. GoodInput link first Ever Held) (λ k. slice_get e.saved k ≡ None) (λ input. GoodCall link first Ever Held v (take e.replica.promised e.replica.path))
      (record {
        stays = λ why x. as_was link first Ever Held v e.replica g;
        steps = λ input told x. step_good link first Ever Held closed none shorter v e.replica g told x;
        rolls = λ k s some none. absurd (none-some s (sym none ∙ some));
      })
