-- How a configuration is stored: its voters in the front of an array, and zeros behind them.
use Rattle.std.specs.Prelude.{◌≡◌, ℕ, ◌-◌, List, ◌++◌, length, take, drop, replicate}
use Rattle.std.proofs.Common.{sym, ap, ◌∙◌, take-append-drop}
use Rattle.group_quorum.specs.Conf.{Conf}
use Rattle.group_quorum.specs.Voters.{IsSound}
use Rattle.group_quorum.specs.declared.config.Config.TheInside.{Inside}
use Rattle.group_quorum.specs.declared.TheConstants.{MAX_VOTERS}

abbrev pub conf_in : Inside → Conf
conf_in a = record { margin = a.margin; voters = take a.count a.ids }

abbrev pub stored : Conf → Inside
stored c = record { margin = c.margin; count = length c.voters; ids = c.voters ++ replicate (MAX_VOTERS - length c.voters) 0 }

pub record IsStored (a : Inside) : Type 0 where
  pub room : length a.ids ≡ MAX_VOTERS
  pub zeros : drop a.count a.ids ≡ replicate (MAX_VOTERS - a.count) 0
  pub counted : length (take a.count a.ids) ≡ a.count
  pub sound : IsSound (conf_in a)

-- what is seen gives what is stored back
pub stored_back : (a : Inside) → IsStored a → stored (conf_in a) ≡ a
stored_back a s =
    let make : ℕ → List ℕ → Inside = λ n xs. record { margin = a.margin; count = n; ids = xs } in
    let front = take a.count a.ids in
    let zeros : ℕ → List ℕ = λ n. replicate (MAX_VOTERS - n) 0 in
    ap (λ n. make n (front ++ zeros n)) s.counted ∙ ap (λ rest. make a.count (front ++ rest)) (sym s.zeros) ∙ ap (make a.count) (take-append-drop a.count a.ids)
