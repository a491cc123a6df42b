-- What holds of each input that is read.
use Rattle.std.specs.Prelude.{◌≡◌, ℕ, ◌≤◌, true, List, All, Ok}
use Rattle.group_quorum.specs.Voters.{IsId, IsSound, is_in, conf_of}
use Rattle.group_quorum.specs.declared.TheConstants.{MAX_MARGIN}
use Rattle.values.specs.Rising.{Rising}
use Rattle.values.specs.declared.limits.TheConstants.{MOST_ROWS}
use Rattle.host_inputs.specs.Inputs.{Input, Begin, Learn, Join, Admit, Remove, Link, Margin}

-- a replica may begin so: it is a voter of the configuration that is made of these voters, which rise
pub record IsBeginning (id margin limit : ℕ) (voters : List ℕ) : Type 0 where
  pub own : IsId id
  pub conf : IsSound (record { margin = margin; voters = voters })
  pub made : conf_of margin voters ≡ Ok (record { margin = margin; voters = voters })
  pub votes : is_in voters id ≡ true
  pub limit_from : 1 ≤ limit
  pub limit_to : limit ≤ MOST_ROWS

-- ids are from 1 to 65,535, those that are listed rise strictly, and a margin is at most 15
abbrev pub IsSoundInput : Input → Type 0
IsSoundInput (Begin id margin limit voters) = IsBeginning id margin limit voters
IsSoundInput (Learn id linked) = IsId id × (All IsId linked × Rising linked)
IsSoundInput (Join id) = IsId id
IsSoundInput (Admit id) = IsId id
IsSoundInput (Remove id) = IsId id
IsSoundInput (Link id) = IsId id
IsSoundInput (Margin margin) = margin ≤ MAX_MARGIN
IsSoundInput input = Unit {0}
