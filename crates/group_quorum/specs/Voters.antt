-- Which lists of voters make a configuration, and what is wrong with the others.
use Rattle.std.specs.Prelude.{ℕ, ◌+◌, ◌*◌, ◌-◌, ◌^◌, ◌≤◌, Bool, ◌&&◌, ◌==◌, not, cond, List, [], ◌∷◌, ◌++◌, length, min, nat_lt, find, All, Option, Some, None, Result, Ok, Err}
use Rattle.std.specs.List.{list_any}
use Rattle.std.specs.List.Sorted.{IsStrictlyIncreasing}
use Rattle.group_quorum.specs.Conf.{Conf}
use Rattle.group_quorum.specs.declared.ConfigFault.{ConfigFault}
use Rattle.group_quorum.specs.declared.ConfigFault.TheVariants.{TooMany, BadId, Double, TooFew}
use Rattle.group_quorum.specs.declared.TheConstants.{MAX_VOTERS, MAX_ID}

abbrev pub is_id : ℕ → Bool
is_id v = nat_lt 0 v && nat_lt v (MAX_ID + 1)

abbrev pub is_in : List ℕ → ℕ → Bool
is_in ids v = list_any (λ x. x == v) ids

-- the first number that is no id
abbrev pub first_bad : List ℕ → Option ℕ
first_bad ids = find (λ v. not (is_id v)) ids

-- the first id that already stood before it, in the list or in `seen`
abbrev pub first_double : List ℕ → List ℕ → Option ℕ
first_double seen [] = None
first_double seen (v ∷ ids) = cond (is_in seen v) (Some v) (first_double (seen ++ v ∷ []) ids)

abbrev pub few_fault : ℕ → List ℕ → Option ConfigFault
few_fault margin ids = cond (nat_lt (length ids) (2 * margin + 1)) (Some (TooFew (length ids))) None

abbrev pub double_fault : Option ℕ → ℕ → List ℕ → Option ConfigFault
double_fault (Some v) margin ids = Some (Double v)
double_fault None margin ids = few_fault margin ids

abbrev pub bad_fault : Option ℕ → ℕ → List ℕ → Option ConfigFault
bad_fault (Some v) margin ids = Some (BadId v)
bad_fault None margin ids = double_fault (first_double [] ids) margin ids

-- what is wrong with a list of voters under a margin: the first of these that holds, in this order
abbrev pub fault_of : ℕ → List ℕ → Option ConfigFault
fault_of margin ids = cond (nat_lt MAX_VOTERS (length ids)) (Some (TooMany (min (length ids) (2 ^ 32 - 1)))) (bad_fault (first_bad ids) margin ids)

-- an id at its place among rising ones
abbrev pub insert_rising : ℕ → List ℕ → List ℕ
insert_rising v [] = v ∷ []
insert_rising v (w ∷ ids) = cond (nat_lt v w) (v ∷ w ∷ ids) (w ∷ insert_rising v ids)

-- the ids in rising order
abbrev pub rising : List ℕ → List ℕ
rising [] = []
rising (v ∷ ids) = insert_rising v (rising ids)

abbrev pub conf_or : Option ConfigFault → ℕ → List ℕ → Result Conf ConfigFault
conf_or (Some fault) margin ids = Err fault
conf_or None margin ids = Ok (record { margin = margin; voters = rising ids })

-- the configuration of a list of voters, or its fault
abbrev pub conf_of : ℕ → List ℕ → Result Conf ConfigFault
conf_of margin ids = conf_or (fault_of margin ids) margin ids

abbrev pub IsId : ℕ → Type 0
IsId v = (1 ≤ v) × (v ≤ MAX_ID)

-- what holds of every configuration that was made
pub record IsSound (c : Conf) : Type 0 where
  pub at_most : length c.voters ≤ MAX_VOTERS
  pub enough : 2 * c.margin + 1 ≤ length c.voters
  pub ids : All IsId c.voters
  pub in_order : IsStrictlyIncreasing c.voters
