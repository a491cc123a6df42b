-- Which inputs a host may hand over, and what is wrong with the others.
use Rattle.std.specs.Prelude.{◌≡◌, ℕ, ◌==◌, ◌||◌, nat_lt, List, [], ◌∷◌, fold, Option, Some, None, Result, Ok, Err, if◌then◌else◌}
use Rattle.std.specs.Ordering.{nat_cmp}
use Rattle.std.specs.BTreeSet.{insert_key}
use Rattle.std.specs.Option.{option_or}
use Rattle.group_quorum.specs.declared.ConfigFault.{ConfigFault}
use Rattle.group_quorum.specs.declared.ConfigFault.TheVariants as config
use Rattle.values.specs.Rising.{Rising}
use Rattle.group_quorum.specs.Voters.{first_bad, fault_of, is_in, rising}
use Rattle.values.specs.declared.limits.TheConstants.{MOST_ROWS}
use Rattle.group_quorum.specs.declared.TheConstants.{MAX_MARGIN}
use Rattle.host_inputs.specs.declared.input.HostFault.{HostFault}
use Rattle.host_inputs.specs.declared.input.HostFault.TheVariants as faults
use Rattle.host_inputs.specs.Inputs.{Input, Begin, Learn, Join, Admit, Remove, Link, Margin, listed_in}

-- the ids in the order of the bytes
abbrev pub ids_of : Input → List ℕ
ids_of (Begin id margin limit voters) = id ∷ voters
ids_of (Learn id linked) = id ∷ linked
ids_of (Join id) = id ∷ []
ids_of (Admit id) = id ∷ []
ids_of (Remove id) = id ∷ []
ids_of (Link id) = id ∷ []
ids_of input = []

-- the first of them that is none
abbrev pub bad_id_of : Input → Option ℕ
bad_id_of input = first_bad (ids_of input)

-- a margin or a limit out of range, then what is wrong with the voters, then a replica that is none of them
abbrev pub begin_fault : (id margin limit : ℕ) → List ℕ → Option ConfigFault
begin_fault id margin limit voters =
    if nat_lt MAX_MARGIN margin || (limit == 0 || nat_lt MOST_ROWS limit) then Some (config.TooFew 0)
    else option_or (fault_of margin voters) (if is_in voters id then None else Some (config.BadId id))

abbrev pub setup_fault : Input → Option ConfigFault
setup_fault (Begin id margin limit voters) = begin_fault id margin limit voters
setup_fault (Margin margin) = if nat_lt MAX_MARGIN margin then Some (config.TooFew 0) else None
setup_fault input = None

-- the ids in rising order, each once
abbrev pub each_once : List ℕ → List ℕ
each_once ids = fold (insert_key nat_cmp) [] ids

-- the input with its ids in rising order
abbrev pub in_order : Input → Input
in_order (Begin id margin limit voters) = Begin id margin limit (rising voters)
in_order (Learn id linked) = Learn id (each_once linked)
in_order input = input

abbrev pub if_set_up : Option ConfigFault → Input → Result Input HostFault
if_set_up (Some fault) input = Err (faults.Setup fault)
if_set_up None input = Ok (in_order input)

abbrev pub if_ids : Option ℕ → Input → Result Input HostFault
if_ids (Some id) input = Err (faults.BadId id)
if_ids None input = if_set_up (setup_fault input) input

-- the input in order, or the first of its faults
abbrev pub checked : Input → Result Input HostFault
checked input = if_ids (bad_id_of input) input

-- nothing is wrong with the input, and its ids rise
pub record IsSound (input : Input) : Type 0 where
  pub ids : bad_id_of input ≡ None
  pub setup : setup_fault input ≡ None
  pub rising : Rising (listed_in input)
