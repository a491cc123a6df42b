-- Enclaves in memory of which given calls fail.
use Rattle.std.specs.Prelude.{ℕ, List, [], Option, if◌then◌else◌}
use Rattle.std.specs.BTreeMap.{is_at}
use Rattle.std.specs.Map.{lookup}
use Rattle.std.specs.Ordering.{nat_cmp}
use Rattle.byte_streams.specs.Causes.{next}
use Rattle.byte_streams.specs.InMemory.{is_listed}
use Rattle.enclave_host.specs.declared.running.Running.{Running}
use Rattle.enclave_host.specs.Fields.{Map}

-- enclaves under their ids as a map
abbrev pub map_of : List (ℕ × Option Running) → Map
map_of entries id = lookup (is_at (nat_cmp id)) entries

-- what runs, the numbers of the calls that fail, and how many calls and faults there were
pub record Script : Type 0 where
  pub running : List (ℕ × Option Running)
  pub failing : List ℕ
  pub calls : ℕ
  pub faults : ℕ

-- before the first call
abbrev pub fresh : List ℕ → Script
fresh failing = record { running = []; failing = failing; calls = 0; faults = 0 }

-- one more call was counted, and a fault where it is listed
abbrev pub counted : Script → Script
counted s =
    record s {
      calls = next s.calls;
      faults = if is_listed s.failing s.calls then next s.faults else s.faults;
    }
