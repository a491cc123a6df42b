-- The input that a content says, or why it says none.
use Rattle.std.specs.Prelude.{◌≡◌, ℕ, ◌==◌, ◌&&◌, nat_le, List, [], ◌∷◌, length, Option, Some, None, Result, Ok, Err, IsOk, if◌then◌else◌}
use Rattle.fixed_fields.specs.Formats.{◌>>=◌, nothing}
use Rattle.host_inputs.specs.declared.input.HostIn.{HostIn}
use Rattle.host_inputs.specs.declared.input.HostFault.{HostFault}
use Rattle.host_inputs.specs.declared.input.HostFault.TheVariants as faults
use Rattle.host_inputs.specs.Inputs.{Input, Begin, Learn, Tick, Peer, Client, Join, Admit, Remove, Save, Roll, Link, Margin, input_of, input_bytes, FitsInput, begin_fields, learn_fields, client_fields, number_field, margin_field}
use Rattle.host_inputs.specs.Checking.{checked}

-- what stands behind the kind, for each form
abbrev pub begin_in : List ℕ → Option Input
begin_in bytes = begin_fields.read bytes >>= λ p. Some (Begin p.0 p.1.0 p.1.1.0 p.1.1.1)

abbrev pub learn_in : List ℕ → Option Input
learn_in bytes = learn_fields.read bytes >>= λ p. Some (Learn p.0 p.1)

abbrev pub client_in : List ℕ → Option Input
client_in bytes = client_fields.read bytes >>= λ p. Some (Client (record { 0 = p.0 }) p.1.0 p.1.1)

abbrev pub margin_in : List ℕ → Option Input
margin_in bytes = margin_field.read bytes >>= λ margin. Some (Margin margin)

-- an input of no parts
abbrev pub bare_in : Input → List ℕ → Option Input
bare_in input bytes = nothing.read bytes >>= λ u. Some input

-- the inputs of one number of four bytes
abbrev pub numbered : ℕ → ℕ → Input
numbered kind n =
    if kind == 6 then Join n else if kind == 7 then Admit n else if kind == 8 then Remove n else if kind == 10 then Roll n else Link n

abbrev pub number_in : ℕ → List ℕ → Option Input
number_in kind bytes = number_field.read bytes >>= λ n. Some (numbered kind n)

-- the input of a kind, where the bytes behind it are neither too few nor too many
unfoldable pub parts_in : ℕ → List ℕ → Option Input
parts_in kind bytes =
    if kind == 1 then begin_in bytes
    else if kind == 2 then learn_in bytes
    else if kind == 3 then bare_in Tick bytes
    else if kind == 4 then Some (Peer bytes)
    else if kind == 5 then client_in bytes
    else if kind == 9 then bare_in Save bytes
    else if kind == 12 then margin_in bytes
    else number_in kind bytes

-- in a content of so many bytes
abbrev pub if_parts : (size : ℕ) → Option Input → Result Input HostFault
if_parts size None = Err (faults.Length size)
if_parts size (Some input) = checked input

-- the input that a content says, or the first of its faults
abbrev pub input_in : List ℕ → Result Input HostFault
input_in [] = Err (faults.Kind 0)
input_in (kind ∷ bytes) =
    if nat_le 1 kind && nat_le kind 12 then if_parts (length (kind ∷ bytes)) (parts_in kind bytes) else Err (faults.Kind kind)

-- What is read is what the content says. Want of memory hides an input only, and no fault.
abbrev pub ReadsHost : Result HostIn HostFault → Result Input HostFault → Type 0
ReadsHost (Ok input) read = read ≡ Ok (input_of input)
ReadsHost (Err faults.Memory) read = IsOk read
ReadsHost (Err (faults.Kind kind)) read = read ≡ Err (faults.Kind kind)
ReadsHost (Err (faults.Length size)) read = read ≡ Err (faults.Length size)
ReadsHost (Err (faults.BadId id)) read = read ≡ Err (faults.BadId id)
ReadsHost (Err (faults.Setup fault)) read = read ≡ Err (faults.Setup fault)

-- a content says an input: with its ids as they are listed there, none of which makes a fault
pub record IsSaid (content : List ℕ) (input : Input) : Type 0 where
  pub listed : Input
  pub fits : FitsInput listed
  pub bytes : content ≡ input_bytes listed
  pub checked : checked listed ≡ Ok input
