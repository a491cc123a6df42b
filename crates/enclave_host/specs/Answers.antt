-- What the calls of an enclave answer, by what their contents say.
use Rattle.std.specs.Prelude.{◌≡◌, ◌≢◌, Option, Result, Ok, Err, IsOk}
use Rattle.std.specs.Result.{IsOkAnd}
use Rattle.host_inputs.specs.declared.input.HostFault.{HostFault}
use Rattle.host_inputs.specs.declared.input.HostFault.TheVariants as host
use Rattle.group_model.specs.Enclave.{Hello, started}
use Rattle.trace_model.specs.Session.{Content, Starts, Frames, Hands}
use Rattle.enclave_host.specs.declared.running.Running.{Running}
use Rattle.enclave_host.specs.declared.enclave.EnclaveFault.{EnclaveFault}
use Rattle.enclave_host.specs.declared.enclave.EnclaveFault.TheVariants.{Memory, Spent, Frame, NotBegun, BegunAgain}
use Rattle.enclave_host.specs.Standing.{StandsFor}

-- a fault of a content as a call tells it
abbrev pub fault_of : HostFault → EnclaveFault
fault_of host.Memory = Memory
fault_of (host.Kind kind) = Frame (host.Kind kind)
fault_of (host.Length size) = Frame (host.Length size)
fault_of (host.BadId id) = Frame (host.BadId id)
fault_of (host.Setup fault) = Frame (host.Setup fault)

-- a content that starts an enclave, and one that does not
abbrev pub IsStart : Content → Type 0
IsStart (Starts hello) = Unit {0}
IsStart (Frames frame) = ⊥
IsStart (Hands input) = ⊥

abbrev pub IsNoStart : Content → Type 0
IsNoStart content = ¬ (IsStart content)

-- the content has this fault, which is never want of memory
abbrev pub HasFault : HostFault → Result Content HostFault → Type 0
HasFault fault read = (fault ≢ host.Memory) × (read ≡ Err fault)

-- an enclave is as this content starts it
pub record StartedBy (enclave : Option Running) (read : Result Content HostFault) : Type 0 where
  pub hello : Hello
  pub said : read ≡ Ok (Starts hello)
  pub stands : StandsFor enclave (started hello)

-- What a start answers. Want of memory hides an enclave only, and no fault of the bytes.
abbrev pub StartsBy : Result (Option Running) EnclaveFault → Result Content HostFault → Type 0
StartsBy (Ok enclave) read = StartedBy enclave read
StartsBy (Err Memory) read = IsOk read
StartsBy (Err Spent) read = ⊥
StartsBy (Err (Frame fault)) read = HasFault fault read
StartsBy (Err NotBegun) read = IsOkAnd read IsNoStart
StartsBy (Err BegunAgain) read = ⊥

-- What a call answers of an enclave that is not spent.
abbrev pub CallAnswers : Result (Unit {0}) EnclaveFault → Result Content HostFault → Type 0
CallAnswers (Ok done) read = IsOkAnd read IsNoStart
CallAnswers (Err Memory) read = IsOk read
CallAnswers (Err Spent) read = Unit {0}
CallAnswers (Err (Frame fault)) read = HasFault fault read
CallAnswers (Err NotBegun) read = ⊥
CallAnswers (Err BegunAgain) read = IsOkAnd read IsStart

-- what comes of an input that was read
abbrev pub HandAnswers : Result (Unit {0}) EnclaveFault → Content → Type 0
HandAnswers (Ok done) content = IsNoStart content
HandAnswers (Err Memory) content = Unit {0}
HandAnswers (Err Spent) content = ⊥
HandAnswers (Err (Frame fault)) content = ⊥
HandAnswers (Err NotBegun) content = ⊥
HandAnswers (Err BegunAgain) content = IsStart content
