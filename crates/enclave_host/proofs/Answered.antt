-- What a call answers, by what was read of its content.
use Rattle.std.proofs.Common.{◌≡◌, ◌∙◌, sym, ap, subst, refl, List, ℕ, Result, Ok, Err}
use Rattle.std.specs.Prelude.{IsOk}
use Rattle.std.specs.Result.{IsOkAnd}
use Rattle.host_inputs.specs.declared.input.HostFault.{HostFault}
use Rattle.host_inputs.specs.declared.input.HostFault.TheVariants as host
use Rattle.host_inputs.specs.declared.input.HostIn.{HostIn}
use Rattle.host_inputs.specs.Inputs.{Input, input_of}
use Rattle.host_inputs.specs.Reading.{ReadsHost, input_in}
use Rattle.trace_model.specs.Session.{Content}
use Rattle.enclave_host.specs.declared.enclave.EnclaveFault.{EnclaveFault}
use Rattle.enclave_host.specs.declared.enclave.EnclaveFault.TheVariants.{Memory, Spent, Frame, NotBegun, BegunAgain}
use Rattle.enclave_host.specs.Answers.{CallAnswers, HandAnswers, IsNoStart, IsStart, StartsBy, StartedBy, fault_of}
use Rattle.enclave_host.specs.Words.{content_if, content_in, content_of}
use Rattle.enclave_host.specs.declared.running.Running.{Running}
use Rattle.std.proofs.Common.{Option}

read-ok : (read : Result Input HostFault) → IsOk read → IsOk (content_if read)
read-ok (Ok input) is = is
read-ok (Err fault) is = is

-- what a content with a fault is answered
pub call_faulty : (fault : HostFault) (read : Result Input HostFault) → ReadsHost (Err fault) read → CallAnswers (Err (fault_of fault)) (content_if read)
call_faulty host.Memory read is = read-ok read is
call_faulty (host.Kind kind) read is = (λ e. cc, ap content_if is)
call_faulty (host.Length size) read is = (λ e. cc, ap content_if is)
call_faulty (host.BadId id) read is = (λ e. cc, ap content_if is)
call_faulty (host.Setup cause) read is = (λ e. cc, ap content_if is)

pub start_faulty : (fault : HostFault) (read : Result Input HostFault) → ReadsHost (Err fault) read → StartsBy (Err (fault_of fault)) (content_if read)
start_faulty host.Memory read is = read-ok read is
start_faulty (host.Kind kind) read is = (λ e. cc, ap content_if is)
start_faulty (host.Length size) read is = (λ e. cc, ap content_if is)
start_faulty (host.BadId id) read is = (λ e. cc, ap content_if is)
start_faulty (host.Setup cause) read is = (λ e. cc, ap content_if is)

-- what a content that was read says
pub said_is : (content : List ℕ) (input : Input) (said : Content) → input_in content ≡ Ok input → content_of content ≡ Ok said → said ≡ content_in input
said_is content input said read is = said-by (sym (ap content_if read) ∙ is)
  where
    said-by : content_if (Ok input) ≡ Ok said → said ≡ content_in input
    said-by e = cc

module _ (content : List ℕ) (input : Input) (read : input_in content ≡ Ok input) where
  said-so : content_of content ≡ Ok (content_in input)
  said-so = ap content_if read

  pub call_answered : (result : Result (Unit {0}) EnclaveFault) → HandAnswers result (content_in input) → CallAnswers result (content_of content)
  call_answered (Ok done) is = subst (λ r. IsOkAnd r IsNoStart) (sym said-so) is
  call_answered (Err Memory) is = subst IsOk (sym said-so) refl
  call_answered (Err Spent) is = absurd is
  call_answered (Err (Frame fault)) is = absurd is
  call_answered (Err NotBegun) is = absurd is
  call_answered (Err BegunAgain) is = subst (λ r. IsOkAnd r IsStart) (sym said-so) is

  pub start_answered : (result : Result (Option Running) EnclaveFault) → StartsBy result (Ok (content_in input)) → StartsBy result (content_of content)
  start_answered result is = subst (StartsBy result) (sym said-so) is
