-- What a field tells of itself: the enclaves that run, by their ids, and the contents that its calls answered.
use Rattle.std.specs.Prelude.{ℕ, ◌≡◌, ◌≢◌, List, [], ◌∷◌, ◌++◌, Option, Some, None, Result, Ok, Err, OnOk, IsSomeAnd}
use Rattle.std.specs.Result.{IsOkAnd}
use Rattle.replica_model.specs.Replica.{Named}
use Rattle.host_msgs.specs.Again.{IsReadAgain}
use Rattle.host_msgs.specs.Batches.{batch_in}
use Rattle.group_model.specs.Enclave.{Enclave, Called, Hello, hello_id}
use Rattle.trace_model.specs.Session.{Content, Starts}
use Rattle.enclave_host.specs.declared.running.Running.{Running}
use Rattle.enclave_host.specs.declared.field.FieldFault.{FieldFault}
use Rattle.enclave_host.specs.declared.field.FieldFault.TheVariants.{Memory, Failed}
use Rattle.enclave_host.specs.Answers.{IsNoStart, StartedBy}
use Rattle.enclave_host.specs.Handing.{IsNamedFor, handed}
use Rattle.enclave_host.specs.Standing.{StandsFor}
use Rattle.enclave_host.specs.Words.{wording}

-- the content starts this replica
pub record IsHelloFor (id : ℕ) (bytes : List ℕ) : Type 0 where
  pub hello : Hello
  pub said : wording.content_of bytes ≡ Ok (Starts hello)
  pub of_id : hello_id hello ≡ id

-- the content says what is handed to an enclave that runs
abbrev pub IsInput : List ℕ → Type 0
IsInput bytes = IsOkAnd (wording.content_of bytes) IsNoStart

-- the content is the batch of a call, and is read as that
pub record SaysBatch (c : Called) (content : List ℕ) : Type 0 where
  pub bytes : content ≡ wording.batch_bytes c.enclave.replica.me c.call.batch
  pub again : IsReadAgain c.enclave.replica.me c.call.batch (batch_in content)

-- What a call makes of an enclave, and the content that it leaves.
abbrev pub Steps : Option Running → List ℕ → Option Running → List ℕ → Type 0
Steps old input new content =
    (e : Enclave) (names : Named) (said : Content) → StandsFor old e → wording.content_of input ≡ Ok said → IsNamedFor names e said
    → StandsFor new (handed names e said).enclave × SaysBatch (handed names e said) content

-- ---- the enclaves that run

abbrev pub Map : Type 0
Map = ℕ → Option (Option Running)

-- every other id is as before
abbrev pub SameBut : Map → Map → ℕ → Type 0
SameBut was now id = (other : ℕ) → other ≢ id → now other ≡ was other

-- a start, a call and a stop that were answered
abbrev pub Starting : Map → ℕ → List ℕ → Type 0
Starting now id hello = IsSomeAnd (now id) (λ e. StartedBy e (wording.content_of hello))

abbrev pub Calling : Map → Map → ℕ → List ℕ → List ℕ → Type 0
Calling was now id input content = IsSomeAnd (was id) (λ e. IsSomeAnd (now id) (λ f. Steps e input f content))

-- what a field does with the map: this where it answers, nothing where it failed, and after want of memory the id does not
-- run. Every other id is as before
abbrev pub Outcome : Result (Unit {0}) FieldFault → Map → Map → ℕ → Type 0 → Type 0
Outcome (Ok done) was now id rule = rule × SameBut was now id
Outcome (Err Failed) was now id rule = (other : ℕ) → now other ≡ was other
Outcome (Err Memory) was now id rule = (now id ≡ None) × SameBut was now id

-- the map is told before and after, and stands so to itself; or neither
abbrev pub WhereTold : Option Map → Option Map → (Map → Map → Type 0) → Type 0
WhereTold None None rule = Unit {0}
WhereTold None (Some now) rule = ⊥
WhereTold (Some was) None rule = ⊥
WhereTold (Some was) (Some now) rule = rule was now

-- ---- the contents that were answered

-- contents that are told grow by these
abbrev pub Gains : Option (List (List ℕ)) → Option (List (List ℕ)) → List (List ℕ) → Type 0
Gains None None contents = Unit {0}
Gains None (Some new) contents = ⊥
Gains (Some old) None contents = ⊥
Gains (Some old) (Some new) contents = new ≡ old ++ contents

-- an answered call gives its content, and nothing else gives any
abbrev pub GivesContent : {T E : Type 0} → Option (List (List ℕ)) → Option (List (List ℕ)) → Result T E → List ℕ → Type 0
GivesContent old new (Ok done) out = Gains old new (out ∷ [])
GivesContent old new (Err e) out = Gains old new []
