-- What a content says that tells a replica something, on every understanding.
use Rattle.std.proofs.Common.{refl, sym, subst, ◌≡◌, ℕ, List, Option, Some, Result, Ok}
use Rattle.std.specs.Result.{IsOkAnd}
use Rattle.host_inputs.specs.Inputs.{Input}
use Rattle.host_inputs.specs.Inputs as read
use Rattle.trace_model.specs.PartMap.{SaysInput as InContent}
use Rattle.trace_model.specs.Session.{Content, untagged}
use Rattle.enclave_host.specs.Answers.{IsNoStart}
use Rattle.enclave_host.specs.Fields.{IsInput, Map}
use Rattle.enclave_host.specs.Words.{content_in, wording}
use Rattle.group_world.specs.declared.came.Came as code
use Rattle.group_world.specs.declared.came.Unplayed.{Unplayed}
use Rattle.group_world.specs.declared.world.World.{World}
use Rattle.group_world.specs.Given.{Given}
use Rattle.group_world.specs.Meanings.{Meaning, OfEnclaves, OfContents, Until, SaysInput}
use Rattle.group_world.specs.Playable.{IsTold, IsToldBy, input_as}
use Rattle.group_world.specs.Plays.{Does, Tells}
use Rattle.group_world.proofs.Happening.{does_as}

told_content : (input : Input) → IsTold input → InContent wording untagged (Some (input_as input)) (content_in input)
told_content (read.Begin id margin limit voters) told = absurd told
told_content (read.Learn id linked) told = absurd told
told_content read.Tick told = refl
told_content (read.Peer frame) told = absurd told
told_content (read.Client client number request) told = refl
told_content (read.Join id) told = refl
told_content (read.Admit id) told = refl
told_content (read.Remove id) told = refl
told_content read.Save told = refl
told_content (read.Roll k) told = refl
told_content (read.Link id) told = refl
told_content (read.Margin margin) told = refl

no_start : (input : Input) → IsTold input → IsNoStart (content_in input)
no_start (read.Begin id margin limit voters) told = absurd told
no_start (read.Learn id linked) told = absurd told
no_start read.Tick told = λ start. start
no_start (read.Peer frame) told = absurd told
no_start (read.Client client number request) told = λ start. start
no_start (read.Join id) told = λ start. start
no_start (read.Admit id) told = λ start. start
no_start (read.Remove id) told = λ start. start
no_start read.Save told = λ start. start
no_start (read.Roll k) told = λ start. start
no_start (read.Link id) told = λ start. start
no_start (read.Margin margin) told = λ start. start

module _ (input : Input) (told : IsTold input) (bytes : List ℕ) (is : wording.content_of bytes ≡ Ok (content_in input)) where
  pub says_told : (m : Meaning) → SaysInput m bytes (input_as input)
  unfolding SaysInput
  says_told OfEnclaves = subst (λ (r : Result Content _). IsOkAnd r (InContent wording untagged (Some (input_as input)))) (sym is) (told_content input told)
  says_told OfContents = tt
  says_told (Until m) = says_told m

  pub told_input : IsInput bytes
  told_input = subst (λ (r : Result Content _). IsOkAnd r IsNoStart) (sym is) (no_start input told)

  pub told_does : (w w' : World) (map map' : Option Map) (given : List Given) (r : ℕ) (result : Result code.Came Unplayed) → Does (Tells r bytes) w w' map map' given result → Does (IsToldBy r input) w w' map map' given result
  told_does w w' map map' given r result h = does_as (IsToldBy r input) (Tells r bytes) w w' map map' given result (λ m ds g x sees it. (input_as input, says_told m, it)) h
