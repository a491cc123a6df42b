-- Nothing is wrong with the contents by which replicas start.
use Rattle.std.proofs.Common.{◌≡◌, ◌∙◌, sym, refl, ℕ, ◌<◌, List, [], ◌∷◌, Option, Some, None, IsSome, arith}
use Rattle.std.specs.Prelude.{All}
use Rattle.std.specs.Option.{SomeIff}
use Rattle.std.proofs.lemmas.List.Elements.{All-cons, All-head, All-tail}
use Rattle.values.specs.Rising.{Rising}
use Rattle.group_quorum.specs.Voters.{IsId}
use Rattle.group_quorum.proofs.Made.{no_bad}
use Rattle.fixed_fields.specs.Formats.{AreWords}
use Rattle.host_inputs.specs.Checking.{IsSound}
use Rattle.host_inputs.specs.Inputs.{Learn}

pub rising_found : (found : Option (List ℕ)) (ids : List ℕ) → SomeIff found (Rising ids) ids → Rising ids → IsSome found
rising_found None ids none up = absurd (none up)
rising_found (Some x) ids is up = refl

pub found_is : (found : Option (List ℕ)) (ids taken : List ℕ) → SomeIff found (Rising ids) ids → found ≡ Some taken → taken ≡ ids
found_is None ids taken none is = cc is
found_is (Some x) ids taken (up, same) is = let it : x ≡ taken = cc is in sym it ∙ same

pub are_words : (ids : List ℕ) → All IsId ids → AreWords ids
are_words [] all = tt
are_words (v ∷ ids) all =
    let first = All-head IsId v ids all in
    let low : v < 4294967296 = omega (arith, first.1) in
    (low, are_words ids (All-tail IsId v ids all))

pub learn_sound : (id : ℕ) (linked taken : List ℕ) → IsId id → All IsId linked → Rising linked → taken ≡ linked → IsSound (Learn id taken)
learn_sound id linked taken own ids up is = rw is (record { ids = no_bad (id ∷ linked) (All-cons IsId id linked own ids); setup = refl; rising = up })
