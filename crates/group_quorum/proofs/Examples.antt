-- The definitions, computed on given values.
use Rattle.std.proofs.Common.{◌≡◌, true, false, [], ◌∷◌, Ok, Err, refl}
use Rattle.std.specs.Prelude.{replicate}
use Rattle.group_quorum.specs.Conf.{Conf, quorum_of, met}
use Rattle.group_quorum.specs.Voters.{conf_of, is_in}
use Rattle.group_quorum.specs.Marks.{greatest_met}
use Rattle.group_quorum.specs.declared.ConfigFault.TheVariants.{TooMany, BadId, Double, TooFew}

five : Conf
five = record { margin = 1; voters = 1 ∷ 2 ∷ 3 ∷ 4 ∷ 5 ∷ [] }

quorum_of_five : quorum_of five ≡ 4
unfolding five
quorum_of_five = refl

quorum_of_six : quorum_of (record { margin = 2; voters = 1 ∷ 2 ∷ 3 ∷ 4 ∷ 5 ∷ 6 ∷ [] }) ≡ 6
quorum_of_six = refl

quorum_of_many : quorum_of (record { margin = 15; voters = replicate 31 7 }) ≡ 31
quorum_of_many = refl

-- an id that stands twice counts once
twice_is_once : met five (is_in (1 ∷ 1 ∷ 2 ∷ 3 ∷ 9 ∷ [])) ≡ false
unfolding five
twice_is_once = refl

four_meet : met five (is_in (1 ∷ 5 ∷ 2 ∷ 3 ∷ [])) ≡ true
unfolding five
four_meet = refl

greatest_of_five : greatest_met five ((1, 9) ∷ (2, 7) ∷ (3, 7) ∷ (4, 3) ∷ []) ≡ 3
unfolding five
greatest_of_five = refl

in_order : conf_of 1 (9 ∷ 2 ∷ 65535 ∷ []) ≡ Ok (record { margin = 1; voters = 2 ∷ 9 ∷ 65535 ∷ [] })
in_order = refl

many_first : conf_of 0 (replicate 32 0) ≡ Err (TooMany 32)
many_first = refl

then_bad : conf_of 3 (1 ∷ 1 ∷ 65536 ∷ 0 ∷ []) ≡ Err (BadId 65536)
then_bad = refl

then_double : conf_of 3 (1 ∷ 2 ∷ 3 ∷ 2 ∷ 1 ∷ []) ≡ Err (Double 2)
then_double = refl

then_few : conf_of 1 (1 ∷ 2 ∷ []) ≡ Err (TooFew 2)
then_few = refl

none_are_few : conf_of 0 [] ≡ Err (TooFew 0)
none_are_few = refl
