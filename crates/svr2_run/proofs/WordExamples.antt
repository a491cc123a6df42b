-- What words mean, computed.
use Rattle.std.proofs.Common.{◌≡◌, refl, ℕ, List, [], ◌∷◌, codes, Option, Some, None}
use Rattle.clap.proofs.OnLiterals.{clap_on_literals}
use Rattle.svr2_run.specs.Words.{command_of}
use Rattle.svr2_run.specs.declared.words.Command.{Command}
use Rattle.svr2_run.specs.declared.words.Command.TheVariants.{Play}
use Rattle.svr2_run.specs.declared.words.Play.TheVariants.{Drive, Replay, Table}

-- the command of `table` with these words behind it
abbrev table : List (List ℕ) → Option Command
table words = command_of (codes "table" ∷ words)

usual : table [] ≡ Some (Play (Table 10000))
unfolding clap_on_literals
usual = refl

in_one_word : table (codes "--rows=5" ∷ []) ≡ Some (Play (Table 5))
unfolding clap_on_literals
in_one_word = refl

in_two_words : table (codes "--rows" ∷ codes "20000" ∷ []) ≡ Some (Play (Table 20000))
unfolding clap_on_literals
in_two_words = refl

end_of_options : table (codes "--rows" ∷ codes "1" ∷ codes "--" ∷ []) ≡ Some (Play (Table 1))
unfolding clap_on_literals
end_of_options = refl

leading_zero : table (codes "--rows" ∷ codes "05" ∷ []) ≡ None
unfolding clap_on_literals
leading_zero = refl

none : table (codes "--rows" ∷ codes "0" ∷ []) ≡ None
unfolding clap_on_literals
none = refl

a_sign : table (codes "--rows" ∷ codes "+5" ∷ []) ≡ None
unfolding clap_on_literals
a_sign = refl

too_many : table (codes "--rows" ∷ codes "20001" ∷ []) ≡ None
unfolding clap_on_literals
too_many = refl

no_value : table (codes "--rows" ∷ []) ≡ None
unfolding clap_on_literals
no_value = refl

an_empty_value : table (codes "--rows=" ∷ []) ≡ None
unfolding clap_on_literals
an_empty_value = refl

twice : table (codes "--rows" ∷ codes "1" ∷ codes "--rows" ∷ codes "1" ∷ []) ≡ None
unfolding clap_on_literals
twice = refl

no_hint : table (codes "--row" ∷ codes "1" ∷ []) ≡ None
unfolding clap_on_literals
no_hint = refl

another_word : table (codes "5" ∷ []) ≡ None
unfolding clap_on_literals
another_word = refl

help_is_no_command : table (codes "--help" ∷ []) ≡ None
unfolding clap_on_literals
help_is_no_command = refl

replays : command_of (codes "replay" ∷ []) ≡ Some (Play Replay)
unfolding clap_on_literals
replays = refl

replays_with_end : command_of (codes "replay" ∷ codes "--" ∷ []) ≡ Some (Play Replay)
unfolding clap_on_literals
replays_with_end = refl

replay_has_no_options : command_of (codes "replay" ∷ codes "--rows" ∷ codes "1" ∷ []) ≡ None
unfolding clap_on_literals
replay_has_no_options = refl

drives : command_of (codes "drive" ∷ []) ≡ Some (Play Drive)
unfolding clap_on_literals
drives = refl

drive_has_no_options : command_of (codes "drive" ∷ codes "--turns" ∷ codes "1" ∷ []) ≡ None
unfolding clap_on_literals
drive_has_no_options = refl

another_case : command_of (codes "Replay" ∷ []) ≡ None
unfolding clap_on_literals
another_case = refl

no_word : command_of [] ≡ None
no_word = refl
