-- What the words of `serve` and `group` ask for, computed.
use Rattle.std.proofs.Common.{◌≡◌, refl, ℕ, List, [], ◌∷◌, codes, Option, Some, None}
use Rattle.clap.proofs.OnLiterals.{clap_on_literals}
use Rattle.svr2_run.specs.Edges.{port_of, program_of}

-- the port of `serve` with these words behind it, and the path of `group`
abbrev serve : List (List ℕ) → Option ℕ
serve words = port_of (codes "serve" ∷ words)

abbrev group : List (List ℕ) → Option (List ℕ)
group words = program_of (codes "group" ∷ words)

least : serve (codes "--connect" ∷ codes "1" ∷ []) ≡ Some 1
unfolding clap_on_literals
least = refl

most : serve (codes "--connect=65535" ∷ []) ≡ Some 65535
unfolding clap_on_literals
most = refl

none : serve (codes "--connect" ∷ codes "0" ∷ []) ≡ None
unfolding clap_on_literals
none = refl

too_many : serve (codes "--connect" ∷ codes "65536" ∷ []) ≡ None
unfolding clap_on_literals
too_many = refl

leading_zero : serve (codes "--connect" ∷ codes "080" ∷ []) ≡ None
unfolding clap_on_literals
leading_zero = refl

a_sign : serve (codes "--connect" ∷ codes "+80" ∷ []) ≡ None
unfolding clap_on_literals
a_sign = refl

standard : serve [] ≡ None
unfolding clap_on_literals
standard = refl

a_path : group (codes "--program" ∷ codes "./svr2" ∷ []) ≡ Some (codes "./svr2")
unfolding clap_on_literals
a_path = refl

no_path : group [] ≡ None
unfolding clap_on_literals
no_path = refl

another_command : port_of (codes "replay" ∷ codes "--connect" ∷ codes "1" ∷ []) ≡ None
unfolding clap_on_literals
another_command = refl
