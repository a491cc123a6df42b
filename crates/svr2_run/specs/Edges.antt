-- What the program must make for its words.
use Rattle.std.specs.Prelude.{ℕ, ◌≡◌, if◌then◌else◌, List, [], ◌∷◌, Option, Some, None, codes, bytes_eq, string_bytes}
use Rattle.svr2_run.specs.Words.{served_by, grouped_by}
use Rattle.svr2_run.specs.declared.edge.Edge.{Edge}
use Rattle.svr2_run.specs.declared.edge.Edge.TheVariants as edge
use Rattle.svr2_run.specs.declared.words.Streams.{Streams}
use Rattle.svr2_run.specs.declared.words.Streams.TheVariants.{Standard, Connected}

abbrev pub port_in : Option Streams → Option ℕ
port_in (Some (Connected port)) = Some port
port_in (Some Standard) = None
port_in None = None

-- the port, where the words are those of `serve` with one
abbrev pub port_of : List (List ℕ) → Option ℕ
port_of [] = None
port_of (name ∷ words) = if bytes_eq name (codes "serve") then port_in (served_by (name ∷ words)) else None

-- the path, where the words are those of `group`
abbrev pub program_of : List (List ℕ) → Option (List ℕ)
program_of [] = None
program_of (name ∷ words) = if bytes_eq name (codes "group") then grouped_by (name ∷ words) else None

-- connections exactly where the words say a port, children exactly where they say a path, and nothing else for all others
abbrev pub IsEdgeOf : List (List ℕ) → Edge → Type 0
IsEdgeOf words edge.Standard = (port_of words ≡ None) × (program_of words ≡ None)
IsEdgeOf words (edge.Connect port) = port_of words ≡ Some port
IsEdgeOf words (edge.Program path) = program_of words ≡ Some (string_bytes path)
