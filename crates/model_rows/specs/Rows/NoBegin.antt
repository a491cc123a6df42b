-- An event before the begin record.
use Rattle.std.specs.Prelude.{List, [], ◌∷◌}
use Prim.Native.String.{String}

abbrev pub schedule : List String
schedule =
    "tick,1"
    ∷ []

abbrev pub trace : List String
trace =
    "stopped,schedule,1,nobegin,0"
    ∷ []
