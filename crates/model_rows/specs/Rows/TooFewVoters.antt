-- A begin record with too few voters for its margin.
use Rattle.std.specs.Prelude.{List, [], ◌∷◌}
use Prim.Native.String.{String}

abbrev pub schedule : List String
schedule =
    "begin,1,100,1,2"
    ∷ []

abbrev pub trace : List String
trace =
    "stopped,schedule,1,toofew,0"
    ∷ []
