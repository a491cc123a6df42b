-- No record at all.
use Rattle.std.specs.Prelude.{List, [], ◌∷◌}
use Prim.Native.String.{String}

abbrev pub schedule : List String
schedule =
    ""
    ∷ []

abbrev pub trace : List String
trace =
    "log,0"
    ∷ "rollbacks,within"
    ∷ "end,0,0,0"
    ∷ []
