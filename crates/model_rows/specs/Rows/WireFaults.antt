-- What a table answers to bytes that are no request.
use Rattle.std.specs.Prelude.{List, [], ◌∷◌}
use Prim.Native.String.{String}

abbrev pub schedule : List String
schedule =
    "00000000000000000000000000000001,1,12020a05"
    ∷ "00000000000000000000000000000001,2,12050a"
    ∷ "00000000000000000000000000000001,3,8080808080808080808001"
    ∷ "00000000000000000000000000000001,4,0300"
    ∷ []

abbrev pub trace : List String
trace =
    "1,malformed,2"
    ∷ "2,malformed,0"
    ∷ "3,malformed,0"
    ∷ "4,malformed,0"
    ∷ "rows,0"
    ∷ []
