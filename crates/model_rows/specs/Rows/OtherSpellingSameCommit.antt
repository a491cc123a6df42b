-- The same request in another spelling, with an unknown field, is committed by its canonical bytes.
use Rattle.std.specs.Prelude.{List, [], ◌∷◌}
use Prim.Native.String.{String}

abbrev pub schedule : List String
schedule =
    "begin,0,100,1"
    ∷ "tick,1"
    ∷ "ask,1,00000000000000000000000000000001,1,123a18071220111111111111111111111111111111111111111111111111111111111111111150010a10aaaaaaaaaaaaaaaaaaaaaaaaaaaaaaaa1803"
    ∷ []

abbrev pub trace : List String
trace =
    "event,1,begin,0,100,1"
    ∷ "event,2,tick,1"
    ∷ "lead,1,1"
    ∷ "commit,1,1,1,noop"
    ∷ "event,3,ask,1,00000000000000000000000000000001,1,123a18071220111111111111111111111111111111111111111111111111111111111111111150010a10aaaaaaaaaaaaaaaaaaaaaaaaaaaaaaaa1803"
    ∷ "commit,1,2,1,ask,00000000000000000000000000000001,1,12360a10aaaaaaaaaaaaaaaaaaaaaaaaaaaaaaaa122011111111111111111111111111111111111111111111111111111111111111111803"
    ∷ "answer,1,1,00000000000000000000000000000001,1,outcome,2,done,0a020801"
    ∷ "log,2"
    ∷ "rollbacks,within"
    ∷ "end,3,0,1"
    ∷ []
