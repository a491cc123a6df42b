-- A leader is saved while it sends a table, and sends on after it is rolled back.
use Rattle.std.specs.Prelude.{List, [], ◌∷◌}
use Prim.Native.String.{String}

abbrev pub schedule : List String
schedule =
    "begin,0,100,1"
    ∷ "tick,1"
    ∷ "start,2"
    ∷ "join,1,2"
    ∷ "save,1"
    ∷ "save,2"
    ∷ "deliver,1"
    ∷ "deliver,2"
    ∷ "roll,1,1"
    ∷ "tick,1"
    ∷ []

abbrev pub trace : List String
trace =
    "event,1,begin,0,100,1"
    ∷ "event,2,tick,1"
    ∷ "lead,1,1"
    ∷ "commit,1,1,1,noop"
    ∷ "event,3,start,2"
    ∷ "event,4,join,1,2"
    ∷ "sent,1,1,2,part,1,1,0,1,0"
    ∷ "event,5,save,1"
    ∷ "saved,1,1"
    ∷ "event,6,save,2"
    ∷ "saved,2,1"
    ∷ "event,7,deliver,1"
    ∷ "taken,2,1,a7132aa890a86c27000000000000000000000000000000000000000000000000"
    ∷ "sent,2,2,1,parttaken,1,1,1"
    ∷ "event,8,deliver,2"
    ∷ "sent,3,1,2,append,1,1,0,1,1"
    ∷ "event,9,roll,1,1"
    ∷ "event,10,tick,1"
    ∷ "sent,4,1,2,part,1,1,0,1,0"
    ∷ "log,1"
    ∷ "rollbacks,exceeded"
    ∷ "end,10,4,0"
    ∷ []
