-- A refusal of each change, of a roll, a delivery, a tick and a start.
use Rattle.std.specs.Prelude.{List, [], ◌∷◌}
use Prim.Native.String.{String}

abbrev pub schedule : List String
schedule =
    "begin,0,100,1"
    ∷ "tick,1"
    ∷ "start,2"
    ∷ "admit,1,2"
    ∷ "join,1,9"
    ∷ "remove,1,5"
    ∷ "roll,1,3"
    ∷ "deliver,1"
    ∷ "tick,9"
    ∷ "start,2"
    ∷ []

abbrev pub trace : List String
trace =
    "event,1,begin,0,100,1"
    ∷ "event,2,tick,1"
    ∷ "lead,1,1"
    ∷ "commit,1,1,1,noop"
    ∷ "event,3,start,2"
    ∷ "event,4,admit,1,2"
    ∷ "refused,notcaughtup,0,1"
    ∷ "event,5,join,1,9"
    ∷ "refused,nolink,9"
    ∷ "event,6,remove,1,5"
    ∷ "refused,notvoter,5"
    ∷ "event,7,roll,1,3"
    ∷ "refused,nostate,3"
    ∷ "event,8,deliver,1"
    ∷ "refused,nomessage,1"
    ∷ "event,9,tick,9"
    ∷ "refused,notrunning,9"
    ∷ "event,10,start,2"
    ∷ "refused,alreadystarted,2"
    ∷ "log,1"
    ∷ "rollbacks,within"
    ∷ "end,10,0,0"
    ∷ []
