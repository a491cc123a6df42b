-- A learner takes a table with a record in it.
use Rattle.std.specs.Prelude.{List, [], ◌∷◌}
use Prim.Native.String.{String}

abbrev pub schedule : List String
schedule =
    "begin,0,100,1"
    ∷ "tick,1"
    ∷ "ask,1,00000000000000000000000000000001,1,12360a10aaaaaaaaaaaaaaaaaaaaaaaaaaaaaaaa122011111111111111111111111111111111111111111111111111111111111111111803"
    ∷ "start,2"
    ∷ "join,1,2"
    ∷ "deliver,1"
    ∷ "deliver,2"
    ∷ "deliver,3"
    ∷ "deliver,4"
    ∷ "ask,1,00000000000000000000000000000001,2,2a120a10aaaaaaaaaaaaaaaaaaaaaaaaaaaaaaaa"
    ∷ "deliver,5"
    ∷ []

abbrev pub trace : List String
trace =
    "event,1,begin,0,100,1"
    ∷ "event,2,tick,1"
    ∷ "lead,1,1"
    ∷ "commit,1,1,1,noop"
    ∷ "event,3,ask,1,00000000000000000000000000000001,1,12360a10aaaaaaaaaaaaaaaaaaaaaaaaaaaaaaaa122011111111111111111111111111111111111111111111111111111111111111111803"
    ∷ "commit,1,2,1,ask,00000000000000000000000000000001,1,12360a10aaaaaaaaaaaaaaaaaaaaaaaaaaaaaaaa122011111111111111111111111111111111111111111111111111111111111111111803"
    ∷ "answer,1,1,00000000000000000000000000000001,1,outcome,2,done,0a020801"
    ∷ "event,4,start,2"
    ∷ "event,5,join,1,2"
    ∷ "sent,1,1,2,part,1,2,0,1,1"
    ∷ "event,6,deliver,1"
    ∷ "taken,2,2,38140bae1b8de481000000000000000000000000000000000000000000000000"
    ∷ "sent,2,2,1,parttaken,1,2,1"
    ∷ "event,7,deliver,2"
    ∷ "sent,3,1,2,append,1,2,0,2,2"
    ∷ "event,8,deliver,3"
    ∷ "sent,4,2,1,accepted,1,2,2"
    ∷ "event,9,deliver,4"
    ∷ "event,10,ask,1,00000000000000000000000000000001,2,2a120a10aaaaaaaaaaaaaaaaaaaaaaaaaaaaaaaa"
    ∷ "commit,1,3,1,ask,00000000000000000000000000000001,2,2a120a10aaaaaaaaaaaaaaaaaaaaaaaaaaaaaaaa"
    ∷ "answer,2,1,00000000000000000000000000000001,2,outcome,3,done,22020801"
    ∷ "sent,5,1,2,append,1,2,1,3,3"
    ∷ "event,11,deliver,5"
    ∷ "commit,2,3,1,ask,00000000000000000000000000000001,2,2a120a10aaaaaaaaaaaaaaaaaaaaaaaaaaaaaaaa"
    ∷ "sent,6,2,1,accepted,1,3,3"
    ∷ "log,3"
    ∷ "rollbacks,within"
    ∷ "end,11,6,2"
    ∷ []
