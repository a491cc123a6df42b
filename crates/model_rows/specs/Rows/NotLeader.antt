-- A follower answers with the leader that it knows.
use Rattle.std.specs.Prelude.{List, [], ◌∷◌}
use Prim.Native.String.{String}

abbrev pub schedule : List String
schedule =
    "begin,0,100,1,2,3"
    ∷ "tick,1"
    ∷ "settle,16"
    ∷ "ask,2,00000000000000000000000000000001,1,12360a10aaaaaaaaaaaaaaaaaaaaaaaaaaaaaaaa122011111111111111111111111111111111111111111111111111111111111111111803"
    ∷ []

abbrev pub trace : List String
trace =
    "event,1,begin,0,100,1,2,3"
    ∷ "event,2,tick,1"
    ∷ "sent,1,1,2,askvote,1,0,0"
    ∷ "sent,2,1,3,askvote,1,0,0"
    ∷ "event,3,deliver,1"
    ∷ "sent,3,2,1,vote,1,1"
    ∷ "event,4,deliver,2"
    ∷ "sent,4,3,1,vote,1,1"
    ∷ "event,5,deliver,3"
    ∷ "lead,1,1"
    ∷ "sent,5,1,2,append,1,0,1,0,0"
    ∷ "sent,6,1,3,append,1,0,1,0,0"
    ∷ "event,6,deliver,4"
    ∷ "event,7,deliver,5"
    ∷ "sent,7,2,1,accepted,1,1,0"
    ∷ "event,8,deliver,6"
    ∷ "sent,8,3,1,accepted,1,1,0"
    ∷ "event,9,deliver,7"
    ∷ "sent,9,1,2,append,1,1,0,1,0"
    ∷ "sent,10,1,3,append,1,1,0,1,0"
    ∷ "event,10,deliver,8"
    ∷ "event,11,deliver,9"
    ∷ "sent,11,2,1,accepted,1,1,1"
    ∷ "event,12,deliver,10"
    ∷ "sent,12,3,1,accepted,1,1,1"
    ∷ "event,13,deliver,11"
    ∷ "commit,1,1,1,noop"
    ∷ "sent,13,1,2,append,1,1,0,1,1"
    ∷ "sent,14,1,3,append,1,1,0,1,1"
    ∷ "event,14,deliver,12"
    ∷ "event,15,deliver,13"
    ∷ "commit,2,1,1,noop"
    ∷ "sent,15,2,1,accepted,1,1,1"
    ∷ "event,16,deliver,14"
    ∷ "commit,3,1,1,noop"
    ∷ "sent,16,3,1,accepted,1,1,1"
    ∷ "event,17,deliver,15"
    ∷ "event,18,deliver,16"
    ∷ "event,19,ask,2,00000000000000000000000000000001,1,12360a10aaaaaaaaaaaaaaaaaaaaaaaaaaaaaaaa122011111111111111111111111111111111111111111111111111111111111111111803"
    ∷ "answer,1,2,00000000000000000000000000000001,1,notleader,1"
    ∷ "log,1"
    ∷ "rollbacks,within"
    ∷ "end,19,16,1"
    ∷ []
