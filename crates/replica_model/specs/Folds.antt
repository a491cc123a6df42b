-- The record table of a path: a fold over its entries, and what each place replies.
use Rattle.std.specs.Prelude.{ℕ, map, Option, Some, None, Result, Ok, Err}
use Rattle.values.specs.declared.ids.ClientId.{ClientId}
use Rattle.values.specs.declared.entry.Body.{Body}
use Rattle.values.specs.declared.entry.Body.TheVariants.{Noop, Ask, Members}
use Rattle.values.specs.declared.message.Request.{Request}
use Rattle.values.specs.declared.message.Reply.{Reply}
use Rattle.client_msgs.specs.declared.fault.RequestFault.{RequestFault}
use Rattle.client_msgs.specs.Reading.{request_of}
use Rattle.record_rules.specs.Table.{RecordTable}
use Rattle.record_rules.specs.Places.{ClientAsk, Places, fold_places, reply_at}
use Rattle.replica_model.specs.Path.{Path}

-- a client's ask, where its bytes are a request
abbrev pub ask_of : ClientId → ℕ → Result Request RequestFault → Option ClientAsk
ask_of client number (Ok request) = Some (record { client = client; number = number; request = request })
ask_of client number (Err fault) = None

-- an entry as a place that the table reads: a Noop and a Members entry change nothing
abbrev pub place_of : Body → Option ClientAsk
place_of Noop = None
place_of (Ask client number request) = ask_of client number (request_of request)
place_of (Members margin voters) = None

-- the places of a path
abbrev pub places_of : Path → Places
places_of p = map (λ e. place_of e.body) p

-- the table of a path: from the empty table of the limit, each Ask applied in order
abbrev pub fold_of : ℕ → Path → RecordTable
fold_of limit p = fold_places limit (places_of p)

-- the reply that place i of a path gives, where it is an Ask. Places count from 1
abbrev pub reply_of : ℕ → Path → ℕ → Option Reply
reply_of limit p i = reply_at limit (places_of p) i
