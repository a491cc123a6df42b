-- What a host hands to an enclave, and the bytes that say it.
use Rattle.std.specs.Prelude.{◌≡◌, ℕ, List, ◌∷◌, [], length}
use Rattle.std.specs.Int.{w8, w32, w64}
use Rattle.fixed_fields.specs.Formats.{Content, number, block, rest, before, alone, counted, IsOfWidth, AreFewWords}
use Rattle.values.specs.declared.ids.ClientId.{ClientId}
use Rattle.host_inputs.specs.declared.input.HostIn.{HostIn}
use Rattle.host_inputs.specs.declared.input.HostIn.TheVariants as host

-- an input, without where its bytes lie in memory; its ids in any order
pub data Input : Type 0 where
  Begin : (id margin limit : ℕ) (voters : List ℕ) → Input
  Learn : (id : ℕ) (linked : List ℕ) → Input
  Tick : Input
  Peer : (frame : List ℕ) → Input
  Client : (client : ClientId) (number : ℕ) (request : List ℕ) → Input
  Join : (id : ℕ) → Input
  Admit : (id : ℕ) → Input
  Remove : (id : ℕ) → Input
  Save : Input
  Roll : (k : ℕ) → Input
  Link : (id : ℕ) → Input
  Margin : (margin : ℕ) → Input

abbrev pub input_of : HostIn → Input
input_of (host.Begin id margin limit voters) = Begin id margin limit voters
input_of (host.Learn id linked) = Learn id linked
input_of host.Tick = Tick
input_of (host.Peer frame) = Peer frame.now
input_of (host.Client client number request) = Client client number request.now
input_of (host.Join id) = Join id
input_of (host.Admit id) = Admit id
input_of (host.Remove id) = Remove id
input_of host.Save = Save
input_of (host.Roll k) = Roll k
input_of (host.Link id) = Link id
input_of (host.Margin margin) = Margin margin

-- id, margin, limit, and the voters behind their count
abbrev pub begin_fields : Content (ℕ × (ℕ × (ℕ × List ℕ)))
begin_fields = before (number w32) (before (number w8) (before (number w32) counted))

-- id, and the linked ids behind their count
abbrev pub learn_fields : Content (ℕ × List ℕ)
learn_fields = before (number w32) counted

-- client, number and request
abbrev pub client_fields : Content (List ℕ × (ℕ × List ℕ))
client_fields = before (block 16) (before (number w64) rest)

-- an id, or the number of a state
abbrev pub number_field : Content ℕ
number_field = alone (number w32)

abbrev pub margin_field : Content ℕ
margin_field = alone (number w8)

-- the content that says an input
abbrev pub input_bytes : Input → List ℕ
input_bytes (Begin id margin limit voters) = 1 ∷ begin_fields.spelled (id, (margin, (limit, voters)))
input_bytes (Learn id linked) = 2 ∷ learn_fields.spelled (id, linked)
input_bytes Tick = 3 ∷ []
input_bytes (Peer frame) = 4 ∷ frame
input_bytes (Client client number request) = 5 ∷ client_fields.spelled (client.0, (number, request))
input_bytes (Join id) = 6 ∷ number_field.spelled id
input_bytes (Admit id) = 7 ∷ number_field.spelled id
input_bytes (Remove id) = 8 ∷ number_field.spelled id
input_bytes Save = 9 ∷ []
input_bytes (Roll k) = 10 ∷ number_field.spelled k
input_bytes (Link id) = 11 ∷ number_field.spelled id
input_bytes (Margin margin) = 12 ∷ margin_field.spelled margin

-- the ids that an input lists behind a count
abbrev pub listed_in : Input → List ℕ
listed_in (Begin id margin limit voters) = voters
listed_in (Learn id linked) = linked
listed_in input = []

-- What the types say of each input that a program holds: numbers of 8, 32 and 64 bits, clients of 16 bytes, and at most
-- 255 ids.
abbrev pub FitsBegin : ℕ × (ℕ × (ℕ × List ℕ)) → Type 0
FitsBegin p = IsOfWidth w32 p.0 × (IsOfWidth w8 p.1.0 × (IsOfWidth w32 p.1.1.0 × AreFewWords p.1.1.1))

abbrev pub FitsLearn : ℕ × List ℕ → Type 0
FitsLearn p = IsOfWidth w32 p.0 × AreFewWords p.1

abbrev pub FitsClient : List ℕ × (ℕ × List ℕ) → Type 0
FitsClient p = (length p.0 ≡ 16) × (IsOfWidth w64 p.1.0 × Unit {0})

abbrev pub FitsInput : Input → Type 0
FitsInput (Begin id margin limit voters) = FitsBegin (id, (margin, (limit, voters)))
FitsInput (Learn id linked) = FitsLearn (id, linked)
FitsInput (Client client number request) = FitsClient (client.0, (number, request))
FitsInput (Join id) = IsOfWidth w32 id
FitsInput (Admit id) = IsOfWidth w32 id
FitsInput (Remove id) = IsOfWidth w32 id
FitsInput (Roll k) = IsOfWidth w32 k
FitsInput (Link id) = IsOfWidth w32 id
FitsInput (Margin margin) = IsOfWidth w8 margin
FitsInput input = Unit {0}
