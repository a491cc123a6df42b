-- What the content of an item says, by its kind.
use Rattle.std.specs.Prelude.{ℕ, Bool, true, ◌==◌, ◌&&◌, nat_le, nat_lt, List, [], ◌∷◌, Option, Some, None, is_none, if◌then◌else◌}
use Rattle.std.specs.Int.{w8, w32, w64}
use Rattle.fixed_fields.specs.Formats.{◌>>=◌, Content, number, block, nothing, rest, alone, before, numbers, counted}
use Rattle.group_quorum.specs.Voters.{is_id, fault_of}
use Rattle.values.specs.declared.limits.TheConstants.{TOP}
use Rattle.group_quorum.specs.declared.TheConstants.{MAX_ID}
use Rattle.attested_link.specs.Frames.{link_frame}
use Rattle.values.specs.declared.batch.Refusal.{Refusal}
use Rattle.values.specs.declared.entry.Body.{Body}
use Rattle.values.specs.declared.entry.Body.TheVariants as body
use Rattle.values.specs.declared.entry.Hash.{Hash}
use Rattle.values.specs.declared.message.Answer.{Answer}
use Rattle.values.specs.declared.message.Answer.TheVariants as answer
use Rattle.values.specs.declared.message.Part.{Part}
use Rattle.values.specs.declared.message.Part.TheVariants as part
use Rattle.values.specs.declared.message.Reply.{Reply}
use Rattle.values.specs.declared.message.Reply.TheVariants as reply
use Rattle.host_msgs.specs.declared.item.Item.{Item}
use Rattle.host_msgs.specs.declared.item.Item.TheVariants as item
use Rattle.host_msgs.specs.Refusals.{refusal_of}
use Rattle.host_msgs.specs.Wrapped.{is_request, response_in, message_in}

-- a value, where a test holds
abbrev pub only_if : {X : Type 0} → Bool → X → Option X
only_if holds x = if holds then Some x else None

abbrev pub hash_of : List ℕ → Hash
hash_of bytes = record { 0 = bytes }

-- the margin and the voters of a configuration, in rising order
abbrev pub is_rising : List ℕ → Bool
is_rising [] = true
is_rising (v ∷ []) = true
is_rising (v ∷ w ∷ vs) = nat_lt v w && is_rising (w ∷ vs)

unfoldable pub is_conf : ℕ → List ℕ → Bool
is_conf margin voters = is_none (fault_of margin voters) && is_rising voters

-- ---- the fields of each kind

abbrev pub long_field : Content ℕ
long_field = alone (number w64)

abbrev pub members_fields : Content (ℕ × (ℕ × List ℕ))
members_fields = before (number w64) (before (number w8) numbers)

-- the same, up to the ids
abbrev pub members_head : Content (ℕ × (ℕ × List ℕ))
members_head = before (number w64) (before (number w8) rest)

abbrev pub halt_fields : Content (ℕ × (List ℕ × List ℕ))
halt_fields = before (number w64) (before (block 32) (alone (block 32)))

abbrev pub point_fields : Content (ℕ × List ℕ)
point_fields = before (number w64) (alone (block 32))

-- index, term, kind and body
abbrev pub commit_fields : Content (ℕ × (ℕ × (ℕ × List ℕ)))
commit_fields = before (number w64) (before (number w64) (before (number w8) rest))

-- client, number and request
abbrev pub ask_fields : Content (List ℕ × (ℕ × List ℕ))
ask_fields = before (block 16) (before (number w64) rest)

abbrev pub conf_fields : Content (ℕ × List ℕ)
conf_fields = before (number w8) counted

-- client, number, kind and content
abbrev pub answer_fields : Content (List ℕ × (ℕ × (ℕ × List ℕ)))
answer_fields = before (block 16) (before (number w64) (before (number w8) rest))

-- index, kind and content
abbrev pub outcome_fields : Content (ℕ × (ℕ × List ℕ))
outcome_fields = before (number w64) (before (number w8) rest)

abbrev pub part_fields : Content (ℕ × ℕ)
part_fields = before (number w8) (alone (number w64))

abbrev pub word_field : Content ℕ
word_field = alone (number w32)

-- code and two numbers
abbrev pub refusal_fields : Content (ℕ × (ℕ × ℕ))
refusal_fields = before (number w8) (before (number w64) (alone (number w64)))

-- ---- what they say

abbrev pub lead_in : List ℕ → Option Item
lead_in bytes = long_field.read bytes >>= λ term. only_if (nat_le term TOP) (item.Lead term)

abbrev pub members_in : List ℕ → Option Item
members_in bytes = members_fields.read bytes >>= λ p. only_if (nat_le p.0 TOP && is_conf p.1.0 p.1.1) (item.Members p.0 p.1.0 p.1.1)

abbrev pub halt_in : List ℕ → Option Item
halt_in bytes = halt_fields.read bytes >>= λ p. only_if (nat_le p.0 TOP) (item.Halt p.0 (hash_of p.1.0) (hash_of p.1.1))

abbrev pub taken_in : List ℕ → Option Item
taken_in bytes = point_fields.read bytes >>= λ p. only_if (nat_le p.0 TOP) (item.Taken (record { index = p.0; hash = hash_of p.1 }))

-- the body of an entry, by its kind
abbrev pub noop_in : List ℕ → Option Body
noop_in bytes = nothing.read bytes >>= λ u. Some body.Noop

abbrev pub ask_in : List ℕ → Option Body
ask_in bytes = ask_fields.read bytes >>= λ p. only_if (is_request p.1.1) (body.Ask (record { 0 = p.0 }) p.1.0 p.1.1)

abbrev pub conf_in : List ℕ → Option Body
conf_in bytes = conf_fields.read bytes >>= λ p. only_if (is_conf p.0 p.1) (body.Members p.0 p.1)

unfoldable pub body_in : ℕ → List ℕ → Option Body
body_in kind bytes =
    if kind == 0 then noop_in bytes
    else if kind == 1 then ask_in bytes
    else if kind == 2 then conf_in bytes
    else None

abbrev pub commit_in : List ℕ → Option Item
commit_in bytes =
    commit_fields.read bytes >>= λ p. body_in p.1.1.0 p.1.1.1 >>= λ b. only_if (nat_le p.0 TOP && nat_le p.1.0 TOP) (item.Commit p.0 (record { term = p.1.0; body = b }))

-- what came of a request, by its kind
abbrev pub applied_in : List ℕ → Option Reply
applied_in bytes = response_in bytes >>= λ response. Some (reply.Applied response)

abbrev pub stale_in : List ℕ → Option Reply
stale_in bytes = long_field.read bytes >>= λ last. Some (reply.Stale last)

abbrev pub full_in : List ℕ → Option Reply
full_in bytes = word_field.read bytes >>= λ rows. Some (reply.TableFull rows)

unfoldable pub reply_in : ℕ → List ℕ → Option Reply
reply_in kind bytes =
    if kind == 0 then applied_in bytes
    else if kind == 1 then stale_in bytes
    else if kind == 2 then full_in bytes
    else None

abbrev pub part_of : ℕ → Option Part
part_of n =
    if n == 0 then Some part.Nothing else if n == 1 then Some part.Secret else if n == 2 then Some part.Pin else if n == 3 then Some part.Tries else None

-- the answers, by their kind
abbrev pub outcome_in : List ℕ → Option Answer
outcome_in bytes = outcome_fields.read bytes >>= λ p. reply_in p.1.0 p.1.1 >>= λ r. only_if (nat_le p.0 TOP) (answer.Outcome p.0 r)

abbrev pub not_leader_in : List ℕ → Option Answer
not_leader_in bytes = word_field.read bytes >>= λ id. only_if (nat_le id MAX_ID) (answer.NotLeader id)

abbrev pub undecided_in : List ℕ → Option Answer
undecided_in bytes = halt_fields.read bytes >>= λ p. only_if (nat_le p.0 TOP) (answer.Undecided p.0 (hash_of p.1.0) (hash_of p.1.1))

abbrev pub busy_in : List ℕ → Option Answer
busy_in bytes = long_field.read bytes >>= λ count. Some (answer.Busy count)

abbrev pub malformed_in : List ℕ → Option Answer
malformed_in bytes = long_field.read bytes >>= λ offset. Some (answer.Malformed offset)

abbrev pub halted_in : List ℕ → Option Answer
halted_in bytes = long_field.read bytes >>= λ index. only_if (nat_le index TOP) (answer.Halted index)

abbrev pub invalid_in : List ℕ → Option Answer
invalid_in bytes = part_fields.read bytes >>= λ p. part_of p.0 >>= λ part. Some (answer.Invalid part p.1)

unfoldable pub answer_of : ℕ → List ℕ → Option Answer
answer_of kind bytes =
    if kind == 0 then outcome_in bytes
    else if kind == 1 then not_leader_in bytes
    else if kind == 2 then busy_in bytes
    else if kind == 3 then undecided_in bytes
    else if kind == 4 then malformed_in bytes
    else if kind == 5 then invalid_in bytes
    else if kind == 6 then halted_in bytes
    else None

abbrev pub answer_in : List ℕ → Option Item
answer_in bytes = answer_fields.read bytes >>= λ p. answer_of p.1.1.0 p.1.1.1 >>= λ a. Some (item.Answer (record { 0 = p.0 }) p.1.0 a)

-- a link frame of two ids, which holds a message
abbrev pub sent_in : List ℕ → Option Item
sent_in bytes = link_frame.read bytes >>= λ p. message_in p.1.1 >>= λ m. only_if (is_id p.0 && is_id p.1.0) (item.Sent p.0 p.1.0 m bytes)

abbrev pub saved_in : List ℕ → Option Item
saved_in bytes = word_field.read bytes >>= λ k. Some (item.Saved k)

abbrev pub refused_in : List ℕ → Option Item
refused_in bytes = refusal_fields.read bytes >>= λ p. refusal_of p.0 p.1.0 p.1.1 >>= λ r. Some (item.Refused r)

-- the item that a content of this kind says
unfoldable pub item_in : ℕ → List ℕ → Option Item
item_in kind bytes =
    if kind == 1 then lead_in bytes
    else if kind == 2 then members_in bytes
    else if kind == 3 then halt_in bytes
    else if kind == 4 then taken_in bytes
    else if kind == 5 then commit_in bytes
    else if kind == 6 then answer_in bytes
    else if kind == 7 then sent_in bytes
    else if kind == 8 then saved_in bytes
    else if kind == 9 then refused_in bytes
    else None
