-- The step, run on short histories, with a link that is easy to read.
use Rattle.std.proofs.Common.{◌≡◌, ℕ, ◌+◌, ◌*◌, true, false, List, [], ◌∷◌, ◌++◌, map, replicate, refl}
use Rattle.std.specs.Prelude.{cond, nat_le, Some, unwrap_or}
use Rattle.values.specs.declared.entry.Hash.{Hash}
use Rattle.values.specs.declared.entry.Point.{Point}
use Rattle.values.specs.declared.entry.LogEntry.{LogEntry}
use Rattle.values.specs.declared.entry.Body.TheVariants.{Noop, Ask, Members}
use Rattle.values.specs.declared.ids.ClientId.{ClientId}
use Rattle.values.specs.declared.batch.Refusal.TheVariants as refusals
use Rattle.values.specs.declared.message.Request.{Request}
use Rattle.values.specs.declared.message.Request.TheVariants.{Backup}
use Rattle.values.specs.declared.message.Response.TheVariants.{Backup as BackedUp}
use Rattle.values.specs.declared.message.Reply.TheVariants.{Applied}
use Rattle.values.specs.declared.message.Answer.TheVariants as said
use Rattle.values.specs.declared.peer.PeerMsg.{PeerMsg}
use Rattle.values.specs.declared.peer.PeerMsg.TheVariants.{AskVote, Vote, Append, Accepted, Rejected, PartTaken}
use Rattle.group_quorum.specs.Conf.{Conf}
use Rattle.proto_wire.specs.Fields.{payload_field, field_at, sequence_behind}
use Rattle.proto_wire.specs.Varint.{groups, number_in}
use Rattle.client_msgs.specs.Canonical.{canonical_request}
use Rattle.replica_model.specs.Enough.{is_enough}
use Rattle.replica_model.specs.Path.{Path, Link, first_hash}
use Rattle.replica_model.specs.Keyed.{value_at}
use Rattle.replica_model.specs.Message.{Message, plain}
use Rattle.replica_model.specs.Replica.{Follower, Replica, begin, learner}
use Rattle.replica_model.specs.Call.{Tick, Peer, Client, Join, Admit, Remove, Call, empty_batch}
use Rattle.replica_model.specs.Step.{step}

-- 1000 times the index and the term, for each entry
abbrev toy : Link
toy h index e = record { 0 = h.0 ++ (1000 * index + e.term) ∷ [] }

abbrev hash : List ℕ → Hash
hash links = record { 0 = first_hash.0 ++ links }

abbrev voters : List ℕ → Conf
voters ids = record { margin = 0; voters = ids }

abbrev noop : ℕ → LogEntry
noop term = record { term = term; body = Noop }

-- the message that a call sent to a replica
abbrev message_to : ℕ → Call → Message
message_to v c = unwrap_or (value_at c.sent v) (plain (Vote 0 false))

-- what a replica does with the message that another's call sent it
abbrev hears_of : Replica → ℕ → Call → Call
hears_of s from c = step toy s (Peer from (message_to s.me c))

abbrev client : ClientId
client = record { 0 = replicate 16 1 }

abbrev backup : Request
backup = Backup (replicate 16 170) (record { 0 = replicate 32 17 }) 3

-- a single voter: its tick makes it leader, and commits
abbrev alone : Call
alone = step toy (begin 1 (voters (1 ∷ [])) 100) Tick

alone_leads : alone.batch ≡ record empty_batch { lead = Some 1; commits = (1, noop 1) ∷ [] }
alone_leads = refl

abbrev asked : Call
asked = step toy alone.state (Client client 1 (canonical_request backup))

alone_answers : asked.batch ≡ record empty_batch {
  commits = (2, record { term = 1; body = Ask client 1 (canonical_request backup) }) ∷ [];
  answers = (client, 1, said.Outcome 2 (Applied (BackedUp 1))) ∷ [];
}
unfolding payload_field field_at sequence_behind groups number_in
alone_answers = refl

-- three voters: replica 1 stands, 2 votes, and 1 leads
abbrev of_three : ℕ → Replica
of_three v = begin v (voters (1 ∷ 2 ∷ 3 ∷ [])) 100

abbrev stood : Call
stood = step toy (of_three 1) Tick

abbrev voted : Call
voted = hears_of (of_three 2) 1 stood

abbrev led : Call
led = hears_of stood.state 2 voted

stood_asks : stood.batch.sent ≡ (2, AskVote 1 0 0) ∷ (3, AskVote 1 0 0) ∷ []
stood_asks = refl

voted_grants : voted.batch ≡ record empty_batch { sent = (1, Vote 1 true) ∷ [] }
voted_grants = refl

-- an append of a first entry, by its leader's term
abbrev appended : ℕ → Path → ℕ → ℕ → PeerMsg
appended term entries promise commit = Append term (record { index = 0; hash = hash [] }) entries promise commit

led_appends : led.batch ≡ record empty_batch {
  lead = Some 1;
  sent = (2, appended 1 (noop 1 ∷ []) 0 0) ∷ (3, appended 1 (noop 1 ∷ []) 0 0) ∷ [];
}
led_appends = refl

-- replica 2 accepts, so the leader promises; 2 promises too, and the leader commits
abbrev first_point : Point
first_point = record { index = 1; hash = hash (1001 ∷ []) }

abbrev accepted : Call
accepted = hears_of voted.state 1 led

abbrev promising : Call
promising = hears_of led.state 2 accepted

abbrev promised : Call
promised = hears_of accepted.state 1 promising

abbrev committing : Call
committing = hears_of promising.state 2 promised

accepted_answers : accepted.batch ≡ record empty_batch { sent = (1, Accepted 1 first_point 0) ∷ [] }
accepted_answers = refl

promising_sends : promising.batch.sent ≡ (2, Append 1 first_point [] 1 0) ∷ (3, Append 1 first_point [] 1 0) ∷ []
promising_sends = refl

promised_answers : promised.batch ≡ record empty_batch { sent = (1, Accepted 1 first_point 1) ∷ [] }
promised_answers = refl

committing_commits : committing.batch ≡ record empty_batch {
  commits = (1, noop 1) ∷ [];
  sent = (2, Append 1 first_point [] 1 1) ∷ (3, Append 1 first_point [] 1 1) ∷ [];
}
committing_commits = refl

-- another entry in the place of a promised one: the replica halts, and then refuses to change its members
abbrev halted : Call
halted = step toy promised.state (Peer 3 (plain (appended 2 (noop 2 ∷ []) 0 0)))

halted_keeps : halted.batch ≡ record empty_batch { halt = Some (1, hash (1001 ∷ []), hash (1002 ∷ [])) }
halted_keeps = refl

halted_refuses : (step toy halted.state (Remove 1)).batch ≡ record empty_batch { refused = Some (refusals.NotLeader 0) }
halted_refuses = refl

-- another entry in the place of one that is not promised: it is replaced, and its ticket ends
abbrev waiting : Call
waiting = step toy committing.state (Client client 1 (canonical_request backup))

abbrev replaced : Call
replaced = step toy waiting.state (Peer 3 (plain (Append 2 first_point (noop 2 ∷ []) 1 1)))

replaced_undecided : replaced.batch ≡ record empty_batch {
  answers = (client, 1, said.Undecided 2 (hash (1001 ∷ 2001 ∷ [])) (hash (1001 ∷ 2002 ∷ []))) ∷ [];
  sent = (3, Accepted 2 (record { index = 2; hash = hash (1001 ∷ 2002 ∷ []) }) 1) ∷ [];
}
unfolding payload_field field_at sequence_behind groups number_in
replaced_undecided = refl

-- a learner takes the one part of the table of a single voter's log, and follows
abbrev joined : Call
joined = step toy asked.state (Join 2 true)

abbrev taken : Call
taken = hears_of (learner 2) 1 joined

abbrev taken_point : Point
taken_point = record { index = 2; hash = hash (1001 ∷ 2001 ∷ []) }

taken_whole : taken.batch ≡ record empty_batch { taken = Some taken_point; sent = (1, PartTaken 1 taken_point 1) ∷ [] }
unfolding payload_field field_at sequence_behind groups number_in
taken_whole = refl

-- it is admitted only once it has caught up
admitted_early : (step toy joined.state (Admit 2)).batch ≡ record empty_batch { refused = Some (refusals.NotCaughtUp 0 2) }
unfolding payload_field field_at sequence_behind groups number_in
admitted_early = refl

-- two voters, of which the leader removes itself. In one call it promises an entry, commits its removal and stops
-- leading: only the moments of the call show it as a leader that has promised that entry
abbrev of_two : ℕ → Replica
of_two v = begin v (voters (1 ∷ 2 ∷ [])) 100

abbrev standing : Call
standing = step toy (of_two 1) Tick

abbrev other_1 : Call
other_1 = hears_of (of_two 2) 1 standing

abbrev leading_1 : Call
leading_1 = hears_of standing.state 2 other_1

abbrev other_2 : Call
other_2 = hears_of other_1.state 1 leading_1

abbrev leading_2 : Call
leading_2 = hears_of leading_1.state 2 other_2

abbrev other_3 : Call
other_3 = hears_of other_2.state 1 leading_2

abbrev leading_3 : Call
leading_3 = hears_of leading_2.state 2 other_3

abbrev removing : Call
removing = step toy leading_3.state (Remove 1)

abbrev other_4 : Call
other_4 = hears_of other_3.state 1 removing

abbrev leading_4 : Call
leading_4 = hears_of removing.state 2 other_4

abbrev pushing : Call
pushing = step toy leading_4.state (Client client 1 (canonical_request backup))

abbrev other_5 : Call
other_5 = hears_of other_4.state 1 pushing

abbrev stopping : Call
stopping = hears_of pushing.state 2 other_5

stopping_promised : map (λ s. s.promised) stopping.moments ≡ 2 ∷ 3 ∷ 3 ∷ []
unfolding payload_field field_at sequence_behind groups number_in
stopping_promised = refl

stopping_committed : map (λ s. s.committed) stopping.moments ≡ 1 ∷ 1 ∷ 2 ∷ []
unfolding payload_field field_at sequence_behind groups number_in
stopping_committed = refl

stopping_follows : stopping.state.role ≡ Follower
unfolding payload_field field_at sequence_behind groups number_in
stopping_follows = refl

-- the last term is compared before the last index: a longer log of an older term gets no vote
older_log_refused : (step toy promised.state (Peer 3 (plain (AskVote 2 9 0)))).batch ≡ record empty_batch { sent = (3, Vote 2 false) ∷ [] }
older_log_refused = refl

-- five voters change their margin from 1 to 0: three marks are a quorum of the new configuration, and not of the old one
abbrev margin_less : Path
margin_less = record { term = 1; body = Members 0 (1 ∷ 2 ∷ 3 ∷ 4 ∷ 5 ∷ []) } ∷ []

abbrev marked_up_to : ℕ → ℕ → ℕ
marked_up_to most v = cond (nat_le v most) 1 0

abbrev wide : Conf
wide = record { margin = 1; voters = 1 ∷ 2 ∷ 3 ∷ 4 ∷ 5 ∷ [] }

both_count : is_enough wide margin_less 1 (marked_up_to 3) 0 ≡ false
both_count = refl

both_met : is_enough wide margin_less 1 (marked_up_to 4) 0 ≡ true
both_met = refl

newest_alone_once_committed : is_enough wide margin_less 1 (marked_up_to 3) 1 ≡ true
newest_alone_once_committed = refl

-- who holds a log takes no table
held_log_stays : (hears_of voted.state 1 (record joined { sent = map (λ m. (2, m.1)) joined.sent })).batch
    ≡ record empty_batch { sent = (1, Rejected 1 2 0) ∷ [] }
unfolding payload_field field_at sequence_behind groups number_in
held_log_stays = refl
