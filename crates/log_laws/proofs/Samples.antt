-- Computed runs: one within the rollback bound that commits and answers, and one beyond it with two logs.
use Rattle.std.proofs.Common.{◌≡◌, ℕ, true, false, Some, Option, List, [], ◌∷◌, ◌++◌, length, refl, replicate}
use Rattle.std.specs.Prelude.{map, option_map}
use Rattle.values.specs.declared.event.Event.{Event}
use Rattle.values.specs.declared.event.Event.TheVariants.{Begin, Tick, Deliver, Save, Roll, Ask}
use Rattle.values.specs.declared.ids.ClientId.{ClientId}
use Rattle.values.specs.declared.message.Answer.TheVariants.{Outcome}
use Rattle.values.specs.declared.message.Reply.TheVariants.{Applied}
use Rattle.values.specs.declared.message.Response.TheVariants.{Backup}
use Rattle.proto_wire.specs.Fields.{payload_field, field_at, sequence_behind}
use Rattle.proto_wire.specs.Varint.{groups, number_in}
use Rattle.record_rules.specs.declared.status.TheConstants.{OK}
use Rattle.replica_model.specs.Path.{Link, term_at}
use Rattle.replica_model.specs.Linked.{kind_of}
use Rattle.replica_model.specs.Keyed.{value_at}
use Rattle.group_model.specs.Group.{is_within}
use Rattle.group_model.specs.Run.{World, run}
use Rattle.group_model.specs.Log.{log_of}

-- a link that tells each entry's index, term and kind
abbrev toy : Link
toy h index e = record { 0 = index ∷ e.term ∷ kind_of e.body ∷ h.0 }

abbrev one : ClientId
one = record { 0 = replicate 15 0 ++ 1 ∷ [] }

-- a backup of 16 bytes with three tries
abbrev backup : List ℕ
backup = 18 ∷ 54 ∷ 10 ∷ 16 ∷ (replicate 16 170 ++ 18 ∷ 32 ∷ (replicate 32 17 ++ 24 ∷ 3 ∷ []))

abbrev delivered : List ℕ → List Event
delivered messages = map Deliver messages

-- replica 1 is elected, commits its first entry everywhere, and then a client's request with replica 2 alone
abbrev answering : List Event
answering =
    (Begin 0 100 (1 ∷ 2 ∷ 3 ∷ []) ∷ Tick 1 ∷ delivered (1 ∷ 2 ∷ 3 ∷ 4 ∷ 5 ∷ 6 ∷ 7 ∷ 8 ∷ 9 ∷ 10 ∷ 11 ∷ 12 ∷ 13 ∷ 14 ∷ 15 ∷ 16 ∷ []))
    ++ Save 2 ∷ Ask 1 one 1 backup ∷ delivered (17 ∷ 19 ∷ 20 ∷ 22 ∷ [])

-- replica 2 is set back to before the request, and elects replica 3, which never heard of it
abbrev forking : List Event
forking = answering ++ Roll 2 1 ∷ Tick 3 ∷ delivered (26 ∷ 27 ∷ 29 ∷ 30 ∷ 32 ∷ 33 ∷ [])

-- the committed index of a replica, and the term of its entry at that index
abbrev committed : World → ℕ → Option (ℕ × ℕ)
committed w v = option_map (λ e. (e.replica.committed, term_at e.replica.path e.replica.committed)) (value_at w.field.running v)

commits : committed (run toy answering) 1 ≡ Some (2, 1)
unfolding payload_field field_at sequence_behind groups number_in
commits = refl

one_log_there : length (log_of (run toy answering)) ≡ 2
unfolding payload_field field_at sequence_behind groups number_in
one_log_there = refl

answers : (run toy answering).answers ≡ record { replica = 1; client = one; number = 1; answer = Outcome 2 (Applied (Backup OK)) } ∷ []
unfolding payload_field field_at sequence_behind groups number_in
answers = refl

within : is_within (run toy answering) ≡ true
unfolding payload_field field_at sequence_behind groups number_in
within = refl

exceeds : is_within (run toy forking) ≡ false
unfolding payload_field field_at sequence_behind groups number_in
exceeds = refl

-- two different entries at index 2
old_log : committed (run toy forking) 1 ≡ Some (2, 1)
unfolding payload_field field_at sequence_behind groups number_in
old_log = refl

new_log : committed (run toy forking) 3 ≡ Some (2, 2)
unfolding payload_field field_at sequence_behind groups number_in
new_log = refl
