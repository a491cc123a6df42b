-- What the entries that an append brings make of a batch and of the tickets.
use Rattle.std.specs.Prelude.{ℕ, ◌+◌, ◌-◌, nat_lt, nat_le, Option, Some, None, List, [], drop, map, filter, filter_map}
use Rattle.std.specs.Option.{option_to_list}
use Rattle.values.specs.declared.entry.LogEntry.{LogEntry}
use Rattle.values.specs.declared.ids.ClientId.{ClientId}
use Rattle.values.specs.declared.message.Answer.{Answer}
use Rattle.values.specs.declared.message.Answer.TheVariants.{Undecided}
use Rattle.replica_model.specs.Graft.{Difference, members_of}
use Rattle.replica_model.specs.Raise.{numbered_from}
use Rattle.replica_log.specs.Window.{Window, base_index}
use Rattle.replica_core.specs.declared.tickets.Ticket.{Ticket}

-- the last index that stays where a log is cut
abbrev pub kept_upto : ℕ → Option Difference → ℕ
kept_upto last None = last
kept_upto last (Some d) = d.0 - 1

-- an entry's configuration, where it is one
abbrev pub members_in : ℕ × LogEntry → List (ℕ × ℕ × List ℕ)
members_in e = option_to_list (members_of e)

-- the configurations of the entries above an index
abbrev pub members_above : Window → ℕ → List (ℕ × ℕ × List ℕ)
members_above w k = filter_map members_of (numbered_from (k + 1) (drop (k - base_index w) w.entries))

-- the tickets of the entries below a cut
abbrev pub tickets_left : Option Difference → List Ticket → List Ticket
tickets_left None tickets = tickets
tickets_left (Some d) tickets = filter (λ t. nat_lt t.index d.0) tickets

-- the tickets of the entries from a cut on, answered: it is not known what becomes of them
abbrev pub given_up : Option Difference → List Ticket → List (ClientId × ℕ × Answer)
given_up None tickets = []
given_up (Some d) tickets = map (λ (t : Ticket). (t.client, t.number, Undecided d.0 d.1 d.2)) (filter (λ t. nat_le d.0 t.index) tickets)
