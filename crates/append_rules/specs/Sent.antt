-- The append that a peer is sent.
use Rattle.std.specs.Prelude.{◌≡◌, ℕ, ◌+◌, ◌-◌, cond, nat_lt, Option, Some, None, length, take, drop}
use Rattle.values.specs.declared.peer.PeerMsg.{PeerMsg}
use Rattle.values.specs.declared.peer.PeerMsg.TheVariants.{Append}
use Rattle.replica_model.specs.declared.Progress.{Progress}
use Rattle.values.specs.declared.limits.TheConstants.{MAX_ENTRIES}
use Rattle.replica_model.specs.Path.{Path}
use Rattle.replica_model.specs.Linked.{sha_link}
use Rattle.replica_model.specs.Replica.{Replica}
use Rattle.replica_model.specs.Send.{append_from, sent_on}
use Rattle.replica_log.specs.Window.{Window, base_index}
use Rattle.replica_log.specs.Grafting.{point_at}

-- the kept entries from an index on, at most as many as one append holds
abbrev pub entries_at : Window → ℕ → Path
entries_at w next = take MAX_ENTRIES (drop (next - 1 - base_index w) w.entries)

-- the append of a term: what follows the point before the peer's next entry, where its hash is kept
abbrev pub append_of : Window → Progress → ℕ → Option PeerMsg
append_of w p term =
    cond (nat_lt (base_index w) p.next)
    (Some (Append term (point_at sha_link w (p.next - 1)) (entries_at w p.next) w.promised w.committed))
    None

-- the peer's next entry is the one after the last that was sent
abbrev pub after_append : Window → Progress → Progress
after_append w p = cond (nat_lt (base_index w) p.next) (record p { next = p.next + length (entries_at w p.next) }) p

-- the append and the progress after it are the model's
pub record MakesAppend (s : Replica) (before : Progress) (append : Option PeerMsg) (after : Progress) : Type 0 where
  pub append_is : append ≡ cond (nat_lt s.base before.next) (Some (append_from sha_link s before.next)) None
  pub after_is : after ≡ cond (nat_lt s.base before.next) (sent_on s.path before) before
