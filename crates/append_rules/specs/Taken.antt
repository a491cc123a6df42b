-- What a follower makes of an append.
use Rattle.std.specs.Prelude.{◌≡◌, ℕ, cond, nat_le, min, max, Option, Some, None, List, [], ◌∷◌}
use Rattle.values.specs.declared.entry.Point.{Point}
use Rattle.values.specs.declared.peer.PeerMsg.{PeerMsg}
use Rattle.values.specs.declared.peer.PeerMsg.TheVariants.{Accepted, Rejected}
use Rattle.replica_model.specs.Path.{Path}
use Rattle.replica_model.specs.Linked.{sha_link}
use Rattle.replica_model.specs.Message.{Message, plain}
use Rattle.replica_model.specs.Replica.{Replica}
use Rattle.replica_model.specs.Graft.{Offer, Difference, first_difference, points_of, refusal_hint, append_heard}
use Rattle.replica_log.specs.declared.graft.Graft.{Graft}
use Rattle.replica_log.specs.declared.graft.Graft.TheVariants.{Grafted, Apart, Conflict}
use Rattle.replica_log.specs.Window.{Window, promised_to, committed_to}
use Rattle.replica_log.specs.Grafting.{graft_of, after_graft}
use Rattle.replica_log.specs.Models.{StandsFor}
use Rattle.append_rules.specs.declared.take.Taken.{Taken}
use Rattle.append_rules.specs.declared.take.Taken.TheVariants as taken

-- promised and committed rise up to the last index that was offered
abbrev pub raised : Window → ℕ → ℕ → ℕ → Window
raised w end promise commit = committed_to (promised_to w (min promise end)) (min commit (min promise end))

-- the log after what came of the entries
abbrev pub after_by : Window → Point → Path → ℕ → ℕ → Graft → Window
after_by w prev entries promise commit (Grafted end cut) = raised (after_graft w prev entries (Grafted end cut)) end.index promise commit
after_by w prev entries promise commit (Apart hint) = w
after_by w prev entries promise commit (Conflict index kept offered) = w

-- the log after an append
abbrev pub after_offer : Window → Point → Path → ℕ → ℕ → Window
after_offer w prev entries promise commit = after_by w prev entries promise commit (graft_of sha_link w prev entries)

-- the answer: a graft is accepted up to its end, what stands apart is rejected with its hint, and a conflict halts
abbrev pub taken_by : Window → ℕ → Point → ℕ → Graft → Taken
taken_by w term prev promise (Grafted end cut) = taken.Replied (Accepted term end (min (max w.promised (min promise end.index)) end.index)) cut
taken_by w term prev promise (Apart hint) = taken.Replied (Rejected term prev.index hint) None
taken_by w term prev promise (Conflict index kept offered) = taken.Conflict index kept offered

-- the answer to an append
abbrev pub taken_of : Window → ℕ → Point → Path → ℕ → Taken
taken_of w term prev entries promise = taken_by w term prev promise (graft_of sha_link w prev entries)

-- the reply, if there is one
abbrev pub reply_of : Taken → Option PeerMsg
reply_of (taken.Replied reply cut) = Some reply
reply_of (taken.Conflict index kept offered) = None

-- where the log was cut
abbrev pub cut_of : Taken → Option Difference
cut_of (taken.Replied reply cut) = cut
cut_of (taken.Conflict index kept offered) = None

-- what the replica halts with
abbrev pub halt_of : Taken → Option Difference
halt_of (taken.Replied reply cut) = None
halt_of (taken.Conflict index kept offered) = Some (index, kept, offered)

-- the replica's term, and the offer's parts
pub record HasTerms (s : Replica) (o : Offer) (term : ℕ) (prev : Point) (entries : Path) (promise commit : ℕ) : Type 0 where
  pub term_is : s.term ≡ term
  pub prev_is : o.prev ≡ prev
  pub entries_is : o.entries ≡ entries
  pub promise_is : o.promise ≡ promise
  pub commit_is : o.commit ≡ commit

-- the reply as a message to the sender, if there is one
abbrev pub sent_to : ℕ → Option PeerMsg → List (ℕ × Message)
sent_to from None = []
sent_to from (Some msg) = (from, plain msg) ∷ []

-- a difference counts where no hint refuses the offer
abbrev pub unless_refused : Option ℕ → Difference → Option Difference
unless_refused (Some hint) d = None
unless_refused None d = Some d

-- where the path is cut: at the first difference, unless that is a conflict or the offer is refused
abbrev pub cut_at : Replica → Option Difference → Offer → Option Difference
cut_at s None o = None
cut_at s (Some d) o = cond (nat_le d.0 s.promised) None (unless_refused (refusal_hint s (Some d) o) d)

-- the answer is that of the model's call, the log stands for the replica after it, and it was cut where the model's is
pub record TakesOffer (s : Replica) (o : Offer) (w : Window) (t : Taken) : Type 0 where
  pub stands : StandsFor sha_link w (append_heard sha_link s o).state
  pub halts : (append_heard sha_link s o).batch.halt ≡ halt_of t
  pub replies : (append_heard sha_link s o).sent ≡ sent_to o.from (reply_of t)
  pub cuts : cut_of t ≡ cut_at s (first_difference sha_link s (points_of sha_link o)) o
