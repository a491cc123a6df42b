-- A sound replica hears an append.
use Rattle.std.proofs.Common.{◌≡◌, ℕ, ◌+◌, true, Option, List, [], ◌∷◌, ◌++◌, length, All, refl, sym, ap, subst, ◌∙◌, arith}
use Rattle.std.specs.Prelude.{is_some}
use Rattle.std.specs.List.{AllByRecursion}
use Rattle.std.proofs.lemmas.List.Elements.{All-head, All-tail}
use Rattle.values.specs.declared.batch.Batch.{Batch}
use Rattle.values.specs.declared.ids.ClientId.{ClientId}
use Rattle.values.specs.declared.message.Answer.{Answer}
use Rattle.values.specs.declared.entry.Body.{Body}
use Rattle.values.specs.declared.entry.Body.TheVariants.{Noop, Ask, Members}
use Rattle.values.specs.declared.entry.Point.{Point}
use Rattle.values.specs.declared.peer.PeerMsg.{PeerMsg}
use Rattle.group_msgs.specs.Ranges.{IsBodyInRange, IsEntryInRange}
use Rattle.replica_model.specs.Linked.{sha_link}
use Rattle.replica_model.specs.Path.{Path}
use Rattle.replica_model.specs.Graft.{Difference}
use Rattle.replica_log.specs.declared.graft.Graft.{Graft}
use Rattle.replica_log.specs.declared.graft.Graft.TheVariants.{Grafted, Apart, Conflict}
use Rattle.replica_log.specs.Grafting.{graft_of}
use Rattle.replica_log.specs.Window.{Window, FitsBody, Fits, IsOrdered, last_index}
use Rattle.append_rules.specs.declared.take.Taken.{Taken}
use Rattle.append_rules.specs.declared.take.Taken.TheVariants as taken
use Rattle.append_rules.specs.Taken.{after_by, taken_by, after_offer, taken_of, cut_of, halt_of}
use Rattle.replica_core.specs.declared.role.Role.TheVariants as kept
use Rattle.replica_core.specs.declared.tickets.Ticket.{Ticket}
use Rattle.replica_core.specs.declared.holder.Holder.{Holder}
use Rattle.replica_core.specs.Keeping.{AreTickets, IsSound}
use Rattle.replica_core.specs.Applying.{applied_from, holder_applied}
use Rattle.replica_core.specs.Replacing.{kept_upto, members_above, tickets_left, given_up}
use Rattle.replica_core.proofs.Bounds.{Reached, offer-reached}
use Rattle.group_quorum.proofs.Made.{sound_faultless}
use Rattle.replica_core.proofs.Offers.{left-rising, left-within}
use Rattle.replica_core.proofs.Raises.{applied-sound}

-- an entry in range fits a log
fits_body : (b : Body) → IsBodyInRange b → FitsBody b
fits_body Noop h = tt
fits_body (Ask client number request) h = tt
fits_body (Members margin voters) h = sound_faultless (record { margin = margin; voters = voters }) h

pub all_fit : (es : Path) → All IsEntryInRange es → AllByRecursion Fits es
all_fit [] h = tt
all_fit (e ∷ es) h = (fits_body e.body (All-head IsEntryInRange e es h).1, all_fit es (All-tail IsEntryInRange e es h))

-- the log of one that halts is as before
pub halted-same : (w : Window) (prev : Point) (entries : Path) (term promise commit : ℕ) (g : Graft) → is_some (halt_of (taken_by w term prev promise g)) ≡ true
    → after_by w prev entries promise commit g ≡ w
halted-same w prev entries term promise commit (Grafted end cut) halts = cc
halted-same w prev entries term promise commit (Apart hint) halts = refl
halted-same w prev entries term promise commit (Conflict index kept offered) halts = refl

-- one that follows after an append is sound
pub heard-sound : (h : Holder) (w : Window) (from end : ℕ) (cut : Option Difference) (b : Batch) (had : ℕ) → IsSound h → IsOrdered h.log → IsOrdered w → Reached h.log w end cut
    → had ≡ h.log.committed
    → IsSound (holder_applied (record h { log = w; role = kept.Follower; known = from; tickets = tickets_left cut h.tickets })
    (applied_from (record h { log = w; role = kept.Follower; known = from; tickets = tickets_left cut h.tickets }) b had))
heard-sound h w from end cut b had sound o ow reached had-is =
    let low = o.committed in
    let base = reached.base in
    let more = reached.committed in
    applied-sound (record h { log = w; role = kept.Follower; known = from; tickets = tickets_left cut h.tickets }) b had sound.term ow.top tt
    (left-rising cut had h.tickets (subst (λ n. AreTickets n h.tickets) (sym had-is) sound.tickets))
    (left-within cut (last_index h.log) (last_index w) h.tickets reached.kept sound.within)
    ow (omega (arith, low, base, had-is)) (omega (arith, more, had-is))

module _ (w : Window) (o : IsOrdered w) (term : ℕ) (prev : Point) (entries : Path) (promise commit : ℕ) (w' : Window) (t : Taken)
    (t-is : t ≡ taken_of w term prev entries promise) (after : w' ≡ after_offer w prev entries promise commit) where
  pub reached-as : (reply : PeerMsg) (cut : Option Difference) → t ≡ taken.Replied reply cut → Reached w w' (prev.index + length entries) cut
  reached-as reply cut is =
      subst (λ (x : Window). Reached w x (prev.index + length entries) cut) (sym after)
      (subst (λ (x : Taken). Reached w (after_offer w prev entries promise commit) (prev.index + length entries) (cut_of x)) (sym t-is ∙ is)
      (offer-reached w prev entries o term promise commit))

  pub halted-as : (d : Difference) → t ≡ taken.Conflict d.0 d.1 d.2 → w' ≡ w
  halted-as d is =
      after ∙ halted-same w prev entries term promise commit (graft_of sha_link w prev entries) (ap (λ (x : Taken). is_some (halt_of x)) (sym t-is ∙ is))

-- the replica and the batch before the entries are applied
module _ (h : Holder) (b : Batch) (from : ℕ) (w : Window) (cut : Option Difference) where
  abbrev pub follower : Holder
  follower = record h { log = w; role = kept.Follower; known = from; tickets = tickets_left cut h.tickets }

  abbrev pub told_first : Batch
  told_first = record b { members = b.members ++ members_above w (kept_upto (last_index h.log) cut); answers = b.answers ++ given_up cut h.tickets }

  module _ (f : Holder) (f-is : f ≡ record h { log = w; role = kept.Follower; known = from }) where
    pub follower-as : (tickets : List Ticket) → tickets ≡ tickets_left cut f.tickets → record f { tickets = tickets } ≡ follower
    follower-as tickets is = ap (λ ts. record f { tickets = ts }) is ∙ ap (λ (x : Holder). record x { tickets = tickets_left cut x.tickets }) f-is

    pub told-as : (k : ℕ) (d : Batch) (answers : List (ClientId × ℕ × Answer)) → k ≡ kept_upto (last_index h.log) cut
        → d ≡ record b { members = b.members ++ members_above f.log k } → answers ≡ d.answers ++ given_up cut f.tickets → record d { answers = answers } ≡ told_first
    told-as k d answers k-is d-is is =
        ap (λ xs. record d { answers = xs }) is
        ∙ (ap (λ (x : Batch). record x { answers = x.answers ++ given_up cut f.tickets }) d-is
        ∙ (ap (λ (x : Holder). record b { members = b.members ++ members_above x.log k; answers = b.answers ++ given_up cut x.tickets }) f-is
        ∙ ap (λ n. record b { members = b.members ++ members_above w n; answers = b.answers ++ given_up cut h.tickets }) k-is))
