use Rattle.std.proofs.Common.{[], ◌∷◌, ◌++◌, sym, ap, ◌∙◌}
use Rattle.std.proofs.lemmas.List.{map-append}
use Rattle.std.proofs.lemmas.Iterator.Consumers.{YieldsList-from_deque, YieldsList-end}
use Rattle.replica_core.proofs.tickets.Tickets.copy.Goals as goal

pub loop-ticket-init : goal.loop-ticket-init
loop-ticket-init c = c.in_ok-tickets.ensures.items

pub loop-ticket-preserved : goal.loop-ticket-preserved
loop-ticket-preserved c =
    c.in_ok-push_back.ensures.items
    ∙ (ap (λ ts. ts ++ c.in-Some.ticket.now ∷ []) c.loop-ticket.invariant ∙ sym (map-append (λ y. y.now) c.loop-ticket.yielded (c.in-Some.ticket ∷ [])))

pub returns : goal.returns
returns c =
    let all = YieldsList-end (YieldsList-from_deque c.self.inside.tickets.items (ap (λ s. Rattle.std.specs.VecDeque.Iter.deque_iter_rest s) c.into_iter-ticket-iterator.ensures.into_iter_gives ∙ c.iter-ticket-items.ensures.rest))
    c.loop-ticket.yielded _ c.loop-ticket.yielded_by _ _ c.in-None.is c.next.ensures.steps in
    c.loop-ticket.invariant ∙ (all.0 ∙ c.self.view_is)
