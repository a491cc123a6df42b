use Rattle.std.proofs.lemmas.Fn.{filter_same}
use Rattle.std.proofs.Common.{rules, nat_lt, Some, List, [], ◌∷◌, ◌++◌, map, filter, sym, ap, ◌∙◌, append-nil}
use Rattle.std.specs.VecDeque.Iter.{deque_iter_rest}
use Rattle.std.proofs.lemmas.List.{map-append}
use Rattle.std.proofs.lemmas.Iterator.Consumers.{YieldsList-from_deque, YieldsList-end}
use Rattle.std.specs.Borrow.{Bor}
use Rattle.values.specs.declared.message.Answer.TheVariants.{Undecided}
use Rattle.replica_core.specs.declared.tickets.Ticket.{Ticket}
use Rattle.replica_core.specs.Replacing.{given_up}
use Rattle.replica_core.proofs.GivenUp.{given-kept, given-more}
use Rattle.replica_core.proofs.tickets.Tickets.give_up_from.Goals as goal

pub loop-ticket-init : goal.loop-ticket-init
loop-ticket-init c = sym (append-nil c.args.answers.now)

pub loop-ticket-preserved-then-ticket-index : goal.loop-ticket-preserved-then-ticket-index
loop-ticket-preserved-then-ticket-index c =
    let a = c.args.answers.now in
    let ts : List Ticket = map (λ (y : Bor Ticket). y.now) c.loop-ticket.yielded in
    let t : Ticket = c.in-Some.ticket.now in
    c.loop-ticket.invariant
    ∙ (sym (given-kept a c.args.index c.args.old c.args.new ts t c.if-ticket-index.true)
    ∙ ap (λ us. a ++ given_up (Some (c.args.index, c.args.old, c.args.new)) us) (sym (map-append (λ (y : Bor Ticket). y.now) c.loop-ticket.yielded (c.in-Some.ticket ∷ []))))

pub loop-ticket-preserved : goal.loop-ticket-preserved
loop-ticket-preserved c =
    let a = c.args.answers.now in
    let ts : List Ticket = map (λ (y : Bor Ticket). y.now) c.loop-ticket.yielded in
    let t : Ticket = c.in-Some.ticket.now in
    c.in_ok-push.ensures.ok
    ∙ (ap (λ xs. xs ++ (t.client, t.number, Undecided c.args.index c.args.old c.args.new) ∷ []) c.loop-ticket.invariant
    ∙ (sym (given-more a c.args.index c.args.old c.args.new ts t c.if-ticket-index.false)
    ∙ ap (λ us. a ++ given_up (Some (c.args.index, c.args.old, c.args.new)) us) (sym (map-append (λ (y : Bor Ticket). y.now) c.loop-ticket.yielded (c.in-Some.ticket ∷ [])))))

pub returns-clause-left : goal.returns-clause-left
returns-clause-left c =
    filter_same _ _ _ (λ x b f' k. search rules) _ _ c.retain.ensures.filtered ∙ ap (filter (λ (t : Ticket). nat_lt t.index c.args.index)) c.self.view_is

pub returns-clause-answers : goal.returns-clause-answers
returns-clause-answers c =
    let all = YieldsList-end (YieldsList-from_deque c.self.inside.tickets.items (ap (λ s. deque_iter_rest s) c.into_iter-ticket-iterator.ensures.into_iter_gives ∙ c.iter-ticket-items.ensures.rest))
    c.loop-ticket.yielded _ c.loop-ticket.yielded_by _ _ c.in-None.is c.next.ensures.steps in
    c.loop-ticket.invariant ∙ ap (λ ts. c.args.answers.now ++ given_up (Some (c.args.index, c.args.old, c.args.new)) ts) (all.0 ∙ c.self.view_is)
