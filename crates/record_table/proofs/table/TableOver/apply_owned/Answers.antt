use Rattle.std.proofs.Common.{sym, subst}
use Rattle.record_table.specs.Changes.{IsOutcome}
use Rattle.record_table.proofs.Changed.{sound_change}
use Rattle.record_table.proofs.table.TableOver.apply_owned.Goals as goal

pub invariant_of-self-in-Some : goal.invariant_of-self-in-Some
invariant_of-self-in-Some g c =
    sound_change (record { limit = c.self.inside.limit; rows = g.T.RowStore.content c.self.inside.rows }) c.args.client.now c.args.number c.args.request
    c.in_ok-change-in-Some.change c.in_ok-change-in-Some.response c.in-Some.row.now (g.T.RowStore.content c.change.new.self) c.self.invariant c.requires
    (sym c.in-Some.ensures)
    (subst (λ kept. IsOutcome c.args.request kept (c.in_ok-change-in-Some.change, c.in_ok-change-in-Some.response)) c.as_ref.ensures.value c.in_ok-change-in-Some.ensures)
    c.in_ok-change-in-Some-2.ensures.ok
