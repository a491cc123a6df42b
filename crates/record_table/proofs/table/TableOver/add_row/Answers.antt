use Rattle.std.proofs.Common.{inr, sym, subst, arith}
use Rattle.record_rules.specs.Valid.{IsSound}
use Rattle.record_rules.proofs.Sound.{sound_put}
use Rattle.record_table.proofs.table.TableOver.add_row.Goals as goal

pub invariant_of-self-2 : goal.invariant_of-self-2
invariant_of-self-2 g c =
    subst (λ rows. IsSound (record { limit = c.self.inside.limit; rows = rows })) (sym c.in_ok-add.ensures.ok)
    (sound_put (record { limit = c.self.inside.limit; rows = g.T.RowStore.content c.self.inside.rows }) c.args.row c.self.invariant c.requires
    (inr (let count = c.count.ensures.count in let below = c.if-count-self.false in omega arith)))
