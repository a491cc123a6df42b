use Rattle.std.proofs.Common.{rules, subst, sym, length, ◌≤◌}
use Rattle.replica_model.specs.Tables.{IsTruePart}
use Rattle.table_transfer.specs.TakenParts.{IsTakable}
use Rattle.table_transfer.proofs.TrueParts.{true_part, takable, at_most}
use Rattle.table_transfer.proofs.sending.Sending.part.Goals as goal

pub returns-clause-of_path : goal.returns-clause-of_path
returns-clause-of_path c = λ link names sends.
    subst (λ part. IsTruePart link part names) (sym (search rules)) (true_part c.tables_of_paths.ensures.limit link c.args.self.now names sends (search rules))

pub returns-clause-takable : goal.returns-clause-takable
returns-clause-takable c = subst IsTakable (sym (search rules)) (takable c.args.self.now c.parts.ensures.sound (search rules))

pub returns-clause-sized : goal.returns-clause-sized
returns-clause-sized c = (
  c.parts.ensures.few,
  subst (λ rows. length rows ≤ 32) (sym c.in_ok-rows_from.ensures) (at_most _),
)
