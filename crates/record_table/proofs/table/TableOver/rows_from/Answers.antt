use Rattle.std.proofs.Common.{◌∷◌, [], ◌++◌, slice_get, sym, ap, ◌∙◌, arith}
use Rattle.record_table.proofs.Copied.{one_more, none_past}
use Rattle.record_table.proofs.table.TableOver.rows_from.Goals as goal
use Rattle.record_table.proofs.table.TableOver.rows_from.Goals.{in-Some+in_ok-copy+in_ok-push, in_default}

pub loop-at-preserved : goal.loop-at-preserved
loop-at-preserved g c =
    elim c.match-place.branch [
      | in-Some+in_ok-copy+in_ok-push w ↦
          w.rows-is ∙ w.in_ok-push.ensures.ok
          ∙ ap (λ row. c.loop-at.rows ++ row ∷ []) w.in_ok-copy.ensures
          ∙ ap (λ rows. rows ++ w.in-Some.row.now ∷ []) c.loop-at.invariant
          ∙ one_more c.args.self.now.rows c.args.place c.loop-at.at w.in-Some.row.now c.loop-at.auto.at (ap (λ t. slice_get t.rows c.loop-at.at) (sym c.self.view_is) ∙ sym w.in-Some.ensures)
      | in_default w ↦
          absurd (let past = none_past c.args.self.now.rows c.loop-at.at (w.in_default.ensures ∙ ap (λ t. slice_get t.rows c.loop-at.at) c.self.view_is) in
          let low = c.loop-at-test.true in let end = c.min-end.ensures in let count = c.count.ensures.count in omega arith)
    ]
