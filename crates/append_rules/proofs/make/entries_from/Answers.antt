use Rattle.std.proofs.Common.{◌≡◌, ◌∷◌, [], ◌++◌, sym, ap, ◌∙◌, arith}
use Rattle.replica_log.specs.Window.{last_index}
use Rattle.append_rules.proofs.Copied.{copies, no_entry}
use Rattle.append_rules.proofs.make.entries_from.Goals as goal
use Rattle.append_rules.proofs.make.entries_from.Goals.{in-Some+in_ok-copy+in_ok-push, in_default}

pub loop-index-preserved : goal.loop-index-preserved
loop-index-preserved c =
    elim c.match-entry_at.branch [
      | in-Some+in_ok-copy+in_ok-push w ↦
          ap (λ v. v.items) w.entries-is ∙ w.in_ok-push.ensures.items
          ∙ ap (λ e. c.loop-index.entries.items ++ e ∷ []) w.in_ok-copy.ensures
          ∙ ap (λ es. es ++ w.in-Some.entry.now ∷ []) c.loop-index.invariant
          ∙ copies c.args.log.now c.args.next c.loop-index.index c.requires.base c.loop-index.auto.index w.in-Some.entry.now (sym w.in-Some.ensures.entry)
      | in_default w ↦
          absurd (let past = no_entry c.args.log.now c.args.next c.loop-index.index c.requires.base c.loop-index.auto.index (sym w.in_default.ensures.entry) in
          let last : c.last.result.index ≡ last_index c.args.log.now = ap (λ p. p.index) c.last.ensures.last in
          omega (arith, past, last, c.loop-index-test.true, c.min-end.ensures))
    ]
