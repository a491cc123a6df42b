use Rattle.std.proofs.Common.{◌≡◌, ◌+◌, rules, sym, ap, ◌∙◌}
use Rattle.values.specs.declared.entry.Hash.{Hash}
use Rattle.values.specs.declared.entry.Point.{Point}
use Rattle.replica_model.specs.Linked.{sha_link}
use Rattle.replica_log.proofs.Grafts.{known_hash}
use Rattle.replica_log.proofs.log.Log.next_offered.Goals as goal

pub returns-in-Some : goal.returns-in-Some
returns-in-Some c =
    let before : Point = c.args.before in
    let at : Hash → Point = λ h. record { index = before.index + 1; hash = h } in
    let compared = c.eq.ensures in
    let equal = c.if-eq.true in
    let same : c.in-Some.kept.now.entry ≡ c.args.entry.now = search rules in
    ap at (known_hash sha_link c.args.self.now before c.in-Some.kept.now c.requires.same (sym c.in-Some.ensures)
    ∙ ap (sha_link before.hash (before.index + 1)) same)
