use Rattle.std.proofs.Common.{sym, subst, ◌∙◌}
use Rattle.std.specs.Cmp.Lexicographic.{same_text, other_text}
use Rattle.std.specs.List.Sorted.{IsStrictlyIncreasing}
use Rattle.host_msgs.proofs.Configurations.{made, made_other, is_rising-from, unordered}
use Rattle.host_msgs.proofs.voters.voters.Goals as goal
use Rattle.host_msgs.proofs.voters.voters.Goals.{in_default-via-in-Ok+else-eq, in_default-via-in_default}

pub returns-in-Ok : goal.returns-in-Ok
returns-in-Ok c =
    let ids = c.args.ids.now in
    let same = sym c.voters.ensures.voters ∙ same_text c.voters.result.now ids c.if-eq.ensures in
    made c.args.margin ids c.in-Ok.config c.in-Ok.ensures.made (is_rising-from ids (subst IsStrictlyIncreasing same c.voters.ensures.sound.in_order)) c.from_slice.result c.from_slice.ensures

pub returns-in_default : goal.returns-in_default
returns-in_default c =
    elim c.in_default.branch [
      | in_default-via-in-Ok+else-eq w ↦
          unordered c.args.margin c.args.ids.now w.in-Ok.config w.in-Ok.ensures.in_order (λ is. other_text w.voters.result.now c.args.ids.now w.if-eq.ensures (w.voters.ensures.voters ∙ is))
      | in_default-via-in_default w ↦ made_other c.args.margin c.args.ids.now c.new.result c.new.ensures.made w.in_default.not-Ok
    ]
