use Rattle.std.proofs.Common.{ℕ, ◌+◌, ◌*◌, ◌/◌, length, sym, ap, ◌∙◌}
use Rattle.std.specs.Prelude.{nat_le}
use Rattle.group_msgs.proofs.RuleLemmas.{length-ids_in}
use Rattle.group_msgs.proofs.check.are_enough.Goals as goal

pub returns : goal.returns
returns c = ap (λ (n : ℕ). nat_le (2 * n + 1) (length c.args.voters.now / 4)) c.from.ensures ∙ sym (ap (nat_le (2 * c.args.margin + 1)) (length-ids_in c.args.voters.now))
