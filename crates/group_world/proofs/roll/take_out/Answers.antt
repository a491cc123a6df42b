use Rattle.std.proofs.Common.{not, ◌==◌, rules}
use Rattle.std.proofs.lemmas.Fn.{filter_same}
use Rattle.group_world.proofs.roll.take_out.Goals as goal

pub returns : goal.returns
returns c = filter_same _ (λ n. not (n == c.args.id)) _ (λ x b f h. (search rules, search rules)) _ _ c.retain.ensures.filtered
