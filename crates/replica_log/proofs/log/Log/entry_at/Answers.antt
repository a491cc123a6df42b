use Rattle.std.proofs.Common.{sym, ◌∙◌}
use Rattle.replica_model.specs.Linked.{sha_link}
use Rattle.replica_log.proofs.Chains.{at_index, at_none}
use Rattle.replica_log.proofs.Standing.{entry_at_model}
use Rattle.replica_log.proofs.log.Log.entry_at.Goals as goal

pub returns-in-Some-clause-entry : goal.returns-in-Some-clause-entry
returns-in-Some-clause-entry c = sym (at_index sha_link c.args.self.now c.args.index c.in-Some.chained.now (sym c.in-Some.ensures)).entry

pub returns-in-Some-clause-model : goal.returns-in-Some-clause-model
returns-in-Some-clause-model c s h above =
    sym (at_index sha_link c.args.self.now c.args.index c.in-Some.chained.now (sym c.in-Some.ensures)).entry
    ∙ entry_at_model sha_link c.args.self.now s h c.args.index above

pub returns-in-None-clause-entry : goal.returns-in-None-clause-entry
returns-in-None-clause-entry c = sym (at_none sha_link c.args.self.now c.args.index (sym c.in-None.ensures))

pub returns-in-None-clause-model : goal.returns-in-None-clause-model
returns-in-None-clause-model c s h above =
    sym (at_none sha_link c.args.self.now c.args.index (sym c.in-None.ensures)) ∙ entry_at_model sha_link c.args.self.now s h c.args.index above
