use Rattle.std.proofs.Common.{◌∙◌, sym, ap}
use Rattle.group_quorum.specs.Voters.{is_in}
use Rattle.replica_model.specs.Call as model_call
use Rattle.enclave_host.proofs.running.Running.join.Goals as goal

pub returns-clause-model : goal.returns-clause-model
returns-clause-model c = λ e runs.
    c.step.ensures.model e (model_call.Join c.args.id (is_in e.links c.args.id)) runs (ap (model_call.Join c.args.id) (sym (c.holds-linked.ensures ∙ runs.links c.args.id)))
