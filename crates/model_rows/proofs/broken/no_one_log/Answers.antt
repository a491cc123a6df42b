use Rattle.std.proofs.Common.{refl}
use Rattle.group_model.specs.Log.{log_of, fronts_of}
use Rattle.model_rows.specs.Broken.{forked}
use Rattle.model_rows.proofs.Computing.{computing}
use Rattle.model_rows.proofs.Tests.{clash, all_fronts, are_fronts, first_bears, bears_first}
use Rattle.model_rows.proofs.broken.no_one_log.Goals as goal

pub returns : goal.returns
unfolding computing
returns c =
    record {
      beyond = λ within. clash (bears_first forked.rolled forked.setup) (first_bears forked forked.setup within.first) refl;
      broken = λ laws. clash (are_fronts (log_of forked) (fronts_of forked)) (all_fronts (log_of forked) (fronts_of forked) laws.one_log) refl;
    }
