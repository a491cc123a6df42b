use Rattle.std.proofs.Common.{ap, refl}
use Rattle.std.specs.Prelude.{is_none}
use Rattle.std.specs.List.{list_all}
use Rattle.group_model.specs.Log.{state_of, log_of}
use Rattle.model_rows.specs.Broken.{revoted}
use Rattle.model_rows.proofs.Computing.{computing}
use Rattle.model_rows.proofs.Enough.{enough_was, incomplete}
use Rattle.model_rows.proofs.Tests.{clash, all_none, is_empty}
use Rattle.model_rows.proofs.broken.halts_after_a_rollback.Goals as goal

pub returns : goal.returns
unfolding computing
returns c =
    let enough = enough_was revoted 1 (log_of revoted) refl in
    record {
      rolled = λ e. clash (is_empty revoted.rolled) (ap is_empty e) refl;
      enough = enough;
      incomplete = λ all. incomplete revoted 1 (log_of revoted) enough revoted.field.history refl all;
      broken = λ laws. clash (list_all (λ r. is_none (state_of r).halted) revoted.field.history) (all_none (λ r. (state_of r).halted) revoted.field.history laws.no_halt) refl;
    }
