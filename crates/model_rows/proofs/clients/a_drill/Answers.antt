use Rattle.std.proofs.Common.{refl}
use Rattle.rand_core.specs.Steps.{u32_at}
use Rattle.rand_chacha.specs.Block.{quarter_round, column_round, diagonal_round, double_rounds, block_word}
use Rattle.model_rows.proofs.Computing.{computing}
use Rattle.model_rows.proofs.clients.a_drill.Goals as goal

pub returns : goal.returns
unfolding computing u32_at quarter_round column_round diagonal_round double_rounds block_word
returns c = refl
