use Rattle.table_command.proofs.Playing.{closes_rows}
use Rattle.table_command.proofs.player.TablePlayerPlayer.close.Goals as goal

pub returns-clause-adds : goal.returns-clause-adds
returns-clause-adds c = closes_rows c.args.self.now _ _ c.end.result c.end.ensures.line c.end.ensures.kept
