use Rattle.std.proofs.Common.{ap, rules}
use Rattle.record_cutting.specs.Lines.{last_records}
use Rattle.record_stream.proofs.Courses.{empty_is, none_plays}
use Rattle.record_stream.proofs.source.play_last.Goals as goal

pub returns-then-is_empty-clause-plays : goal.returns-then-is_empty-clause-plays
returns-then-is_empty-clause-plays g c = none_plays _ _ _ _ g.met.P.Player.history _ _ _ (ap last_records (empty_is c.args.rest.now (search rules)))
