use Rattle.std.proofs.Common.{ap, rules}
use Rattle.record_stream.specs.Plain.{plain_records}
use Rattle.record_stream.proofs.Courses.{empty_is, none_plays}
use Rattle.record_stream.proofs.lines.play_cut.Goals as goal

pub returns-then-is_empty-clause-plays : goal.returns-then-is_empty-clause-plays
returns-then-is_empty-clause-plays g c = none_plays _ _ _ _ g.met.P.Player.history _ _ _ (ap plain_records (empty_is c.args.body.now (search rules)))
