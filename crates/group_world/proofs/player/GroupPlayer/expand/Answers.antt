use Rattle.std.proofs.Common.{false}
use Rattle.record_cutting.specs.Lines.{record_of}
use Rattle.group_world.proofs.Pieces.{event_writes}
use Rattle.group_world.proofs.Recorded.{plays_alone, reads_playable}
use Rattle.group_world.proofs.player.GroupPlayer.expand.Goals as goal

pub play_event-requires : goal.play_event-requires
play_event-requires g c =
    let e = c.args.event.now in
    let begun = c.args.self.now.world.begun in
    record {
      can = c.requires.can;
      playable = plays_alone begun e (reads_playable false (record_of c.args.fields.now) e begun c.requires.says) c.in_default.not-Settle;
    }

pub returns-in-Settle-clause-writes : goal.returns-in-Settle-clause-writes
returns-in-Settle-clause-writes g c = rw c.in-Settle.is c.settle.ensures.writes

pub returns-in_default : goal.returns-in_default
returns-in_default g c =
    let e = c.args.event.now in
    let begun = c.args.self.now.world.begun in
    let playable = plays_alone begun e (reads_playable false (record_of c.args.fields.now) e begun c.requires.says) c.in_default.not-Settle in
    let (given, gained, writes) = c.play_event.ensures.writes in
    record {
      writes = (
        given,
        gained,
        event_writes e begun playable c.args.self.now.world c.play_event.new.self.world (g.F.Field.map c.args.self.now.field) (g.F.Field.map c.play_event.new.self.field) given _ _ c.play_event.result writes,
      );
      can = c.play_event.ensures.can;
      cause = c.play_event.ensures.cause;
      records = c.play_event.ensures.records;
    }
