use Rattle.std.proofs.Common.{◌≡◌, length}
use Rattle.group_quorum.specs.declared.TheConstants.{MAX_VOTERS}
use Rattle.record_cutting.specs.Lines.{record_of}
use Rattle.schedule_text.proofs.BeginIds.{HasFirst, ReadTo}
use Rattle.schedule_text.proofs.voters.read_ids.Given as goal

-- the texts so far were read, and the first of them are kept
abbrev pub invariant-loop-place : goal.invariant-loop-place
invariant-loop-place l = record {
  read : ReadTo (record_of l.texts) l.place;
  long : length l.ids ≡ MAX_VOTERS;
  kept : HasFirst l.ids (record_of l.texts) l.place;
}
