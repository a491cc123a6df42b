use Rattle.std.proofs.Common.{◌≡◌, ◌-◌, ◌≤◌, length, slice_range}
use Rattle.memchr.specs.Find.{Nowhere, Passes}
use Rattle.record_cutting.specs.Lines.{record_of}
use Rattle.record_stream.specs.Plain.{is_marked}
use Rattle.record_stream.proofs.Walks.{CutTo, is_other}
use Rattle.record_stream.proofs.cutter.Cutter.cut_line.Given as goal

-- the fields so far, each with its comma, and then bytes that mean nothing
abbrev pub invariant-loop-at : goal.invariant-loop-at
invariant-loop-at l = record {
  same : l.self.piece ≡ l.initial.self.piece;
  low : l.initial.start ≤ l.start;
  high : l.start ≤ l.self.from;
  plain : Nowhere (Passes is_other l.piece) l.initial.start l.self.from;
  nothing : Nowhere (Passes is_marked l.piece) l.start l.self.from;
  so_far : CutTo (record_of l.fields.items) (slice_range l.piece l.initial.start l.start);
}

abbrev pub decreases-loop-at : goal.decreases-loop-at
decreases-loop-at l = length l.piece - l.self.from
