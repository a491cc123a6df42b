use Rattle.std.proofs.Common.{◌≡◌, ◌+◌, ◌≤◌, ◌<◌, ℕ, List, Some, length}
use Rattle.csv.specs.Reading.{Reached, Ready, default_config, source_of, strip_bom}
use Rattle.csv.specs.declared.parser.State.TheVariants as st
use Rattle.csv.specs.declared.reader.Trim.TheVariants as trim
use Rattle.record_cutting.specs.Lines.{Record}
use Rattle.record_stream.specs.Course.{Advances, Grows}
use Rattle.record_stream.proofs.lines.read_line.Given as goal

-- the records so far take the line from its start to where the reader stands, and were played
abbrev pub invariant-loop-row : goal.invariant-loop-row
invariant-loop-row g l = record {
  trim : l.row-iterator.rdr.trim ≡ trim.None;
  ready : Ready l.row-iterator.rdr;
  turns : 0 < l.row-iterator.left;
  config : l.row-iterator.rdr.config ≡ default_config;
  so_far : (left : List ℕ) × (rows : List Record) × (source_of (λ s. Some s.now) l.row-iterator.rdr ≡ Some left)
      × Reached default_config st.StartRecord (strip_bom l.fn.line) rows l.row-iterator.rdr.state left
      × (g.P.Player.count l.player ≡ g.P.Player.count l.initial.player + length rows)
      × (written : List ℕ) × Advances g.P.Player.gains g.P.Player.takes g.P.Player.course g.P.Player.step l.initial.player rows l.player written
      × Grows l.initial.lines.items l.lines.items written;
  live : g.P.Player.live l.player;
  own_later : g.P.Player.own_faults l.initial.player ≤ g.P.Player.own_faults l.player;
}
