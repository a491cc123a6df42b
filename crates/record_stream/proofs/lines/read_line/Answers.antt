use Rattle.std.proofs.Common.{Bor, List, ℕ, arith, ap, ◌∙◌, ◌++◌, sym, refl, inl, inr, Some, ◌∷◌, [], Err, length-append}
use Rattle.std.proofs.lemmas.Result.{err_from_is_err_and}
use Rattle.csv.specs.Reading.{Reached, default_config, strip_bom}
use Rattle.csv.specs.Records.{fields_of}
use Rattle.csv.specs.declared.parser.State.TheVariants as st
use Rattle.csv.proofs.ReadFacts.{rows-end, rows-more}
use Rattle.record_stream.proofs.Faults.{cause_passed}
use Rattle.record_stream.proofs.Courses.{advances_none, advances_then, cuts_with, grows_none, grows_then, plays_then, stops_in}
use Rattle.record_stream.proofs.ReadRecords.{length-rows, records-all, records-front}
use Rattle.record_stream.proofs.lines.read_line.Goals as goal

pub loop-row-init : goal.loop-row-init
unfolding Reached
loop-row-init g c =
    let fr = c.from_reader-reader.ensures in
    let e = c.has_headers.ensures in
    let f = c.flexible.ensures in
    let start = c.into_iter-row-iterator.ensures.into_iter_gives in
    let rdr = c.into_byte_records-row-items.ensures.rdr in
    let left = c.into_byte_records-row-items.ensures.left in
    rw (start, rdr) (record {
      trim = rw (f, e) at fr.trim ∙ c.new.ensures.trim;
      ready = inr (inr (rw (f, e) at fr.has_headers, fr.headers));
      turns = left;
      config = rw (f, e) at fr.config ∙ c.new.ensures.config;
      so_far = (strip_bom c.args.line.now, [], fr.source, (sym fr.state, refl), omega arith, [], advances_none _ _ _ _ g.met.P.Player.history _, grows_none _);
      live = c.requires.live;
      own_later = omega arith;
    })

pub play_row-requires-clause-count : goal.play_row-requires-clause-count
play_row-requires-clause-count g c =
    let inv = c.loop-row.invariant in
    let (left, rows, source, reached, count, written, goes, taken) = inv.so_far in
    let s = rw (c.in-Some.is, c.in-Ok.is) at ((c.next.ensures.steps inv.turns inv.trim).0 inv.ready) in
    let m = rows-more (λ (s : Bor (List ℕ)). Some s.now) c.loop-row.row-iterator.rdr c.next.new.self.rdr (fields_of c.in-Ok.row) default_config st.StartRecord (strip_bom c.args.line.now) left rows inv.config source reached s.0 in
    let few = length-rows c.args.line.now _ m.0 (rows ++ (fields_of c.in-Ok.row ∷ [])) m.2 in
    omega (arith, count, few, length-append rows (fields_of c.in-Ok.row ∷ []), c.requires.count)

pub returns-in_err-play_row : goal.returns-in_err-play_row
returns-in_err-play_row g c =
    let p = err_from_is_err_and c.from_residual.result c.from_residual.ensures.1 in
    let inv = c.loop-row.invariant in
    let (left, rows, source, reached, count, written, goes, taken) = inv.so_far in
    let s = rw (c.in-Some.is, c.in-Ok.is) at ((c.next.ensures.steps inv.turns inv.trim).0 inv.ready) in
    let m = rows-more (λ (s : Bor (List ℕ)). Some s.now) c.loop-row.row-iterator.rdr c.next.new.self.rdr (fields_of c.in-Ok.row) default_config st.StartRecord (strip_bom c.args.line.now) left rows inv.config source reached s.0 in
    let (rest, front) = records-front c.args.line.now _ m.0 (rows ++ (fields_of c.in-Ok.row ∷ [])) m.2 in
    let all = plays_then _ _ _ _ g.met.P.Player.history _ _ _ rows (fields_of c.in-Ok.row ∷ []) written _ _ _ _ goes taken c.play_row.ensures.plays in
    record {
      plays = rw front (stops_in _ _ _ _ _ _ (rows ++ (fields_of c.in-Ok.row ∷ [])) rest _ _ _ _ _ c.in_err-play_row.was (p.1 ∙ ap Err p.2) all);
      counted = rw p.1 tt;
      own_cause = cause_passed _ _ _ _ _ _ _ inv.own_later c.in_err-play_row.was (p.1 ∙ ap Err p.2) c.play_row.ensures.own_cause;
      live = rw p.1 tt;
    }

pub loop-row-preserved : goal.loop-row-preserved
loop-row-preserved g c =
    let inv = c.loop-row.invariant in
    let (left, rows, source, reached, count, written, goes, taken) = inv.so_far in
    let s = rw (c.in-Some.is, c.in-Ok.is) at ((c.next.ensures.steps inv.turns inv.trim).0 inv.ready) in
    let m = rows-more (λ (s : Bor (List ℕ)). Some s.now) c.loop-row.row-iterator.rdr c.next.new.self.rdr (fields_of c.in-Ok.row) default_config st.StartRecord (strip_bom c.args.line.now) left rows inv.config source reached s.0 in
    let (more, goes_more, taken_more) = c.in_ok-play_row.ensures.plays in
    record {
      trim = s.0.3 ∙ inv.trim;
      ready = inl s.1;
      turns = s.2;
      config = s.0.2 ∙ inv.config;
      so_far = (
        m.0,
        rows ++ (fields_of c.in-Ok.row ∷ []),
        m.1,
        m.2,
        omega (arith, count, c.in_ok-play_row.ensures.counted, length-append rows (fields_of c.in-Ok.row ∷ [])),
        written ++ more,
        advances_then _ _ _ _ g.met.P.Player.history _ _ _ rows (fields_of c.in-Ok.row ∷ []) written more goes goes_more,
        grows_then _ _ _ written more taken taken_more,
      );
      live = c.in_ok-play_row.ensures.live;
      own_later = omega (arith, inv.own_later, c.play_row.ensures.own_cause.later);
    }

pub returns-in_default : goal.returns-in_default
returns-in_default g c =
    let (left, rows, source, reached, count, written, goes, taken) = c.loop-row.invariant.so_far in
    let (rest, front) = records-front c.args.line.now _ left rows reached in
    record {
      plays = (written, rw front (cuts_with _ _ _ _ _ _ rows rest written goes), taken);
      counted = tt;
      own_cause = record { later = c.loop-row.invariant.own_later; failed = λ e. cc e };
      live = tt;
    }

pub returns : goal.returns
returns g c =
    let inv = c.loop-row.invariant in
    let (left, rows, source, reached, count, written, goes, taken) = inv.so_far in
    let s = rw c.in-None.is at ((c.next.ensures.steps inv.turns inv.trim).0 inv.ready) in
    let end = rows-end (λ (s : Bor (List ℕ)). Some s.now) c.loop-row.row-iterator.rdr c.next.new.self.rdr [] default_config left inv.config source s in
    let all = records-all c.args.line.now _ left rows reached end in
    let few = length-rows c.args.line.now _ left rows reached in
    record {
      plays = (written, rw all goes, taken);
      counted = omega (arith, count, few);
      own_cause = record { later = inv.own_later; failed = λ e. cc e };
      live = inv.live;
    }
