-- The end of the source, and the ends before it.
use Rattle.std.proofs.Common.{arith, refl, sym, ap, subst, ◌∙◌, ◌≡◌, ◌≢◌, ◌≤◌, ◌<◌, ℕ, List, [], ◌++◌, length, take, drop, fold, Bool, true, false, Option, Some, None, IfSome, Result, Ok, Err, append_assoc, append-nil, take-append-drop, inl, inr}
use Rattle.std.proofs.lemmas.List.Sums.{fold-append}
use Rattle.std.specs.Io.KnownBytes.{Appends, IsAtEnd}
use Rattle.std.proofs.KnownBytes.{Appends-nil, Appends-trans}
use Rattle.byte_streams.specs.Streams.{AppendsPrefix}
use Rattle.record_cutting.specs.Lines.{Record, last_part, last_records, records_after, records_of, whole_records}
use Rattle.record_stream.specs.Course.{Course, Goes, Stops, Begins, Breaks, Outlook, IsHistory, Advances, Closes, Grows, PlaysTo}
use Rattle.record_stream.specs.Ends.{CutOff, FailedIn, IsFrontOf, StoppedFor, WroteWhole, limit, piece_size}
use Rattle.record_stream.specs.Steps.{EndsAfter, EndsFrom, Finishes, FinishesFrom, Last, LastFrom, ended_by}
use Rattle.record_stream.specs.declared.player.Stop.{Stop}
use Rattle.record_stream.specs.declared.player.Stop.TheVariants as stop
use Rattle.record_stream.specs.declared.source.Ended.{Ended}
use Rattle.record_stream.specs.declared.source.Ended.TheVariants as ended
use Rattle.record_stream.proofs.Courses.{advances_none, advances_then, begins_take, begins_then, breaks_then, lines_begin, stops_then, taken_all}
use Rattle.record_stream.proofs.Cuts.{last_part-append, last_part-none, records_after-append, records_after-none}

-- ---- a text and what closes it

-- the same records, before no others
before_none : {R : Type 0} (a : Course R) (rs : List Record) → a.holds rs → a.holds (rs ++ [])
before_none a rs here = subst a.holds (sym (append-nil rs)) here

closed_text : {R : Type 0} (a b : Course R) (rs : List Record) (t : List ℕ) (closed : Bool) → Goes a rs b t → a.holds rs → a.text closed rs ≡ t ++ b.text closed []
closed_text a b rs t closed g here = ap (a.text closed) (sym (append-nil rs)) ∙ g.text closed [] (before_none a rs here)

whole_front : {R : Type 0} (a : Course R) (rs : List Record) (t : List ℕ) (closed : Bool) → Begins a rs t → a.holds rs → IsFrontOf t (a.text closed rs)
whole_front a rs t closed h here = let (rest, e) = h.text closed [] (before_none a rs here) in (rest, ap (a.text closed) (sym (append-nil rs)) ∙ e)

-- ---- where a run stands before it reads again

-- the records that stand whole in what was read were played, and the rest of it is kept
pub record SoFar {R : Type 0} (a : Course R) (read pending : List ℕ) (b : Course R) (x y : Option (List ℕ)) : Type 0 where
  pub written : List ℕ
  pub goes : Goes a (whole_records read) b written
  pub taken : Appends x y written
  pub rest : pending ≡ last_part [] read

-- what was written is the text of the records that stand whole
pub whole_text : {R : Type 0} (a b : Course R) (read pending : List ℕ) (x y : Option (List ℕ)) → b.text false [] ≡ [] → (s : SoFar a read pending b x y)
    → a.holds (whole_records read) → a.text false (whole_records read) ≡ s.written
whole_text a b read pending x y none s here = closed_text a b (whole_records read) s.written false s.goes here ∙ ap (λ (l : List ℕ). s.written ++ l) none ∙ append-nil s.written

pub wrote_whole : {R : Type 0} (a b : Course R) (read pending : List ℕ) (x y : Option (List ℕ)) → b.text false [] ≡ [] → b.reason [] ≡ None → (b.holds [] → b.takes_all [] ≡ true) → SoFar a read pending b x y
    → WroteWhole a read x y
wrote_whole a b read pending x y none unstopped spent s here =
    let all = before_none a (whole_records read) here in (
      (
        ap a.reason (sym (append-nil (whole_records read))) ∙ s.goes.reason [] all ∙ unstopped,
        ap a.takes_all (sym (append-nil (whole_records read))) ∙ s.goes.takes_all [] all ∙ spent (s.goes.holds [] all),
      ),
      rw (whole_text a b read pending x y none s here) s.taken,
    )

-- ---- before the first read

pub ends_before : {R : Type 0} (a : Course R) (left x : Option (List ℕ)) → a.text false [] ≡ [] → CutOff a [] left x x
ends_before a left x none = record {
  written = [];
  of_read = inl (λ here. (a.text false (whole_records (take limit [])), refl));
  ahead = record {
    before = [];
    piece = [];
    rest = [];
    parts = refl;
    short = omega arith;
    gained = λ here. sym (append-nil (a.text false (whole_records [])) ∙ ap (a.text false) (records_after-none []) ∙ none);
  };
  gained = Appends-nil x;
}

-- ---- the end of the source

if_at_end : (left : Option (List ℕ)) (P : List ℕ → Type 0) → IsAtEnd left → P [] → IfSome left P
if_at_end None P e h = tt
if_at_end (Some rest) P e h = subst P (sym e) h

-- the text and the reason of all records, after those that stand whole
module _ {R : Type 0} (a b : Course R) (read pending : List ℕ) (x y : Option (List ℕ)) (s : SoFar a read pending b x y) where
  all_parts : records_of read ≡ whole_records read ++ last_records pending
  all_parts = ap (λ (p : List ℕ). whole_records read ++ last_records p) (sym s.rest)

  module _ (here : a.holds (records_of read)) where
    parts_hold : a.holds (whole_records read ++ last_records pending)
    parts_hold = subst a.holds all_parts here

    last_holds : b.holds (last_records pending)
    last_holds = s.goes.holds (last_records pending) parts_hold

    all_text : a.text true (records_of read) ≡ s.written ++ b.text true (last_records pending)
    all_text = ap (a.text true) all_parts ∙ s.goes.text true (last_records pending) parts_hold

    all_reason : a.reason (records_of read) ≡ b.reason (last_records pending)
    all_reason = ap a.reason all_parts ∙ s.goes.reason (last_records pending) parts_hold

    all_failed : a.failed (records_of read) ≡ b.failed (last_records pending)
    all_failed = ap a.failed all_parts ∙ s.goes.failed (last_records pending) parts_hold

    all_taken : a.takes_all (records_of read) ≡ b.takes_all (last_records pending)
    all_taken = ap a.takes_all all_parts ∙ s.goes.takes_all (last_records pending) parts_hold

-- first bytes of all that is written after what was
cut_at_end : {R : Type 0} (a b : Course R) (read pending : List ℕ) (left x y z : Option (List ℕ)) → IsAtEnd left → length read ≤ limit → b.text false [] ≡ [] → SoFar a read pending b x y
    → (more : List ℕ) → Appends y z more → (b.holds (last_records pending) → IsFrontOf more (b.text true (last_records pending))) → CutOff a read left x z
cut_at_end a b read pending left x y z end few none s more gained h = record {
  written = s.written ++ more;
  of_read = inr (
    end,
    few,
    λ here.
        let (rest, parts) = h (last_holds a b read pending x y s here) in
        (rest, all_text a b read pending x y s here ∙ ap (λ (l : List ℕ). s.written ++ l) parts ∙ sym (append_assoc s.written more rest)),
  );
  ahead = record {
    before = read;
    piece = [];
    rest = more;
    parts = sym (append-nil read);
    short = omega arith;
    gained = λ here. ap (λ (l : List ℕ). l ++ more) (sym (whole_text a b read pending x y none s here));
  };
  gained = Appends-trans x y z s.written more s.taken gained;
}

pub ends_at_end : {R : Type 0} (a b : Course R) (read pending : List ℕ) (left x y z : Option (List ℕ)) (r : Ended R)
    → IsAtEnd left → length read ≤ limit → b.text false [] ≡ [] → SoFar a read pending b x y
    → (more : List ℕ) → Appends y z more → (b.holds (last_records pending) → Finishes b (last_records pending) more r) → (r ≢ ended.ReadFault) × (r ≢ ended.Limit)
    → EndsAfter a read left x z r
ends_at_end a b read pending left x y z ended.Done end few none s more gained f reads = (
  end,
  few,
  λ here.
      let (unstopped, text) = f (last_holds a b read pending x y s here) in (
        (all_reason a b read pending x y s here ∙ unstopped.0, all_taken a b read pending x y s here ∙ unstopped.1),
        subst (Appends x z) (sym (all_text a b read pending x y s here ∙ ap (λ (l : List ℕ). s.written ++ l) text)) (Appends-trans x y z s.written more s.taken gained),
      ),
)
ends_at_end a b read pending left x y z (ended.Stopped why) end few none s more gained f reads = (
  s.written ++ more,
  if_at_end left
      (λ later. a.holds (records_of (read ++ later)) → StoppedFor a (records_of (read ++ later)) why × (a.text true (records_of (read ++ later)) ≡ s.written ++ more))
      end
      (λ here.
      let same : records_of (read ++ []) ≡ records_of read = ap records_of (append-nil read) in
      let now = subst a.holds same here in
      let (stopped, text) = f (last_holds a b read pending x y s now) in (
        (ap a.reason same ∙ all_reason a b read pending x y s now ∙ stopped.0, ap a.takes_all same ∙ all_taken a b read pending x y s now ∙ stopped.1),
        ap (a.text true) same ∙ all_text a b read pending x y s now ∙ ap (λ (l : List ℕ). s.written ++ l) text,
      )),
  Appends-trans x y z s.written more s.taken gained,
)
ends_at_end a b read pending left x y z ended.Memory end few none s more gained f reads = cut_at_end a b read pending left x y z end few none s more gained f
ends_at_end a b read pending left x y z ended.WriteFault end few none s more gained f reads = cut_at_end a b read pending left x y z end few none s more gained f
ends_at_end a b read pending left x y z ended.Failed end few none s more gained f reads = cut_at_end a b read pending left x y z end few none s more gained f
ends_at_end a b read pending left x y z ended.ReadFault end few none s more gained f reads = absurd (reads.0 refl)
ends_at_end a b read pending left x y z ended.Limit end few none s more gained f reads = absurd (reads.1 refl)

-- ---- an end inside a piece

-- the records of all bytes begin with those that stand whole in the first ones
records_front : (front later : List ℕ) → (more : List Record) × (records_of (front ++ later) ≡ whole_records front ++ more)
records_front front later =
    let last = last_records (last_part [] (front ++ later)) in
    let here = records_after (last_part [] front) later in
    (here ++ last, ap (λ (l : List Record). l ++ last) (records_after-append [] front later) ∙ append_assoc (whole_records front) here last)

for_all : (left : Option (List ℕ)) (P : List ℕ → Type 0) → ((later : List ℕ) → P later) → IfSome left P
for_all None P h = tt
for_all (Some rest) P h = h rest

-- first bytes of the lines of a piece
cut_in_piece : {R : Type 0} (a b : Course R) (read piece extra pending : List ℕ) (left x y z : Option (List ℕ)) (t : List ℕ) → length (piece ++ extra) ≤ piece_size
    → take limit ((read ++ piece) ++ extra) ≡ read ++ piece → b.text false [] ≡ [] → SoFar a read pending b x y → Begins b (records_after pending piece) t → Appends y z t
    → CutOff a ((read ++ piece) ++ extra) left x z
cut_in_piece a b read piece extra pending left x y z t short played none s k l =
    let all : Begins a (whole_records (read ++ piece)) (s.written ++ t) =
    rw (records_after-append [] read piece, ← s.rest) (begins_then a b (whole_records read) (records_after pending piece) s.written t s.goes k) in
    record {
      written = s.written ++ t;
      of_read = inl (rw played (whole_front a (whole_records (read ++ piece)) (s.written ++ t) false all));
      ahead = record {
        before = read;
        piece = piece ++ extra;
        rest = t;
        parts = append_assoc read piece extra;
        short = short;
        gained = λ here. ap (λ (l : List ℕ). l ++ t) (sym (whole_text a b read pending x y none s here));
      };
      gained = Appends-trans x y z s.written t s.taken l;
    }

stops_in_piece : {R : Type 0} (a b : Course R) (read piece extra pending : List ℕ) (left x y z : Option (List ℕ)) (why : R) (t : List ℕ) → SoFar a read pending b x y
    → Stops b (records_after pending piece) why t → Appends y z t → EndsAfter a ((read ++ piece) ++ extra) left x z (ended.Stopped why)
stops_in_piece a b read piece extra pending left x y z why t s k l =
    let all : Stops a (whole_records (read ++ piece)) why (s.written ++ t) =
    rw (records_after-append [] read piece, ← s.rest) (stops_then a b (whole_records read) (records_after pending piece) why s.written t s.goes k) in (
      s.written ++ t,
      for_all left
          (λ later.
          a.holds (records_of (((read ++ piece) ++ extra) ++ later))
          → StoppedFor a (records_of (((read ++ piece) ++ extra) ++ later)) why × (a.text true (records_of (((read ++ piece) ++ extra) ++ later)) ≡ s.written ++ t))
          (λ later here.
          let (more, e) = records_front (read ++ piece) (extra ++ later) in
          let same = ap records_of (append_assoc (read ++ piece) extra later) ∙ e in
          let now = subst a.holds same here in
          ((ap a.reason same ∙ all.reason more now, ap a.takes_all same ∙ all.takes_all more now), ap (a.text true) same ∙ all.text true more now)),
      Appends-trans x y z s.written t s.taken l,
    )

-- where what was asked failed, the text is exactly the one up to there
fails_in_piece : {R : Type 0} (a b : Course R) (read piece extra pending : List ℕ) (left x y z : Option (List ℕ)) (t : List ℕ) → SoFar a read pending b x y → Breaks b (records_after pending piece) t → Appends y z t
    → (written : List ℕ)
    × IfSome left (λ later.
    a.holds (records_of (((read ++ piece) ++ extra) ++ later))
    → FailedIn a (records_of (((read ++ piece) ++ extra) ++ later)) × (a.text true (records_of (((read ++ piece) ++ extra) ++ later)) ≡ written))
    × Appends x z written
fails_in_piece a b read piece extra pending left x y z t s k l =
    let all : Breaks a (whole_records (read ++ piece)) (s.written ++ t) =
    rw (records_after-append [] read piece, ← s.rest) (breaks_then a b (whole_records read) (records_after pending piece) s.written t s.goes k) in (
      s.written ++ t,
      for_all left
          (λ later.
          a.holds (records_of (((read ++ piece) ++ extra) ++ later))
          → FailedIn a (records_of (((read ++ piece) ++ extra) ++ later)) × (a.text true (records_of (((read ++ piece) ++ extra) ++ later)) ≡ s.written ++ t))
          (λ later here.
          let (more, e) = records_front (read ++ piece) (extra ++ later) in
          let same = ap records_of (append_assoc (read ++ piece) extra later) ∙ e in
          let now = subst a.holds same here in
          (ap a.failed same ∙ all.failed more now, ap (a.text true) same ∙ all.text true more now)),
      Appends-trans x y z s.written t s.taken l,
    )

-- ---- a player, on every way that it may take

module _ {S R W G : Type 0} (gains : S → S → List G → Type 0) (takes : S → Outlook W G) (course : W → Course R) (step : W → Record → W) (history : IsHistory gains) where
  pub record So (p : S) (read pending : List ℕ) (q : S) (x y : Option (List ℕ)) : Type 0 where
    pub written : List ℕ
    pub advances : Advances gains takes course step p (whole_records read) q written
    pub taken : Appends x y written
    pub rest : pending ≡ last_part [] read

  pub so_none : (p : S) (pending : List ℕ) (x : Option (List ℕ)) → pending ≡ [] → So p [] pending p x x
  so_none p pending x none = record {
    written = [];
    advances = rw (records_after-none []) (advances_none gains takes course step history p);
    taken = Appends-nil x;
    rest = none ∙ sym (last_part-none []);
  }

  pub so_next : (p q r : S) (read piece pending pending' more : List ℕ) (x y z : Option (List ℕ))
      → So p read pending q x y → Advances gains takes course step q (records_after pending piece) r more → Appends y z more → pending' ≡ last_part pending piece → So p (read ++ piece) pending' r x z
  so_next p q r read piece pending pending' more x y z s g h rest = record {
    written = s.written ++ more;
    advances =
        rw (records_after-append [] read piece, ← s.rest)
        (advances_then gains takes course step history p q r (whole_records read) (records_after pending piece) s.written more s.advances g);
    taken = Appends-trans x y z s.written more s.taken h;
    rest = rest ∙ ap (λ (p : List ℕ). last_part p piece) s.rest ∙ sym (last_part-append [] read piece);
  }

  -- on one way
  on_way : (p q : S) (read pending : List ℕ) (x y : Option (List ℕ)) (s : So p read pending q x y) (fails : Bool) (later : List G) (w : W) → takes p fails (s.advances.given ++ later) w
      → SoFar (course w) read pending (course (fold step w (whole_records read))) x y × takes q fails later (fold step w (whole_records read))
  on_way p q read pending x y s fails later w taken =
      let (goes, next) = s.advances.goes fails later w taken in
      (record { written = s.written; goes = goes; taken = s.taken; rest = s.rest }, next)

  module _ (nothing : (p : S) (fails : Bool) (given : List G) (w : W) → takes p fails given w → (course w).text false [] ≡ []) where
    pub from_before : (p : S) (left x : Option (List ℕ)) → EndsFrom gains takes course step p p [] left x x ended.Memory
    from_before p left x = record {
      given = [];
      gained = history.none p;
      ends = λ w taken. ends_before (course w) left x (nothing p false [] w taken);
      fails = λ is. cc is;
      stays = λ is. cc is;
    }

    pub from_at_end : (p q r : S) (read pending : List ℕ) (left x y z : Option (List ℕ)) (e : Ended R) → IsAtEnd left → length read ≤ limit → So p read pending q x y
        → FinishesFrom gains takes course step q (last_records pending) r y z e → EndsFrom gains takes course step p r read left x z e
    from_at_end p q r read pending left x y z e end few s f = record {
      given = s.advances.given ++ f.given;
      gained = history.then p q r s.advances.given f.given s.advances.gained f.gained;
      ends = λ w taken.
          let v = fold step w (whole_records read) in
          let (so, next) = on_way p q read pending x y s false f.given w taken in
          ends_at_end (course w) (course v) read pending left x y z e end few (nothing q false f.given v next) so f.written f.wrote (f.ends v next) f.reads;
      fails = λ is w taken.
          let v = fold step w (whole_records read) in
          let (so, next) = on_way p q read pending x y s true f.given w taken in (
            so.written ++ f.written,
            if_at_end left (λ later. (course w).holds (records_of (read ++ later)) → FailedIn (course w) (records_of (read ++ later)) × ((course w).text true (records_of (read ++ later)) ≡ so.written ++ f.written)) end
                (λ here.
                let same : records_of (read ++ []) ≡ records_of read = ap records_of (append-nil read) in
                let now = subst (course w).holds same here in
                let (failed, text) = f.fails is v next (last_holds (course w) (course v) read pending x y so now) in (
                  ap (course w).failed same ∙ all_failed (course w) (course v) read pending x y so now ∙ failed,
                  ap ((course w).text true) same ∙ all_text (course w) (course v) read pending x y so now ∙ ap (λ (l : List ℕ). so.written ++ l) text,
                )),
            Appends-trans x y z so.written f.written so.taken f.wrote,
          );
      stays = λ is. if_at_end left (λ later. (w : W) → takes p false (s.advances.given ++ f.given) w → takes r false [] (fold step w (records_of (read ++ later)))) end (λ w taken.
          let v = fold step w (whole_records read) in
          let (so, next) = on_way p q read pending x y s false f.given w taken in
          let same : fold step w (records_of (read ++ [])) ≡ fold step v (last_records pending) =
          ap (λ (l : List ℕ). fold step w (records_of l)) (append-nil read)
          ∙ ap (fold step w) (all_parts (course w) (course v) read pending x y so)
          ∙ fold-append step w (whole_records read) (last_records pending) in
          subst (takes r false []) (sym same) (f.stays is v next));
    }

    cut_piece : (p q r : S) (read piece extra pending : List ℕ) (left x y z : Option (List ℕ)) (t : List ℕ) → length (piece ++ extra) ≤ piece_size
        → take limit ((read ++ piece) ++ extra) ≡ read ++ piece → (s : So p read pending q x y) → (given : List G) → ((w : W) → takes q false given w → Begins (course w) (records_after pending piece) t)
        → Appends y z t → (w : W) → takes p false (s.advances.given ++ given) w → CutOff (course w) ((read ++ piece) ++ extra) left x z
    cut_piece p q r read piece extra pending left x y z t short played s given begins l w taken =
        let v = fold step w (whole_records read) in
        let (so, next) = on_way p q read pending x y s false given w taken in
        cut_in_piece (course w) (course v) read piece extra pending left x y z t short played (nothing q false given v next) so (begins v next) l

    in_piece : (T : Type 0) (p q r : S) (read piece extra pending : List ℕ) (left x y z : Option (List ℕ)) (lines : List ℕ) (e : Stop R) → length (piece ++ extra) ≤ piece_size
        → take limit ((read ++ piece) ++ extra) ≡ read ++ piece → So p read pending q x y
        → PlaysTo gains takes course step {T = T} q (records_after pending piece) r [] lines (Err e) → Appends y z lines → EndsFrom gains takes course step p r ((read ++ piece) ++ extra) left x z (ended_by e)
    in_piece T p q r read piece extra pending left x y z lines (stop.Stopped why) short played s (t, k, l) h = record {
      given = s.advances.given ++ k.given;
      gained = history.then p q r s.advances.given k.given s.advances.gained k.gained;
      ends = λ w taken.
          let v = fold step w (whole_records read) in
          let (so, next) = on_way p q read pending x y s false k.given w taken in
          stops_in_piece (course w) (course v) read piece extra pending left x y z why t so (k.stops v next) (subst (Appends y z) l h);
      fails = λ is. cc is;
      stays = λ is. cc is;
    }
    in_piece T p q r read piece extra pending left x y z lines stop.Memory short played s (t, k, l) h = record {
      given = s.advances.given ++ k.given;
      gained = history.then p q r s.advances.given k.given s.advances.gained k.gained;
      ends = cut_piece p q r read piece extra pending left x y z t short played s k.given k.begins (subst (Appends y z) l h);
      fails = λ is. cc is;
      stays = λ is. cc is;
    }
    in_piece T p q r read piece extra pending left x y z lines stop.Failed short played s (t, k, l) h = record {
      given = s.advances.given ++ k.given;
      gained = history.then p q r s.advances.given k.given s.advances.gained k.gained;
      ends = cut_piece p q r read piece extra pending left x y z t short played s k.given k.begins (subst (Appends y z) l h);
      fails = λ is w taken.
          let v = fold step w (whole_records read) in
          let (so, next) = on_way p q read pending x y s true k.given w taken in
          fails_in_piece (course w) (course v) read piece extra pending left x y z t so (k.breaks v next) (subst (Appends y z) l h);
      stays = λ is. cc is;
    }

    -- a record ended the text, or want of memory or a failure the playing, and the lines were written
    pub from_in_piece : {T : Type 0} (p q r : S) (read piece extra pending : List ℕ) (left x y z : Option (List ℕ)) (lines : List ℕ) (e : Stop R) (o : Result T (Stop R)) (u : Ended R) → length (piece ++ extra) ≤ piece_size
        → take limit ((read ++ piece) ++ extra) ≡ read ++ piece → So p read pending q x y → o ≡ Err e → u ≡ ended_by e
        → PlaysTo gains takes course step q (records_after pending piece) r [] lines o → Appends y z lines → EndsFrom gains takes course step p r ((read ++ piece) ++ extra) left x z u
    from_in_piece {T = T} p q r read piece extra pending left x y z lines e o u short played s was is k h =
        subst (EndsFrom gains takes course step p r ((read ++ piece) ++ extra) left x z) (sym is) (in_piece T p q r read piece extra pending left x y z lines e short played s (rw was at k) h)

    -- the lines of a piece were not all written, whatever became of its records
    pub from_unwritten : {T : Type 0} (p q r : S) (read piece extra pending : List ℕ) (left x y z : Option (List ℕ)) (lines : List ℕ) (o : Result T (Stop R)) → length (piece ++ extra) ≤ piece_size
        → take limit ((read ++ piece) ++ extra) ≡ read ++ piece → So p read pending q x y
        → PlaysTo gains takes course step q (records_after pending piece) r [] lines o → AppendsPrefix y z lines → EndsFrom gains takes course step p r ((read ++ piece) ++ extra) left x z ended.WriteFault
    from_unwritten p q r read piece extra pending left x y z lines o short played s k (n, bound, h) =
        let cut = lines_begin gains takes course step q r (records_after pending piece) lines o k in
        record {
          given = s.advances.given ++ cut.given;
          gained = history.then p q r s.advances.given cut.given s.advances.gained cut.gained;
          ends =
              cut_piece p q r read piece extra pending left x y z (take n lines) short played s cut.given
              (λ v next. begins_take (course v) (records_after pending piece) lines n (cut.begins v next)) h;
          fails = λ is. cc is;
          stays = λ is. cc is;
        }

    module _ (unstopped : (p : S) (fails : Bool) (given : List G) (w : W) → takes p fails given w → (course w).reason [] ≡ None)
        (spent : (p : S) (w : W) → takes p false [] w → (course w).holds [] → (course w).takes_all [] ≡ true) where
      -- what was written is the text of the records that stand whole
      whole_on : (p q : S) (read pending : List ℕ) (x y : Option (List ℕ)) (s : So p read pending q x y) (w : W) → takes p false s.advances.given w → WroteWhole (course w) read x y
      whole_on p q read pending x y s w taken =
          let v = fold step w (whole_records read) in
          let (so, next) = on_way p q read pending x y s false [] w (taken_all gains takes course step p false s.advances.given w taken) in
          wrote_whole (course w) (course v) read pending x y (nothing q false [] v next) (unstopped q false [] v next) (spent q v next) so

      pub from_fault : (p q : S) (read pending : List ℕ) (left x y : Option (List ℕ)) → So p read pending q x y → EndsFrom gains takes course step p q read left x y ended.ReadFault
      from_fault p q read pending left x y s = record {
        given = s.advances.given;
        gained = s.advances.gained;
        ends = whole_on p q read pending x y s;
        fails = λ is. cc is;
        stays = λ is. cc is;
      }

      pub from_limit : (p q : S) (front read pending : List ℕ) (left x y : Option (List ℕ)) → limit < length read → take limit read ≡ front → So p front pending q x y
          → EndsFrom gains takes course step p q read left x y ended.Limit
      from_limit p q front read pending left x y long is s = record {
        given = s.advances.given;
        gained = s.advances.gained;
        ends = λ w taken. (long, rw is (whole_on p q front pending x y s w taken));
        fails = λ is. cc is;
        stays = λ is. cc is;
      }

      -- the last records, and the closing lines
      pub last_done : {T : Type 0} (p q r : S) (rs : List Record) (text lines lines' : List ℕ) (done : T)
          → (written : List ℕ) × Advances gains takes course step p rs q written × Grows [] lines written → Closes gains takes course step q text → Grows lines lines' text → gains q r [] → ((w : W) → takes q false [] w → takes r false [] w)
          → LastFrom gains takes course step p rs r lines' (Ok done)
      last_done p q r rs text lines lines' done (written, g, h) k l last stays = record {
        given = g.given ++ [];
        gained = history.then p q r g.given [] g.gained last;
        last = λ w taken here.
            let v = fold step w rs in
            let (goes, next) = g.goes false [] w taken in
            let now = before_none (course w) rs here in (
              (
                ap (course w).reason (sym (append-nil rs)) ∙ goes.reason [] now ∙ unstopped q false [] v next,
                ap (course w).takes_all (sym (append-nil rs)) ∙ goes.takes_all [] now ∙ spent q v next (goes.holds [] now),
              ),
              closed_text (course w) (course v) rs written true goes here
                  ∙ ap (λ (t : List ℕ). written ++ t) (k.text_is false v next (goes.holds [] now))
                  ∙ sym (l ∙ ap (λ (t : List ℕ). t ++ text) h),
            );
        fails = λ is. cc is;
        stays = λ w taken. let (goes, next) = g.goes false [] w taken in stays (fold step w rs) next;
      }

  -- first bytes of the closing lines
  pub last_cut : {T : Type 0} (p q r : S) (rs : List Record) (text lines lines' : List ℕ) → (written : List ℕ) × Advances gains takes course step p rs q written × Grows [] lines written
      → Closes gains takes course step q text → (begun rest : List ℕ) × (text ≡ begun ++ rest) × Grows lines lines' begun → gains q r [] → LastFrom gains takes course step {T = T} p rs r lines' (Err stop.Memory)
  last_cut p q r rs text lines lines' (written, g, h) k (begun, rest, parts, l) last = record {
    given = g.given ++ [];
    gained = history.then p q r g.given [] g.gained last;
    last = λ w taken here.
        let v = fold step w rs in
        let (goes, next) = g.goes false [] w taken in
        let closes = k.text_is false v next (goes.holds [] (before_none (course w) rs here)) in (
          rest,
          closed_text (course w) (course v) rs written true goes here
              ∙ ap (λ (t : List ℕ). written ++ t) (closes ∙ parts)
              ∙ sym (append_assoc written begun rest)
              ∙ ap (λ (t : List ℕ). t ++ rest) (sym (l ∙ ap (λ (t : List ℕ). t ++ begun) h)),
        );
    fails = λ is. cc is;
    stays = tt;
  }

  last_stopped : (T U : Type 0) (p q : S) (rs : List Record) (lines : List ℕ) (e : Stop R) → PlaysTo gains takes course step {T = T} p rs q [] lines (Err e) → LastFrom gains takes course step {T = U} p rs q lines (Err e)
  last_stopped T U p q rs lines (stop.Stopped why) (t, k, l) = record {
    given = k.given;
    gained = k.gained;
    last = λ w taken here.
        let stops = k.stops w taken in
        let now = before_none (course w) rs here in (
          (ap (course w).reason (sym (append-nil rs)) ∙ stops.reason [] now, ap (course w).takes_all (sym (append-nil rs)) ∙ stops.takes_all [] now),
          ap ((course w).text true) (sym (append-nil rs)) ∙ stops.text true [] now ∙ sym l,
        );
    fails = λ is. cc is;
    stays = tt;
  }
  last_stopped T U p q rs lines stop.Memory (t, k, l) = record {
    given = k.given;
    gained = k.gained;
    last = λ w taken here. rw l (whole_front (course w) rs t true (k.begins w taken) here);
    fails = λ is. cc is;
    stays = tt;
  }
  last_stopped T U p q rs lines stop.Failed (t, k, l) = record {
    given = k.given;
    gained = k.gained;
    last = λ w taken here. rw l (whole_front (course w) rs t true (k.begins w taken) here);
    fails = λ is w taken here.
        let breaks = k.breaks w taken in
        let now = before_none (course w) rs here in (
          ap (course w).failed (sym (append-nil rs)) ∙ breaks.failed [] now,
          ap ((course w).text true) (sym (append-nil rs)) ∙ breaks.text true [] now ∙ sym l,
        );
    stays = tt;
  }

  pub last_stops : {T U : Type 0} (p q : S) (rs : List Record) (lines : List ℕ) (e : Stop R) (o : Result T (Stop R)) (u : Result U (Stop R))
      → o ≡ Err e → u ≡ Err e → PlaysTo gains takes course step p rs q [] lines o → LastFrom gains takes course step p rs q lines u
  last_stops {T = T} {U = U} p q rs lines e o u was is h = subst (LastFrom gains takes course step p rs q lines) (sym is) (last_stopped T U p q rs lines e (rw was at h))

  -- ---- they are written

  pub finish_done : {T : Type 0} (p r : S) (rs : List Record) (lines : List ℕ) (y z : Option (List ℕ)) (o : Result T (Stop R)) (done : T) → o ≡ Ok done
      → LastFrom gains takes course step p rs r lines o → Appends y z lines → FinishesFrom gains takes course step p rs r y z ended.Done
  finish_done p r rs lines y z o done is k h = record {
    given = k.given;
    gained = k.gained;
    written = lines;
    wrote = h;
    ends = λ w taken here. rw is at (k.last w taken here);
    fails = λ is. cc is;
    stays = λ same. rw is at k.stays;
    reads = ((λ is. cc is), (λ is. cc is));
  }

  finish_by : (T : Type 0) (p r : S) (rs : List Record) (lines : List ℕ) (y z : Option (List ℕ)) (e : Stop R) → LastFrom gains takes course step {T = T} p rs r lines (Err e) → Appends y z lines
      → FinishesFrom gains takes course step p rs r y z (ended_by e)
  finish_by T p r rs lines y z (stop.Stopped why) k h = record {
    given = k.given;
    gained = k.gained;
    written = lines;
    wrote = h;
    ends = k.last;
    fails = λ is. cc is;
    stays = λ is. cc is;
    reads = ((λ is. cc is), (λ is. cc is));
  }
  finish_by T p r rs lines y z stop.Memory k h = record {
    given = k.given;
    gained = k.gained;
    written = lines;
    wrote = h;
    ends = k.last;
    fails = λ is. cc is;
    stays = λ is. cc is;
    reads = ((λ is. cc is), (λ is. cc is));
  }
  finish_by T p r rs lines y z stop.Failed k h = record {
    given = k.given;
    gained = k.gained;
    written = lines;
    wrote = h;
    ends = k.last;
    fails = λ is. k.fails refl;
    stays = λ is. cc is;
    reads = ((λ is. cc is), (λ is. cc is));
  }

  pub finish_stopped : {T : Type 0} (p r : S) (rs : List Record) (lines : List ℕ) (y z : Option (List ℕ)) (e : Stop R) (o : Result T (Stop R)) (u : Ended R) → o ≡ Err e → u ≡ ended_by e
      → LastFrom gains takes course step p rs r lines o → Appends y z lines → FinishesFrom gains takes course step p rs r y z u
  finish_stopped {T = T} p r rs lines y z e o u was is k h =
      subst (FinishesFrom gains takes course step p rs r y z) (sym is) (finish_by T p r rs lines y z e (subst (LastFrom gains takes course step p rs r lines) was k) h)

  -- all lines are first bytes of the text
  last_front : {T : Type 0} (a : Course R) (rs : List Record) (lines : List ℕ) (o : Result T (Stop R)) → Last a rs lines o → IsFrontOf lines (a.text true rs)
  last_front a rs lines (Ok done) h = ([], h.1 ∙ sym (append-nil lines))
  last_front a rs lines (Err (stop.Stopped why)) h = ([], h.1 ∙ sym (append-nil lines))
  last_front a rs lines (Err stop.Memory) h = h
  last_front a rs lines (Err stop.Failed) h = h

  pub finish_unwritten : {T : Type 0} (p r : S) (rs : List Record) (lines : List ℕ) (y z : Option (List ℕ)) (o : Result T (Stop R)) → LastFrom gains takes course step p rs r lines o → AppendsPrefix y z lines
      → FinishesFrom gains takes course step p rs r y z ended.WriteFault
  finish_unwritten p r rs lines y z o k (n, bound, h) = record {
    given = k.given;
    gained = k.gained;
    written = take n lines;
    wrote = h;
    ends = λ w taken here.
        let (rest, text) = last_front (course w) rs lines o (k.last w taken here) in
        (drop n lines ++ rest, text ∙ ap (λ (l : List ℕ). l ++ rest) (sym (take-append-drop n lines)) ∙ append_assoc (take n lines) (drop n lines) rest);
    fails = λ is. cc is;
    stays = λ is. cc is;
    reads = ((λ is. cc is), (λ is. cc is));
  }
