-- The whole lines of a piece, one after the other.
use Rattle.std.proofs.Common.{arith, sym, ap, ◌∙◌, ◌≡◌, ◌+◌, ◌≤◌, ◌<◌, ℕ, List, [], ◌∷◌, ◌++◌, length, take, drop, get_or, slice_range, Result, Err, inl, inr, append-nil, take-append-drop}
use Rattle.std.proofs.lemmas.Bool.{eqb-true}
use Rattle.memchr.specs.Find.{NoneBefore, Nowhere, Passes, is_byte}
use Rattle.record_cutting.specs.Lines.{Record, last_part, line_records, records_after, whole_records}
use Rattle.record_stream.specs.Course.{Advances, Course, Cuts, Grows, IsHistory, Outlook, PlaysTo}
use Rattle.record_stream.specs.Cut.{IsPlainTo}
use Rattle.record_stream.specs.Plain.{plain_records}
use Rattle.record_stream.specs.declared.player.Stop.{Stop}
use Rattle.record_stream.proofs.Courses.{advances_none, advances_then, cuts_with, grows_none, grows_then, plays_then, stops_in}
use Rattle.record_stream.proofs.Cuts.{last_part-append, last_part-none, records_after-append, records_after-none, records_after-split}
use Rattle.record_stream.proofs.Lacking.{Lacks, last_part-lacks, lacks_records, line_ends}
use Rattle.record_stream.proofs.PlainLines.{plain_lacks, plain_line}
use Rattle.record_stream.proofs.Walks.{between_more, between_rest, lacks_between, take_between}

-- the next line feed
pub record Feed (piece : List ℕ) (start end : ℕ) : Type 0 where
  pub low : start ≤ end
  pub high : end < length piece
  pub lacks : Lacks 10 (slice_range piece start end) (length (slice_range piece start end))
  pub here : get_or piece end 0 ≡ 10

pub found_feed : (piece : List ℕ) (start end : ℕ) → NoneBefore (Passes (is_byte 10) piece) start (length piece) end × Passes (is_byte 10) piece end → Feed piece start end
found_feed piece start end (none, here) = record {
  low = none.low;
  high = none.high;
  lacks = lacks_between 10 piece start end (let high = none.high in omega arith) none.before;
  here = eqb-true (get_or piece end 0) 10 here;
}

pub plain_feed : (piece : List ℕ) (start end : ℕ) → IsPlainTo piece start end → Feed piece start end
plain_feed piece start end h = record { low = h.low; high = h.high; lacks = plain_lacks (slice_range piece start end) h.plain; here = h.feed }

-- ---- one line more

module _ (piece : List ℕ) (start end : ℕ) (feed : Feed piece start end) where
  line_parts : slice_range piece start (end + 1) ≡ slice_range piece start end ++ (10 ∷ [])
  line_parts = between_more piece start end feed.low feed.high ∙ ap (λ (b : ℕ). slice_range piece start end ++ (b ∷ [])) feed.here

  front : take (end + 1) piece ≡ take start piece ++ slice_range piece start (end + 1)
  front = take_between piece start (end + 1) (let low = feed.low in omega arith)

  lone : (begun : List ℕ) → (records_after begun (slice_range piece start (end + 1)) ≡ line_records (begun ++ slice_range piece start (end + 1))) × (last_part begun (slice_range piece start (end + 1)) ≡ [])
  lone begun =
      let ends = line_ends begun (slice_range piece start end) feed.lacks in
      rw line_parts ends

  next_records : last_part [] (take start piece) ≡ [] → whole_records (take (end + 1) piece) ≡ whole_records (take start piece) ++ line_records (slice_range piece start (end + 1))
  next_records none = rw front (
      records_after-append [] (take start piece) (slice_range piece start (end + 1))
      ∙ ap (λ (p : List ℕ). whole_records (take start piece) ++ records_after p (slice_range piece start (end + 1))) none
      ∙ ap (λ (l : List Record). whole_records (take start piece) ++ l) (lone []).0)

  next_part : last_part [] (take start piece) ≡ [] → last_part [] (take (end + 1) piece) ≡ []
  next_part none = rw front (last_part-append [] (take start piece) (slice_range piece start (end + 1)) ∙ ap (λ (p : List ℕ). last_part p (slice_range piece start (end + 1))) none ∙ (lone []).1)

-- what a plain line says
pub plain_says : (piece : List ℕ) (start end : ℕ) → IsPlainTo piece start end → line_records (slice_range piece start (end + 1)) ≡ plain_records (slice_range piece start end)
plain_says piece start end h =
    plain_line (slice_range piece start (end + 1)) (slice_range piece start end) h.plain (inr (inl (line_parts piece start end (plain_feed piece start end h))))

-- ---- a line that has begun

-- the piece ends it
module _ (begun piece : List ℕ) (end : ℕ) (feed : Feed piece 0 end) where
  begun_line : (records_after begun (take (end + 1) piece) ≡ line_records (begun ++ take (end + 1) piece)) × (last_part begun (take (end + 1) piece) ≡ [])
  begun_line = rw (take_between piece 0 (end + 1) (omega arith)) (lone piece 0 end feed begun)

  pub begun_records : records_after begun piece ≡ line_records (begun ++ take (end + 1) piece) ++ whole_records (drop (end + 1) piece)
  begun_records =
      records_after-split begun piece (end + 1)
      ∙ ap (λ (l : List Record). l ++ records_after (last_part begun (take (end + 1) piece)) (drop (end + 1) piece)) begun_line.0
      ∙ ap (λ (p : List ℕ). line_records (begun ++ take (end + 1) piece) ++ records_after p (drop (end + 1) piece)) begun_line.1

  pub begun_part : last_part begun piece ≡ last_part [] (drop (end + 1) piece)
  begun_part =
      ap (last_part begun) (sym (take-append-drop (end + 1) piece))
      ∙ last_part-append begun (take (end + 1) piece) (drop (end + 1) piece)
      ∙ ap (λ (p : List ℕ). last_part p (drop (end + 1) piece)) begun_line.1

-- no byte from a place on
pub lacks_after : (piece : List ℕ) (start : ℕ) → Nowhere (Passes (is_byte 10) piece) start (length piece) → Lacks 10 (drop start piece) (length (drop start piece))
lacks_after piece start none = rw (between_rest piece start) at (lacks_between 10 piece start (length piece) (omega arith) none)

-- none of its bytes does
module _ (begun piece : List ℕ) (none : Nowhere (Passes (is_byte 10) piece) 0 (length piece)) where
  begun_lacks : Lacks 10 piece (length piece)
  begun_lacks = lacks_after piece 0 none

  pub begun_none : records_after begun piece ≡ []
  begun_none = lacks_records begun piece begun_lacks

  pub begun_more : last_part begun piece ≡ begun ++ piece
  begun_more = last_part-lacks begun piece begun_lacks

-- ---- the lines so far

-- those before a place, at which a line begins, were played
pub record PlayedTo {S R W G : Type 0} (gains : S → S → List G → Type 0) (takes : S → Outlook W G) (course : W → Course R) (step : W → Record → W) (a b : S) (x y : List ℕ) (piece : List ℕ) (start : ℕ) : Type 0 where
  pub within : start ≤ length piece
  pub written : List ℕ
  pub goes : Advances gains takes course step a (whole_records (take start piece)) b written
  pub taken : Grows x y written
  pub rest : last_part [] (take start piece) ≡ []

pub played_none : {S R W G : Type 0} (gains : S → S → List G → Type 0) (takes : S → Outlook W G) (course : W → Course R) (step : W → Record → W) → IsHistory gains → (a : S) (x : List ℕ) (piece : List ℕ) → PlayedTo gains takes course step a a x x piece 0
played_none gains takes course step history a x piece = record {
  within = omega arith;
  written = [];
  goes = rw (records_after-none []) (advances_none gains takes course step history a);
  taken = grows_none x;
  rest = last_part-none [];
}

module _ {S R W G : Type 0} (gains : S → S → List G → Type 0) (takes : S → Outlook W G) (course : W → Course R) (step : W → Record → W) (history : IsHistory gains) (a b : S) (x y : List ℕ) (piece : List ℕ) (start : ℕ) (played : PlayedTo gains takes course step a b x y piece start) where
  module _ (end : ℕ) (feed : Feed piece start end) (rs : List Record) (says : line_records (slice_range piece start (end + 1)) ≡ rs) where
    so_far : whole_records (take (end + 1) piece) ≡ whole_records (take start piece) ++ rs
    so_far = next_records piece start end feed played.rest ∙ ap (λ (l : List Record). whole_records (take start piece) ++ l) says

    -- one line more
    pub played_line : (c : S) (z : List ℕ) → (more : List ℕ) × Advances gains takes course step b rs c more × Grows y z more → PlayedTo gains takes course step a c x z piece (end + 1)
    played_line c z (more, goes, taken) = record {
      within = let high = feed.high in omega arith;
      written = played.written ++ more;
      goes = rw so_far (advances_then gains takes course step history a b c (whole_records (take start piece)) rs played.written more played.goes goes);
      taken = grows_then x y z played.written more played.taken taken;
      rest = next_part piece start end feed played.rest;
    }

    -- the next line stops the player
    pub played_stop : {T U : Type 0} (c : S) (z : List ℕ) (e : Stop R) (q : Result T (Stop R)) (r : Result U (Stop R)) → q ≡ Err e → r ≡ Err e → PlaysTo gains takes course step b rs c y z q
        → PlaysTo gains takes course step a (whole_records piece) c x z r
    played_stop c z e q r was is h =
        rw (records_after-split [] piece (end + 1), so_far)
        (stops_in gains takes course step a c (whole_records (take start piece) ++ rs) (records_after (last_part [] (take (end + 1) piece)) (drop (end + 1) piece)) x z e q r was is
        (plays_then gains takes course step history a b c (whole_records (take start piece)) rs played.written x y z q played.goes played.taken h))

  -- want of memory
  pub played_cut : (written : List ℕ) × Cuts gains takes course step a (whole_records piece) b written × Grows x y written
  played_cut =
      (played.written, rw (records_after-split [] piece start) (cuts_with gains takes course step a b (whole_records (take start piece)) (records_after (last_part [] (take start piece)) (drop start piece)) played.written played.goes), played.taken)

  module _ (lacks : Lacks 10 (drop start piece) (length (drop start piece))) where
    -- no line is left
    pub played_all : (written : List ℕ) × Advances gains takes course step a (whole_records piece) b written × Grows x y written
    played_all =
        let all : whole_records piece ≡ whole_records (take start piece) =
        records_after-split [] piece start
        ∙ ap (λ (l : List Record). whole_records (take start piece) ++ l) (lacks_records (last_part [] (take start piece)) (drop start piece) lacks)
        ∙ append-nil (whole_records (take start piece)) in
        (played.written, rw all played.goes, played.taken)

    pub played_rest : drop start piece ≡ last_part [] piece
    played_rest =
        sym (ap (last_part []) (sym (take-append-drop start piece)) ∙ last_part-append [] (take start piece) (drop start piece)
        ∙ ap (λ (p : List ℕ). last_part p (drop start piece)) played.rest ∙ last_part-lacks [] (drop start piece) lacks)
