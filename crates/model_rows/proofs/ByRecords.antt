-- A long schedule is read and played apart, so that neither computation is too long for one step of a proof.
use Rattle.std.proofs.Common.{◌≡◌, ℕ, ◌==◌, not, Bool, true, false, List, [], ◌∷◌, ◌++◌, refl, ap, ◌∙◌, append_assoc, append-nil}
use Rattle.std.specs.Prelude.{codes, map, if◌then◌else◌}
use Rattle.std.specs.List.{flat_map, list_all}
use Rattle.std.proofs.lemmas.Bool.{and_parts, cond-false, not-true}
use Prim.Native.String.{String}
use Rattle.record_cutting.specs.Lines.{Record, records_of, whole_lines, last_part, line_records, last_records}
use Rattle.schedule_model.specs.Written.{text_with}
use Rattle.group_model.specs.Run.{enclaves, empty_world}
use Rattle.trace_model.specs.Trace.{playing, closing, records_played}
use Rattle.model_rows.specs.Plays.{Plays}
use Rattle.model_rows.specs.Shown.{bytes_of, shown}
use Rattle.model_rows.specs.Toy.{toy_link}

-- a byte at the front of a record: a comma begins a field
abbrev with_byte : ℕ → Record → Record
with_byte b [] = (b ∷ []) ∷ []
with_byte b (field ∷ fields) = if b == 44 then [] ∷ field ∷ fields else (b ∷ field) ∷ fields

-- a line without quotes, cut at its commas
abbrev pub cut : List ℕ → Record
cut [] = [] ∷ []
cut (b ∷ bs) = with_byte b (cut bs)

abbrev pub cut_all : List String → List Record
cut_all schedule = map (λ s. cut (codes s)) schedule

-- ---- lines without a line feed inside are cut where they end
abbrev is_other : ℕ → Bool
is_other b = not (b == 10)

abbrev pub are_lines : List String → Bool
are_lines schedule = list_all (λ s. list_all is_other (codes s)) schedule

abbrev with_feed : String → List ℕ
with_feed s = codes s ++ (10 ∷ [])

line_cut : (begun xs rest : List ℕ) → list_all is_other xs ≡ true → whole_lines begun (xs ++ (10 ∷ rest)) ≡ (begun ++ (xs ++ (10 ∷ []))) ∷ whole_lines [] rest
unfolding whole_lines
line_cut begun [] rest others = refl
line_cut begun (b ∷ xs) rest others =
    let parts = and_parts (is_other b) (list_all is_other xs) others in
    cond-false (b == 10) ((begun ++ (b ∷ [])) ∷ whole_lines [] (xs ++ (10 ∷ rest))) (whole_lines (begun ++ (b ∷ [])) (xs ++ (10 ∷ rest))) (not-true (b == 10) parts.0)
    ∙ line_cut (begun ++ (b ∷ [])) xs rest parts.1
    ∙ ap (λ (line : List ℕ). line ∷ whole_lines [] rest) (append_assoc begun (b ∷ []) (xs ++ (10 ∷ [])))

lines_cut : (schedule : List String) → are_lines schedule ≡ true → whole_lines [] (bytes_of schedule) ≡ map with_feed schedule
unfolding whole_lines
lines_cut [] lines = refl
lines_cut (s ∷ schedule) lines =
    let parts = and_parts (list_all is_other (codes s)) (are_lines schedule) lines in
    line_cut [] (codes s) (bytes_of schedule) parts.0 ∙ ap (λ (ls : List (List ℕ)). with_feed s ∷ ls) (lines_cut schedule parts.1)

rest_cut : (begun xs rest : List ℕ) → list_all is_other xs ≡ true → last_part begun (xs ++ (10 ∷ rest)) ≡ last_part [] rest
unfolding last_part
rest_cut begun [] rest others = refl
rest_cut begun (b ∷ xs) rest others =
    let parts = and_parts (is_other b) (list_all is_other xs) others in
    cond-false (b == 10) (last_part [] (xs ++ (10 ∷ rest))) (last_part (begun ++ (b ∷ [])) (xs ++ (10 ∷ rest))) (not-true (b == 10) parts.0)
    ∙ rest_cut (begun ++ (b ∷ [])) xs rest parts.1

none_left : (schedule : List String) → are_lines schedule ≡ true → last_part [] (bytes_of schedule) ≡ []
unfolding last_part
none_left [] lines = refl
none_left (s ∷ schedule) lines =
    let parts = and_parts (list_all is_other (codes s)) (are_lines schedule) lines in
    rest_cut [] (codes s) (bytes_of schedule) parts.0 ∙ none_left schedule parts.1

-- the records of lines, each read by itself
abbrev pub read_all : List String → List Record
read_all schedule = flat_map line_records (map with_feed schedule)

read_by : (schedule : List String) → are_lines schedule ≡ true → records_of (bytes_of schedule) ≡ read_all schedule
read_by schedule lines =
    ap (λ (ls : List (List ℕ)). flat_map line_records ls ++ last_records (last_part [] (bytes_of schedule))) (lines_cut schedule lines)
    ∙ ap (λ (end : List ℕ). read_all schedule ++ last_records end) (none_left schedule lines)
    ∙ append-nil (read_all schedule)

-- the text of records that are played
abbrev pub text_by : List Record → List ℕ
text_by records = text_with closing (records_played (enclaves toy_link) (playing empty_world) records)

pub plays_by : (schedule trace : List String) → are_lines schedule ≡ true → read_all schedule ≡ cut_all schedule → shown (text_by (cut_all schedule)) ≡ trace → Plays schedule trace
plays_by schedule trace lines read plays = ap (λ (records : List Record). shown (text_by records)) (read_by schedule lines ∙ read) ∙ plays
