-- The records of a source are no longer than it.
use Rattle.std.proofs.Common.{◌≡◌, ℕ, ◌+◌, ◌*◌, ◌≤◌, ◌==◌, zero, suc, Bool, true, false, cond, Option, Some, None, List, [], ◌∷◌, ◌++◌, length, arith, subst, sym, append_assoc}
use Rattle.std.specs.Prelude.{if◌then◌else◌, flat_map}
use Rattle.std.specs.List.{AllByRecursion}
use Rattle.std.proofs.lemmas.Bool.{cond_both}
use Rattle.std.proofs.lemmas.List.{length-append}
use Rattle.csv.specs.declared.parser.Config.{Config}
use Rattle.csv.specs.declared.parser.State.{State}
use Rattle.csv.specs.declared.parser.State.TheVariants as st
use Rattle.csv.specs.declared.parser.Action.{Action}
use Rattle.csv.specs.declared.parser.Action.TheVariants as act
use Rattle.csv.specs.Machine.{Read, next_record, step, is_end, fields_after, field_after, ends_at_end}
use Rattle.csv.specs.Reading.{default_config, records_from, records_next, strip_bom, is_bom}
use Rattle.record_cutting.specs.Lines.{Record, whole_lines, last_part, line_records, last_records, records_of}
use Rattle.values.specs.declared.limits.TheConstants.{MAX_SOURCE}
use Rattle.log_laws.proofs.Ending.{all-append}

-- a record no field of which is longer than this, and which has at most one field more
pub record IsWithin (n : ℕ) (fields : Record) : Type 0 where
  pub each : AllByRecursion (λ (f : List ℕ). length f ≤ n) fields
  pub few : length fields ≤ n + 1

module _ (cfg : Config) (n : ℕ) where
  abbrev AllWithin : Record → Type 0
  AllWithin fields = AllByRecursion (λ (f : List ℕ). length f ≤ n) fields

  -- a read keeps to what it began with
  abbrev Keeps : ℕ → Option Read → Type 0
  Keeps most None = Unit {0}
  Keeps most (Some p) = AllWithin p.0 × (length p.0 ≤ most + 1) × (length p.2 ≤ most)

  fields_fit : (a : Action) (fields : Record) (field : List ℕ) → AllWithin fields → length field ≤ n → AllWithin (fields_after a fields field)
  fields_fit act.EndField fields field all fits = all-append (λ (f : List ℕ). length f ≤ n) fields (field ∷ []) all (fits, tt)
  fields_fit act.Skip fields field all fits = all
  fields_fit act.Copy fields field all fits = all
  fields_fit act.EndRecord fields field all fits = all-append (λ (f : List ℕ). length f ≤ n) fields (field ∷ []) all (fits, tt)

  fields_few : (a : Action) (fields : Record) (field : List ℕ) → length (fields_after a fields field) ≤ length fields + 1
  fields_few act.EndField fields field = omega (arith, length-append fields (field ∷ []))
  fields_few act.Skip fields field = omega arith
  fields_few act.Copy fields field = omega arith
  fields_few act.EndRecord fields field = omega (arith, length-append fields (field ∷ []))

  field_fits : (a : Action) (c : ℕ) (field : List ℕ) → length (field_after a c field) ≤ length field + 1
  field_fits act.Copy c field = omega (arith, length-append field (c ∷ []))
  field_fits act.EndField c field = omega arith
  field_fits act.Skip c field = omega arith
  field_fits act.EndRecord c field = omega arith

  read_keeps : (xs : List ℕ) (s : State) (fields : Record) (field : List ℕ) (most : ℕ) → AllWithin fields → length field + length xs ≤ n → length fields + length xs ≤ most → Keeps most (next_record cfg s fields field xs)
  unfolding next_record
  read_keeps [] s fields field most all fits few =
      cond_both (ends_at_end s) (Some (fields ++ (field ∷ []), st.StartRecord, [])) None (Keeps most)
      (λ b. (all-append (λ (f : List ℕ). length f ≤ n) fields (field ∷ []) all (omega (arith, fits), tt), omega (arith, length-append fields (field ∷ []), few), omega arith))
      (λ b. tt)
  read_keeps (c ∷ xs) s fields field most all fits few = by_step (λ s' fields' field' all' fits' few'. read_keeps xs s' fields' field' most all' fits' few') (step cfg s c).0 (step cfg s c).1
    where
      by_step : ((s' : State) (fields' : Record) (field' : List ℕ) → AllWithin fields' → length field' + length xs ≤ n → length fields' + length xs ≤ most → Keeps most (next_record cfg s' fields' field' xs))
          → (s' : State) (a : Action) → Keeps most (cond (is_end a) (Some (fields_after a fields field, s', xs)) (next_record cfg s' (fields_after a fields field) (field_after a c field) xs))
      by_step rest s' a = cond_both (is_end a) (Some (fields_after a fields field, s', xs)) (next_record cfg s' (fields_after a fields field) (field_after a c field) xs) (Keeps most)
          (λ b. (fields_fit a fields field all (omega (arith, fits)), omega (arith, fields_few a fields field, few), omega (arith, few)))
          (λ b. rest s' (fields_after a fields field) (field_after a c field) (fields_fit a fields field all (omega (arith, fits))) (omega (arith, fits, field_fits a c field)) (omega (arith, few, fields_few a fields field)))

  all_keep : (k : ℕ) (s : State) (xs : List ℕ) → length xs ≤ n → AllByRecursion (IsWithin n) (records_from cfg k s xs) × (length (records_from cfg k s xs) ≤ k)
  unfolding records_from
  all_keep zero s xs fits = (tt, omega arith)
  all_keep (suc k) s xs fits = by_read (λ s xs fits. all_keep k s xs fits) (next_record cfg s [] [] xs) (read_keeps xs s [] [] n tt (omega (arith, fits)) (omega (arith, fits)))
    where
      by_read : ((s : State) (xs : List ℕ) → length xs ≤ n → AllByRecursion (IsWithin n) (records_from cfg k s xs) × (length (records_from cfg k s xs) ≤ k)) → (o : Option Read) → Keeps n o → AllByRecursion (IsWithin n) (records_next (records_from cfg k) o) × (length (records_next (records_from cfg k) o) ≤ suc k)
      by_read go None h = (tt, omega arith)
      by_read go (Some p) h = let rest = go p.1 p.2 h.2 in ((record { each = h.0; few = h.1 }, rest.0), omega (arith, rest.1))

bom_fits : (xs : List ℕ) → length (strip_bom xs) ≤ length xs
unfolding strip_bom
bom_fits [] = omega arith
bom_fits (a ∷ []) = omega arith
bom_fits (a ∷ (b ∷ [])) = omega arith
bom_fits (a ∷ (b ∷ (c ∷ rest))) = cond_both (is_bom a b c) rest (a ∷ b ∷ c ∷ rest) (λ ys. length ys ≤ length (a ∷ b ∷ c ∷ rest)) (λ b. omega arith) (λ b. omega arith)

line_keeps : (n : ℕ) (line : List ℕ) → length line ≤ n → AllByRecursion (IsWithin n) (line_records line) × (length (line_records line) ≤ length line + 1)
unfolding line_records
line_keeps n line fits =
    let short = bom_fits line in
    let all = all_keep default_config n (length (strip_bom line) + 1) st.StartRecord (strip_bom line) (omega (arith, short, fits)) in
    (all.0, omega (arith, all.1, short))

-- the records of bytes after a line that has begun
abbrev read_after : List ℕ → List ℕ → List Record
read_after begun bytes = flat_map line_records (whole_lines begun bytes) ++ last_records (last_part begun bytes)

abbrev Keep : ℕ → ℕ → List Record → Type 0
Keep n most records = AllByRecursion (IsWithin n) records × (length records ≤ most)

lines_keep : (n : ℕ) (bytes begun : List ℕ) → length begun + length bytes ≤ n → Keep n (2 * (length begun + length bytes)) (read_after begun bytes)
unfolding whole_lines last_part
lines_keep n [] [] fits = (tt, omega arith)
lines_keep n [] (b ∷ begun) fits = let line = line_keeps n (b ∷ begun) (omega (arith, fits)) in (line.0, omega (arith, line.1))
lines_keep n (b ∷ bytes) begun fits = by_test (λ begun fits. lines_keep n bytes begun fits) (b == 10)
  where
    more : length (begun ++ b ∷ []) ≡ length begun + 1
    more = omega (arith, length-append begun (b ∷ []))

    ends : Keep n (2 * length bytes) (read_after [] bytes) → Keep n (2 * (length begun + length (b ∷ bytes))) ((line_records (begun ++ b ∷ []) ++ flat_map line_records (whole_lines [] bytes)) ++ last_records (last_part [] bytes))
    ends rest =
        let line = line_keeps n (begun ++ b ∷ []) (omega (arith, more, fits)) in
        subst (Keep n (2 * (length begun + length (b ∷ bytes)))) (sym (append_assoc (line_records (begun ++ b ∷ [])) (flat_map line_records (whole_lines [] bytes)) (last_records (last_part [] bytes)))) (
          all-append (IsWithin n) (line_records (begun ++ b ∷ [])) (read_after [] bytes) line.0 rest.0,
          omega (arith, length-append (line_records (begun ++ b ∷ [])) (read_after [] bytes), line.1, rest.1, more),
        )

    by_test : ((begun : List ℕ) → length begun + length bytes ≤ n → Keep n (2 * (length begun + length bytes)) (read_after begun bytes)) → (t : Bool)
        → Keep n (2 * (length begun + length (b ∷ bytes)))
        (flat_map line_records (if t then (begun ++ (b ∷ [])) ∷ whole_lines [] bytes else whole_lines (begun ++ (b ∷ [])) bytes) ++ last_records (if t then last_part [] bytes else last_part (begun ++ (b ∷ [])) bytes))
    by_test go true = let rest = go [] (omega (arith, fits)) in ends (rest.0, omega (arith, rest.1))
    by_test go false = let rest = go (begun ++ b ∷ []) (omega (arith, more, fits)) in (rest.0, omega (arith, rest.1, more))

-- a source's records: how long their fields are, and how many there are
pub source_within : (bytes : List ℕ) → length bytes ≤ MAX_SOURCE → AllByRecursion (IsWithin MAX_SOURCE) (records_of bytes) × (length (records_of bytes) ≤ 2 * MAX_SOURCE)
source_within bytes fits = let all = lines_keep MAX_SOURCE bytes [] (omega (arith, fits)) in (all.0, omega (arith, all.1, fits))
