-- Fields of kinds are printed of values in their ranges, and such values are printed as fields of the kinds.
use Rattle.std.proofs.Common.{◌≡◌, ℕ, ◌≤◌, ◌&&◌, zero, suc, Bool, true, false, Option, Some, None, List, [], ◌∷◌, refl, sym, ap, subst, ◌∙◌, arith}
use Rattle.std.specs.Prelude.{IsTrue, decimal, is_some, nat_le}
use Rattle.std.specs.List.{list_all}
use Rattle.std.proofs.lemmas.Bool.{and_from, and_parts, le-leb, leb-true}
use Rattle.group_quorum.specs.declared.TheConstants.{MAX_ID}
use Rattle.values.specs.declared.entry.Hash.{Hash}
use Rattle.values.specs.declared.event.Cause.{Cause}
use Rattle.values.specs.declared.event.Cause.TheVariants as cause
use Rattle.values.specs.declared.ids.ClientId.{ClientId}
use Rattle.values.specs.declared.limits.TheConstants.{TOP}
use Rattle.values.specs.declared.message.Part.{Part}
use Rattle.values.specs.declared.message.Part.TheVariants as part
use Rattle.schedule_model.specs.Lines.{Line, bit, cause_word, hex, part_word, quantity_word}
use Rattle.schedule_model.specs.Quantities.{Quantity, Events, Messages, Answers, Replicas, States, Clients}
use Rattle.schedule_model.specs.Reading.{max_u32, max_u64}
use Rattle.schedule_model.specs.Records.{meaning}
use Rattle.trace_model.specs.TraceLines.{is_byte, is_client_id, is_hash, is_index, is_replica, is_u32, is_u64}
use Rattle.trace_lines.specs.declared.kind.Kind.{Kind}
use Rattle.trace_lines.specs.declared.kind.Kind.TheVariants as kind
use Rattle.trace_lines.specs.Fields.{number_in}
use Rattle.trace_lines.specs.Kinds.{Rows, cause_words, fits, fits_field, fits_row, fits_some, part_words, quantity_words}
use Rattle.trace_lines.proofs.Hexes.{is_hex_found, is_hex_only, is_sized_found, is_sized_only}
use Rattle.trace_lines.proofs.Numbers.{IsPrinted, number_found, number_only}
use Rattle.trace_lines.proofs.Steps.{Each, among_of, is_some_of, meant_of}

-- ---- one field
abbrev pub Value : Kind → Type 0
Value kind.Replica = ℕ
Value kind.Leader = ℕ
Value kind.Index = ℕ
Value kind.Wide = ℕ
Value kind.Small = ℕ
Value kind.Bit = Bool
Value kind.Hash = Hash
Value kind.Client = ClientId
Value kind.Hex = List ℕ
Value kind.Part = Part
Value kind.Cause = Cause
Value kind.Quantity = Quantity

abbrev pub printed : (k : Kind) → Value k → List ℕ
printed kind.Replica n = decimal n
printed kind.Leader n = decimal n
printed kind.Index n = decimal n
printed kind.Wide n = decimal n
printed kind.Small n = decimal n
printed kind.Bit b = decimal (bit b)
printed kind.Hash h = hex h.0
printed kind.Client c = hex c.0
printed kind.Hex bytes = hex bytes
printed kind.Part p = part_word p
printed kind.Cause c = cause_word c
printed kind.Quantity q = quantity_word q

abbrev pub in_range : (k : Kind) → Value k → Bool
in_range kind.Replica n = is_replica n
in_range kind.Leader n = nat_le n MAX_ID
in_range kind.Index n = is_index n
in_range kind.Wide n = is_u64 n
in_range kind.Small n = is_u32 n
in_range kind.Bit b = true
in_range kind.Hash h = is_hash h
in_range kind.Client c = is_client_id c
in_range kind.Hex bytes = list_all is_byte bytes
in_range kind.Part p = true
in_range kind.Cause c = true
in_range kind.Quantity q = true

abbrev pub FieldOf : Kind → List ℕ → Type 0
FieldOf k text = (v : Value k) × (text ≡ printed k v) × IsTrue (in_range k v)

number_field : (low high : ℕ) (text : List ℕ) → high ≤ max_u64 → IsTrue (is_some (number_in low high text)) → (n : ℕ) × IsPrinted text low high n
number_field low high text top h = let s = is_some_of (number_in low high text) h in (s.0, number_found text low high s.0 top s.1)

up_to : (high : ℕ) (text : List ℕ) → high ≤ max_u64 → IsTrue (is_some (number_in 0 high text)) → (n : ℕ) × (text ≡ decimal n) × IsTrue (nat_le n high)
up_to high text top h = let s = number_field 0 high text top h in (s.0, s.1.same, le-leb s.0 high s.1.to)

bit_of : (n : ℕ) → n ≤ 1 → (b : Bool) × (decimal n ≡ decimal (bit b))
bit_of zero le = (false, refl)
bit_of (suc zero) le = (true, refl)
bit_of (suc (suc n)) le = absurd (omega (arith, le))

bit_low : (b : Bool) → bit b ≤ 1
bit_low true = omega arith
bit_low false = omega arith

pub field_found : (k : Kind) (text : List ℕ) → IsTrue (fits_field k text) → FieldOf k text
field_found kind.Replica text h =
    let s = number_field 1 MAX_ID text (omega arith) h in
    (s.0, s.1.same, and_from (nat_le 1 s.0) (nat_le s.0 MAX_ID) (le-leb 1 s.0 s.1.from) (le-leb s.0 MAX_ID s.1.to))
field_found kind.Leader text h = up_to MAX_ID text (omega arith) h
field_found kind.Index text h = up_to TOP text (omega arith) h
field_found kind.Wide text h = up_to max_u64 text (omega arith) h
field_found kind.Small text h = up_to max_u32 text (omega arith) h
field_found kind.Bit text h =
    let s = number_field 0 1 text (omega arith) h in
    let b = bit_of s.0 s.1.to in
    (b.0, s.1.same ∙ b.1, refl)
field_found kind.Hash text h = let s = is_sized_found 32 text h in (record { 0 = s.0 }, s.1, s.2)
field_found kind.Client text h = let s = is_sized_found 16 text h in (record { 0 = s.0 }, s.1, s.2)
field_found kind.Hex text h = let s = is_hex_found text h in (s.0, s.1.same, s.1.are_bytes)
field_found kind.Part text h =
    among_of (FieldOf kind.Part) part_words
    ((part.Nothing, refl, refl), ((part.Secret, refl, refl), ((part.Pin, refl, refl), ((part.Tries, refl, refl), tt)))) text h
field_found kind.Cause text h =
    among_of (FieldOf kind.Cause) cause_words (
      (cause.Word, refl, refl),
      (
        (cause.Fields, refl, refl),
        (
          (cause.NoBegin, refl, refl),
          (
            (cause.SecondBegin, refl, refl),
            (
              (cause.Number, refl, refl),
              (
                (cause.Range, refl, refl),
                (
                  (cause.Hex, refl, refl),
                  (
                    (cause.TooMany, refl, refl),
                    ((cause.Double, refl, refl), ((cause.TooFew, refl, refl), tt)),
                  ),
                ),
              ),
            ),
          ),
        ),
      ),
    ) text h
field_found kind.Quantity text h =
    among_of (FieldOf kind.Quantity) quantity_words (
      (Events, refl, refl),
      (
        (Messages, refl, refl),
        (
          (Answers, refl, refl),
          (
            (Replicas, refl, refl),
            (
              (States, refl, refl),
              ((Clients, refl, refl), tt),
            ),
          ),
        ),
      ),
    ) text h

some_number : (n low high : ℕ) → low ≤ n → n ≤ high → high ≤ max_u64 → IsTrue (is_some (number_in low high (decimal n)))
some_number n low high from to top = ap is_some (number_only n low high from to top)

pub field_only : (k : Kind) (v : Value k) → IsTrue (in_range k v) → IsTrue (fits_field k (printed k v))
field_only kind.Replica n h =
    let p = and_parts (nat_le 1 n) (nat_le n MAX_ID) h in
    some_number n 1 MAX_ID (leb-true 1 n p.0) (leb-true n MAX_ID p.1) (omega arith)
field_only kind.Leader n h = some_number n 0 MAX_ID (omega arith) (leb-true n MAX_ID h) (omega arith)
field_only kind.Index n h = some_number n 0 TOP (omega arith) (leb-true n TOP h) (omega arith)
field_only kind.Wide n h = some_number n 0 max_u64 (omega arith) (leb-true n max_u64 h) (omega arith)
field_only kind.Small n h = some_number n 0 max_u32 (omega arith) (leb-true n max_u32 h) (omega arith)
field_only kind.Bit b h = some_number (bit b) 0 1 (omega arith) (bit_low b) (omega arith)
field_only kind.Hash v h = is_sized_only 32 v.0 h
field_only kind.Client v h = is_sized_only 16 v.0 h
field_only kind.Hex bytes h = is_hex_only bytes h
field_only kind.Part part.Nothing h = refl
field_only kind.Part part.Secret h = refl
field_only kind.Part part.Pin h = refl
field_only kind.Part part.Tries h = refl
field_only kind.Cause cause.Word h = refl
field_only kind.Cause cause.Fields h = refl
field_only kind.Cause cause.NoBegin h = refl
field_only kind.Cause cause.SecondBegin h = refl
field_only kind.Cause cause.Number h = refl
field_only kind.Cause cause.Range h = refl
field_only kind.Cause cause.Hex h = refl
field_only kind.Cause cause.TooMany h = refl
field_only kind.Cause cause.Double h = refl
field_only kind.Cause cause.TooFew h = refl
field_only kind.Quantity Events h = refl
field_only kind.Quantity Messages h = refl
field_only kind.Quantity Answers h = refl
field_only kind.Quantity Replicas h = refl
field_only kind.Quantity States h = refl
field_only kind.Quantity Clients h = refl

-- ---- fields
abbrev pub Values : List Kind → Type 0
Values [] = Unit {0}
Values (k ∷ kinds) = Value k × Values kinds

abbrev pub texts : (kinds : List Kind) → Values kinds → Line
texts [] v = []
texts (k ∷ kinds) v = printed k v.0 ∷ texts kinds v.1

abbrev pub all_in : (kinds : List Kind) → Values kinds → Bool
all_in [] v = true
all_in (k ∷ []) v = in_range k v.0
all_in (k ∷ l ∷ kinds) v = in_range k v.0 && all_in (l ∷ kinds) v.1

all_from : (k : Kind) (kinds : List Kind) (v : Value k) (vs : Values kinds) → IsTrue (in_range k v) → IsTrue (all_in kinds vs) → IsTrue (all_in (k ∷ kinds) (v, vs))
all_from k [] v vs a b = a
all_from k (l ∷ kinds) v vs a b = and_from (in_range k v) (all_in (l ∷ kinds) vs) a b

all_parts : (k : Kind) (kinds : List Kind) (v : Values (k ∷ kinds)) → IsTrue (all_in (k ∷ kinds) v) → IsTrue (in_range k v.0) × IsTrue (all_in kinds v.1)
all_parts k [] v h = (h, refl)
all_parts k (l ∷ kinds) v h = and_parts (in_range k v.0) (all_in (l ∷ kinds) v.1) h

abbrev pub FieldsOf : List Kind → Line → Type 0
FieldsOf kinds fields = (v : Values kinds) × (fields ≡ texts kinds v) × IsTrue (all_in kinds v)

pub found_all : (kinds : List Kind) (fields : Line) → IsTrue (fits kinds fields) → FieldsOf kinds fields
found_all [] [] h = (tt, refl, refl)
found_all [] (x ∷ fields) h = cc h
found_all (k ∷ kinds) [] h = cc h
found_all (k ∷ kinds) (x ∷ fields) h =
    let p = and_parts (fits_field k x) (fits kinds fields) h in
    let one = field_found k x p.0 in
    let more = found_all kinds fields p.1 in
    ((one.0, more.0), ap (λ t. t ∷ fields) one.1 ∙ ap (λ ts. printed k one.0 ∷ ts) more.1, all_from k kinds one.0 more.0 one.2 more.2)

pub only_all : (kinds : List Kind) (v : Values kinds) → IsTrue (all_in kinds v) → IsTrue (fits kinds (texts kinds v))
only_all [] v h = refl
only_all (k ∷ kinds) v h =
    let p = all_parts k kinds v h in
    and_from (fits_field k (printed k v.0)) (fits kinds (texts kinds v.1)) (field_only k v.0 p.0) (only_all kinds v.1 p.1)

-- ---- a word, and fields of the kinds that follow it
abbrev pub RowOf : (Line → Type 0) → List ℕ → List Kind → Type 0
RowOf R word kinds = (v : Values kinds) → IsTrue (all_in kinds v) → R (word ∷ texts kinds v)

row_by : (R : Line → Type 0) (rows : Rows) → Each (RowOf R) rows → (word : List ℕ) (fields : Line) (o : Option (List Kind)) → meaning word rows ≡ o → IsTrue (fits_some o fields) → R (word ∷ fields)
row_by R rows each word fields None is h = cc h
row_by R rows each word fields (Some kinds) is h =
    let f = found_all kinds fields h in
    subst (λ xs. R (word ∷ xs)) (sym f.1) (meant_of (RowOf R) rows each word kinds is f.0 f.2)

pub row_found : (R : Line → Type 0) (rows : Rows) → Each (RowOf R) rows → (fields : Line) → IsTrue (fits_row rows fields) → R fields
row_found R rows each [] h = cc h
row_found R rows each (word ∷ fields) h = row_by R rows each word fields (meaning word rows) refl h

pub row_only : (rows : Rows) (word : List ℕ) (kinds : List Kind) (v : Values kinds) → meaning word rows ≡ Some kinds → IsTrue (all_in kinds v) → IsTrue (fits_row rows (word ∷ texts kinds v))
row_only rows word kinds v is h = ap (λ o. fits_some o (texts kinds v)) is ∙ only_all kinds v h
