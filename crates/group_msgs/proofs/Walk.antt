-- Walking through a message field by field, with what was gathered of the fields so far.
use Rattle.std.proofs.Common.{◌≡◌, ℕ, ◌≤◌, List, [], ◌∷◌, ◌++◌, length, drop, Option, None, Some, refl, sym, ap, subst, ◌∙◌, append_assoc}
use Rattle.std.specs.Prelude.{slice_get}
use Rattle.std.specs.Option.{option_to_list}
use Rattle.std.specs.List.{filter_map, cons_option}
use Rattle.std.proofs.lemmas.List.{append-nil}
use Rattle.std.proofs.lemmas.List.Elements.{filter_map-append}
use Rattle.proto_wire.specs.declared.field.WireFault.{WireFault}
use Rattle.proto_wire.specs.Fields.{Field, Sequence, nothing, field_before, sequence_at}
use Rattle.proto_wire.specs.Reading.{first_fault_in}

-- the sequence from an offset on
abbrev pub rest_of : List ℕ → ℕ → Sequence
rest_of bytes at = sequence_at at (drop at bytes)

-- The fields from one offset to another have no fault inside, and what was gathered of them holds.
abbrev pub Gone : (inside : Field → Option WireFault) → (List Field → Type 0) → (left all : List Field) → Type 0
Gone inside holds left all = (gone : List Field) × holds gone × (filter_map inside gone ≡ []) × (gone ++ left ≡ all)

pub record IsWalkedTo (inside : Field → Option WireFault) (holds : List Field → Type 0) (bytes : List ℕ) (from at : ℕ) : Type 0 where
  pub within : at ≤ length bytes
  pub fault : (rest_of bytes at).fault ≡ (rest_of bytes from).fault
  pub gone : Gone inside holds (rest_of bytes at).fields (rest_of bytes from).fields

module _ (inside : Field → Option WireFault) (holds : List Field → Type 0) (bytes : List ℕ) (from : ℕ) where
  pub walked-start : from ≤ length bytes → holds [] → IsWalkedTo inside holds bytes from from
  walked-start within h = record { within = within; fault = refl; gone = ([], h, refl, refl) }

  -- one field on
  pub walked-field : (more : List Field → Type 0) (at next : ℕ) (f : Field) → next ≤ length bytes → ((fs : List Field) → holds fs → more (fs ++ f ∷ [])) → inside f ≡ None
      → rest_of bytes at ≡ field_before f (rest_of bytes next) → IsWalkedTo inside holds bytes from at → IsWalkedTo inside more bytes from next
  walked-field more at next f within step whole on so_far =
      let g = so_far.gone in
      let none : filter_map inside (g.0 ++ f ∷ []) ≡ [] = filter_map-append inside g.0 (f ∷ []) ∙ ap (λ (es : List WireFault). es ++ filter_map inside (f ∷ [])) g.2 ∙ ap (λ (o : Option WireFault). cons_option o []) whole in
      let all : (g.0 ++ f ∷ []) ++ (rest_of bytes next).fields ≡ (rest_of bytes from).fields = append_assoc g.0 (f ∷ []) (rest_of bytes next).fields ∙ ap (λ (s : Sequence). g.0 ++ s.fields) (sym on) ∙ g.3 in
      record {
        within = within;
        fault = sym (ap (λ (s : Sequence). s.fault) on) ∙ so_far.fault;
        gone = (g.0 ++ f ∷ [], step g.0 g.1, none, all);
      }

  -- the faults of the fields so far are none
  so_far_none : (at : ℕ) (so_far : IsWalkedTo inside holds bytes from at) → filter_map inside (rest_of bytes from).fields ≡ filter_map inside (rest_of bytes at).fields
  so_far_none at so_far =
      let g = so_far.gone in
      ap (filter_map inside) (sym g.3) ∙ filter_map-append inside g.0 (rest_of bytes at).fields ∙ ap (λ (es : List WireFault). es ++ filter_map inside (rest_of bytes at).fields) g.2

  first_fault-rest : (at : ℕ) → IsWalkedTo inside holds bytes from at → first_fault_in inside (rest_of bytes from) ≡ first_fault_in inside (rest_of bytes at)
  first_fault-rest at so_far =
      ap (λ (es : List WireFault). slice_get (es ++ option_to_list (rest_of bytes from).fault) 0) (so_far_none at so_far)
      ∙ ap (λ (o : Option WireFault). slice_get (filter_map inside (rest_of bytes at).fields ++ option_to_list o) 0) (sym so_far.fault)

  -- at the end all fields are gathered, and no fault stands
  pub walked-holds : (at : ℕ) → rest_of bytes at ≡ nothing → IsWalkedTo inside holds bytes from at → holds (rest_of bytes from).fields
  walked-holds at end so_far =
      let g = so_far.gone in
      subst holds (sym (append-nil g.0) ∙ ap (λ (s : Sequence). g.0 ++ s.fields) (sym end) ∙ g.3) g.1

  pub walked-whole : (at : ℕ) → rest_of bytes at ≡ nothing → IsWalkedTo inside holds bytes from at → first_fault_in inside (rest_of bytes from) ≡ None
  walked-whole at end so_far = first_fault-rest at so_far ∙ ap (first_fault_in inside) end

  pub walked-no_fault : (at : ℕ) → rest_of bytes at ≡ nothing → IsWalkedTo inside holds bytes from at → (rest_of bytes from).fault ≡ None
  walked-no_fault at end so_far = sym so_far.fault ∙ ap (λ (s : Sequence). s.fault) end

  -- no field stands there
  pub walked-fault : (at : ℕ) (e : WireFault) → rest_of bytes at ≡ record { fields = []; fault = Some e } → IsWalkedTo inside holds bytes from at → (rest_of bytes from).fault ≡ Some e
  walked-fault at e is so_far = sym so_far.fault ∙ ap (λ (s : Sequence). s.fault) is

  pub walked-first : (at : ℕ) (e : WireFault) → rest_of bytes at ≡ record { fields = []; fault = Some e } → IsWalkedTo inside holds bytes from at → first_fault_in inside (rest_of bytes from) ≡ Some e
  walked-first at e is so_far = first_fault-rest at so_far ∙ ap (first_fault_in inside) is

  -- a fault inside the field is the first
  pub walked-inside : (at : ℕ) (f : Field) (rest : Sequence) (e : WireFault) → inside f ≡ Some e → rest_of bytes at ≡ field_before f rest → IsWalkedTo inside holds bytes from at → first_fault_in inside (rest_of bytes from) ≡ Some e
  walked-inside at f rest e is on so_far =
      first_fault-rest at so_far ∙ ap (first_fault_in inside) on ∙ ap (λ (o : Option WireFault). slice_get (cons_option o (filter_map inside rest.fields) ++ option_to_list rest.fault) 0) is
