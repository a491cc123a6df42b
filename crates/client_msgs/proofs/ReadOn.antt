-- Reading the fields of a member one after the other, and the members of a message.
use Rattle.std.proofs.Common.{◌≡◌, ℕ, ◌≤◌, List, [], ◌∷◌, ◌++◌, length, drop, Option, None, Some, sym, ap, ◌∙◌, append_assoc}
use Rattle.std.specs.Prelude.{slice_get}
use Rattle.std.specs.Option.{option_to_list}
use Rattle.std.specs.List.{filter_map, cons_option}
use Rattle.std.proofs.lemmas.List.Elements.{filter_map-append}
use Rattle.proto_wire.specs.declared.field.WireFault.{WireFault}
use Rattle.proto_wire.specs.Fields.{Field, Sequence, sequence_at}
use Rattle.proto_wire.specs.Reading.{last_member, member_fault, first_fault}
use Rattle.client_msgs.specs.declared.oneof.Member.{Member}
use Rattle.client_msgs.specs.Gathered.{Holds, IsLast}

-- the sequence from an offset on
abbrev pub rest_of : List ℕ → ℕ → Sequence
rest_of bytes at = sequence_at at (drop at bytes)

-- the fields that the member holds, with those that are left, are those of the start with all
abbrev pub HoldsAll : Member → List Field → List Field → Type 0
HoldsAll member left all = (gone : List Field) × Holds member gone × (gone ++ left ≡ all)

pub record IsReadTo (start member : Member) (bytes : List ℕ) (from at : ℕ) : Type 0 where
  pub within : at ≤ length bytes
  pub number : member.number ≡ start.number
  pub fault : (rest_of bytes at).fault ≡ (rest_of bytes from).fault
  pub holds : (fs : List Field) → Holds start fs → HoldsAll member (rest_of bytes at).fields (fs ++ (rest_of bytes from).fields)

-- the fields before an offset have no fault inside, and the member is the one that stands last of them
abbrev pub LastOf : (low high : ℕ) → Option Member → List Field → List Field → Type 0
LastOf low high last left all = (gone : List Field) × IsLast last (last_member low high gone) × (filter_map (member_fault low high) gone ≡ []) × (gone ++ left ≡ all)

pub record IsLastTo (low high : ℕ) (last : Option Member) (bytes : List ℕ) (at : ℕ) : Type 0 where
  pub within : at ≤ length bytes
  pub fault : (rest_of bytes at).fault ≡ (sequence_at 0 bytes).fault
  pub gone : LastOf low high last (rest_of bytes at).fields (sequence_at 0 bytes).fields

-- one field on
pub IsLastTo-field : (low high : ℕ) (old new : Option Member) (bytes : List ℕ) (at next : ℕ) (f : Field) → next ≤ length bytes
    → ((fs : List Field) → IsLast old (last_member low high fs) → IsLast new (last_member low high (fs ++ f ∷ []))) → member_fault low high f ≡ None
    → rest_of bytes at ≡ record { fields = f ∷ (rest_of bytes next).fields; fault = (rest_of bytes next).fault } → IsLastTo low high old bytes at → IsLastTo low high new bytes next
IsLastTo-field low high old new bytes at next f within more whole on so_far =
    let g = so_far.gone in
    let none : filter_map (member_fault low high) (g.0 ++ f ∷ []) ≡ [] = filter_map-append (member_fault low high) g.0 (f ∷ []) ∙ ap (λ (es : List WireFault). es ++ filter_map (member_fault low high) (f ∷ [])) g.2 ∙ ap (λ (o : Option WireFault). cons_option o []) whole in
    let all : (g.0 ++ f ∷ []) ++ (rest_of bytes next).fields ≡ (sequence_at 0 bytes).fields = append_assoc g.0 (f ∷ []) (rest_of bytes next).fields ∙ ap (λ (s : Sequence). g.0 ++ s.fields) (sym on) ∙ g.3 in
    record {
      within = within;
      fault = sym (ap (λ (s : Sequence). s.fault) on) ∙ so_far.fault;
      gone = (g.0 ++ f ∷ [], more g.0 g.1, none, all);
    }

-- a fault inside the field is the first
pub first_fault-inside : (low high : ℕ) (last : Option Member) (bytes : List ℕ) (at : ℕ) (f : Field) (more : List Field) (e : WireFault) → member_fault low high f ≡ Some e
    → (rest_of bytes at).fields ≡ f ∷ more → IsLastTo low high last bytes at → first_fault low high (sequence_at 0 bytes) ≡ Some e
first_fault-inside low high last bytes at f more e inside on so_far =
    let g = so_far.gone in
    let h = member_fault low high in
    let all : (sequence_at 0 bytes).fields ≡ g.0 ++ f ∷ more = sym g.3 ∙ ap (λ (fs : List Field). g.0 ++ fs) on in
    let faults : filter_map h (sequence_at 0 bytes).fields ≡ e ∷ filter_map h more = ap (filter_map h) all ∙ filter_map-append h g.0 (f ∷ more) ∙ ap (λ (es : List WireFault). es ++ filter_map h (f ∷ more)) g.2 ∙ ap (λ (o : Option WireFault). cons_option o (filter_map h more)) inside in
    ap (λ (es : List WireFault). slice_get (es ++ option_to_list (sequence_at 0 bytes).fault) 0) faults
