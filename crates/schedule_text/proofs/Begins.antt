-- The record by which a group begins, from what was read of it.
use Rattle.std.proofs.Common.{arith, inl, inr, refl, sym, ap, ◌∙◌, ◌≡◌, ◌-◌, ℕ, List, length, min, take, drop, Option, Some, None, Ok, Err}
use Rattle.std.specs.Prelude.{option_map}
use Rattle.std.specs.Borrow.{Bor}
use Rattle.std.proofs.lemmas.Bool.{cases_lt}
use Rattle.std.proofs.lemmas.List.{drop-map, length-drop, take_all}
use Rattle.group_quorum.specs.Voters.{fault_of}
use Rattle.group_quorum.specs.declared.ConfigFault.{ConfigFault}
use Rattle.group_quorum.specs.declared.TheConstants.{MAX_MARGIN}
use Rattle.values.specs.declared.event.Cause.{Cause}
use Rattle.values.specs.declared.event.Event.{Event}
use Rattle.values.specs.declared.event.Event.TheVariants as event
use Rattle.values.specs.declared.limits.TheConstants.{MOST_ROWS}
use Rattle.record_cutting.specs.Lines.{Record, record_of}
use Rattle.schedule_model.specs.Reading.{RecordFault, fault, number_at, replicas_from}
use Rattle.schedule_model.specs.Records.{begin_of, begin_or, cause_of}
use Rattle.schedule_text.proofs.BeginIds.{none_left}

-- the texts of the voters
drop_few : {A : Type 0} (n m : ℕ) (xs : List A) → m ≡ min (length xs) n → drop m xs ≡ drop n xs
drop_few n m xs is = elim (cases_lt (length xs) n) [
  | inl short ↦ none_left xs m (omega (arith, is)) ∙ sym (none_left xs n (omega arith))
  | inr long ↦ let same : m ≡ n = omega (arith, is) in ap (λ k. drop k xs) same
]

pub behind_three : (fields : List (Bor (List ℕ))) (m : ℕ) → m ≡ min (length fields) 3
    → record_of (take (length fields - m) (drop m fields)) ≡ drop 3 (record_of fields)
behind_three fields m is =
    let size = length-drop m fields in
    ap record_of (take_all (length fields - m) (drop m fields) (omega (arith, size)) ∙ drop_few 3 m fields is)
    ∙ sym (drop-map (λ (f : Bor (List ℕ)). f.now) 3 fields)

module _ (fields : Record) (margin limit : ℕ) (first : number_at fields 2 0 MAX_MARGIN ≡ Ok margin) (second : number_at fields 3 1 MOST_ROWS ≡ Ok limit) where
  -- a voter that is no id
  pub no_voters : (f : RecordFault) → replicas_from 4 (drop 3 fields) ≡ Err f → begin_of fields ≡ Err f
  no_voters f is = rw (first, second, is) refl

  module _ (ids : List ℕ) (read : replicas_from 4 (drop 3 fields) ≡ Ok ids) where
    begun : begin_of fields ≡ begin_or (fault_of margin ids) margin limit ids
    begun = rw (first, second, read) refl

    pub no_group : (cause : Cause) → Some cause ≡ option_map cause_of (fault_of margin ids) → begin_of fields ≡ fault cause 0
    no_group cause is = begun ∙ go (fault_of margin ids) is
      where
        go : (o : Option ConfigFault) → Some cause ≡ option_map cause_of o → begin_or o margin limit ids ≡ fault cause 0
        go (Some f) is = same (cause_of f) is
          where
            same : (c : Cause) → Some cause ≡ Some c → fault {T = Event} c 0 ≡ fault cause 0
            same c is = cc is
        go None is = cc is

    pub a_group : None ≡ option_map cause_of (fault_of margin ids) → begin_of fields ≡ Ok (event.Begin margin limit ids)
    a_group is = begun ∙ go (fault_of margin ids) is
      where
        go : (o : Option ConfigFault) → None ≡ option_map cause_of o → begin_or o margin limit ids ≡ Ok (event.Begin margin limit ids)
        go (Some f) is = cc is
        go None is = refl
