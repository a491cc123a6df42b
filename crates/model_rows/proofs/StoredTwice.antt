-- The places of the second of two stores.
use Rattle.std.proofs.Common.{◌≡◌, ℕ, ◌+◌, ◌==◌, ◌&&◌, Bool, true, false, inl, inr, Option, Some, None, List, [], ◌∷◌, ap, sym, ◌∙◌, arith}
use Rattle.std.proofs.lemmas.Bool.{and_parts, eqb-true}
use Rattle.values.specs.declared.entry.Hash.{Hash}
use Rattle.values.specs.declared.ids.ClientId.{ClientId}
use Rattle.values.specs.declared.message.Answer.{Answer}
use Rattle.values.specs.declared.message.Answer.TheVariants.{Outcome}
use Rattle.values.specs.declared.message.Reply.{Reply}
use Rattle.schedule_model.specs.Client.{Flight}
use Rattle.group_model.specs.Group.{Hearing}
use Rattle.group_model.specs.Log.{AnyByRecursion}
use Rattle.group_model.specs.Run.{World}
use Rattle.group_model.specs.Reports.{Heard, backup_flight, StoredHolds}
use Rattle.values.specs.declared.message.Reply.TheVariants.{Applied}
use Rattle.values.specs.declared.message.Response.TheVariants.{Backup as BackedUp}
use Rattle.record_rules.specs.declared.status.TheConstants.{OK}
use Rattle.model_rows.specs.StoredTwice.{OwnPlaces}

-- the index of an outcome
abbrev index_in : Answer → ℕ
index_in (Outcome index reply) = index
index_in other = 0

abbrev flight_number : Option Flight → ℕ
flight_number None = 0
flight_number (Some flight) = flight.number

-- what the second expose, its backup, the first expose and its backup heard
abbrev pub heard_four : List Hearing → Bool
heard_four (h ∷ third ∷ second ∷ first ∷ []) =
    (flight_number h.flight == 4) && ((index_in h.answered.answer == 5) && ((index_in third.answered.answer == 4) && ((second.answered.number == 2) && (first.answered.number == 1))))
heard_four other = false

module _ (w : World) where
  places_of_four : (h third second first : Hearing) → heard_four (h ∷ third ∷ second ∷ first ∷ []) ≡ true → OwnPlaces w (h ∷ third ∷ second ∷ first ∷ [])
  places_of_four h third second first k client flight secret pin tries is s =
      let p = and_parts (flight_number h.flight == 4) _ k in
      let q = and_parts (index_in h.answered.answer == 5) _ p.1 in
      let r = and_parts (index_in third.answered.answer == 4) _ q.1 in
      let n = and_parts (second.answered.number == 2) (first.answered.number == 1) r.1 in
      let number : 4 ≡ s.number + 1 = sym (eqb-true _ 4 p.0) ∙ ap flight_number is ∙ s.next in
      (at_backup number (eqb-true _ 4 r.0) (eqb-true _ 2 n.0) (eqb-true _ 1 n.1) s.heard_backup, sym (ap index_in s.heard_expose.3) ∙ eqb-true _ 5 q.0)
    where
      at_backup : 4 ≡ s.number + 1 → index_in third.answered.answer ≡ 4 → second.answered.number ≡ 2 → first.answered.number ≡ 1 → AnyByRecursion (Heard client (backup_flight secret pin tries s.number) s.backup (Applied (BackedUp OK))) (third ∷ second ∷ first ∷ []) → s.backup ≡ 4
      at_backup number at4 is2 is1 (inl x) = sym (ap index_in x.3) ∙ at4
      at_backup number at4 is2 is1 (inr (inl x)) = absurd (let e : 2 ≡ s.number = sym is2 ∙ x.2 in omega (arith, e, number))
      at_backup number at4 is2 is1 (inr (inr (inl x))) = absurd (let e : 1 ≡ s.number = sym is1 ∙ x.2 in omega (arith, e, number))
      at_backup number at4 is2 is1 (inr (inr (inr x))) = absurd x

  pub own_places : (hs : List Hearing) → heard_four hs ≡ true → OwnPlaces w hs
  own_places (h ∷ third ∷ second ∷ first ∷ []) k = places_of_four h third second first k
  own_places _ k = absurd (let e : false ≡ true = k in cc)
