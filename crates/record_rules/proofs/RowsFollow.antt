-- A client's row, place by place.
use Rattle.std.proofs.Common.{◌≡◌, ℕ, suc, ◌⊎◌, inl, inr, List, refl, sym, ap, subst, ◌∙◌}
use Rattle.std.specs.Prelude.{Option, Some, IsSome, IsSomeAnd}
use Rattle.std.proofs.lemmas.Option.{same_Some}
use Rattle.values.specs.declared.entry.Hash.{Hash}
use Rattle.values.specs.declared.ids.ClientId.{ClientId}
use Rattle.values.specs.declared.row.Row.{Row}
use Rattle.values.specs.declared.message.Request.{Request}
use Rattle.values.specs.declared.message.Request.TheVariants.{Backup, Restore, Delete, Expose}
use Rattle.values.specs.declared.message.Reply.{Reply}
use Rattle.values.specs.declared.message.Reply.TheVariants.{Applied}
use Rattle.record_rules.specs.Table.{kept_in}
use Rattle.record_rules.specs.Rules.{act}
use Rattle.record_rules.specs.Places.{ClientAsk, Places, ask_at, reply_at, IsApplied}
use Rattle.record_rules.specs.Laws.{row_after, IsBackup, RowsArePut, RowsStay}
use Rattle.record_rules.proofs.Backups.{not_own}
use Rattle.record_rules.proofs.Turns.{Turn, others, refused, unknown, acts, turn_at}

backup_is : (request : Request) → IsBackup request → (secret : List ℕ) × (pin : Hash) × (tries : ℕ) × (request ≡ Backup secret pin tries)
backup_is (Backup secret pin tries) h = (secret, pin, tries, refl)
backup_is (Restore pin) h = absurd h
backup_is Delete h = absurd h
backup_is (Expose secret) h = absurd h

module _ (client : ClientId) (before after : Option Row) (place : Option ClientAsk) (reply : Option Reply) where
  abbrev ask : ℕ → Request → ClientAsk
  ask number request = record { client = client; number = number; request = request }

  -- the place puts the client's row
  abbrev Puts : ℕ → Request → Type 0
  Puts number request = (place ≡ Some (ask number request)) × IsSomeAnd reply IsApplied × (IsSome before ⊎ IsBackup request)

  put : Turn client before after place reply → (number : ℕ) (request : Request) → Puts number request
      → after ≡ Some (record { client = client; last = number; kept = (act request (kept_in before)).0 })
  put (others e same) number request (is, applied, puts) = absurd (not_own client place reply request e (applied, (number, is)))
  put (refused same idle) number request (is, applied, puts) = absurd (idle applied)
  put (unknown number' request' is' only none e done) number request (is, applied, inl known) = absurd (let h = known in cc)
  put (unknown number' request' is' only none e done) number request (is, applied, inr backup) =
      let b = backup_is request backup in
      let same = same_Some (ask number' request') (ask number request) (sym is' ∙ is) in
      absurd (only b.0 b.1 b.2 (ap (λ (a : ClientAsk). a.request) same ∙ b.3))
  put (acts number' request' is' known above e done) number request (is, applied, puts) =
      let same = same_Some (ask number' request') (ask number request) (sym is' ∙ is) in
      e ∙ (λ i. Some (record { client = client; last = (same i).number; kept = (act (same i).request (kept_in before)).0 }))

  stays : Turn client before after place reply → ((number : ℕ) (request : Request) → ¬ (Puts number request)) → after ≡ before
  stays (others e same) quiet = same
  stays (refused same idle) quiet = same
  stays (unknown number request is only none e done) quiet = e ∙ sym none
  stays (acts number request is puts above e done) quiet = absurd (quiet number request (is, applied reply done, puts))
    where
      applied : (r : Option Reply) → r ≡ Some (Applied (act request (kept_in before)).1) → IsSomeAnd r IsApplied
      applied r e = subst (λ o. IsSomeAnd o IsApplied) (sym e) tt

pub rows_are_put : (limit : ℕ) (places : Places) → RowsArePut limit places
rows_are_put limit places client k number request puts =
    put client (row_after limit places client k) (row_after limit places client (suc k)) (ask_at places (suc k)) (reply_at limit places (suc k))
    (turn_at limit places client k) number request puts

pub rows_stay : (limit : ℕ) (places : Places) → RowsStay limit places
rows_stay limit places client k quiet =
    stays client (row_after limit places client k) (row_after limit places client (suc k)) (ask_at places (suc k)) (reply_at limit places (suc k))
    (turn_at limit places client k) quiet
