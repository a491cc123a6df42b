-- A backup, and an expose of its secret under the next number, in a log whose numbers rise.
use Rattle.std.proofs.Common.{◌≡◌, ℕ, zero, suc, ◌+◌, ◌-◌, ◌<◌, ◌≤◌, inl, inr, true, false, Option, Some, None, List, take, refl, sym, ap, subst, ◌∙◌, arith}
use Rattle.std.specs.Prelude.{IsSome, IsSomeAnd, option_map, bytes_eq}
use Rattle.std.proofs.lemmas.Bool.{cases_lt, cases_eq, cond-true}
use Rattle.std.proofs.lemmas.Option.{none-some, same_Some}
use Rattle.std.proofs.lemmas.Slice.Eq.{bytes_eq-Decides}
use Rattle.values.specs.declared.entry.Hash.{Hash}
use Rattle.values.specs.declared.ids.ClientId.{ClientId}
use Rattle.values.specs.declared.message.Reply.{Reply}
use Rattle.values.specs.declared.message.Reply.TheVariants.{Applied}
use Rattle.values.specs.declared.message.Request.{Request}
use Rattle.values.specs.declared.message.Request.TheVariants.{Backup, Expose}
use Rattle.values.specs.declared.message.Response.{Response}
use Rattle.values.specs.declared.message.Response.TheVariants.{Expose as Exposed}
use Rattle.values.specs.declared.row.Kept.{Kept}
use Rattle.values.specs.declared.row.Row.{Row}
use Rattle.record_rules.specs.declared.status.TheConstants.{OK, ERROR}
use Rattle.record_rules.specs.Table.{kept_in}
use Rattle.record_rules.specs.Rules.{act, apply_by, apply}
use Rattle.record_rules.specs.Places.{ClientAsk, Places, fold_places, ask_at, reply_at, IsApplied, Acts}
use Rattle.record_rules.specs.Laws.{record_of, row_after, RowsArePut, RowsStay, NumbersRise}

-- what becomes of a client's row, place by place
pub record RowLaws : Type 0 where
  pub put : (limit : ℕ) (places : Places) → RowsArePut limit places
  pub stay : (limit : ℕ) (places : Places) → RowsStay limit places

module _ (rows : RowLaws) (limit : ℕ) (places : Places) (rise : NumbersRise limit places) (client : ClientId) (n : ℕ) (secret : List ℕ) (pin : Hash) (tries : ℕ) where
  abbrev Asks : ℕ → ℕ → Request → Type 0
  Asks k number request = ask_at places k ≡ Some (record { client = client; number = number; request = request })

  -- what stands after the backup, and after the expose
  abbrev backed : Row
  backed = record { client = client; last = n; kept = Some (record { secret = secret; pin = pin; left = tries; exposed = false }) }

  abbrev exposed : Kept
  exposed = record { secret = secret; pin = pin; left = tries; exposed = true }

  is_some : (o : Option Row) (row : Row) → o ≡ Some row → IsSome o
  is_some o row is = subst IsSome (sym is) refl

  abbrev expose_reply : ℕ → Option Row → Reply
  expose_reply k found = (apply_by found (fold_places limit (take k places)) client (n + 1) (Expose secret)).1

  -- an expose that is done found a record
  found_row : (k : ℕ) → Asks (suc k) (n + 1) (Expose secret) → reply_at limit places (suc k) ≡ Some (Applied (Exposed OK)) → IsSome (row_after limit places client k)
  found_row k is done = by_row (row_after limit places client k) refl
    where
      replied : Some (expose_reply k (row_after limit places client k)) ≡ Some (Applied (Exposed OK))
      replied = sym (ap (option_map (λ (ask : ClientAsk). (apply (fold_places limit (take k places)) ask.client ask.number ask.request).1)) is) ∙ done

      by_row : (found : Option Row) → row_after limit places client k ≡ found → IsSome found
      by_row (Some row) same = refl
      by_row None same = absurd (let e : Applied (Exposed ERROR) ≡ Applied (Exposed OK) = same_Some _ _ (subst (λ found. Some (expose_reply k found) ≡ Some (Applied (Exposed OK))) same replied) in cc)

  module _ (b e : ℕ) (backup : Asks (suc b) n (Backup secret pin tries)) (backup_acts : Acts limit places (suc b)) (expose : Asks (suc e) (n + 1) (Expose secret)) (done : reply_at limit places (suc e) ≡ Some (Applied (Exposed OK))) where
    expose_acts : Acts limit places (suc e)
    expose_acts = subst (λ o. IsSomeAnd o IsApplied) (sym done) tt

    -- the backup comes first
    pub in_order : b < e
    in_order = elim (cases_lt b e) [
      | inl below ↦ below
      | inr above ↦ elim (cases_eq b e) [
        | inl same ↦ absurd (let e : n ≡ n + 1 = ap (λ (a : ClientAsk). a.number) (same_Some _ _ (sym backup ∙ subst (λ k. Asks (suc k) (n + 1) (Expose secret)) (sym same) expose)) in omega arith)
        | inr differ ↦ absurd (omega (
          arith,
          rise (suc e) (suc b) _ _ (omega arith) expose backup refl expose_acts backup_acts
              (is_some (row_after limit places client (suc e)) _ (rows.put limit places client e (n + 1) (Expose secret) (expose, expose_acts, inl (found_row e expose done)))),
        ))
      ]
    ]

    backed_row : row_after limit places client (suc b) ≡ Some backed
    backed_row = rows.put limit places client b n (Backup secret pin tries) (backup, backup_acts, inr tt)

    -- no ask of the client acts between the two
    quiet : (k : ℕ) → suc b ≤ k → k < e → row_after limit places client k ≡ Some backed → (number : ℕ) (request : Request) → Asks (suc k) number request → ¬ (Acts limit places (suc k))
    quiet k after before stands number request is acts =
        let known = is_some (row_after limit places client (suc k)) _ (rows.put limit places client k number request (is, acts, inl (is_some _ backed stands))) in
        let above : n < number = rise (suc b) (suc k) _ _ (omega arith) backup is refl backup_acts acts (is_some _ backed backed_row) in
        let below : number < n + 1 = rise (suc k) (suc e) _ _ (omega arith) is expose refl acts expose_acts known in
        omega (arith, above, below)

    stands : (d : ℕ) → suc b + d ≤ e → row_after limit places client (suc b + d) ≡ Some backed
    stands zero fits = subst (λ k. row_after limit places client k ≡ Some backed) (the_same (suc b)) backed_row
      where
        the_same : (k : ℕ) → k ≡ k + 0
        the_same k = omega arith
    stands (suc d) fits =
        let before = stands d (omega arith) in
        subst (λ k. row_after limit places client k ≡ Some backed) (one_more (suc b) d)
        (rows.stay limit places client (suc b + d) (λ number request puts. quiet (suc b + d) (omega arith) (omega arith) before number request puts.0 puts.1) ∙ before)
      where
        one_more : (k d : ℕ) → suc (k + d) ≡ k + suc d
        one_more k d = omega arith

    before_expose : row_after limit places client e ≡ Some backed
    before_expose =
        let reach : suc b + (e - suc b) ≡ e = omega (arith, in_order) in
        subst (λ k. row_after limit places client k ≡ Some backed) reach (stands (e - suc b) (omega (arith, reach)))

    -- an expose of the secret exposes the record
    exposes : (act (Expose secret) backed.kept).0 ≡ Some exposed
    exposes = ap (λ (c : Option Kept × Response). c.0) (cond-true (bytes_eq secret secret) (Some exposed, Exposed OK) (backed.kept, Exposed ERROR) ((bytes_eq-Decides secret secret).1 refl))

    -- the record stands with all its tries, and is exposed
    pub stored : record_of (fold_places limit (take (suc e) places)) client ≡ Some exposed
    stored =
        ap kept_in (rows.put limit places client e (n + 1) (Expose secret) (expose, expose_acts, inl (is_some (row_after limit places client e) backed before_expose)))
        ∙ ap (λ (o : Option Row). (act (Expose secret) (kept_in o)).0) before_expose
        ∙ exposes

-- what holds of a backup that acts and an expose of its secret that is done
pub record StoredAt (limit : ℕ) (places : Places) (client : ClientId) (secret : List ℕ) (pin : Hash) (tries b e : ℕ) : Type 0 where
  pub in_order : b < e
  pub kept : record_of (fold_places limit (take e places)) client ≡ Some (record { secret = secret; pin = pin; left = tries; exposed = true })

pub stored_at : RowLaws → (limit : ℕ) (places : Places) → NumbersRise limit places → (client : ClientId) (n : ℕ) (secret : List ℕ) (pin : Hash) (tries b e : ℕ)
    → ask_at places b ≡ Some (record { client = client; number = n; request = Backup secret pin tries }) → Acts limit places b
    → ask_at places e ≡ Some (record { client = client; number = n + 1; request = Expose secret }) → reply_at limit places e ≡ Some (Applied (Exposed OK))
    → StoredAt limit places client secret pin tries b e
stored_at rows limit places rise client n secret pin tries zero e backup acts expose done = absurd acts
stored_at rows limit places rise client n secret pin tries (suc b) zero backup acts expose done = absurd (none-some _ done)
stored_at rows limit places rise client n secret pin tries (suc b) (suc e) backup acts expose done = record {
  in_order = omega (arith, in_order rows limit places rise client n secret pin tries b e backup acts expose done);
  kept = stored rows limit places rise client n secret pin tries b e backup acts expose done;
}
