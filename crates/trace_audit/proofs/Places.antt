-- The places of a book: how an index finds one, and how a new one keeps the table and the replies.
use Rattle.std.proofs.Common.{◌≡◌, ℕ, zero, suc, ◌+◌, ◌<◌, ◌≤◌, List, [], ◌∷◌, ◌++◌, length, Option, Some, None, get_or, take, add-one, Bor, refl, sym, ap, ◌∙◌, inl, inr, arith}
use Rattle.std.specs.Prelude.{nat_lt, is_some, IfSome, option_map, option_and_then, option_copied, slice_get}
use Rattle.std.proofs.lemmas.Bool.{cases_order, ltb-true, ltb-false}
use Rattle.std.proofs.lemmas.List.{map_push, length-map, length_push}
use Rattle.std.proofs.lemmas.Option.{slice_get-map, slice_get_past, slice_get-get_or}
use Rattle.values.specs.declared.entry.LogEntry.{LogEntry}
use Rattle.record_rules.specs.Table.{RecordTable}
use Rattle.record_rules.specs.Rules.{apply}
use Rattle.record_rules.specs.Laws.{IsBounded}
use Rattle.record_rules.specs.Places.{ClientAsk, Places, apply_place, fold_places, reply_at}
use Rattle.replica_model.specs.Path.{entry_at}
use Rattle.replica_model.specs.Folds.{place_of, places_of, reply_of}
use Rattle.trace_audit.specs.declared.book.Place.{Place}
use Rattle.trace_audit.specs.Books.{entries_of, reply_in, reply_to, AreJudged}

get_front : {A : Type 0} → (xs ys : List A) (k : ℕ) → k < length xs → slice_get (xs ++ ys) k ≡ slice_get xs k
get_front [] ys k h = absurd (omega (arith, h))
get_front (x ∷ xs) ys zero h = refl
get_front (x ∷ xs) ys (suc k) h = get_front xs ys k (omega (arith, h))

get_end : {A : Type 0} → (xs : List A) (x : A) → slice_get (xs ++ x ∷ []) (length xs) ≡ Some x
get_end [] x = refl
get_end (y ∷ xs) x = get_end xs x

-- what a look-up gives
pub got : (places : List Place) (k : ℕ) (r : Option (Bor Place)) → is_some r ≡ nat_lt k (length places) → IfSome r (λ x. x.now ≡ get_or places k x.now)
    → option_copied r ≡ slice_get places k
got places k None there is = sym (slice_get_past places k (ltb-false k (length places) (sym there)))
got places k (Some x) there is = sym (slice_get-get_or places k x.now (ltb-true k (length places) (sym there)) ∙ ap Some (sym is))

pub entry_found : (places : List Place) (index before : ℕ) (o : Option Place) → index ≡ before + 1 → o ≡ slice_get places before
    → option_map (λ (p : Place). p.entry) o ≡ entry_at (entries_of places) index
entry_found places index before o i e =
    ap (option_map (λ (p : Place). p.entry)) e ∙ sym (slice_get-map (λ (p : Place). p.entry) places before)
    ∙ ap (entry_at (entries_of places)) (sym (i ∙ add-one before))

pub reply_found : (table : RecordTable) (places : List Place) (index before : ℕ) (o : Option Place) → AreJudged table places → index ≡ before + 1
    → o ≡ slice_get places before → reply_in o ≡ reply_of table.limit (entries_of places) index
reply_found table places index before o judged i e =
    ap reply_in e ∙ judged.replies before ∙ ap (reply_of table.limit (entries_of places)) (sym i)

-- the laws of tables, as calls of them tell
pub record TableLaws : Type 0 where
  pub table : (limit : ℕ) (places : Places) (place : Option ClientAsk) → fold_places limit (places ++ place ∷ []) ≡ apply_place (fold_places limit places) place
  pub reply : (limit : ℕ) (places : Places) (ask : ClientAsk)
      → reply_at limit (places ++ Some ask ∷ []) (length places + 1) ≡ Some (apply (fold_places limit places) ask.client ask.number ask.request).1
  pub stay : (limit : ℕ) (places more : Places) (i : ℕ) → i ≤ length places → reply_at limit (places ++ more) i ≡ reply_at limit places i
  pub bounded : (limit : ℕ) (places : Places) → IsBounded limit (fold_places limit places)

-- a place that holds no ask replies nothing
nothing_at : (limit : ℕ) (places : Places) (k : ℕ) (o : Option (Option ClientAsk)) → slice_get places k ≡ o → option_and_then (λ place. place) o ≡ None
    → reply_at limit places (k + 1) ≡ None
nothing_at limit places k o e none =
    ap (reply_at limit places) (add-one k)
    ∙ ap (option_map (λ (ask : ClientAsk). (apply (fold_places limit (take k places)) ask.client ask.number ask.request).1))
    (ap (option_and_then (λ (place : Option ClientAsk). place)) e ∙ none)

new_reply : TableLaws → (limit : ℕ) (before : Places) (place : Option ClientAsk)
    → reply_to (fold_places limit before) place ≡ reply_at limit (before ++ place ∷ []) (length before + 1)
new_reply laws limit before None = sym (nothing_at limit (before ++ None ∷ []) (length before) (Some None) (get_end before None) refl)
new_reply laws limit before (Some ask) = sym (laws.reply limit before ask)

no_reply : (limit : ℕ) (places : Places) (k : ℕ) → length places ≤ k → reply_at limit places (k + 1) ≡ None
no_reply limit places k past = nothing_at limit places k None (slice_get_past places k past) refl

pub judged-push : TableLaws → (table next : RecordTable) (places : List Place) (p : Place) → AreJudged table places → next ≡ apply_place table (place_of p.entry.body)
    → p.reply ≡ reply_to table (place_of p.entry.body) → AreJudged next (places ++ p ∷ [])
judged-push laws table next places p judged t r = record { table_is = next_is ∙ ap (λ l. fold_places l now) (sym next_limit); replies = replies }
  where
    place : Option ClientAsk
    place = place_of p.entry.body

    before : Places
    before = places_of (entries_of places)

    now : Places
    now = places_of (entries_of (places ++ p ∷ []))

    now_is : now ≡ before ++ place ∷ []
    now_is = ap places_of (map_push (λ (q : Place). q.entry) places p) ∙ map_push (λ (e : LogEntry). place_of e.body) (entries_of places) p.entry

    next_is : next ≡ fold_places table.limit now
    next_is = t ∙ ap (λ (x : RecordTable). apply_place x place) judged.table_is ∙ sym (laws.table table.limit before place) ∙ ap (fold_places table.limit) (sym now_is)

    next_limit : next.limit ≡ table.limit
    next_limit = ap (λ (x : RecordTable). x.limit) next_is ∙ (laws.bounded table.limit now).limit_is

    as_many : length before ≡ length places
    as_many = length-map (entries_of places) (λ (e : LogEntry). place_of e.body) ∙ length-map places (λ (q : Place). q.entry)

    last : p.reply ≡ reply_at table.limit (before ++ place ∷ []) (length before + 1)
    last = r ∙ ap (λ (x : RecordTable). reply_to x place) judged.table_is ∙ new_reply laws table.limit before place

    by_place : (k : ℕ) → reply_in (slice_get (places ++ p ∷ []) k) ≡ reply_at table.limit (before ++ place ∷ []) (k + 1)
    by_place k = elim (cases_order k (length places)) [
      | inl here ↦ ap (λ (i : ℕ). reply_in (slice_get (places ++ p ∷ []) i)) here ∙ ap reply_in (get_end places p) ∙ last
          ∙ ap (λ (i : ℕ). reply_at table.limit (before ++ place ∷ []) (i + 1)) (as_many ∙ sym here)
      | inr other ↦ elim other [
        | inl front ↦ ap reply_in (get_front places (p ∷ []) k front) ∙ judged.replies k ∙ sym (laws.stay table.limit before (place ∷ []) (k + 1) (omega (arith, front, as_many)))
        | inr past ↦ ap reply_in (slice_get_past (places ++ p ∷ []) k (omega (arith, past, length_push places p)))
            ∙ sym (no_reply table.limit (before ++ place ∷ []) k (omega (arith, past, as_many, length_push before place)))
      ]
    ]

    replies : (k : ℕ) → reply_in (slice_get (places ++ p ∷ []) k) ≡ reply_at next.limit now (k + 1)
    replies k = by_place k ∙ ap (λ (ps : Places). reply_at table.limit ps (k + 1)) (sym now_is) ∙ ap (λ (l : ℕ). reply_at l now (k + 1)) (sym next_limit)
