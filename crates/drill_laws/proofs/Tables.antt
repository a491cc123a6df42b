-- What the table of a path replies to one more request, and the rows that it then has.
use Rattle.std.proofs.Common.{◌≡◌, ℕ, suc, ◌+◌, Option, Some, Ok, [], ◌∷◌, ◌++◌, length, take, refl, ◌∙◌, arith}
use Rattle.std.specs.Prelude.{nat_le, slice_get, option_map, option_and_then}
use Rattle.std.proofs.lemmas.List.{length-append, length-map, map-append, take_at}
use Rattle.values.specs.declared.entry.Body.TheVariants.{Ask}
use Rattle.values.specs.declared.entry.LogEntry.{LogEntry}
use Rattle.values.specs.declared.ids.ClientId.{ClientId}
use Rattle.values.specs.declared.message.Request.{Request}
use Rattle.client_msgs.specs.Canonical.{canonical_request}
use Rattle.client_msgs.specs.Reading.{request_of}
use Rattle.record_rules.specs.Places.{ClientAsk, Places, apply_place, fold_places, reply_at}
use Rattle.record_rules.specs.Rules.{apply}
use Rattle.record_rules.specs.Table.{RecordTable}
pub use Rattle.record_rules.proofs.Rows.{row_of-put_same as row_put, row_of-put_other as row_stays}
pub use Rattle.record_rules.proofs.Sound.{length_put as rows_more}
use Rattle.replica_model.specs.Path.{Path}
use Rattle.replica_model.specs.Folds.{ask_of, place_of, places_of, fold_of, reply_of}
use Rattle.drill_laws.proofs.Queue.{at_first}

-- ---- one more entry
fold_last : (t : RecordTable) (places : Places) (place : Option ClientAsk) → Rattle.std.specs.Prelude.fold apply_place t (places ++ place ∷ []) ≡ apply_place (Rattle.std.specs.Prelude.fold apply_place t places) place
fold_last t [] place = refl
fold_last t (x ∷ places) place = fold_last (apply_place t x) places place

module _ (limit : ℕ) (p : Path) (term : ℕ) (c : ClientId) (number : ℕ) (request : Request) (reads : request_of (canonical_request request) ≡ Ok request) where
  abbrev e : LogEntry
  e = record { term = term; body = Ask c number (canonical_request request) }

  abbrev a : ClientAsk
  a = record { client = c; number = number; request = request }

  places_are : places_of (p ++ e ∷ []) ≡ places_of p ++ Some a ∷ []
  places_are = map-append (λ (x : LogEntry). place_of x.body) p (e ∷ []) ∙ (λ i. places_of p ++ ask_of c number (reads i) ∷ [])

  pub table_after : fold_of limit (p ++ e ∷ []) ≡ (apply (fold_of limit p) c number request).0
  table_after = (λ i. fold_places limit (places_are i)) ∙ fold_last (record { limit = limit; rows = [] }) (places_of p) (Some a)

  pub reply_after : reply_of limit (p ++ e ∷ []) (length (p ++ e ∷ [])) ≡ Some (apply (fold_of limit p) c number request).1
  reply_after =
      (λ i. reply_at limit (places_are i) (long i))
      ∙ (λ i. option_map (λ (x : ClientAsk). (apply (fold_places limit (front i)) x.client x.number x.request).1) (option_and_then (λ place. place) (last i)))
    where
      count : length (places_of p) ≡ length p
      count = length-map p (λ (x : LogEntry). place_of x.body)

      long : length (p ++ e ∷ []) ≡ suc (length (places_of p))
      long = length-append p (e ∷ []) ∙ omega (arith, count)

      front : take (length (places_of p)) (places_of p ++ Some a ∷ []) ≡ places_of p
      front = take_at (places_of p) (Some a ∷ []) (length (places_of p)) refl

      last : slice_get (places_of p ++ Some a ∷ []) (length (places_of p)) ≡ Some (Some a)
      last = at_first (places_of p) (Some a) []
