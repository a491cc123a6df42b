-- The tickets of the entries from a cut on, one after another.
use Rattle.std.proofs.Common.{◌≡◌, ℕ, ◌≤◌, ◌<◌, Bool, true, false, cond, nat_le, Some, List, [], ◌∷◌, ◌++◌, map, filter, refl, sym, ap, ◌∙◌, append-nil, append_assoc}
use Rattle.std.proofs.lemmas.Bool.{cond-true, cond-false, le-leb, lt-leb}
use Rattle.std.proofs.lemmas.List.{map-append}
use Rattle.values.specs.declared.entry.Hash.{Hash}
use Rattle.values.specs.declared.ids.ClientId.{ClientId}
use Rattle.values.specs.declared.message.Answer.{Answer}
use Rattle.values.specs.declared.message.Answer.TheVariants.{Undecided}
use Rattle.replica_core.specs.declared.tickets.Ticket.{Ticket}
use Rattle.replica_core.specs.Replacing.{given_up}

filter-push : (p : Ticket → Bool) (ts : List Ticket) (t : Ticket) → filter p (ts ++ t ∷ []) ≡ filter p ts ++ cond (p t) (t ∷ []) []
filter-push p [] t = refl
filter-push p (u ∷ ts) t = by_test (p u) (filter-push p ts t)
  where
    by_test : (b : Bool) → filter p (ts ++ t ∷ []) ≡ filter p ts ++ cond (p t) (t ∷ []) [] → cond b (u ∷ filter p (ts ++ t ∷ [])) (filter p (ts ++ t ∷ [])) ≡ cond b (u ∷ filter p ts) (filter p ts) ++ cond (p t) (t ∷ []) []
    by_test true rest = ap (λ us. u ∷ us) rest
    by_test false rest = rest

module _ (answers : List (ClientId × ℕ × Answer)) (index : ℕ) (old new : Hash) (ts : List Ticket) (t : Ticket) where
  abbrev told : Ticket → ClientId × ℕ × Answer
  told u = (u.client, u.number, Undecided index old new)

  abbrev late : Ticket → Bool
  late u = nat_le index u.index

  -- that of an entry below the cut stays
  pub given-kept : t.index < index → answers ++ given_up (Some (index, old, new)) (ts ++ t ∷ []) ≡ answers ++ given_up (Some (index, old, new)) ts
  given-kept lt =
      ap (λ us. answers ++ map told us)
      (filter-push late ts t ∙ (ap (λ us. filter late ts ++ us) (cond-false (late t) (t ∷ []) [] (lt-leb index t.index lt)) ∙ append-nil (filter late ts)))

  -- that of an entry from the cut on is answered
  pub given-more : index ≤ t.index → answers ++ given_up (Some (index, old, new)) (ts ++ t ∷ []) ≡ (answers ++ given_up (Some (index, old, new)) ts) ++ told t ∷ []
  given-more le =
      ap (λ us. answers ++ map told us) (filter-push late ts t ∙ ap (λ us. filter late ts ++ us) (cond-true (late t) (t ∷ []) [] (le-leb index t.index le)))
      ∙ (ap (λ us. answers ++ us) (map-append told (filter late ts) (t ∷ [])) ∙ sym (append_assoc answers (map told (filter late ts)) (told t ∷ [])))
