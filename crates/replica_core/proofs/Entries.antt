-- The kept entries above one index and up to another, one after another.
use Rattle.std.proofs.Common.{◌≡◌, ℕ, suc, ◌+◌, ◌-◌, ◌<◌, ◌≤◌, ◌⊎◌, inl, inr, ◌==◌, nat_lt, subst, Some, None, List, [], ◌∷◌, ◌++◌, length, take, drop, get_or, sym, ap, ◌∙◌, arith, length-drop}
use Rattle.std.specs.Prelude.{slice_get}
use Rattle.std.proofs.lemmas.Bool.{cases_eq, cond_both, cond-true, cond-false, lt-ltb, eq-eqb, ne_eqb}
use Rattle.std.proofs.lemmas.List.{take_more, take_all, drop-append-le, length-take, nil_from_length}
use Rattle.std.proofs.lemmas.List.Sums.{fold_push}
use Rattle.std.proofs.lemmas.Option.{slice_get_cases}
use Rattle.values.specs.declared.batch.Batch.{Batch}
use Rattle.values.specs.declared.entry.LogEntry.{LogEntry}
use Rattle.replica_model.specs.Path.{Path}
use Rattle.replica_model.specs.Raise.{numbered_from}
use Rattle.replica_log.specs.Window.{Window, base_index, last_index, entry_at}
use Rattle.replica_core.specs.declared.tickets.Ticket.{Ticket}
use Rattle.replica_core.specs.declared.holder.Holder.{Holder}
use Rattle.replica_core.specs.Keeping.{AreTickets, AreWithin}
use Rattle.replica_core.specs.Applying.{Applied, rest_of, applied_one, applied_all, kept_between, before_applied}

-- an entry of a log
pub record Next (w : Window) (i : ℕ) : Type 0 where
  pub entry : LogEntry
  pub stands : entry_at w (i + 1) ≡ Some entry
  pub follows : (low : ℕ) → base_index w ≤ low → low ≤ i → kept_between w low (i + 1) ≡ kept_between w low i ++ entry ∷ []

module _ (w : Window) where
  pub next_entry : (i : ℕ) → base_index w ≤ i → i < last_index w → Next w i
  next_entry i low lt = from_cases (slice_get_cases w.entries (i - base_index w)).1
    where
      n : ℕ
      n = i - base_index w

      within : i - base_index w < length w.entries
      within = omega (arith, low, lt)

      from_get : (e : LogEntry) → slice_get w.entries (i - base_index w) ≡ Some e → get_or w.entries (i - base_index w) e ≡ e → Next w i
      from_get e there is =
          record {
            entry = e;
            stands =
                cond-true (nat_lt (base_index w) (i + 1)) (slice_get w.entries (i + 1 - base_index w - 1)) None (lt-ltb (base_index w) (i + 1) (omega (arith, low)))
                ∙ (ap (slice_get w.entries) (let k : i + 1 - base_index w - 1 ≡ i - base_index w = omega (arith, low) in k) ∙ there);
            follows = λ lo base le.
                ap (λ k. drop (lo - base_index w) (take k w.entries)) (let k : i + 1 - base_index w ≡ (i - base_index w) + 1 = omega (arith, low) in k)
                ∙ (ap (drop (lo - base_index w)) (take_more w.entries (i - base_index w) e within ∙ ap (λ x. take (i - base_index w) w.entries ++ x ∷ []) is)
                ∙ drop-append-le (lo - base_index w) (take (i - base_index w) w.entries) (e ∷ [])
                (let l = length-take (i - base_index w) w.entries in let k = within in omega (arith, l, k, le)));
          }

      from_cases : ((x : LogEntry) × (i - base_index w < length w.entries) × (slice_get w.entries (i - base_index w) ≡ Some x) × (get_or w.entries (i - base_index w) x ≡ x))
          ⊎ ((length w.entries ≤ i - base_index w) × (slice_get w.entries (i - base_index w) ≡ None)) → Next w i
      from_cases (inl found) = from_get found.0 found.2 found.3
      from_cases (inr past) = let k = within in let p = past.0 in absurd (omega (arith, k, p))

  pub none_between : (low : ℕ) → kept_between w low low ≡ []
  none_between low =
      nil_from_length (kept_between w low low)
      (let d = length-drop (low - base_index w) (take (low - base_index w) w.entries) in let t = length-take (low - base_index w) w.entries in omega (arith, d, t))

  pub length-between : (low high : ℕ) → base_index w ≤ low → low ≤ high → high ≤ last_index w → length (kept_between w low high) ≡ high - low
  length-between low high base le last =
      let d = length-drop (low - base_index w) (take (high - base_index w) w.entries) in
      let t = length-take (high - base_index w) w.entries in
      omega (arith, d, t, base, le, last)

  pub all_between : (low : ℕ) → kept_between w low (last_index w) ≡ drop (low - base_index w) w.entries
  all_between low = ap (drop (low - base_index w)) (take_all (last_index w - base_index w) w.entries (omega arith))

-- one more entry with its number
pub numbered-push : (k : ℕ) (p : Path) (e : LogEntry) → numbered_from k (p ++ e ∷ []) ≡ numbered_from k p ++ (k + length p, e) ∷ []
numbered-push k [] e = ap (λ n. (n, e) ∷ []) (let z : k ≡ k + 0 = omega arith in z)
numbered-push k (x ∷ p) e =
    ap (λ xs. (k, x) ∷ xs) (numbered-push (k + 1) p e ∙ ap (λ n. numbered_from (k + 1) p ++ (n, e) ∷ []) (let z : k + 1 + length p ≡ k + suc (length p) = omega arith in z))

-- what entries up to an index make of a table and of the tickets
abbrev pub applied_upto : Holder → Batch → ℕ → ℕ → Applied
applied_upto h b had i = applied_all (before_applied h b) (numbered_from (had + 1) (kept_between h.log had i))

pub applied-next : (h : Holder) (b : Batch) (had i : ℕ) → base_index h.log ≤ had → had ≤ i → (next : Next h.log i) → i < last_index h.log
    → applied_upto h b had (i + 1) ≡ applied_one (applied_upto h b had i) (i + 1, next.entry)
applied-next h b had i base le next lt =
    let xs : Path = kept_between h.log had i in
    ap (λ p. applied_all (before_applied h b) (numbered_from (had + 1) p)) (next.follows had base le)
    ∙ (ap (applied_all (before_applied h b)) (numbered-push (had + 1) xs next.entry)
    ∙ (fold_push applied_one (before_applied h b) (numbered_from (had + 1) xs) (had + 1 + length xs, next.entry)
    ∙ ap (λ n. applied_one (applied_upto h b had i) (n, next.entry))
    (let l = length-between h.log had i base le (omega (arith, lt)) in let k : had + 1 + length xs ≡ i + 1 = omega (arith, l, le) in k)))

-- the tickets that are left lie above the entries that were applied
rest-above : (ts : List Ticket) (c : ℕ) → AreTickets c ts → AreTickets (c + 1) (rest_of ts (c + 1))
rest-above [] c h = tt
rest-above (t ∷ ts) c (above, rest) = elim (cases_eq t.index (c + 1)) [
  | inl here ↦
      subst (AreTickets (c + 1)) (sym (cond-true (t.index == c + 1) ts (t ∷ ts) (eq-eqb t.index (c + 1) here)))
      (subst (λ k. AreTickets k ts) here rest)
  | inr other ↦
      subst (AreTickets (c + 1)) (sym (cond-false (t.index == c + 1) ts (t ∷ ts) (ne_eqb t.index (c + 1) other)))
      (omega (arith, above, other), rest)
]

pub tickets-above : (es : Path) (c : ℕ) (a : Applied) → AreTickets c a.tickets → AreTickets (c + length es) (applied_all a (numbered_from (c + 1) es)).tickets
tickets-above [] c a h = subst (λ k. AreTickets k a.tickets) (let z : c ≡ c + 0 = omega arith in z) h
tickets-above (e ∷ es) c a h =
    subst (λ k. AreTickets k (applied_all a (numbered_from (c + 1) (e ∷ es))).tickets) (let z : c + 1 + length es ≡ c + suc (length es) = omega arith in z)
    (tickets-above es (c + 1) (applied_one a (c + 1, e)) (rest-above a.tickets c h))

rest-within : (last : ℕ) (ts : List Ticket) (i : ℕ) → AreWithin last ts → AreWithin last (rest_of ts i)
rest-within last [] i h = tt
rest-within last (t ∷ ts) i (one, rest) = cond_both (t.index == i) ts (t ∷ ts) (AreWithin last) (λ so. rest) (λ not_so. (one, rest))

pub tickets-within : (last : ℕ) (es : Path) (c : ℕ) (a : Applied) → AreWithin last a.tickets → AreWithin last (applied_all a (numbered_from (c + 1) es)).tickets
tickets-within last [] c a h = h
tickets-within last (e ∷ es) c a h = tickets-within last es (c + 1) (applied_one a (c + 1, e)) (rest-within last a.tickets (c + 1) h)
