-- Copying the entries of a log one by one.
use Rattle.std.proofs.Common.{◌≡◌, ℕ, zero, suc, ◌+◌, ◌-◌, ◌<◌, ◌≤◌, inl, inr, [], ◌∷◌, ◌++◌, length, take, drop, min, refl, sym, ap, ◌∙◌, arith}
use Rattle.std.specs.Prelude.{nat_lt, Some, None, slice_get}
use Rattle.std.proofs.lemmas.Bool.{lt-ltb, cond-true, cases_lt}
use Rattle.std.proofs.lemmas.List.{take_all, length-drop, length-take}
use Rattle.values.specs.declared.entry.LogEntry.{LogEntry}
use Rattle.replica_model.specs.Path.{Path}
use Rattle.replica_log.specs.Window.{Window, base_index, last_index, entry_at}
use Rattle.append_rules.specs.Sent.{entries_at}

get_drop : (m k : ℕ) (p : Path) → slice_get (drop m p) k ≡ slice_get p (m + k)
get_drop zero k p = ap (slice_get p) (let e : k ≡ 0 + k = omega arith in e)
get_drop (suc m) k [] = refl
get_drop (suc m) k (e ∷ p) = get_drop m k p ∙ ap (slice_get (e ∷ p)) (let n : suc (m + k) ≡ suc m + k = omega arith in n)

one_more : (p : Path) (k : ℕ) (e : LogEntry) → slice_get p k ≡ Some e → take (k + 1) p ≡ take k p ++ e ∷ []
one_more [] k e is = absurd (cc)
one_more (x ∷ p) zero e is = let same : x ≡ e = cc in ap (λ y. y ∷ []) same
one_more (x ∷ p) (suc k) e is = ap (λ n. take n (x ∷ p)) (let n : suc k + 1 ≡ suc (k + 1) = omega arith in n) ∙ ap (λ q. x ∷ q) (one_more p k e is)

past : (p : Path) (n : ℕ) → slice_get p n ≡ None → length p ≤ n
past [] n is = omega arith
past (x ∷ p) zero is = absurd (let clash : Some x ≡ None = is in cc)
past (x ∷ p) (suc n) is = let l = past p n is in omega (arith, l)

module _ (w : Window) (next index : ℕ) (base : base_index w < next) (least : next ≤ index) where
  kept : entry_at w index ≡ slice_get w.entries (index - base_index w - 1)
  kept = cond-true (nat_lt (base_index w) index) (slice_get w.entries (index - base_index w - 1)) None (lt-ltb (base_index w) index (omega (arith, base, least)))

  -- the entry at an index is the next to be copied
  pub copies : (e : LogEntry) → entry_at w index ≡ Some e
      → take (index - next) (drop (next - 1 - base_index w) w.entries) ++ e ∷ [] ≡ take (index + 1 - next) (drop (next - 1 - base_index w) w.entries)
  copies e is =
      let m : ℕ = next - 1 - base_index w in
      let k : ℕ = index - next in
      let at : index - base_index w - 1 ≡ m + k = omega (arith, base, least) in
      sym (one_more (drop m w.entries) k e (get_drop m k w.entries ∙ sym (ap (slice_get w.entries) at) ∙ sym kept ∙ is))
      ∙ ap (λ n. take n (drop m w.entries)) (let n : k + 1 ≡ index + 1 - next = omega (arith, least) in n)

  -- up to the last index there is one
  pub no_entry : entry_at w index ≡ None → last_index w < index
  no_entry is = let l = past w.entries (index - base_index w - 1) (sym kept ∙ is) in omega (arith, l, base, least)

-- as many as there are
take_min : (k : ℕ) (p : Path) → take (min k (length p)) p ≡ take k p
take_min k p = elim (cases_lt k (length p)) [
  | inl less ↦ ap (λ n. take n p) (let n : min k (length p) ≡ k = omega (arith, less) in n)
  | inr more ↦ take_all (min k (length p)) p (omega (arith, more)) ∙ sym (take_all k p more)
]

-- all that one append holds is copied
pub all_copied : (w : Window) (next end : ℕ) → base_index w < next → next ≤ last_index w + 1 → end ≡ min (next + 16) (last_index w + 1)
    → take (end - next) (drop (next - 1 - base_index w) w.entries) ≡ entries_at w next
all_copied w next end base most end_is =
    let rest : Path = drop (next - 1 - base_index w) w.entries in
    let l : length rest ≡ length w.entries - (next - 1 - base_index w) = length-drop (next - 1 - base_index w) w.entries in
    let n : end - next ≡ min 16 (length rest) = omega (arith, base, most, end_is, l) in
    ap (λ k. take k rest) n ∙ take_min 16 rest

-- and no more than up to the last index
pub copied_within : (w : Window) (next : ℕ) → base_index w < next → next ≤ last_index w + 1 → next + length (entries_at w next) ≤ last_index w + 1
copied_within w next base most =
    let rest : Path = drop (next - 1 - base_index w) w.entries in
    let l = length-drop (next - 1 - base_index w) w.entries in
    let t = length-take 16 rest in
    omega (arith, base, most, l, t)
