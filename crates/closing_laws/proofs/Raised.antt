-- A committed index that rises is told, and the end of a call tells no more.
use Rattle.std.proofs.Common.{◌≡◌, ℕ, zero, suc, ap, append-nil, ◌∙◌, ◌+◌, ◌-◌, ◌<◌, ◌≤◌, Bool, max, inl, inr, List, [], ◌∷◌, ◌++◌, length, take, drop, map, refl, sym, subst, arith}
use Rattle.std.specs.Prelude.{fold}
use Rattle.std.proofs.lemmas.Bool.{cases_lt, cases_eq}
use Rattle.std.proofs.lemmas.List.{length-take, length-drop}
use Rattle.std.proofs.lemmas.Grind.{fold-append}
use Rattle.group_quorum.specs.Conf.{Conf}
use Rattle.values.specs.declared.entry.LogEntry.{LogEntry}
use Rattle.replica_model.specs.Path.{Path}
use Rattle.replica_model.specs.Replica.{Leading, Replica}
use Rattle.replica_model.specs.Enough.{greatest_upto}
use Rattle.replica_model.specs.Call.{Call, moment}
use Rattle.replica_model.specs.Raise.{numbered_from, commit_to, may_promise, may_commit, promise_raised, promise_index, commit_index, raise}
use Rattle.replica_model.proofs.Greatest.{greatest}
use Rattle.group_model.specs.Group.{committed_in, conf_told, taken_index}
use Rattle.closing_laws.proofs.Tells.{TellsFrom, drop_past, Tells, TellsCall}

-- the greatest index of these and n
abbrev reach : ℕ → List (ℕ × LogEntry) → ℕ
reach n commits = fold (λ (n : ℕ) (c : ℕ × LogEntry). max n c.0) n commits

reach_up : (n k : ℕ) (p : Path) → n ≤ reach n (numbered_from k p)
reach_up n k [] = omega arith
reach_up n k (e ∷ p) = omega (arith, reach_up (max n k) (k + 1) p)

reach_to : (n k m : ℕ) (p : Path) → n ≤ m → k + length p ≤ m + 1 → reach n (numbered_from k p) ≤ m
reach_to n k m [] low high = low
reach_to n k m (e ∷ p) low high = reach_to (max n k) (k + 1) m p (omega arith) (omega arith)

reach_of : (n k : ℕ) (p : Path) → 0 < length p → k + length p ≤ reach n (numbered_from k p) + 1
reach_of n k [] some = absurd (omega arith)
reach_of n k (e ∷ []) some = omega arith
reach_of n k (e ∷ (f ∷ p)) some = omega (arith, reach_of (max n k) (k + 1) (f ∷ p) (omega arith))

greatest_to : (passes : ℕ → Bool) (had top : ℕ) → had ≤ top → greatest_upto passes had top ≤ top
greatest_to passes had top le =
    let is = greatest passes had top in
    elim (cases_eq (greatest_upto passes had top) had) [
      | inl same ↦ omega (arith, same, le)
      | inr more ↦ is.within more
    ]

-- what follows an index is what follows it up to a later one, and then the rest
drop_to : {A : Type 0} (k m i : ℕ) (xs : List A) → k ≤ m → m ≤ i → drop k (take i xs) ≡ drop k (take m xs) ++ drop m (take i xs)
drop_to zero zero i xs a b = refl
drop_to zero (suc m) zero xs a b = absurd (omega arith)
drop_to zero (suc m) (suc i) [] a b = refl
drop_to zero (suc m) (suc i) (x ∷ xs) a b = ap (λ ys. x ∷ ys) (drop_to zero m i xs (omega arith) (omega arith))
drop_to (suc k) zero i xs a b = absurd (omega arith)
drop_to (suc k) (suc m) zero xs a b = absurd (omega arith)
drop_to (suc k) (suc m) (suc i) [] a b = refl
drop_to (suc k) (suc m) (suc i) (x ∷ xs) a b = drop_to k m i xs (omega arith) (omega arith)

numbered_append : (k n : ℕ) (xs ys : Path) → n ≡ k + length xs → numbered_from k (xs ++ ys) ≡ numbered_from k xs ++ numbered_from n ys
numbered_append k n [] ys is = ap (λ j. numbered_from j ys) (omega arith)
numbered_append k n (x ∷ xs) ys is = ap (λ zs. (k, x) ∷ zs) (numbered_append (k + 1) n xs ys (omega arith))

more_from : (seen : ℕ) (path : Path) (committed i : ℕ) (commits : List (ℕ × LogEntry)) → committed ≤ length path → TellsFrom seen path committed commits
    → TellsFrom seen path (max committed i) (commits ++ numbered_from (committed + 1) (drop committed (take i path)))
more_from seen path committed i commits fits g = elim (cases_lt committed i) [
  | inl rises ↦
      let is : max committed i ≡ i = omega arith in
      let long : length (drop g.start (take committed path)) ≡ committed - g.start = omega (arith, length-drop g.start (take committed path), length-take committed path, fits) in
      record {
        start = g.start;
        known = g.known;
        upto = omega (arith, g.upto);
        are = ap (λ xs. xs ++ numbered_from (committed + 1) (drop committed (take i path))) g.are
            ∙ sym (numbered_append (g.start + 1) (committed + 1) (drop g.start (take committed path)) (drop committed (take i path)) (omega (arith, long, g.upto)))
            ∙ ap (numbered_from (g.start + 1)) (sym (drop_to g.start committed i path g.upto (omega arith)))
            ∙ ap (λ (n : ℕ). numbered_from (g.start + 1) (drop g.start (take n path))) (sym is);
      }
  | inr stays ↦
      let is : max committed i ≡ committed = omega arith in
      record {
        start = g.start;
        known = g.known;
        upto = omega (arith, g.upto);
        are = ap (λ xs. xs ++ numbered_from (committed + 1) (drop committed (take i path))) g.are
            ∙ ap (λ xs. numbered_from (g.start + 1) (drop g.start (take committed path)) ++ numbered_from (committed + 1) xs) (drop_past committed (take i path) (omega (arith, length-take i path, stays)))
            ∙ append-nil (numbered_from (g.start + 1) (drop g.start (take committed path)))
            ∙ ap (λ (n : ℕ). numbered_from (g.start + 1) (drop g.start (take n path))) (sym is);
      }
]

module _ (seen : ℕ) (confs : List Conf) where
  -- the committed index rises
  pub commit_tells : (c : Call) (i : ℕ) → i ≤ c.state.promised → TellsCall seen confs c → TellsCall seen confs (commit_to c i)
  commit_tells c i upto g =
      let s : Replica = c.state in
      let more : Path = drop s.committed (take i s.path) in
      let long : length more ≡ i - s.committed = omega (arith, length-drop s.committed (take i s.path), length-take i s.path, upto, g.fits) in
      let same : reach (taken_index c.batch.taken) (c.batch.commits ++ numbered_from (s.committed + 1) more) ≡ reach (committed_in c.batch) (numbered_from (s.committed + 1) more) =
      fold-append (λ (n : ℕ) (c : ℕ × LogEntry). max n c.0) (taken_index c.batch.taken) c.batch.commits (numbered_from (s.committed + 1) more) in
      subst (λ reached. Tells seen confs s.path (max s.committed i) s.promised s.role reached (c.batch.commits ++ numbered_from (s.committed + 1) more) (map conf_told c.batch.members) c.sent) (sym same)
      (record {
        within = omega (arith, g.within, upto);
        fits = g.fits;
        below = elim (cases_lt s.committed i) [
          | inl rises ↦ omega (arith, rises, long, reach_of (committed_in c.batch) (s.committed + 1) more (omega (arith, long, rises)))
          | inr stays ↦ omega (arith, stays, g.below, reach_up (committed_in c.batch) (s.committed + 1) more)
        ];
        above = reach_to (committed_in c.batch) (s.committed + 1) (max s.committed i) more (omega (arith, g.above)) (omega (arith, long));
        told = g.told;
        held = g.held;
        sendings = g.sendings;
        named = g.named;
        from = more_from seen s.path s.committed i c.batch.commits (omega (arith, g.within, g.fits)) g.from;
      })

  pub raise_tells : (c : Call) (l : Leading) → TellsCall seen confs c → TellsCall seen confs (raise c l)
  raise_tells c l g =
      let s : Replica = c.state in
      let raised : Call = moment (promise_raised (moment c) l) in
      let up : s.promised ≤ promise_index s l = (greatest (may_promise s l) s.promised (length s.path)).at_least in
      let fits : promise_index s l ≤ length s.path = greatest_to (may_promise s l) s.promised (length s.path) g.fits in
      let within : s.committed ≤ promise_index s l = omega (arith, g.within, up) in
      commit_tells raised (commit_index raised.state l) (greatest_to (may_commit raised.state l) s.committed (promise_index s l) within)
      (record { within = within; fits = fits; below = g.below; above = g.above; told = g.told; held = g.held; sendings = g.sendings; named = g.named; from = g.from })
