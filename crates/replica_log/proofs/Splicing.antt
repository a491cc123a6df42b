-- Entries put in the place of the last ones, and the base moved entry by entry.
use Rattle.std.proofs.Common.{◌≡◌, ℕ, zero, suc, ◌+◌, ◌-◌, ◌<◌, ◌≤◌, List, [], ◌∷◌, ◌++◌, length, map, take, drop, refl, sym, ap, ◌∙◌, subst, length-append, length-drop, arith}
use Rattle.std.specs.List.{AllByRecursion}
use Rattle.std.proofs.lemmas.List.{length-take-le, drop-drop}
use Rattle.std.proofs.lemmas.List.Elements.{All-append, All-from_recursion, recursion_from_All}
use Rattle.values.specs.declared.entry.Hash.{Hash}
use Rattle.values.specs.declared.limits.TheConstants.{TOP}
use Rattle.group_quorum.specs.Conf.{Conf}
use Rattle.replica_model.specs.Path.{Path, Link, chain_from}
use Rattle.replica_model.specs.Configs.{conf, conf_index_from}
use Rattle.replica_model.specs.Linked.{sha_link}
use Rattle.replica_model.proofs.Paths.{chain_from-append, conf-append, conf_index_from-append}
use Rattle.replica_log.specs.declared.chained.Chained.{Chained}
use Rattle.replica_log.specs.declared.log.Log.TheInside.{Inside}
use Rattle.replica_log.specs.Window.{Summary, summed, term_from, Window, IsOrdered, Fits, base_index, last_index, upto, conf_index_at, dropped_below}
use Rattle.replica_log.specs.Grafting.{point_at}
use Rattle.replica_log.specs.Chain.{chained_from}
use Rattle.replica_log.specs.Stored.{window_in, IsStored}
use Rattle.replica_log.proofs.Chains.{entries-chained, take-chained, chained-append}
use Rattle.replica_log.proofs.Standing.{take_parts}

all-take : {A : Type 0} (P : A → Type 0) (n : ℕ) (xs : List A) → AllByRecursion P xs → AllByRecursion P (take n xs)
all-take P zero xs all = tt
all-take P (suc n) [] all = all
all-take P (suc n) (x ∷ xs) all = (all.0, all-take P n xs all.1)

pub all-drop : {A : Type 0} (P : A → Type 0) (n : ℕ) (xs : List A) → AllByRecursion P xs → AllByRecursion P (drop n xs)
all-drop P zero xs all = all
all-drop P (suc n) [] all = all
all-drop P (suc n) (x ∷ xs) all = all-drop P n xs all.1

-- the entries of a window as they are kept
abbrev pub kept_entries : Link → Window → Path → List Chained
kept_entries link w p = chained_from link w.base.point.hash (base_index w) w.base.conf_index p

pub length-upto : (w : Window) (i : ℕ) → i ≤ last_index w → length (upto w i) ≡ i - base_index w
length-upto w i last = length-take-le (i - base_index w) w.entries (omega arith)

-- the front up to an index, and entries chained to it
pub spliced_chain : (link : Link) (w : Window) (i : ℕ) (p : Path) (kept more : List Chained) → base_index w ≤ i → i ≤ last_index w
    → kept ≡ kept_entries link w w.entries → more ≡ take (i - base_index w) kept ++ chained_from link (point_at link w i).hash i (conf_index_at w i) p
    → more ≡ kept_entries link w (upto w i ++ p)
spliced_chain link w i p kept more low last is made =
    let n : ℕ = i - base_index w in
    let tail : ℕ → List Chained = λ k. chained_from link (point_at link w i).hash k (conf_index_at w i) p in
    made
    ∙ (ap (λ ks. take n ks ++ tail i) is
    ∙ (ap (λ ks. ks ++ tail i) (take-chained link n w.base.point.hash (base_index w) w.base.conf_index w.entries)
    ∙ (ap (λ k. kept_entries link w (upto w i) ++ tail k) (let k : i ≡ base_index w + length (upto w i) = omega (arith, length-upto w i last) in k)
    ∙ sym (chained-append link w.base.point.hash (base_index w) w.base.conf_index (upto w i) p))))

-- what is stored again holds of the log
pub record StoredAgain (a : Inside) (i : ℕ) (p : Path) (more : List Chained) : Type 0 where
  pub entries : map (λ (c : Chained). c.entry) more ≡ upto (window_in a) i ++ p
  pub chained : more ≡ chained_from sha_link a.base.hash a.base.index a.conf_index (map (λ (c : Chained). c.entry) more)
  pub fit : AllByRecursion Fits (map (λ (c : Chained). c.entry) more)
  pub ordered : IsOrdered (record (window_in a) { entries = map (λ (c : Chained). c.entry) more })

pub stored_again : (a : Inside) → IsStored a → (i : ℕ) (p : Path) (more : List Chained) → a.promised ≤ i → i ≤ last_index (window_in a)
    → AllByRecursion Fits p → i + length p ≤ TOP
    → more ≡ take (i - a.base.index) a.kept.items ++ chained_from sha_link (point_at sha_link (window_in a) i).hash i (conf_index_at (window_in a) i) p
    → StoredAgain a i p more
stored_again a s i p more promised last fits room made =
    let w : Window = window_in a in
    let low : base_index w ≤ i = (let c = s.ordered.committed in let q = s.ordered.promised in omega arith) in
    let is : more ≡ kept_entries sha_link w (upto w i ++ p) = spliced_chain sha_link w i p a.kept.items more low last s.chained made in
    let entries : map (λ (c : Chained). c.entry) more ≡ upto w i ++ p =
    ap (map (λ (c : Chained). c.entry)) is ∙ entries-chained sha_link w.base.point.hash (base_index w) w.base.conf_index (upto w i ++ p) in
    let count : length (map (λ (c : Chained). c.entry) more) ≡ (i - base_index w) + length p =
    ap length entries ∙ omega (arith, length-append (upto w i) p, length-upto w i last) in
    record {
      entries = entries;
      chained = is ∙ ap (kept_entries sha_link w) (sym entries);
      fit = subst (AllByRecursion Fits) (sym entries) (recursion_from_All Fits (upto w i ++ p) (All-append Fits (upto w i) p (All-from_recursion Fits (upto w i) (all-take Fits (i - base_index w) w.entries s.fit)) (All-from_recursion Fits p fits)));
      ordered = record {
        committed = s.ordered.committed;
        promised = s.ordered.promised;
        last = omega (arith, count);
        top = omega (arith, count, room);
        conf_index = s.ordered.conf_index;
      };
    }

term_from-append : (t : ℕ) (p q : Path) → term_from t (p ++ q) ≡ term_from (term_from t p) q
term_from-append t [] q = refl
term_from-append t (e ∷ p) q = term_from-append e.term p q

-- a summary in two steps
pub summed-summed : (link : Link) (s : Summary) (p q : Path) → summed link (summed link s p) q ≡ summed link s (p ++ q)
summed-summed link s p q =
    let k : ℕ = s.point.index in
    let made : ℕ → Hash → ℕ → Conf → ℕ → Summary = λ n h t c j. record { point = record { index = n; hash = h }; term = t; conf = c; conf_index = j } in
    let h : Hash = chain_from link (chain_from link s.point.hash k p) (k + length p) q in
    let j : ℕ = conf_index_from (conf_index_from s.conf_index k p) (k + length p) q in
    ap (λ n. made n h (term_from (term_from s.term p) q) (conf (conf s.conf p) q) j) (let n : (k + length p) + length q ≡ k + length (p ++ q) = omega (arith, length-append p q) in n)
    ∙ (ap (λ x. made (k + length (p ++ q)) x (term_from (term_from s.term p) q) (conf (conf s.conf p) q) j) (sym (chain_from-append link s.point.hash k p q))
    ∙ (ap (λ x. made (k + length (p ++ q)) (chain_from link s.point.hash k (p ++ q)) x (conf (conf s.conf p) q) j) (sym (term_from-append s.term p q))
    ∙ (ap (λ x. made (k + length (p ++ q)) (chain_from link s.point.hash k (p ++ q)) (term_from s.term (p ++ q)) x j) (sym (conf-append s.conf p q))
    ∙ ap (λ x. made (k + length (p ++ q)) (chain_from link s.point.hash k (p ++ q)) (term_from s.term (p ++ q)) (conf s.conf (p ++ q)) x) (sym (conf_index_from-append s.conf_index k p q)))))

-- nothing goes where the index is not above the base
pub drop_none : (link : Link) (w : Window) (i : ℕ) → i ≤ base_index w → dropped_below link w i ≡ w
drop_none link w i le =
    let moved : ℕ → Window = λ n. record w { base = summed link w.base (take n w.entries); entries = drop n w.entries } in
    let at : ℕ → Window = λ n. record w { base = record (w.base) { point = record { index = n; hash = w.base.point.hash } } } in
    ap moved (let n : i - base_index w ≡ 0 = omega arith in n) ∙ ap at (let n : base_index w + 0 ≡ base_index w = omega arith in n)

-- the base may move over one entry first
pub drop_twice : (link : Link) (w : Window) (i : ℕ) → base_index w < i → i ≤ last_index w → dropped_below link (dropped_below link w (base_index w + 1)) i ≡ dropped_below link w i
drop_twice link w i above last =
    let b : ℕ = base_index w in
    let e : Path = w.entries in
    let first : b + 1 - b ≡ 1 = omega arith in
    let made : Summary → Path → Window = λ s p. record w { base = s; entries = p } in
    let index : b + length (take (b + 1 - b) e) ≡ b + 1 = omega (arith, length-take-le (b + 1 - b) e (omega arith)) in
    let rest : i - (b + length (take (b + 1 - b) e)) ≡ i - b - (b + 1 - b) = omega arith in
    ap (λ n. made (summed link (summed link w.base (take (b + 1 - b) e)) (take n (drop (b + 1 - b) e))) (drop n (drop (b + 1 - b) e))) rest
    ∙ (ap (λ s. made s (drop (i - b - (b + 1 - b)) (drop (b + 1 - b) e)))
    (summed-summed link w.base (take (b + 1 - b) e) (take (i - b - (b + 1 - b)) (drop (b + 1 - b) e))
    ∙ ap (summed link w.base) (take_parts (b + 1 - b) (i - b) e (omega arith)))
    ∙ ap (made (summed link w.base (take (i - b) e)))
    (drop-drop (i - b - (b + 1 - b)) (b + 1 - b) e ∙ ap (λ n. drop n e) (let n : (b + 1 - b) + (i - b - (b + 1 - b)) ≡ i - b = omega arith in n)))

-- the last index stays
pub drop_last : (link : Link) (w : Window) (i : ℕ) → base_index w ≤ i → i ≤ last_index w → last_index (dropped_below link w i) ≡ last_index w
drop_last link w i low last = omega (arith, length-upto w i last, length-drop (i - base_index w) w.entries)
