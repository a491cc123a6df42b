-- A window and the path for which it stands.
use Rattle.std.proofs.Common.{◌≡◌, ℕ, zero, suc, ◌+◌, ◌-◌, ◌<◌, ◌≤◌, ◌&&◌, cond, max, inl, inr, Option, Some, None, List, [], ◌∷◌, ◌++◌, length, take, drop, slice_get, nat_lt, nat_le, refl, sym, ap, ◌∙◌, length-drop, length-append, append_assoc, take-append-drop, arith}
use Rattle.std.proofs.lemmas.Bool.{cases_Bool, cond-true, cond-false, lt-ltb, leb-true, and_parts}
use Rattle.std.proofs.lemmas.List.{drop-drop, drop-append-le, take-append-le, length-take, length-take-le, take-take}
use Rattle.std.specs.Prelude.{unwrap_or, option_map}
use Rattle.values.specs.declared.entry.Hash.{Hash}
use Rattle.values.specs.declared.entry.LogEntry.{LogEntry}
use Rattle.group_quorum.specs.Conf.{Conf}
use Rattle.replica_model.specs.Path.{Path, Link, chain, end_point, entry_at as model_entry_at, term_at as model_term_at, last_term as model_last_term}
use Rattle.replica_model.specs.Configs.{conf, conf_index, conf_index_from, older_conf}
use Rattle.replica_model.specs.Replica.{Replica}
use Rattle.replica_model.specs.Graft.{hash_at as model_hash_at}
use Rattle.replica_model.proofs.Paths.{chain-append, conf-append, conf_index-append}
use Rattle.replica_model.proofs.Paths.{conf_index_from-bound}
use Rattle.replica_log.specs.Window.{Summary, summary_of, summed, summary_at, term_from, Window, IsOrdered, base_index, last_index, last_point, last_term_of, upto, kept_at, hash_at, term_at, entry_at, conf_at, conf_index_at, older_conf_at, configs_at, pushed, dropped_below}
use Rattle.replica_log.specs.Models.{KeepsPath, StandsFor, SameIndices, kept_by, AreConfigs}

take_nothing : {A : Type 0} (n : ℕ) → take {A = A} n [] ≡ []
take_nothing zero = refl
take_nothing (suc n) = refl

-- the front of a list in two parts
pub take_parts : {A : Type 0} (b i : ℕ) (xs : List A) → b ≤ i → take b xs ++ take (i - b) (drop b xs) ≡ take i xs
take_parts zero i xs le = ap (λ n. take n xs) (omega arith)
take_parts (suc b) zero xs le = absurd (omega arith)
take_parts (suc b) (suc i) [] le = take_nothing (suc i - suc b)
take_parts (suc b) (suc i) (x ∷ xs) le =
    ap (λ n. x ∷ (take b xs ++ take n (drop b xs))) (let same : suc i - suc b ≡ i - b = omega arith in same) ∙ ap (λ t. x ∷ t) (take_parts b i xs (omega arith))

-- the term of the last entry, entry by entry
last_term-push : (p : Path) (e : LogEntry) → model_last_term (p ++ e ∷ []) ≡ e.term
last_term-push p e =
    ap (λ n. model_term_at (p ++ e ∷ []) n) (let n : length (p ++ e ∷ []) ≡ suc (length p) = omega (arith, length-append p (e ∷ [])) in n)
    ∙ ap (λ (o : Option LogEntry). unwrap_or (option_map (λ e. e.term) o) 0) (there p)
  where
    there : (p : Path) → slice_get (p ++ e ∷ []) (length p) ≡ Some e
    there [] = refl
    there (x ∷ p) = there p

pub last_term-append : (p q : Path) → model_last_term (p ++ q) ≡ term_from (model_last_term p) q
last_term-append p [] = ap model_last_term (nil p)
  where
    nil : (p : Path) → p ++ [] ≡ p
    nil [] = refl
    nil (x ∷ p) = ap (λ t. x ∷ t) (nil p)
last_term-append p (e ∷ q) =
    ap model_last_term (sym (append_assoc p (e ∷ []) q)) ∙ (last_term-append (p ++ e ∷ []) q ∙ ap (λ t. term_from t q) (last_term-push p e))

-- the term at an index is the last one of the entries up to it
pub term_at-take : (i : ℕ) (p : Path) → i ≤ length p → model_last_term (take i p) ≡ model_term_at p i
term_at-take i p le =
    ap (λ n. model_term_at (take i p) n) (length-take-le i p le) ∙ ap (λ (o : Option LogEntry). unwrap_or (option_map (λ e. e.term) o) 0) (same i p le)
  where
    get : (i : ℕ) (p : Path) → suc i ≤ length p → slice_get (take (suc i) p) i ≡ slice_get p i
    get i [] le = absurd (omega arith)
    get zero (x ∷ p) le = refl
    get (suc i) (x ∷ p) le = get i p (omega arith)

    same : (i : ℕ) (p : Path) → i ≤ length p → model_entry_at (take i p) i ≡ model_entry_at p i
    same zero p le = refl
    same (suc i) p le = get i p le

get-drop : {A : Type 0} (b i : ℕ) (xs : List A) → b ≤ i → slice_get (drop b xs) (i - b) ≡ slice_get xs i
get-drop zero i xs le = ap (slice_get xs) (omega arith)
get-drop (suc b) zero xs le = absurd (omega arith)
get-drop (suc b) (suc i) [] le = refl
get-drop (suc b) (suc i) (x ∷ xs) le = ap (slice_get (drop b xs)) (let same : suc i - suc b ≡ i - b = omega arith in same) ∙ get-drop b i xs (omega arith)

module _ (link : Link) where
  -- the summary of a path in two parts
  pub summed-append : (first : Conf) (p q : Path) → summed link (summary_of link first p) q ≡ summary_of link first (p ++ q)
  summed-append first p q =
      let made : Hash → ℕ → ℕ → Conf → ℕ → Summary = λ h n t c j. record { point = record { index = n; hash = h }; term = t; conf = c; conf_index = j } in
      ap (λ h. made h (length p + length q) (term_from (model_last_term p) q) (conf (conf first p) q) (conf_index_from (conf_index p) (length p) q)) (sym (chain-append link p q))
      ∙ (ap (λ n. made (chain link (p ++ q)) n (term_from (model_last_term p) q) (conf (conf first p) q) (conf_index_from (conf_index p) (length p) q)) (sym (length-append p q))
      ∙ (ap (λ t. made (chain link (p ++ q)) (length (p ++ q)) t (conf (conf first p) q) (conf_index_from (conf_index p) (length p) q)) (sym (last_term-append p q))
      ∙ (ap (λ c. made (chain link (p ++ q)) (length (p ++ q)) (model_last_term (p ++ q)) c (conf_index_from (conf_index p) (length p) q)) (sym (conf-append first p q))
      ∙ ap (λ j. made (chain link (p ++ q)) (length (p ++ q)) (model_last_term (p ++ q)) (conf first (p ++ q)) j) (sym (conf_index-append p q)))))

  module _ (w : Window) (first : Conf) (p : Path) (base promised committed : ℕ) (h : KeepsPath link w first p base promised committed) where
    pub base_is : base_index w ≡ base
    base_is = ap (λ (s : Summary). s.point.index) h.summary ∙ length-take-le base p h.within

    pub last_is : last_index w ≡ length p
    last_is = omega (arith, base_is, ap length h.entries, length-drop base p, h.within)

    pub upto_is : (i : ℕ) → base ≤ i → take base p ++ upto w i ≡ take i p
    upto_is i le =
        ap (λ n. take base p ++ take (i - n) w.entries) base_is
        ∙ (ap (λ es. take base p ++ take (i - base) es) h.entries ∙ take_parts base i p le)

    -- the summary up to an index is that of so many entries
    pub summary_is : (i : ℕ) → base ≤ i → summary_at link w i ≡ summary_of link first (take i p)
    summary_is i le =
        ap (λ s. summed link s (upto w i)) h.summary
        ∙ (summed-append first (take base p) (upto w i) ∙ ap (summary_of link first) (upto_is i le))

    pub all_is : summed link w.base w.entries ≡ summary_of link first p
    all_is =
        ap (λ s. summed link s w.entries) h.summary
        ∙ (summed-append first (take base p) w.entries
        ∙ ap (summary_of link first) (ap (λ es. take base p ++ es) h.entries ∙ take-append-drop base p))

  module _ (w : Window) (s : Replica) (h : StandsFor link w s) where
    indices : SameIndices w s
    indices = record {
      base = base_is w s.first s.path s.base s.promised s.committed h;
      last = last_is w s.first s.path s.base s.promised s.committed h;
      promised = h.is_promised;
      committed = h.is_committed;
    }

    summary_model : (i : ℕ) → s.base ≤ i → summary_at link w i ≡ summary_of link s.first (take i s.path)
    summary_model = summary_is w s.first s.path s.base s.promised s.committed h

    pub hash_model : (i : ℕ) → s.base ≤ i → (summary_at link w i).point.hash ≡ chain link (take i s.path)
    hash_model i le = ap (λ (t : Summary). t.point.hash) (summary_model i le)

    pub last_model : last_point link w ≡ end_point link s.path
    last_model = ap (λ (t : Summary). t.point) (all_is w s.first s.path s.base s.promised s.committed h)

    pub last_term_model : last_term_of w ≡ model_last_term s.path
    last_term_model = ap (λ (t : Summary). t.term) (all_is w s.first s.path s.base s.promised s.committed h)

    kept_model : {A : Type 0} (i : ℕ) (x : A) → kept_at w i x ≡ kept_by s i x
    kept_model i x =
        ap (λ b. cond (nat_le b i && nat_le i (last_index w)) (Some x) None) indices.base
        ∙ ap (λ n. cond (nat_le s.base i && nat_le i n) (Some x) None) indices.last

    -- what stands at an index that is kept is the same
    kept_same : {A : Type 0} (i : ℕ) (x y : A) → (s.base ≤ i → i ≤ length s.path → x ≡ y) → kept_at w i x ≡ kept_by s i y
    kept_same i x y same = kept_model i x ∙ (elim (cases_Bool (nat_le s.base i && nat_le i (length s.path))) [
      | inl held ↦
          let parts = and_parts (nat_le s.base i) (nat_le i (length s.path)) held in
          ap (λ z. kept_by s i z) (same (leb-true s.base i parts.0) (leb-true i (length s.path) parts.1))
      | inr lost ↦
          cond-false (nat_le s.base i && nat_le i (length s.path)) (Some x) None lost
          ∙ sym (cond-false (nat_le s.base i && nat_le i (length s.path)) (Some y) None lost)
    ])

    pub hash_at_model : (i : ℕ) → hash_at link w i ≡ model_hash_at link s i
    hash_at_model i = kept_same i (summary_at link w i).point.hash (chain link (take i s.path)) (λ low high. hash_model i low)

    pub term_at_model : (i : ℕ) → term_at w i ≡ kept_by s i (model_term_at s.path i)
    term_at_model i = kept_same i (summary_at link w i).term (model_term_at s.path i)
        (λ low high. ap (λ (t : Summary). t.term) (summary_model i low) ∙ term_at-take i s.path high)

    pub entry_at_model : (i : ℕ) → s.base < i → entry_at w i ≡ model_entry_at s.path i
    entry_at_model zero above = absurd (omega arith)
    entry_at_model (suc i) above =
        let base : base_index w ≡ s.base = indices.base in
        cond-true (nat_lt (base_index w) (suc i)) (slice_get w.entries (suc i - base_index w - 1)) None (lt-ltb (base_index w) (suc i) (omega arith))
        ∙ (ap (slice_get w.entries) (let n : suc i - base_index w - 1 ≡ i - s.base = omega arith in n)
        ∙ (ap (λ es. slice_get es (i - s.base)) h.entries ∙ get-drop s.base i s.path (omega arith)))

    pub conf_model : (i : ℕ) → s.base ≤ i → conf_at w i ≡ conf s.first (take i s.path)
    conf_model i le = ap (λ (t : Summary). t.conf) (summary_model i le)

    pub conf_index_model : (i : ℕ) → s.base ≤ i → conf_index_at w i ≡ conf_index (take i s.path)
    conf_index_model i le = ap (λ (t : Summary). t.conf_index) (summary_model i le)

    pub older_model : (i : ℕ) → s.base ≤ i → s.base < conf_index_at w i → older_conf_at w i ≡ older_conf s.first (take i s.path)
    older_model i le above =
        let m : ℕ = conf_index_at w i in
        let base : base_index w ≡ s.base = indices.base in
        let same : m ≡ conf_index (take i s.path) = conf_index_model i le in
        let within : m ≤ i = omega (arith, conf_index_from-bound 0 0 (take i s.path) (omega arith), length-take i s.path, same) in
        cond-true (nat_lt (base_index w) m) (conf_at w (m - 1)) (conf_at w i) (lt-ltb (base_index w) m (omega arith))
        ∙ (conf_model (m - 1) (omega arith)
        ∙ (ap (conf s.first) (sym (take-take (m - 1) i s.path (omega arith)))
        ∙ ap (λ n. conf s.first (take (n - 1) (take i s.path))) same))

    pub configs_model : (i : ℕ) → s.base ≤ i → s.base ≤ s.committed → AreConfigs s i (configs_at w i)
    configs_model i le low = record {
      newest = conf_model i le;
      newest_index = conf_index_model i le;
      older = λ above. older_model i le (omega (arith, above));
    }

    pub pushed_model : (e : LogEntry) → StandsFor link (pushed w e) (record s { path = s.path ++ e ∷ [] })
    pushed_model e = record {
      within = omega (arith, h.within, length-append s.path (e ∷ []));
      summary = h.summary ∙ ap (summary_of link s.first) (sym (take-append-le s.base s.path (e ∷ []) h.within));
      entries = ap (λ es. es ++ e ∷ []) h.entries ∙ sym (drop-append-le s.base s.path (e ∷ []) h.within);
      is_promised = h.is_promised;
      is_committed = h.is_committed;
    }

    pub dropped_model : (i : ℕ) → i ≤ length s.path → StandsFor link (dropped_below link w i) (record s { base = max s.base i })
    dropped_model i le =
        let m : ℕ = max s.base i in
        let base : base_index w ≡ s.base = indices.base in
        let far : i - base_index w ≡ m - base_index w = omega arith in
        record {
          within = let fits : m ≤ length s.path = omega (arith, h.within) in fits;
          summary = ap (λ n. summed link w.base (take n w.entries)) far ∙ summary_model m (omega arith);
          entries =
              ap (λ n. drop n w.entries) (let n : i - base_index w ≡ m - s.base = omega arith in n)
              ∙ (ap (drop (m - s.base)) h.entries ∙ (drop-drop (m - s.base) s.base s.path ∙ ap (λ n. drop n s.path) (let n : s.base + (m - s.base) ≡ m = omega arith in n)));
          is_promised = h.is_promised;
          is_committed = h.is_committed;
        }

pub indices_same : (link : Link) (w : Window) (s : Replica) → StandsFor link w s → SameIndices w s
indices_same link w s h = indices link w s h

-- the base is not above what is committed, so the older configuration is told where it counts
pub configs_same : (link : Link) (w : Window) → IsOrdered w → (s : Replica) → StandsFor link w s → (i : ℕ) → s.base ≤ i → AreConfigs s i (configs_at w i)
configs_same link w ordered s h i le =
    let same = indices link w s h in
    let base : base_index w ≡ s.base = same.base in
    let committed : w.committed ≡ s.committed = same.committed in
    let low = ordered.committed in
    configs_model link w s h i le (omega (arith, base, committed, low))
