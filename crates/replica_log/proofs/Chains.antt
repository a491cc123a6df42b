-- What is kept of each entry, place by place.
use Rattle.std.proofs.Common.{true, false, ◌≡◌, ℕ, zero, suc, ◌+◌, ◌-◌, ◌<◌, ◌≤◌, cond, ◌⊎◌, inl, inr, Some, None, List, [], ◌∷◌, ◌++◌, length, map, take, drop, slice_get, nat_lt, refl, sym, ap, ◌∙◌, subst, arith}
use Rattle.std.proofs.lemmas.Bool.{cases_Bool, cases_lt, cond-true, cond-false, lt-ltb, le-ltb}
use Rattle.std.specs.List.{AllByRecursion}
use Rattle.std.proofs.lemmas.List.{length-take, take_all}
use Rattle.values.specs.declared.entry.Body.{Body}
use Rattle.values.specs.declared.entry.Body.TheVariants.{Noop, Ask, Members}
use Rattle.values.specs.declared.entry.Hash.{Hash}
use Rattle.values.specs.declared.entry.LogEntry.{LogEntry}
use Rattle.values.specs.declared.entry.Point.{Point}
use Rattle.group_quorum.specs.Conf.{Conf}
use Rattle.replica_model.specs.Path.{Path, Link, chain_from}
use Rattle.replica_model.specs.Configs.{is_members, changed_by, conf, conf_index_from}
use Rattle.replica_model.proofs.Paths.{changed_plain, conf_index_from-bound}
use Rattle.replica_log.specs.declared.chained.Chained.{Chained}
use Rattle.replica_log.specs.Window.{Window, Fits, summed, dropped_below, last_point, base_index, last_index, upto, term_from, entry_at, conf_at, conf_index_at}
use Rattle.replica_log.specs.Chain.{conf_index_after, chained, chained_from, chained_at}
use Rattle.replica_log.specs.Grafting.{point_at}

module _ (link : Link) where
  pub entries-chained : (h : Hash) (k j : ℕ) (p : Path) → map (λ (c : Chained). c.entry) (chained_from link h k j p) ≡ p
  entries-chained h k j [] = refl
  entries-chained h k j (e ∷ p) = ap (λ q. e ∷ q) (entries-chained (link h (k + 1) e) (k + 1) (conf_index_after (k + 1) j e) p)

  pub length-chained : (h : Hash) (k j : ℕ) (p : Path) → length (chained_from link h k j p) ≡ length p
  length-chained h k j [] = refl
  length-chained h k j (e ∷ p) = ap suc (length-chained (link h (k + 1) e) (k + 1) (conf_index_after (k + 1) j e) p)

  pub chained-append : (h : Hash) (k j : ℕ) (p q : Path)
      → chained_from link h k j (p ++ q) ≡ chained_from link h k j p ++ chained_from link (chain_from link h k p) (k + length p) (conf_index_from j k p) q
  chained-append h k j [] q = ap (λ n. chained_from link h n j q) (omega arith)
  chained-append h k j (e ∷ p) q =
      let h′ : Hash = link h (k + 1) e in
      let j′ : ℕ = conf_index_after (k + 1) j e in
      ap (λ t. chained link h (k + 1) j e ∷ t)
      (chained-append h′ (k + 1) j′ p q
      ∙ ap (λ n. chained_from link h′ (k + 1) j′ p ++ chained_from link (chain_from link h′ (k + 1) p) n (conf_index_from j′ (k + 1) p) q) (omega arith))

  pub take-chained : (n : ℕ) (h : Hash) (k j : ℕ) (p : Path) → take n (chained_from link h k j p) ≡ chained_from link h k j (take n p)
  take-chained zero h k j p = refl
  take-chained (suc n) h k j [] = refl
  take-chained (suc n) h k j (e ∷ p) = ap (λ t. chained link h (k + 1) j e ∷ t) (take-chained n (link h (k + 1) e) (k + 1) (conf_index_after (k + 1) j e) p)

  -- what is kept at place n
  pub record IsPlaced (h : Hash) (k j t : ℕ) (p : Path) (n : ℕ) (c : Chained) : Type 0 where
    pub entry : slice_get p n ≡ Some c.entry
    pub hash : c.hash ≡ chain_from link h k (take (suc n) p)
    pub linked : c.hash ≡ link (chain_from link h k (take n p)) (k + n + 1) c.entry
    pub term : c.entry.term ≡ term_from t (take (suc n) p)
    pub conf_index : c.conf_index ≡ conf_index_from j k (take (suc n) p)

  pub get-chained : (h : Hash) (k j t : ℕ) (p : Path) (n : ℕ) (c : Chained) → slice_get (chained_from link h k j p) n ≡ Some c → IsPlaced h k j t p n c
  get-chained h k j t [] n c is = absurd (let no : None ≡ Some c = is in cc)
  get-chained h k j t (e ∷ p) zero c is =
      let it : chained link h (k + 1) j e ≡ c = cc in
      subst (IsPlaced h k j t (e ∷ p) zero) it
      (record { entry = refl; hash = refl; linked = ap (λ i. link h i e) (omega arith); term = refl; conf_index = refl })
  get-chained h k j t (e ∷ p) (suc n) c is =
      let there = get-chained (link h (k + 1) e) (k + 1) (conf_index_after (k + 1) j e) e.term p n c is in
      record {
        entry = there.entry;
        hash = there.hash;
        linked = there.linked ∙ ap (λ i. link (chain_from link (link h (k + 1) e) (k + 1) (take n p)) i c.entry) (omega arith);
        term = there.term;
        conf_index = there.conf_index;
      }

  pub get-none : (h : Hash) (k j : ℕ) (p : Path) (n : ℕ) → slice_get (chained_from link h k j p) n ≡ None → length p ≤ n
  get-none h k j [] n is = omega arith
  get-none h k j (e ∷ p) zero is = absurd (let no : Some (chained link h (k + 1) j e) ≡ None = is in cc)
  get-none h k j (e ∷ p) (suc n) is = omega (arith, get-none (link h (k + 1) e) (k + 1) (conf_index_after (k + 1) j e) p n is)

  -- what is kept at an index of a window
  pub record IsAt (w : Window) (i : ℕ) (c : Chained) : Type 0 where
    pub above : base_index w < i
    pub entry : entry_at w i ≡ Some c.entry
    pub hash : c.hash ≡ (point_at link w i).hash
    pub linked : c.hash ≡ link (point_at link w (i - 1)).hash i c.entry
    pub term : c.entry.term ≡ term_from w.base.term (upto w i)
    pub conf_index : c.conf_index ≡ conf_index_at w i

  pub at_index : (w : Window) (i : ℕ) (c : Chained) → chained_at link w i ≡ Some c → IsAt w i c
  at_index w i c is =
      let kept : List Chained = chained_from link w.base.point.hash (base_index w) w.base.conf_index w.entries in
      let n : ℕ = i - base_index w - 1 in
      elim (cases_lt (base_index w) i) [
        | inl above ↦
            let test : nat_lt (base_index w) i ≡ true = lt-ltb (base_index w) i above in
            let got = get-chained w.base.point.hash (base_index w) w.base.conf_index w.base.term w.entries n c
            (sym (cond-true (nat_lt (base_index w) i) (slice_get kept n) None test) ∙ is) in
            let up : suc n ≡ i - base_index w = omega arith in
            let back : n ≡ i - 1 - base_index w = omega arith in
            record {
              above = above;
              entry = cond-true (nat_lt (base_index w) i) (slice_get w.entries n) None test ∙ got.entry;
              hash = got.hash ∙ ap (λ m. chain_from link w.base.point.hash (base_index w) (take m w.entries)) up;
              linked = got.linked
                  ∙ ap (λ m. link (chain_from link w.base.point.hash (base_index w) (take m w.entries)) (base_index w + n + 1) c.entry) back
                  ∙ ap (λ m. link (point_at link w (i - 1)).hash m c.entry) (omega arith);
              term = got.term ∙ ap (λ m. term_from w.base.term (take m w.entries)) up;
              conf_index = got.conf_index ∙ ap (λ m. conf_index_from w.base.conf_index (base_index w) (take m w.entries)) up;
            }
        | inr past ↦ absurd (let no : None ≡ Some c = sym (cond-false (nat_lt (base_index w) i) (slice_get kept n) None (le-ltb (base_index w) i past)) ∙ is in cc)
      ]

  -- where nothing is kept up to the last index, the index is not above the base
  pub at_base : (w : Window) (i : ℕ) → i ≤ last_index w → chained_at link w i ≡ None → i ≤ base_index w
  at_base w i within is =
      let kept : List Chained = chained_from link w.base.point.hash (base_index w) w.base.conf_index w.entries in
      let n : ℕ = i - base_index w - 1 in
      elim (cases_lt (base_index w) i) [
        | inl above ↦ absurd (omega (
          arith,
          get-none w.base.point.hash (base_index w) w.base.conf_index w.entries n
              (sym (cond-true (nat_lt (base_index w) i) (slice_get kept n) None (lt-ltb (base_index w) i above)) ∙ is),
        ))
        | inr past ↦ past
      ]

  pub nothing_upto : (w : Window) (i : ℕ) → i ≤ last_index w → chained_at link w i ≡ None → upto w i ≡ []
  nothing_upto w i within is = let past = at_base w i within is in ap (λ m. take m w.entries) (let z : i - base_index w ≡ 0 = omega arith in z)

-- what holds of all holds of the one at a place
pub all_at : {A : Type 0} (P : A → Type 0) (xs : List A) (n : ℕ) (x : A) → AllByRecursion P xs → slice_get xs n ≡ Some x → P x
all_at P [] n x all is = absurd (let no : None ≡ Some x = is in cc)
all_at P (y ∷ xs) zero x all is = subst P (let same : y ≡ x = cc in same) all.0
all_at P (y ∷ xs) (suc n) x all is = all_at P xs n x all.1 is

get-take : {A : Type 0} (xs : List A) (m n : ℕ) (x : A) → slice_get (take m xs) n ≡ Some x → slice_get xs n ≡ Some x
get-take xs zero n x is = absurd (let no : None ≡ Some x = is in cc)
get-take [] (suc m) n x is = is
get-take (y ∷ xs) (suc m) zero x is = is
get-take (y ∷ xs) (suc m) (suc n) x is = get-take xs m n x is

conf_index_from-least : (j k : ℕ) (p : Path) → j ≤ k → j ≤ conf_index_from j k p
conf_index_from-least j k [] le = omega arith
conf_index_from-least j k (e ∷ p) le = elim (cases_Bool (is_members e.body)) [
  | inl m ↦ omega (arith, ap (λ b. conf_index_from (cond b (k + 1) j) (k + 1) p) m, conf_index_from-least (k + 1) (k + 1) p (omega arith))
  | inr m ↦ omega (arith, ap (λ b. conf_index_from (cond b (k + 1) j) (k + 1) p) m, conf_index_from-least j (k + 1) p (omega arith))
]

-- the newest configuration is the one before these entries or one of them
conf_index_from-cases : (j k : ℕ) (p : Path) → j ≤ k → (conf_index_from j k p ≡ j) ⊎ (k < conf_index_from j k p)
conf_index_from-cases j k [] le = inl refl
conf_index_from-cases j k (e ∷ p) le = elim (cases_Bool (is_members e.body)) [
  | inl m ↦ inr (omega (arith, ap (λ b. conf_index_from (cond b (k + 1) j) (k + 1) p) m, conf_index_from-least (k + 1) (k + 1) p (omega arith)))
  | inr m ↦
      let same = ap (λ b. conf_index_from (cond b (k + 1) j) (k + 1) p) m in
      elim (conf_index_from-cases j (k + 1) p (omega arith)) [
        | inl still ↦ inl (same ∙ still)
        | inr above ↦ inr (omega arith)
      ]
]

-- where it is not above the k-th entry none of those after it is a Members entry
pub conf_index_from-still : (j k : ℕ) (p : Path) → j ≤ k → conf_index_from j k p ≤ k → conf_index_from j k p ≡ j
conf_index_from-still j k p le low = elim (conf_index_from-cases j k p le) [
  | inl still ↦ still
  | inr above ↦ absurd (omega (arith, low, above))
]

changed_members : (c d : Conf) (b : Body) → is_members b ≡ true → changed_by c b ≡ changed_by d b
changed_members c d Noop h = absurd (let no : false ≡ true = h in cc)
changed_members c d (Ask client number request) h = absurd (let no : false ≡ true = h in cc)
changed_members c d (Members margin voters) h = refl

-- where no configuration is among these entries it is the one before them
pub conf_still : (c : Conf) (j k : ℕ) (p : Path) → j ≤ k → conf_index_from j k p ≤ k → conf c p ≡ c
conf_still c j k [] le low = refl
conf_still c j k (e ∷ p) le low = elim (cases_Bool (is_members e.body)) [
  | inl m ↦ absurd (omega (arith, ap (λ b. conf_index_from (cond b (k + 1) j) (k + 1) p) m, conf_index_from-least (k + 1) (k + 1) p (omega arith)))
  | inr m ↦
      let rest : conf_index_from j (k + 1) p ≤ k + 1 = omega (arith, ap (λ b. conf_index_from (cond b (k + 1) j) (k + 1) p) m) in
      ap (λ d. conf d p) (changed_plain c e.body m) ∙ conf_still c j (k + 1) p (omega arith) rest
]

-- the entry of the newest configuration, at its index
pub record IsNewest (c : Conf) (k i : ℕ) (p : Path) (e : LogEntry) : Type 0 where
  pub there : slice_get p (i - k - 1) ≡ Some e
  pub members : is_members e.body ≡ true
  pub conf : conf c p ≡ changed_by c e.body

-- where the newest configuration is one of these entries it is that entry's
pub conf_here : (c : Conf) (j k : ℕ) (p : Path) → j ≤ k → k < conf_index_from j k p → (e : LogEntry) × IsNewest c k (conf_index_from j k p) p e
conf_here c j k [] le above = absurd (omega arith)
conf_here c j k (e ∷ p) le above =
    let later : (j′ : ℕ) → j′ ≤ k + 1 → conf_index_from j k (e ∷ p) ≡ conf_index_from j′ (k + 1) p → k + 1 < conf_index_from j′ (k + 1) p
    → (x : LogEntry) × IsNewest c k (conf_index_from j k (e ∷ p)) (e ∷ p) x =
    λ j′ le′ same above′.
    let found = conf_here (changed_by c e.body) j′ (k + 1) p le′ above′ in
    let i : ℕ = conf_index_from j k (e ∷ p) in (
      found.0,
      record {
        there = ap (slice_get (e ∷ p)) (let n : i - k - 1 ≡ suc (conf_index_from j′ (k + 1) p - (k + 1) - 1) = omega arith in n) ∙ found.1.there;
        members = found.1.members;
        conf = found.1.conf ∙ changed_members (changed_by c e.body) c (found.0).body found.1.members;
      },
    ) in
    elim (cases_Bool (is_members e.body)) [
      | inl m ↦
          let same = ap (λ b. conf_index_from (cond b (k + 1) j) (k + 1) p) m in
          elim (cases_lt (k + 1) (conf_index_from (k + 1) (k + 1) p)) [
            | inl above′ ↦ later (k + 1) (omega arith) same above′
            | inr here ↦
                let least = conf_index_from-least (k + 1) (k + 1) p (omega arith) in
                let i : ℕ = conf_index_from j k (e ∷ p) in (
                  e,
                  record {
                    there = ap (slice_get (e ∷ p)) (let n : i - k - 1 ≡ 0 = omega arith in n);
                    members = m;
                    conf = conf_still (changed_by c e.body) (k + 1) (k + 1) p (omega arith) here;
                  },
                )
          ]
      | inr m ↦
          let same = ap (λ b. conf_index_from (cond b (k + 1) j) (k + 1) p) m in
          elim (conf_index_from-cases j (k + 1) p (omega arith)) [
            | inl still ↦ absurd (omega arith)
            | inr above′ ↦ later j (omega arith) same above′
          ]
    ]

-- the newest configuration up to an index is that of the kept entry at its index
pub conf_kept : (w : Window) (i : ℕ) (e : LogEntry) → w.base.conf_index ≤ base_index w → base_index w < conf_index_at w i → entry_at w (conf_index_at w i) ≡ Some e
    → conf_at w i ≡ changed_by w.base.conf e.body
conf_kept w i e low above there =
    let found = conf_here w.base.conf w.base.conf_index (base_index w) (upto w i) low above in
    let n : ℕ = conf_index_at w i - base_index w - 1 in
    let got : slice_get w.entries n ≡ Some found.0 = get-take w.entries (i - base_index w) n found.0 found.1.there in
    let other : slice_get w.entries n ≡ Some e =
    sym (cond-true (nat_lt (base_index w) (conf_index_at w i)) (slice_get w.entries n) None (lt-ltb (base_index w) (conf_index_at w i) above)) ∙ there in
    let same : found.0 ≡ e = cc in
    found.1.conf ∙ ap (λ (x : LogEntry). changed_by w.base.conf x.body) same

pub conf_settled : (w : Window) (i : ℕ) → w.base.conf_index ≤ base_index w → conf_index_at w i ≤ base_index w → conf_at w i ≡ w.base.conf
conf_settled w i low here = conf_still w.base.conf w.base.conf_index (base_index w) (upto w i) low here

pub conf_index_within : (w : Window) (i : ℕ) → w.base.conf_index ≤ base_index w → base_index w ≤ i → conf_index_at w i ≤ i
conf_index_within w i low le = omega (arith, conf_index_from-bound w.base.conf_index (base_index w) (upto w i) low, length-take (i - base_index w) w.entries)

-- every kept entry fits
pub fits_at : (w : Window) (i : ℕ) (e : LogEntry) → AllByRecursion Fits w.entries → entry_at w i ≡ Some e → Fits e
fits_at w i e all is =
    let n : ℕ = i - base_index w - 1 in
    elim (cases_lt (base_index w) i) [
      | inl above ↦ all_at Fits w.entries n e all (sym (cond-true (nat_lt (base_index w) i) (slice_get w.entries n) None (lt-ltb (base_index w) i above)) ∙ is)
      | inr past ↦ absurd (let no : None ≡ Some e = sym (cond-false (nat_lt (base_index w) i) (slice_get w.entries n) None (le-ltb (base_index w) i past)) ∙ is in cc)
    ]

pub upto_last : (w : Window) → upto w (last_index w) ≡ w.entries
upto_last w = take_all (last_index w - base_index w) w.entries (omega arith)

pub last_point_is : (link : Link) (w : Window) → point_at link w (last_index w) ≡ last_point link w
last_point_is link w = ap (λ p. let at : Point = record { index = last_index w; hash = chain_from link w.base.point.hash (base_index w) p } in at) (upto_last w)

get-past : {A : Type 0} (xs : List A) (n : ℕ) → length xs ≤ n → slice_get xs n ≡ None
get-past [] n le = refl
get-past (x ∷ xs) zero le = absurd (omega arith)
get-past (x ∷ xs) (suc n) le = get-past xs n (omega arith)

-- where nothing is kept at an index there is no entry
pub at_none : (link : Link) (w : Window) (i : ℕ) → chained_at link w i ≡ None → entry_at w i ≡ None
at_none link w i is =
    let kept : List Chained = chained_from link w.base.point.hash (base_index w) w.base.conf_index w.entries in
    let n : ℕ = i - base_index w - 1 in
    elim (cases_lt (base_index w) i) [
      | inl above ↦
          let test = lt-ltb (base_index w) i above in
          cond-true (nat_lt (base_index w) i) (slice_get w.entries n) None test
          ∙ get-past w.entries n (get-none link w.base.point.hash (base_index w) w.base.conf_index w.entries n (sym (cond-true (nat_lt (base_index w) i) (slice_get kept n) None test) ∙ is))
      | inr past ↦ cond-false (nat_lt (base_index w) i) (slice_get w.entries n) None (le-ltb (base_index w) i past)
    ]

-- the base moves over the first entry that is kept
pub advanced : (link : Link) (w : Window) (e : LogEntry) (p : Path) (hash : Hash) (c : Conf) (j : ℕ) → w.entries ≡ e ∷ p
    → hash ≡ link w.base.point.hash (base_index w + 1) e → c ≡ changed_by w.base.conf e.body → j ≡ conf_index_after (base_index w + 1) w.base.conf_index e
    → record w { base = record { point = record { index = base_index w + 1; hash = hash }; term = e.term; conf = c; conf_index = j }; entries = p } ≡ dropped_below link w (base_index w + 1)
advanced link w e p hash c j is hash_is conf_is index_is =
    let made : Hash → Conf → ℕ → Window = λ h d i. record w { base = record { point = record { index = base_index w + 1; hash = h }; term = e.term; conf = d; conf_index = i }; entries = p } in
    let moved : ℕ → Path → Window = λ n q. record w { base = summed link w.base (take n q); entries = drop n q } in
    ap (λ h. made h c j) hash_is
    ∙ (ap (λ d. made (link w.base.point.hash (base_index w + 1) e) d j) conf_is
    ∙ (ap (made (link w.base.point.hash (base_index w + 1) e) (changed_by w.base.conf e.body)) index_is
    ∙ (sym (ap (moved 1) is)
    ∙ ap (λ n. moved n w.entries) (let n : 1 ≡ base_index w + 1 - base_index w = omega arith in n))))
