-- What an append offers, against what a replica holds.
use Rattle.step_walk.proofs.Outcomes.{IsCalm}
use Rattle.std.proofs.Common.{◌≡◌, ℕ, zero, suc, ◌+◌, ◌-◌, ◌<◌, ◌≤◌, true, false, cond, ◌&&◌, ◌||◌, nat_lt, nat_le, ◌⊎◌, inl, inr, Option, Some, None, [], ◌∷◌, ◌++◌, length, take, drop, refl, sym, ap, ◌∙◌, add-one, arith}
use Rattle.std.proofs.lemmas.Slice.Eq.{bytes_eq-Decides}
use Rattle.std.proofs.lemmas.Bool.{and_parts, and_cases, and_from, or_parts, leb-true, leb-false, ltb-false, le-leb, eqb-false, cond-true, cond-false, cases_Bool, cases_lt, cases_eq}
use Rattle.std.proofs.lemmas.List.{append-nil, take-take, take_all, take-append-drop, drop-drop, drop_all, length-drop, length-take-le}
use Rattle.std.proofs.lemmas.Option.{same_Some, none-some}
use Rattle.values.specs.declared.entry.Hash.{Hash}
use Rattle.values.specs.declared.entry.LogEntry.{LogEntry}
use Rattle.values.specs.declared.entry.Point.{Point}
use Rattle.replica_model.specs.Path.{Path, Link, chain, same_hash}
use Rattle.replica_model.specs.Replica.{Replica}
use Rattle.replica_model.specs.Graft.{hash_at, is_hash, matches, points_from, Difference, differing, first_difference, kept_length, differs_at, refusal_hint}
use Rattle.replica_model.proofs.Paths.{chain-push}
use Rattle.group_model.specs.Log.{IsFrontOf}
use Rattle.log_laws.proofs.Chain.{NoCollisionIn, same_points}
use Rattle.log_laws.proofs.Leading.{front}

pub same_hash_is : (a b : Hash) → same_hash a b ≡ true → a ≡ b
same_hash_is a b h = let bytes : a.0 ≡ b.0 = (bytes_eq-Decides a.0 b.0).0 h in ap (λ bs. record { 0 = bs }) bytes

-- one entry further
pub take_step : (i : ℕ) (p : Path) (e : LogEntry) (es : Path) → drop i p ≡ e ∷ es → (take (i + 1) p ≡ take i p ++ e ∷ []) × (drop (i + 1) p ≡ es) × (i < length p)
take_step i p e es is = rw (add-one) (go i p is)
  where
    go : (i : ℕ) (p : Path) → drop i p ≡ e ∷ es → (take (suc i) p ≡ take i p ++ e ∷ []) × (drop (suc i) p ≡ es) × (i < length p)
    go zero [] is = cc
    go (suc i) [] is = cc
    go zero (x ∷ p) is = let head : x ≡ e = cc in let tail : p ≡ es = cc in (ap (λ y. y ∷ []) head, tail, omega arith)
    go (suc i) (x ∷ p) is = let r = go i p is in (ap (λ y. x ∷ y) r.0, r.1, omega (arith, r.2))

-- what a graft makes of the path of a replica and the one offered
abbrev pub Grafts : Replica → Path → Path → Type 0
Grafts s path new =
    ((new ≡ s.path) × (take (length path) s.path ≡ path) × (length path ≤ length s.path))
    ⊎ ((new ≡ path) × (take s.promised path ≡ take s.promised s.path) × (s.promised ≤ length path))

module _ (link : Link) (s : Replica) where
  -- the hash kept at an index
  pub hash_kept : (i : ℕ) → s.base ≤ i → i ≤ length s.path → hash_at link s i ≡ Some (chain link (take i s.path))
  hash_kept i base fits = cond-true _ _ _ (and_from (nat_le s.base i) (nat_le i (length s.path)) (le-leb s.base i base) (le-leb i (length s.path) fits))

  abbrev pub Hashes : ℕ → Option Hash → Type 0
  Hashes i o = ((o ≡ Some (chain link (take i s.path))) × (s.base ≤ i) × (i ≤ length s.path)) ⊎ ((o ≡ None) × ((s.base ≤ i) → (i ≤ length s.path) → ⊥))

  pub hash_cases : (i : ℕ) → Hashes i (hash_at link s i)
  hash_cases i = elim (cases_Bool (nat_le s.base i && nat_le i (length s.path))) [
    | inl b ↦
        let parts = and_parts (nat_le s.base i) (nat_le i (length s.path)) b in
        inl (cond-true _ _ _ b, leb-true _ _ parts.0, leb-true _ _ parts.1)
    | inr b ↦ inr (
      cond-false _ _ _ b,
      λ base fits. elim (and_cases (nat_le s.base i) (nat_le i (length s.path)) b) [
        | inl below ↦ omega (arith, leb-false s.base i below)
        | inr past ↦ omega (arith, leb-false i (length s.path) past)
      ],
    )
  ]

  -- a point that matches has the hash of the path there
  pub matches_is : (p : Point) → matches link s p ≡ true → (p.index ≤ length s.path) × (chain link (take p.index s.path) ≡ p.hash)
  matches_is p b = elim (hash_cases p.index) [
    | inl h ↦ (h.2, same_hash_is (chain link (take p.index s.path)) p.hash (ap (λ o. is_hash o p.hash) (sym h.0) ∙ b))
    | inr h ↦ absurd (let no : false ≡ true = ap (λ o. is_hash o p.hash) (sym h.0) ∙ b in cc)
  ]

  -- a point differs here, or what is later decides and the point has the path's own hash
  abbrev pub Differs : Point → Option Difference → Type 0
  Differs p later =
      ((p.index ≤ length s.path) × (differing (hash_at link s p.index) p later ≡ Some (p.index, chain link (take p.index s.path), p.hash)))
      ⊎ ((differing (hash_at link s p.index) p later ≡ later) × (s.base ≤ p.index → p.index ≤ length s.path → chain link (take p.index s.path) ≡ p.hash))

  pub differs_cases : (p : Point) (later : Option Difference) → Differs p later
  differs_cases p later = elim (hash_cases p.index) [
    | inl h ↦ elim (cases_Bool (same_hash (chain link (take p.index s.path)) p.hash)) [
      | inl same ↦ inr (ap (λ o. differing o p later) h.0 ∙ cond-true _ _ _ same, λ base fits. same_hash_is (chain link (take p.index s.path)) p.hash same)
      | inr other ↦ inl (h.2, ap (λ o. differing o p later) h.0 ∙ cond-false _ _ _ other)
    ]
    | inr h ↦ inr (ap (λ o. differing o p later) h.0, λ base fits. absurd (h.1 base fits))
  ]

  -- at each index either the two have one hash, or a difference was found by then
  abbrev pub AgreeAt : Path → ℕ → Option Difference → Type 0
  AgreeAt path k found = (chain link (take k s.path) ≡ chain link (take k path)) ⊎ ((d : Difference) × (found ≡ Some d) × (d.0 ≤ k))

  pub agree_until : (path : Path) (i : ℕ) (h : Hash) (es : Path) → i ≤ length path → h ≡ chain link (take i path) → drop i path ≡ es → (k : ℕ) → i ≤ k → k ≤ length path → s.base ≤ k → k ≤ length s.path → AgreeAt path k (first_difference link s (points_from link i h es))
  agree_until path i h [] le is rest k from upto base fits =
      let here : k ≡ i = omega (arith, length-drop i path, ap length rest) in
      elim (differs_cases (record { index = i; hash = h }) None) [
        | inl found ↦ inr ((i, chain link (take i s.path), h), found.1, from)
        | inr same ↦ inl (rw here (same.1 (omega arith) (omega arith) ∙ is))
      ]
  agree_until path i h (e ∷ es) le is rest k from upto base fits =
      let step = take_step i path e es rest in
      let more : Option Difference = first_difference link s (points_from link (i + 1) (link h (i + 1) e) es) in
      elim (differs_cases (record { index = i; hash = h }) more) [
        | inl found ↦ inr ((i, chain link (take i s.path), h), found.1, from)
        | inr same ↦ elim (cases_eq k i) [
          | inl here ↦ inl (rw here (same.1 (omega arith) (omega arith) ∙ is))
          | inr further ↦
              let next : link h (i + 1) e ≡ chain link (take (i + 1) path) =
              ap (λ x. link x (i + 1) e) is ∙ (ap (λ x. link (chain link (take i path)) (x + 1) e) (sym (length-take-le i path le)) ∙ (sym (chain-push link (take i path) e) ∙ ap (chain link) (sym step.0))) in
              elim (agree_until path (i + 1) (link h (i + 1) e) es (omega (arith, step.2)) next step.1 k (omega (arith, further)) upto base fits) [
                | inl agrees ↦ inl agrees
                | inr found ↦ inr (found.0, same.0 ∙ found.1, found.2)
              ]
        ]
      ]

  -- where a difference was found
  pub found_within : (i : ℕ) (h : Hash) (es : Path) (d : Difference) → first_difference link s (points_from link i h es) ≡ Some d → (i ≤ d.0) × (d.0 ≤ length s.path) × (d.0 ≤ i + length es)
  found_within i h [] d is = elim (differs_cases (record { index = i; hash = h }) None) [
    | inl found ↦
        let place : i ≡ d.0 = ap (λ (x : Difference). x.0) (same_Some (i, chain link (take i s.path), h) d (sym found.1 ∙ is)) in
        (omega arith, omega (arith, found.0), omega arith)
    | inr same ↦ absurd (none-some d (sym same.0 ∙ is))
  ]
  found_within i h (e ∷ es) d is =
      let more : Option Difference = first_difference link s (points_from link (i + 1) (link h (i + 1) e) es) in
      elim (differs_cases (record { index = i; hash = h }) more) [
        | inl found ↦
            let place : i ≡ d.0 = ap (λ (x : Difference). x.0) (same_Some (i, chain link (take i s.path), h) d (sym found.1 ∙ is)) in
            (omega arith, omega (arith, found.0), omega arith)
        | inr same ↦
            let r = found_within (i + 1) (link h (i + 1) e) es d (sym same.0 ∙ is) in
            (omega (arith, r.0), r.1, omega (arith, r.2))
      ]

  module _ (Held : Path → Type 0) (none : NoCollisionIn link Held) (closed : (p w : Path) → IsFrontOf p w → Held w → Held p) (held : Held s.path) (path : Path) (theirs : Held path) where
    -- one hash, one front
    pub same_fronts : (k : ℕ) → k ≤ length s.path → k ≤ length path → chain link (take k s.path) ≡ chain link (take k path) → take k s.path ≡ take k path
    same_fronts k a b same = same_points link Held none closed k (take k s.path) (take k path) (length-take-le k s.path a) (length-take-le k path b) (closed (take k s.path) s.path (front k s.path) held) (closed (take k path) path (front k path) theirs) same

    pub rejoined : (k prev : ℕ) → prev ≤ k → take k s.path ≡ take k path → take k s.path ++ drop (k - prev) (drop prev path) ≡ path
    rejoined k prev le mine =
        let far : prev + (k - prev) ≡ k = omega arith in
        ap (λ y. take k s.path ++ y) (drop-drop (k - prev) prev path ∙ ap (λ i. drop i path) far) ∙ (ap (λ y. y ++ drop k path) mine ∙ take-append-drop k path)

    shorter_same : (k n : ℕ) → k ≤ n → take n s.path ≡ take n path → take k path ≡ take k s.path
    shorter_same k n le mine = sym (take-take k n path le) ∙ (ap (take k) (sym mine) ∙ take-take k n s.path le)

    pub grafts : (from promise commit : ℕ) (prev : Point) (r : Option Difference) → prev.index ≤ length path → prev.hash ≡ chain link (take prev.index path) → s.base ≤ s.promised → s.promised ≤ length s.path → first_difference link s (points_from link prev.index prev.hash (drop prev.index path)) ≡ r → IsCalm s r → refusal_hint s r (record { from = from; prev = prev; entries = drop prev.index path; promise = promise; commit = commit }) ≡ None → Grafts s path (take (kept_length s.path r) s.path ++ drop (kept_length s.path r - prev.index) (drop prev.index path))
    grafts from promise commit prev r le hash_is base fits is calm near =
        let tests = hint_none r near in
        grafts_at prev r le hash_is base fits is calm tests.0 tests.1 tests.2
      where
        hint_none : (r : Option Difference) → refusal_hint s r (record { from = from; prev = prev; entries = drop prev.index path; promise = promise; commit = commit }) ≡ None → (prev.index ≤ length s.path) × (differs_at r prev.index ≡ false) × (s.base ≤ prev.index + length (drop prev.index path))
        hint_none r near = elim (cases_Bool (nat_lt (length s.path) prev.index)) [
          | inl above ↦ absurd (none-some (length s.path) (sym near ∙ cond-true _ _ _ above))
          | inr within ↦
              let rest = sym (cond-false _ (Some (length s.path)) (cond (differs_at r prev.index || nat_lt (prev.index + length (drop prev.index path)) s.base) (Some s.promised) None) within) ∙ near in
              elim (cases_Bool (differs_at r prev.index || nat_lt (prev.index + length (drop prev.index path)) s.base)) [
                | inl bad ↦ absurd (none-some s.promised (sym rest ∙ cond-true _ _ _ bad))
                | inr good ↦
                    let parts = or_parts (differs_at r prev.index) (nat_lt (prev.index + length (drop prev.index path)) s.base) good in
                    (ltb-false _ _ within, parts.0, ltb-false _ _ parts.1)
              ]
        ]

        grafts_at : (prev : Point) (r : Option Difference) → prev.index ≤ length path → prev.hash ≡ chain link (take prev.index path) → s.base ≤ s.promised → s.promised ≤ length s.path → first_difference link s (points_from link prev.index prev.hash (drop prev.index path)) ≡ r → IsCalm s r → prev.index ≤ length s.path → differs_at r prev.index ≡ false → s.base ≤ prev.index + length (drop prev.index path) → Grafts s path (take (kept_length s.path r) s.path ++ drop (kept_length s.path r - prev.index) (drop prev.index path))
        grafts_at prev None le hash_is base fits is calm in_path apart above =
            let total : prev.index + length (drop prev.index path) ≡ length path = omega (arith, length-drop prev.index path) in
            elim (cases_lt (length s.path) (length path)) [
              | inl shorter ↦ elim (agree_until path prev.index prev.hash (drop prev.index path) le hash_is refl (length s.path) in_path (omega arith) (omega arith) (omega arith)) [
                | inl same ↦
                    let mine : take (length s.path) s.path ≡ take (length s.path) path = same_fronts (length s.path) (omega arith) (omega arith) same in
                    inr (rejoined (length s.path) prev.index in_path mine, shorter_same s.promised (length s.path) fits mine, omega arith)
                | inr found ↦ absurd (none-some found.0 (sym is ∙ found.1))
              ]
              | inr longer ↦ elim (agree_until path prev.index prev.hash (drop prev.index path) le hash_is refl (length path) le (omega arith) (omega arith) (omega arith)) [
                | inl same ↦
                    let nothing : drop (length s.path - prev.index) (drop prev.index path) ≡ [] = drop_all (length s.path - prev.index) (drop prev.index path) (omega (arith, total)) in
                    inl (
                      ap (λ y. take (length s.path) s.path ++ y) nothing ∙ (append-nil (take (length s.path) s.path) ∙ take_all (length s.path) s.path (omega arith)),
                      same_fronts (length path) longer (omega arith) same ∙ take_all (length path) path (omega arith),
                      longer,
                    )
                | inr found ↦ absurd (none-some found.0 (sym is ∙ found.1))
              ]
            ]
        grafts_at prev (Some d) le hash_is base fits is calm in_path apart above =
            let above_promise : s.promised < d.0 = leb-false d.0 s.promised calm in
            let within = found_within prev.index prev.hash (drop prev.index path) d is in
            let from = within.0 in
            let in_mine = within.1 in
            let in_theirs = within.2 in
            let other : d.0 ≡ prev.index → ⊥ = eqb-false d.0 prev.index apart in
            let after : prev.index < d.0 = elim (cases_lt prev.index d.0) [ inl lt ↦ lt | inr ge ↦ absurd (other (omega arith)) ] in
            let total : prev.index + length (drop prev.index path) ≡ length path = omega (arith, length-drop prev.index path) in
            elim (agree_until path prev.index prev.hash (drop prev.index path) le hash_is refl (d.0 - 1) (omega arith) (omega arith) (omega arith) (omega arith)) [
              | inl same ↦
                  let mine : take (d.0 - 1) s.path ≡ take (d.0 - 1) path = same_fronts (d.0 - 1) (omega arith) (omega arith) same in
                  inr (rejoined (d.0 - 1) prev.index (omega arith) mine, shorter_same s.promised (d.0 - 1) (omega arith) mine, omega arith)
              | inr found ↦
                  let place : d.0 ≡ found.0.0 = ap (λ (x : Difference). x.0) (same_Some d found.0 (sym is ∙ found.1)) in
                  let upto = found.2 in
                  absurd (omega arith)
            ]
