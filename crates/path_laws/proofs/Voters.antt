-- Which voters were counted: of an election and of what is chosen.
use Rattle.std.proofs.Common.{◌≡◌, ℕ, ◌+◌, ◌-◌, ◌<◌, ◌≤◌, ◌==◌, Bool, true, false, ◌||◌, nat_le, inl, inr, [], ◌∷◌, ◌++◌, length, take, drop, count_by, refl, sym, ap, ◌∙◌, subst, append_assoc, length-append, arith}
use Rattle.std.proofs.lemmas.Bool.{and_parts, or_cases, leb-true, eqb-true, cases_Bool}
use Rattle.std.proofs.lemmas.List.{append-nil, take-append-drop, length-take-le, length_push}
use Rattle.values.specs.declared.entry.LogEntry.{LogEntry}
use Rattle.replica_model.specs.Path.{Path}
use Rattle.group_quorum.specs.Conf.{Conf, Met, met, quorum_of}
use Rattle.replica_model.specs.Configs.{is_members, changed_by, conf, conf_index, older_conf}
use Rattle.group_model.specs.Log.{IsFrontOf}
use Rattle.agreement.proofs.Places.{has_members, conf_plain, last_at, first_members, take_before, take_upto, take_front}
use Rattle.replica_model.proofs.Paths.{conf-append}
use Rattle.agreement.proofs.Fronts.{begins, first_of_front}
use Rattle.path_machine.proofs.Fronts.{front_of, front_long}
use Rattle.path_machine.specs.Node.{Node, Accepted, is_candidate, elects, mark}
use Rattle.replica_model.specs.Enough.{is_enough}
use Rattle.path_machine.specs.Machine.{History, In, Chosen}
use Rattle.path_machine.specs.Changes.{Overlap}
use Rattle.path_machine.proofs.Completeness.{overlap_same}
use Rattle.path_machine.proofs.Good.{Settled, Sealed, Known, HasAccepted, Elected, Fixed, below, Leads, GoodNode}
use Rattle.path_machine.proofs.Grow.{Grows, accepted_more}
use Rattle.path_laws.proofs.Local.{sealed_below, sealed_front}

some_settled : (h : History) (b : ℕ) (u : Path) (e : LogEntry) → Sealed h b (u ++ e ∷ []) → Settled h b (u ++ e ∷ [])
some_settled h b u e (inr s) = s
some_settled h b u e (inl none) = absurd (let long : length (u ++ e ∷ []) ≡ 0 = ap length none in omega (arith, long, length_push u e))

-- the rest of a path up to its first Members entry, at a place c
module _ (first : Conf) (h : History) (b : ℕ) where
  -- each Members entry of a known path but the last is settled
  pub members_settled : (p u : Path) (e : LogEntry) (z : Path) → Known first h b p → u ++ e ∷ z ≡ p → is_members e.body ≡ true → has_members z ≡ true → Settled h b (u ++ e ∷ [])
  members_settled p u e z known is m some = elim (first_members z) [
    | inl none ↦ absurd (let apart : true ≡ false = sym some ∙ none in cc)
    | inr f ↦
        let c : Path = u ++ e ∷ f.front in
        let whole : c ++ f.entry ∷ f.rest ≡ p = append_assoc u (e ∷ f.front) (f.entry ∷ f.rest) ∙ (ap (λ y. u ++ e ∷ y) (sym f.is) ∙ is) in
        let place = known c f.entry f.rest whole in
        let last : conf_index c ≡ length u + 1 = last_at u e f.front m f.plain in
        let upto : take (conf_index c) c ≡ u ++ e ∷ [] = ap (λ k. take k c) last ∙ take_upto u e f.front in
        let lt : f.entry.term < b = place.0 in
        some_settled h b u e (subst (Sealed h b) upto (sealed_below first h (f.entry.term + 1) b (take (conf_index c) c) (omega arith) (place.1.older f.members)))
  ]

  first_settled : (c : Path) (a : LogEntry) (r u : Path) (p : Path) → c ++ a ∷ r ≡ p → IsFrontOf u p → length c + 1 ≤ length u → Settled h b u → Settled h b (c ++ a ∷ [])
  first_settled c a r u p is pre le s =
      let mine : IsFrontOf (c ++ a ∷ []) p = subst (IsFrontOf (c ++ a ∷ [])) is (first_of_front c a r) in
      record { term = s.term; path = s.path; below = s.below; chosen = s.chosen; front = begins (c ++ a ∷ []) u s.path (front_long (c ++ a ∷ []) u p mine pre (omega (arith, length_push c a))) s.front }

front_conf : (first : Conf) (c f : Path) → has_members f ≡ false → conf first (c ++ f) ≡ conf first c
front_conf first c f plain = conf-append first c f ∙ conf_plain (conf first c) f plain

-- a candidate that may lead is elected
pub candidate_elected : (first : Conf) (h : History) (v : ℕ) (s : Node) → GoodNode first h v s → is_candidate s.role ≡ true → elects first s ≡ true → below s ≡ s.term → Elected first h s.term s.path s.votes
candidate_elected first h v s good so wins bound c [] is =
    let parts = and_parts (met (conf first s.path) s.votes) (nat_le (conf_index s.path) s.committed || met (older_conf first s.path) s.votes) wins in
    let same : s.path ≡ c = sym is ∙ append-nil c in
    inl (subst (λ y. quorum_of (conf first y) ≤ count_by s.votes (conf first y).voters) same (leb-true (quorum_of (conf first s.path)) (count_by s.votes (conf first s.path).voters) parts.0))
candidate_elected first h v s good so wins bound c (a ∷ r) is = elim (first_members (a ∷ r)) [
  | inl none ↦ inl (subst (λ y. quorum_of y ≤ count_by s.votes y.voters) (sym (ap (conf first) is) ∙ front_conf first c (a ∷ r) none) (leb-true (quorum_of (conf first s.path)) (count_by s.votes (conf first s.path).voters) parts.0))
  | inr f ↦
      let u : Path = c ++ f.front in
      let whole : u ++ f.entry ∷ f.rest ≡ s.path = append_assoc c f.front (f.entry ∷ f.rest) ∙ (ap (λ y. c ++ y) (sym f.is) ∙ is) in
      let upto : IsFrontOf (u ++ f.entry ∷ []) s.path = subst (IsFrontOf (u ++ f.entry ∷ [])) whole (first_of_front u f.entry f.rest) in
      let long : length c + 1 ≤ length (u ++ f.entry ∷ []) = omega (arith, length_push u f.entry, length-append c f.front) in
      elim (cases_Bool (has_members f.rest)) [
        | inl some ↦ inr (
          a,
          r,
          refl,
          first_settled first h s.term c a r (u ++ f.entry ∷ []) s.path is upto long
              (members_settled first h s.term s.path u f.entry f.rest (subst (λ b. Known first h b s.path) bound good.known) whole f.members some),
        )
        | inr none ↦
            let place : conf_index s.path ≡ length u + 1 = sym (ap conf_index whole) ∙ last_at u f.entry f.rest f.members none in
            elim (or_cases (nat_le (conf_index s.path) s.committed) (met (older_conf first s.path) s.votes) parts.1) [
              | inl old ↦
                  let le : conf_index s.path ≤ s.committed = leb-true (conf_index s.path) s.committed old in
                  let is' : take (conf_index s.path) s.path ≡ u ++ f.entry ∷ [] =
                  ap (λ k. take k s.path) place ∙ subst (λ y. take (length u + 1) y ≡ u ++ f.entry ∷ []) whole (take_upto u f.entry f.rest) in
                  let front : IsFrontOf (u ++ f.entry ∷ []) (take s.promised s.path) = subst (λ y. IsFrontOf y (take s.promised s.path)) is' (take_front (conf_index s.path) s.promised s.path (omega (arith, le, good.within))) in
                  let sealed : Sealed h s.term (take s.promised s.path) = subst (λ b. Sealed h b (take s.promised s.path)) bound good.settled in
                  inr (a, r, refl, first_settled first h s.term c a r (u ++ f.entry ∷ []) s.path is upto long (some_settled h s.term u f.entry (sealed_front h s.term (u ++ f.entry ∷ []) (take s.promised s.path) front sealed)))
              | inr most ↦
                  let before : conf_index s.path - 1 ≡ length u = omega (arith, place) in
                  let is' : take (conf_index s.path - 1) s.path ≡ u = ap (λ k. take k s.path) before ∙ subst (λ y. take (length u) y ≡ u) whole (take_before u f.entry f.rest) in
                  inl (subst (λ y. quorum_of y ≤ count_by s.votes y.voters) (ap (conf first) is' ∙ front_conf first c f.front f.plain) (leb-true (quorum_of (older_conf first s.path)) (count_by s.votes (older_conf first s.path).voters) most))
            ]
      ]
]
  where
    parts : (met (conf first s.path) s.votes ≡ true) × ((nat_le (conf_index s.path) s.committed || met (older_conf first s.path) s.votes) ≡ true)
    parts = and_parts (met (conf first s.path) s.votes) (nat_le (conf_index s.path) s.committed || met (older_conf first s.path) s.votes) wins

-- who has a mark of k accepted the first k entries
pub mark_accepted : (h : History) (v : ℕ) (s : Node) → Leads h v s → (u k : ℕ) → 0 < k → k ≤ mark v s u → HasAccepted h u s.term (take k s.path)
mark_accepted h v s l u k some le = elim (cases_Bool (u == v)) [
  | inl own ↦ (s.path, subst (λ y. In (Accepted s.term y s.path) h.messages) (sym (eqb-true u v own)) l.own, front_of k s.path)
  | inr other ↦ l.marks u k (rw other at le) some
]

-- each place of what a leader may promise is fixed
pub chosen_fixed : (first : Conf) (h g : History) (v : ℕ) (s : Node) (i : ℕ) → Grows h g → Known first h (s.term + 1) s.path → Leads h v s → 0 < i → i ≤ length s.path → is_enough first s.path i (mark v s) s.committed ≡ true
    → Chosen g s.term (take i s.path)
    → ((p : Path) → Settled h (s.term + 1) p → (c : Path) (a : LogEntry) → IsFrontOf (c ++ a ∷ []) p → Fixed first g s.term c a)
    → (c : Path) (a : LogEntry) (r : Path) → c ++ a ∷ r ≡ take i s.path → Fixed first g s.term c a
chosen_fixed first h g v s i grows known l some le wins chosen older c a r is = elim (first_members (a ∷ r)) [
  | inl none ↦ fixed_by (conf first c) (overlap_same (conf first c)) (subst (λ y. quorum_of y ≤ count_by who y.voters) (sym (ap (conf first) is) ∙ front_conf first c (a ∷ r) none) most)
  | inr f ↦
      let u : Path = c ++ f.front in
      let whole : u ++ f.entry ∷ f.rest ≡ q = append_assoc c f.front (f.entry ∷ f.rest) ∙ (ap (λ y. c ++ y) (sym f.is) ∙ is) in
      let up : u ++ f.entry ∷ (f.rest ++ drop i s.path) ≡ s.path =
      sym (append_assoc u (f.entry ∷ f.rest) (drop i s.path)) ∙ (ap (λ y. y ++ drop i s.path) whole ∙ take-append-drop i s.path) in
      elim (cases_Bool (has_members f.rest)) [
        | inl more ↦
            let s1 : Settled h (s.term + 1) (u ++ f.entry ∷ []) = members_settled first h (s.term + 1) q u f.entry f.rest known_q whole f.members more in
            let upto : IsFrontOf (u ++ f.entry ∷ []) q = subst (IsFrontOf (u ++ f.entry ∷ [])) whole (first_of_front u f.entry f.rest) in
            let mine : IsFrontOf (c ++ a ∷ []) q = subst (IsFrontOf (c ++ a ∷ [])) is (first_of_front c a r) in
            older (u ++ f.entry ∷ []) s1 c a (front_long (c ++ a ∷ []) (u ++ f.entry ∷ []) q mine upto (omega (arith, length_push c a, length_push u f.entry, length-append c f.front)))
        | inr none ↦
            let conf_u : conf first u ≡ conf first c = front_conf first c f.front f.plain in
            let conf_q : conf first q ≡ changed_by (conf first u) f.entry.body =
            sym (ap (conf first) whole) ∙ (conf-append first u (f.entry ∷ f.rest) ∙ conf_plain (changed_by (conf first u) f.entry.body) f.rest none) in
            let near : Overlap (conf first u) (changed_by (conf first u) f.entry.body) = (known u f.entry (f.rest ++ drop i s.path) up).1.near in
            fixed_by (conf first q) (subst (λ y. Overlap y (conf first q)) conf_u (subst (Overlap (conf first u)) (sym conf_q) near)) most
      ]
]
  where
    q : Path
    q = take i s.path

    long : length q ≡ i
    long = length-take-le i s.path le

    who : ℕ → Bool
    who u = nat_le (length q) (mark v s u)

    most : quorum_of (conf first q) ≤ count_by who (conf first q).voters
    most = leb-true (quorum_of (conf first q)) (count_by who (conf first q).voters) (and_parts (met (conf first q) who) (nat_le (conf_index q) s.committed || met (older_conf first q) (λ u. nat_le (conf_index q) (mark v s u))) wins).0

    known_q : Known first h (s.term + 1) q
    known_q x b y at = known x b (y ++ drop i s.path) (sym (append_assoc x (b ∷ y) (drop i s.path)) ∙ (ap (λ z. z ++ drop i s.path) at ∙ take-append-drop i s.path))

    fixed_by : (config : Conf) → Overlap (conf first c) config → Met config who → Fixed first g s.term c a
    fixed_by config near enough' = record {
      settled = record { term = s.term; path = q; below = omega arith; chosen = chosen; front = subst (IsFrontOf (c ++ a ∷ [])) is (first_of_front c a r) };
      config = config;
      near = near;
      who = who;
      each = λ u at.
          let a' : HasAccepted h u s.term q = mark_accepted h v s l u i some (let m : length q ≤ mark v s u = leb-true (length q) (mark v s u) at in omega (arith, m, long)) in
          accepted_more first h g grows u s.term q a';
      enough = enough';
    }
