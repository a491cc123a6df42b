-- One replica goes on and sends messages; no reign changes.
use Rattle.std.proofs.Common.{◌≡◌, ℕ, ◌+◌, ◌<◌, ◌≤◌, ◌==◌, true, ◌⊎◌, inl, inr, Some, List, [], ◌∷◌, ◌++◌, length, take, min, refl, sym, ◌∙◌, subst, arith}
use Rattle.std.proofs.lemmas.Bool.{eqb-true, eqb-false, cond-true, cond-false, cases_Bool}
use Rattle.replica_model.specs.Path.{Path}
use Rattle.group_quorum.specs.Conf.{Conf}
use Rattle.group_model.specs.Log.{IsFrontOf}
use Rattle.path_machine.specs.Node.{Node, Message, AskVote, Vote, Append, Accepted, Part, Outcome, with_value, is_candidate}
use Rattle.path_machine.specs.Machine.{History, Machine, In, moved, sends}
use Rattle.path_machine.proofs.Good.{ledger, Known, HasAccepted, Safe, Newer, OfLeader, GoodMessage, GoodHistory, Fits, GoodNode, Kept}
use Rattle.path_machine.proofs.Fronts.{front_refl}
use Rattle.path_machine.proofs.Grow.{Grows, known_more, sealed_more, leader_more, lead_more, history_more, fits_more, node_more}

pub in_append : {A : Type 0} (x : A) (xs ys : List A) → In x (xs ++ ys) → In x xs ⊎ In x ys
in_append x [] ys h = inr h
in_append x (y ∷ xs) ys (inl h) = inl (inl h)
in_append x (y ∷ xs) ys (inr h) = elim (in_append x xs ys h) [ inl a ↦ inl (inr a) | inr b ↦ inr b ]

pub in_right : {A : Type 0} (x : A) (xs ys : List A) → In x ys → In x (xs ++ ys)
in_right x [] ys h = h
in_right x (y ∷ xs) ys h = inr (in_right x xs ys h)

pub in_left : {A : Type 0} (x : A) (xs ys : List A) → In x xs → In x (xs ++ ys)
in_left x [] ys h = absurd h
in_left x (y ∷ xs) ys (inl h) = inl h
in_left x (y ∷ xs) ys (inr h) = inr (in_left x xs ys h)

pub value_cases : {A : Type 0} (f : ℕ → A) (k : ℕ) (x : A) (i : ℕ) → ((i ≡ k) × (with_value f k x i ≡ x)) ⊎ ((i ≡ k → ⊥) × (with_value f k x i ≡ f i))
value_cases f k x i = elim (cases_Bool (i == k)) [
  | inl is ↦ inl (eqb-true i k is, cond-true (i == k) x (f i) is)
  | inr other ↦ inr (eqb-false i k other, cond-false (i == k) x (f i) other)
]

pub some_same : {A : Type 0} (x y : A) → Some x ≡ Some y → x ≡ y
some_same x y h = cc

-- how a replica goes on
pub record Follows (h : History) (v : ℕ) (s t : Node) : Type 0 where
  pub term : s.term ≤ t.term
  pub vote : s.term ≡ t.term → (c : ℕ) → s.vote ≡ Some c → t.vote ≡ Some c
  pub stands : s.term ≡ t.term → is_candidate t.role ≡ true → (is_candidate s.role ≡ true) × (t.path ≡ s.path)
  pub path : (n : ℕ) (x p : Path) → In (Accepted n v p) h.messages → n ≤ s.term → IsFrontOf x p → Safe h n x (t.term + 1) → IsFrontOf x s.path → IsFrontOf x t.path

pub stays_path : (h : History) (v : ℕ) (s t : Node) → t.path ≡ s.path → (n : ℕ) (x p : Path) → In (Accepted n v p) h.messages → n ≤ s.term → IsFrontOf x p → Safe h n x (t.term + 1) → IsFrontOf x s.path → IsFrontOf x t.path
stays_path h v s t same n x p is le front safe pre = subst (IsFrontOf x) (sym same) pre

-- of what the replica sends
abbrev pub From : Conf → History → History → ℕ → Node → Node → Message → Type 0
From first h g v s t (AskVote n u q) = (u ≡ v) × Known first h n q
From first h g v s t (Vote n u c q) =
    (u ≡ v)
    × (s.term ≤ n)
    × ((d : ℕ) → n ≡ s.term → s.vote ≡ Some d → d ≡ c)
    × (t.vote ≡ Some c)
    × ((c ≡ v) ⊎ In (AskVote n c q) h.messages)
    × Newer g v n (n + 1) q
From first h g v s t (Append n p promise commit) = GoodMessage first h (Append n p promise commit)
From first h g v s t (Accepted n u p) = (u ≡ v) × (n ≡ s.term) × OfLeader h n p
From first h g v s t (Part n p) = GoodMessage first h (Part n p)

module _ (first : Conf) (h : History) (v : ℕ) where
  asks_step : (s t : Node) (n : ℕ) (q : Path) → Follows h v s t → ((n ≤ s.term) × (n ≡ s.term → is_candidate s.role ≡ true → s.path ≡ q)) → (n ≤ t.term) × (n ≡ t.term → is_candidate t.role ≡ true → t.path ≡ q)
  asks_step s t n q f old = (
    let le = old.0 in omega (arith, f.term),
    λ same stands.
        let le = old.0 in
        let was : s.term ≡ t.term = omega (arith, f.term, same) in
        let now = f.stands was stands in
        now.1 ∙ old.1 (same ∙ sym was) now.0,
  )

  -- what was said of the replica still fits
  pub fits_step : (s t : Node) → Follows h v s t → (m : Message) → In m h.messages → Fits h v s m → Fits h v t m
  fits_step s t f (AskVote n u q) is old = λ me. asks_step s t n q f (old me)
  fits_step s t f (Vote n u c q) is old = (
    λ me.
        let o = old.0 me in (
          let le = o.0 in omega (arith, f.term),
          λ same.
              let le = o.0 in
              let was : s.term ≡ t.term = omega (arith, f.term, same) in
              f.vote was c (o.1 (same ∙ sym was)),
        ),
    λ me. asks_step s t n q f (old.1 me),
  )
  fits_step s t f (Append n p promise commit) is old = tt
  fits_step s t f (Accepted n u p) is old = λ me.
      let o = old me in (
        let le = o.0 in omega (arith, f.term),
        λ x pre safe.
            f.path n x p (subst (λ y. In (Accepted n y p) h.messages) me is) o.0 pre safe (o.1 x pre (λ k r gt lt at. safe k r gt (omega (arith, f.term)) at)),
      )
  fits_step s t f (Part n p) is old = tt

module _ (first : Conf) (w : Machine) (v : ℕ) where
  pub sends_grows : (sent : List Message) → Grows w.history (sends w.history sent)
  sends_grows sent = record {
    reigns = λ t r is. (r, is, record { leader = refl; base = refl; who = refl; longer = front_refl (ledger r) });
    chosen = λ t p is. is;
    messages = λ m is. in_right m sent w.history.messages is;
  }

  -- a replica goes on, the others stay good
  pub step_kept : (s : Node) (g : History) → Grows w.history g → Kept first w → GoodHistory first g → GoodNode first g v s
      → ((u : ℕ) (t : Node) → (u ≡ v → ⊥) → GoodNode first w.history u t → GoodNode first g u t)
      → Kept first (record { nodes = with_value w.nodes v (Some s); history = g; leads = w.leads; held = w.held })
  step_kept s g grows k good mine others = record {
    history = good;
    nodes = λ u t is. elim (value_cases w.nodes v (Some s) u) [
      | inl here ↦
          let same : s ≡ t = some_same s t (sym here.1 ∙ is) in
          subst (λ x. GoodNode first g u x) same (subst (λ y. GoodNode first g y s) (sym here.0) mine)
      | inr other ↦ others u t other.0 (k.nodes u t (sym other.1 ∙ is))
    ];
    leads = λ l at. lead_more first w.history g grows l (k.leads l at);
    held = λ p at. let o = k.held p at in (o.0, known_more first w.history g grows o.0 o.0 p (omega arith) o.1);
  }

  module _ (s : Node) (out : Outcome) (k : Kept first w) (is : w.nodes v ≡ Some s)
      (from : (m : Message) → In m out.sent → From first w.history (sends w.history out.sent) v s out.node m) where
    abbrev g : History
    g = sends w.history out.sent

    abbrev grows : Grows w.history g
    grows = sends_grows out.sent

    old_vote : (n c : ℕ) (q : Path) → In (Vote n v c q) w.history.messages → (n ≤ s.term) × (n ≡ s.term → s.vote ≡ Some c)
    old_vote n c q at = ((k.nodes v s is).says (Vote n v c q) at).0 refl

    keep : (n u c : ℕ) (q : Path) → In (Vote n u c q) w.history.messages → (t1 : ℕ) (p : Path) → HasAccepted g u t1 p → t1 < n → HasAccepted w.history u t1 p
    keep n u c q at t1 p acc lt = elim (in_append (Accepted t1 u acc.0) out.sent w.history.messages acc.1) [
      | inl new ↦
          let f = from (Accepted t1 u acc.0) new in
          let o = old_vote n c q (subst (λ y. In (Vote n y c q) w.history.messages) f.0 at) in
          absurd (let le = o.0 in let same = f.1 in omega arith)
      | inr old ↦ (acc.0, old, acc.2)
    ]

    new_good : (m : Message) → In m out.sent → From first w.history g v s out.node m → GoodMessage first g m
    new_good (AskVote n u q) at f = known_more first w.history g grows n n q (omega arith) f.1
    new_good (Vote n u c q) at f = subst (λ y. Newer g y n (n + 1) q) (sym f.0) f.5
    new_good (Append n p promise commit) at f = (leader_more first w.history g grows n p f.0, sealed_more first w.history g grows (n + 1) (n + 1) (take (min promise (length p)) p) (omega arith) f.1)
    new_good (Accepted n u p) at f = leader_more first w.history g grows n p f.2
    new_good (Part n p) at f = (known_more first w.history g grows (n + 1) (n + 1) p (omega arith) f.0, sealed_more first w.history g grows (n + 1) (n + 1) p (omega arith) f.1)

    old_new : (n u c d : ℕ) (p q : Path) → In (Vote n u c p) w.history.messages → In (Vote n u d q) out.sent → c ≡ d
    old_new n u c d p q old new =
        let f = from (Vote n u d q) new in
        let o = old_vote n c p (subst (λ y. In (Vote n y c p) w.history.messages) f.0 old) in
        let same : n ≡ s.term = (let le = o.0 in let ge = f.1 in omega arith) in
        f.2 c same (o.1 same)

    once : (n u c d : ℕ) (p q : Path) → In (Vote n u c p) g.messages → In (Vote n u d q) g.messages → c ≡ d
    once n u c d p q a b = elim (in_append (Vote n u c p) out.sent w.history.messages a) [
      | inl new ↦ elim (in_append (Vote n u d q) out.sent w.history.messages b) [
        | inl new2 ↦ some_same c d (sym (from (Vote n u c p) new).3 ∙ (from (Vote n u d q) new2).3)
        | inr old ↦ sym (old_new n u d c q p old new)
      ]
      | inr old ↦ elim (in_append (Vote n u d q) out.sent w.history.messages b) [
        | inl new ↦ old_new n u c d p q old new
        | inr old2 ↦ k.history.once n u c d p q old old2
      ]
    ]

    other_fits : (u : ℕ) (t : Node) → (u ≡ v → ⊥) → GoodNode first w.history u t → (m : Message) → From first w.history g v s out.node m → Fits g u t m
    other_fits u t other good (AskVote n x q) f = λ me. absurd (other (sym me ∙ f.0))
    other_fits u t other good (Vote n x c q) f = (
      λ me. absurd (other (sym me ∙ f.0)),
      λ me. elim f.4 [
        | inl mine ↦ absurd (other (sym me ∙ mine))
        | inr asked ↦ good.says (AskVote n c q) asked me
      ],
    )
    other_fits u t other good (Append n p promise commit) f = tt
    other_fits u t other good (Accepted n x p) f = λ me. absurd (other (sym me ∙ f.0))
    other_fits u t other good (Part n p) f = tt

    -- v goes on to a good state and sends what it may
    pub sent_kept : GoodNode first g v out.node → Kept first (moved w v out)
    sent_kept mine =
        step_kept out.node g grows k
        (history_more first w.history g grows k.history keep
        (λ t r at. inl (r, at, record { leader = refl; base = refl; who = refl; longer = front_refl (ledger r) }, known_more first w.history g grows (t + 1) (t + 1) (ledger r) (omega arith) (k.history.reigns t r at).known))
        (λ t p at. inl at)
        (λ m at. elim (in_append m out.sent w.history.messages at) [ inl new ↦ inr (new_good m new (from m new)) | inr old ↦ inl old ])
        once)
        mine
        (λ u t other good. node_more first w.history g grows u t good (λ n r at me. at) (λ n r at me. at)
        (λ m at. elim (in_append m out.sent w.history.messages at) [ inl new ↦ inr (other_fits u t other good m (from m new)) | inr old ↦ inl old ]))

    -- what is said of the new state
    pub says_step : Follows w.history v s out.node → ((m : Message) → In m out.sent → Fits g v out.node m) → (m : Message) → In m g.messages → Fits g v out.node m
    says_step f new m at = elim (in_append m out.sent w.history.messages at) [
      | inl now ↦ new m now
      | inr old ↦ fits_more first w.history g grows v out.node m (fits_step first w.history v s out.node f m old ((k.nodes v s is).says m old))
    ]
