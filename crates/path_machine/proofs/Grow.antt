-- What is kept while the history grows.
use Rattle.std.proofs.Common.{◌≡◌, ℕ, ◌+◌, ◌<◌, ◌≤◌, Bool, true, ◌⊎◌, inl, inr, Some, [], ◌∷◌, ◌++◌, length, take, min, sym, ◌∙◌, subst, arith}
use Rattle.values.specs.declared.entry.LogEntry.{LogEntry}
use Rattle.replica_model.specs.Path.{Path}
use Rattle.group_quorum.specs.Conf.{Conf}
use Rattle.replica_model.specs.Configs.{conf_index}
use Rattle.group_model.specs.Log.{IsFrontOf}
use Rattle.agreement.proofs.Fronts.{begins}
use Rattle.path_machine.specs.Node.{Node, Message, AskVote, Vote, Append, Accepted, Part}
use Rattle.path_machine.specs.Machine.{Reign, Lead, History, In, Chosen}
use Rattle.path_machine.proofs.Good.{ledger, Settled, Sealed, Place, Known, HasAccepted, Safe, Elected, Fixed, Newer, GoodReign, GoodChoice, OfLeader, OfReign, GoodMessage, GoodHistory, below, Fits, GoodNode}

-- a reign goes on
pub record GoesOn (r s : Reign) : Type 0 where
  pub leader : s.leader ≡ r.leader
  pub base : s.base ≡ r.base
  pub who : s.who ≡ r.who
  pub longer : IsFrontOf (ledger r) (ledger s)

pub record Grows (h g : History) : Type 0 where
  pub reigns : (t : ℕ) (r : Reign) → h.reigns t ≡ Some r → (s : Reign) × (g.reigns t ≡ Some s) × GoesOn r s
  pub chosen : (t : ℕ) (p : Path) → Chosen h t p → Chosen g t p
  pub messages : (m : Message) → In m h.messages → In m g.messages

module _ (first : Conf) (h g : History) (more : Grows h g) where
  pub settled_more : (b b' : ℕ) (p : Path) → b ≤ b' → Settled h b p → Settled g b' p
  settled_more b b' p le s = record { term = s.term; path = s.path; below = let lt : s.term < b = s.below in omega arith; chosen = more.chosen s.term s.path s.chosen; front = s.front }

  pub sealed_more : (b b' : ℕ) (p : Path) → b ≤ b' → Sealed h b p → Sealed g b' p
  sealed_more b b' p le (inl none) = inl none
  sealed_more b b' p le (inr s) = inr (settled_more b b' p le s)

  pub place_more : (c : Path) (a : LogEntry) → Place first h c a → Place first g c a
  place_more c a p =
      let s = more.reigns a.term p.reign p.is in
      record {
        reign = s.0;
        is = s.1;
        after = subst (λ y. IsFrontOf y c) (sym s.2.base) p.after;
        upto = begins (c ++ a ∷ []) (ledger p.reign) (ledger s.0) p.upto s.2.longer;
        rises = p.rises;
        near = p.near;
        older = λ m. sealed_more (a.term + 1) (a.term + 1) (take (conf_index c) c) (omega arith) (p.older m);
      }

  pub known_more : (b b' : ℕ) (p : Path) → b ≤ b' → Known first h b p → Known first g b' p
  known_more b b' p le k c a r is = let old = k c a r is in let lt : a.term < b = old.0 in (omega arith, place_more c a old.1)

  pub accepted_more : (v t : ℕ) (p : Path) → HasAccepted h v t p → HasAccepted g v t p
  accepted_more v t p a = (a.0, more.messages (Accepted t v a.0) a.1, a.2)

  pub safe_less : (t : ℕ) (p : Path) (b : ℕ) → Safe g t p b → Safe h t p b
  safe_less t p b safe u r gt lt is = let s = more.reigns u r is in subst (IsFrontOf p) s.2.base (safe u s.0 gt lt s.1)

  pub newer_more : (v t b : ℕ) (q : Path) → ((t1 : ℕ) (p : Path) → HasAccepted g v t1 p → t1 < t → HasAccepted h v t1 p) → Newer h v t b q → Newer g v t b q
  newer_more v t b q old n t1 p acc last lt safe = n t1 p (old t1 p acc lt) last lt (safe_less t1 p b safe)

  pub elected_more : (t : ℕ) (q : Path) (who : ℕ → Bool) → Elected first h t q who → Elected first g t q who
  elected_more t q who e c d is = elim (e c d is) [
    | inl most ↦ inl most
    | inr o ↦ inr (o.0, o.1, o.2, settled_more t t (c ++ o.0 ∷ []) (omega arith) o.3)
  ]

  pub fixed_more : (t : ℕ) (c : Path) (a : LogEntry) → Fixed first h t c a → Fixed first g t c a
  unfolding settled_more
  fixed_more t c a f = record {
    settled = settled_more (t + 1) (t + 1) (c ++ a ∷ []) (omega arith) f.settled;
    config = f.config;
    near = f.near;
    who = f.who;
    each = λ v is. accepted_more v f.settled.term f.settled.path (f.each v is);
    enough = f.enough;
  }

  pub leader_more : (t : ℕ) (p : Path) → OfLeader h t p → OfLeader g t p
  leader_more t p o = let s = more.reigns t o.0 o.1 in (s.0, s.1, begins p (ledger o.0) (ledger s.0) o.2 s.2.longer)

  pub choice_more : (t : ℕ) (p : Path) → GoodChoice first h t p → GoodChoice first g t p
  choice_more t p o =
      let s = more.reigns t o.reign o.is in
      record {
        reign = s.0;
        is = s.1;
        front = begins p (ledger o.reign) (ledger s.0) o.front s.2.longer;
        last = o.last;
        fixed = λ c a r is. fixed_more t c a (o.fixed c a r is);
      }

  pub lead_more : (l : Lead) → OfReign h l → OfReign g l
  lead_more l o =
      let s = more.reigns l.term o.0 o.1 in
      (s.0, s.1, s.2.leader ∙ o.2, subst (λ y. IsFrontOf y l.path) (sym s.2.base) o.3)

  -- what a voter accepted below a term it voted in does not grow
  abbrev pub VotersKeep : Type 0
  VotersKeep = (t v c : ℕ) (q : Path) → In (Vote t v c q) h.messages → (t1 : ℕ) (p : Path) → HasAccepted g v t1 p → t1 < t → HasAccepted h v t1 p

  message_more : VotersKeep → (m : Message) → In m h.messages → GoodMessage first h m → GoodMessage first g m
  message_more keep (AskVote t u q) is k = known_more t t q (omega arith) k
  message_more keep (Vote t v u q) is k = newer_more v t (t + 1) q (keep t v u q is) k
  message_more keep (Append t p promise commit) is k = (leader_more t p k.0, sealed_more (t + 1) (t + 1) (take (min promise (length p)) p) (omega arith) k.1)
  message_more keep (Accepted t v p) is k = leader_more t p k
  message_more keep (Part t p) is k = (known_more (t + 1) (t + 1) p (omega arith) k.0, sealed_more (t + 1) (t + 1) p (omega arith) k.1)

  reign_more : VotersKeep → (t : ℕ) (r s : Reign) → GoodReign first h t r → GoesOn r s → Known first g (t + 1) (ledger s) → GoodReign first g t s
  reign_more keep t r s good on known =
      let voted : (v : ℕ) → s.who v ≡ true → (q : Path) × In (Vote t v r.leader q) h.messages =
      λ v is. good.voted v (subst (λ f. f v ≡ true) on.who is) in
      record {
        known = known;
        elected = subst (λ y. Elected first g t y s.who) (sym on.base) (subst (λ f. Elected first g t r.base f) (sym on.who) (elected_more t r.base r.who good.elected));
        voted = λ v is. let q = voted v is in (q.0, subst (λ l. In (Vote t v l q.0) g.messages) (sym on.leader) (more.messages (Vote t v r.leader q.0) q.1));
        newer = λ v is.
            let q = voted v is in
            subst (Newer g v t t) (sym on.base) (newer_more v t t r.base (keep t v r.leader q.0 q.1) (good.newer v (subst (λ f. f v ≡ true) on.who is)));
        began = subst (λ l. In (Accepted t l s.base) g.messages) (sym on.leader) (subst (λ y. In (Accepted t r.leader y) g.messages) (sym on.base) (more.messages (Accepted t r.leader r.base) good.began));
      }

  -- a good history stays good
  pub history_more : GoodHistory first h
      → VotersKeep
      → ((t : ℕ) (s : Reign) → g.reigns t ≡ Some s → ((r : Reign) × (h.reigns t ≡ Some r) × GoesOn r s × Known first g (t + 1) (ledger s)) ⊎ GoodReign first g t s)
      → ((t : ℕ) (p : Path) → Chosen g t p → Chosen h t p ⊎ GoodChoice first g t p)
      → ((m : Message) → In m g.messages → In m h.messages ⊎ GoodMessage first g m)
      → ((t v c d : ℕ) (p q : Path) → In (Vote t v c p) g.messages → In (Vote t v d q) g.messages → c ≡ d)
      → GoodHistory first g
  history_more good keep reigns chosen messages once = record {
    reigns = λ t s is. elim (reigns t s is) [
      | inl old ↦ reign_more keep t old.0 s (good.reigns t old.0 old.1) old.2 old.3
      | inr new ↦ new
    ];
    chosen = λ t p is. elim (chosen t p is) [ inl old ↦ choice_more t p (good.chosen t p old) | inr new ↦ new ];
    messages = λ m is. elim (messages m is) [ inl old ↦ message_more keep m old (good.messages m old) | inr new ↦ new ];
    once = once;
  }

  pub fits_more : (v : ℕ) (s : Node) (m : Message) → Fits h v s m → Fits g v s m
  fits_more v s (AskVote t u q) f = f
  fits_more v s (Vote t u c q) f = f
  fits_more v s (Append t p promise commit) f = tt
  fits_more v s (Accepted t u p) f = λ is. let old = f is in (old.0, λ x pre safe. old.1 x pre (safe_less t x (s.term + 1) safe))
  fits_more v s (Part t p) f = tt

  -- a replica that does nothing stays good
  pub node_more : (v : ℕ) (s : Node) → GoodNode first h v s
      → ((t : ℕ) (r : Reign) → h.reigns t ≡ Some r → r.leader ≡ v → g.reigns t ≡ Some r)
      → ((t : ℕ) (r : Reign) → g.reigns t ≡ Some r → r.leader ≡ v → h.reigns t ≡ Some r)
      → ((m : Message) → In m g.messages → In m h.messages ⊎ Fits g v s m)
      → GoodNode first g v s
  node_more v s k same apart messages = record {
    alive = k.alive;
    known = known_more (below s) (below s) s.path (omega arith) k.known;
    fits = k.fits;
    within = k.within;
    settled = sealed_more (below s) (below s) (take s.promised s.path) (omega arith) k.settled;
    leads = λ is.
        let l = k.leads is in
        record {
          reign = l.reign;
          is = same s.term l.reign l.is l.leader;
          leader = l.leader;
          path = l.path;
          own = more.messages (Accepted s.term v s.path) l.own;
          marks = λ u n le some. accepted_more u s.term (take n s.path) (l.marks u n le some);
          short = l.short;
        };
    stands = λ is.
        let l = k.stands is in
        record {
          votes = λ u some. more.messages (Vote s.term u v s.path) (l.votes u some);
          apart = λ r at mine. l.apart r (apart s.term r at mine) mine;
        };
    nothing = k.nothing;
    says = λ m is. elim (messages m is) [ inl old ↦ fits_more v s m (k.says m old) | inr new ↦ new ];
  }
