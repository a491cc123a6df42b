-- A leader raises: each of its moments is noted, and the two indices rise.
use Rattle.log_laws.proofs.History.{any_left, any_right}
use Rattle.std.proofs.Common.{◌≡◌, ℕ, ◌+◌, ◌-◌, ◌<◌, ◌≤◌, ◌==◌, Bool, true, false, cond, ◌&&◌, nat_lt, nat_le, max, ◌⊎◌, inl, inr, Option, Some, None, List, [], ◌∷◌, ◌++◌, length, take, refl, sym, ap, ◌∙◌, subst, arith}
use Rattle.std.proofs.lemmas.Bool.{and_parts, and_from, eqb-true, le-leb, lt-ltb}
use Rattle.std.proofs.lemmas.List.{length-take-le, take-append-le, take_all}
use Rattle.values.specs.declared.entry.Hash.{Hash}
use Rattle.group_quorum.specs.Conf.{Conf}
use Rattle.replica_model.specs.Path.{Path, Link, term_at}
use Rattle.replica_model.specs.Enough.{is_enough}
use Rattle.replica_model.specs.Replica.{Role, Leader, Leading, Replica}
use Rattle.replica_model.specs.Peers.{progress_of}
use Rattle.replica_model.specs.Call.{Call, moment}
use Rattle.replica_model.specs.Raise.{accepted_mark, may_promise, may_commit, promise_index, commit_index, promise_raised, commit_raised, raise}
use Rattle.group_model.specs.Log.{AnyByRecursion}
use Rattle.group_model.specs.Halts.{EnoughAt, HasEnough}
use Rattle.log_laws.proofs.Leading.{front}
use Rattle.log_laws.proofs.Raising.{greatest_is, greatest_to}
use Rattle.path_machine.specs.Node as node
use Rattle.path_machine.specs.Node.{Node}
use Rattle.path_machine.specs.Machine.{Choice, Machine, In, choices}
use Rattle.path_machine.specs.Changes.{is_single_change}
use Rattle.path_machine.proofs.Changes.{single_change_overlaps}
use Rattle.path_machine.proofs.Counted.{enough_more}
use Rattle.path_laws.proofs.Choosing.{choice_in, choice_of, may_parts}
use Rattle.path_laws.proofs.Goes.{later_on, goes_chosen, notes, raises, commits, reached_laws}
use Rattle.halt_laws.proofs.Alike.{node_as, VoteFits, LeadingFits, sent_more, Reach, On, At}
use Rattle.halt_laws.proofs.Onward.{known_of, here_as, Going, onward}

pub any_split : {A : Type 0} (P : A → Type 0) (xs ys : List A) → AnyByRecursion P (xs ++ ys) → AnyByRecursion P xs ⊎ AnyByRecursion P ys
any_split P [] ys h = inr h
any_split P (x ∷ xs) ys (inl h) = inl (inl h)
any_split P (x ∷ xs) ys (inr h) = elim (any_split P xs ys h) [ inl a ↦ inl (inr a) | inr b ↦ inr b ]

-- a leader beside its node
pub lead_at : (first : Conf) (holds : ℕ → Bool) (w : Machine) (v me : ℕ) (theirs : Conf) (path : Path) (base promised committed term vote : ℕ) (role : Role) (halted : Option (ℕ × Hash × Hash)) (l : Leading) → role ≡ Leader l → Reach first holds w → (voted : Option ℕ) (votes : ℕ → Bool) (marks : ℕ → ℕ) → w.nodes v ≡ Some (node_as node.Leader term path promised committed voted votes marks) → me ≡ v → 0 < v → base ≤ committed → VoteFits vote voted → theirs ≡ first → LeadingFits path committed l marks → halted ≡ None → At first holds w v me theirs path base promised committed term vote role halted
lead_at first holds w v me theirs path base promised committed term vote role halted l is reached voted votes marks here mine some based vote_is of_first known awake =
    let lead : At first holds w v me theirs path base promised committed term vote (Leader l) halted =
    record {
      reached = reached;
      voted = voted;
      votes = votes;
      marks = marks;
      here = here;
      mine = mine;
      some = some;
      based = based;
      vote_is = vote_is;
      acts = (of_first, known);
      awake = awake;
    } in
    subst (λ r. At first holds w v me theirs path base promised committed term vote r halted) (sym is) lead

module _ (first : Conf) (v : ℕ) (s : Replica) (l : Leading) (voted : Option ℕ) (votes : ℕ → Bool) (marks : ℕ → ℕ) (mine : s.me ≡ v) (theirs : s.first ≡ first) (known : LeadingFits s.path s.committed l marks) where
  -- the leader's node
  abbrev pub led_node : Node
  led_node = node_as node.Leader s.term s.path s.promised s.committed voted votes marks

  mark_le : (u : ℕ) → accepted_mark s l u ≤ node.mark v led_node u
  mark_le u = subst (λ m. cond (u == m) (length s.path) (progress_of l u).mark ≤ node.mark v led_node u) (sym mine) (both (u == v) (length s.path) (progress_of l u).mark (marks u) (known.marked u))
    where
      both : (b : Bool) (a m n : ℕ) → m ≤ n → cond b a m ≤ cond b a n
      both true a m n h = omega arith
      both false a m n h = h

  -- what the replica may promise the node may choose
  pub may_choose_it : (i : ℕ) → may_promise s l i ≡ true → 0 < i → i ≤ length s.path → node.may_choose first v led_node i ≡ true
  may_choose_it i may some fits =
      let parts = and_parts (term_at s.path i == s.term) (is_enough s.first s.path i (accepted_mark s l) s.committed) may in
      let enough : is_enough first s.path i (accepted_mark s l) s.committed ≡ true = subst (λ f. is_enough f s.path i (accepted_mark s l) s.committed ≡ true) theirs parts.1 in
      and_from (nat_lt 0 i) (nat_le i (length s.path) && ((term_at s.path i == s.term) && is_enough first s.path i (node.mark v led_node) s.committed)) (lt-ltb 0 i some)
      (and_from (nat_le i (length s.path)) ((term_at s.path i == s.term) && is_enough first s.path i (node.mark v led_node) s.committed) (le-leb i (length s.path) fits)
      (and_from (term_at s.path i == s.term) (is_enough first s.path i (node.mark v led_node) s.committed) parts.0
      (enough_more first (take i s.path) (accepted_mark s l) (node.mark v led_node) s.committed mark_le enough)))

-- what stands at an index with enough marks is enough
pub enough_there : (s : Replica) (l : Leading) (i : ℕ) (x : Choice) → s.role ≡ Leader l → 0 < i → i ≤ length s.path → may_promise s l i ≡ true → record { term = s.term; path = take i s.path } ≡ x → EnoughAt x.term x.path s
enough_there s l i x is some fits may same =
    let long : length (take i s.path) ≡ i = length-take-le i s.path fits in
    subst (λ (y : Choice). EnoughAt y.term y.path s) same
    (record {
      term = refl;
      some = omega (arith, long);
      front = front i s.path;
      enough = subst (λ r. HasEnough s r (take i s.path)) (sym is) (subst (λ k. may_promise s l k ≡ true) (sym long) may);
    })

-- and nothing else is
pub there_enough : (s : Replica) (l : Leading) (x : Choice) → s.role ≡ Leader l → EnoughAt x.term x.path s → (length x.path ≤ length s.path) × (may_promise s l (length x.path) ≡ true) × (record { term = s.term; path = take (length x.path) s.path } ≡ x)
there_enough s l x is e =
    let may : may_promise s l (length x.path) ≡ true = subst (λ r. HasEnough s r x.path) is e.enough in
    let upto : take (length x.path) s.path ≡ x.path = ap (take (length x.path)) (sym e.front.1) ∙ (take-append-le (length x.path) x.path e.front.0 (omega arith) ∙ take_all (length x.path) x.path (omega arith)) in
    let whole : length s.path ≡ length (x.path ++ e.front.0) = ap length (sym e.front.1) in
    let term : s.term ≡ x.term = e.term in
    (omega (arith, whole, Rattle.std.proofs.Common.length-append x.path e.front.0), may, λ i. record { term = term i; path = upto i })

module _ (link : Link) (first : Conf) (holds : ℕ → Bool) (Held : Path → Type 0) (w : Machine) (v : ℕ) where
  -- the leader stands at a moment
  pub noted_went : (c : Call) (l : Leading) → Going link first holds Held w v c → c.state.role ≡ Leader l → Going link first holds Held w v (moment c)
  noted_went c l f is =
      let s : Replica = c.state in
      let a = f.at in
      let known = known_of first holds f.now v s a l is in
      let n : Node = led_node first v s l a.voted a.votes a.marks a.mine known.0 known.1 in
      let g : On first holds f.now v n [] (choices first v n (may_promise s l) (length s.path)) =
      notes first is_single_change single_change_overlaps holds f.now v n a.reached (here_as first holds f.now v s a (Leader l) is) (may_promise s l) in
      record {
        now = g.machine;
        at = lead_at first holds g.machine v s.me s.first s.path s.base s.promised s.committed s.term s.vote s.role s.halted l is g.reached a.voted a.votes a.marks g.here a.mine a.some a.based a.vote_is known.0 known.1 a.awake;
        others = λ u apart. g.others u apart ∙ f.others u apart;
        later = later_on w f.now g.machine f.later g.later;
        noted = λ x h. elim (goes_chosen first is_single_change single_change_overlaps holds f.now v n [] (choices first v n (may_promise s l) (length s.path)) g x h) [
          | inl new ↦
              let o = choice_of first v n (may_promise s l) (length s.path) x new in
              let may = may_parts first v n o.0 o.2 in
              inr (any_right (EnoughAt x.term x.path) c.moments (s ∷ []) (inl (enough_there s l o.0 x is may.some may.le o.1 o.3)))
          | inr old ↦ elim (f.noted x old) [ inl before ↦ inl before | inr e ↦ inr (any_left (EnoughAt x.term x.path) c.moments (s ∷ []) e) ]
        ];
        enough = λ x h. elim (any_split (EnoughAt x.term x.path) c.moments (s ∷ []) h) [
          | inl old ↦ g.later.chosen x (f.enough x old)
          | inr new ↦ elim new [
            | inl e ↦
                let o = there_enough s l x is e in
                let some : 0 < length x.path = e.some in
                let at' = choice_in first v n (may_promise s l) (length s.path) (length x.path) o.0 some o.1 (may_choose_it first v s l a.voted a.votes a.marks a.mine known.0 known.1 (length x.path) o.1 some o.0) in
                subst (In x) (sym g.chosen) (Rattle.path_laws.proofs.Steps.in_left x (choices first v n (may_promise s l) (length s.path)) f.now.history.chosen (subst (λ y. In y (choices first v n (may_promise s l) (length s.path))) o.2 at'))
            | inr none ↦ absurd none
          ]
        ];
        told = λ held. sent_more link first Held Held (λ p h. h) f.now.history.messages g.machine.history.messages g.later.messages v c.sent (f.told held);
        led = λ t is'. let y = f.led t is' in (y.0, g.later.leads (record { term = t; leader = v; path = y.0 }) y.1);
        untold = f.untold;
      }

  -- the promised index rises to what has enough marks
  promise_went : (c : Call) (l : Leading) → Going link first holds Held w v c → c.state.role ≡ Leader l → ((x : Choice) → EnoughAt x.term x.path c.state → AnyByRecursion (EnoughAt x.term x.path) c.moments) → Going link first holds Held w v (promise_raised c l)
  promise_went c l f is here =
      let s : Replica = c.state in
      let a = f.at in
      let known = known_of first holds f.now v s a l is in
      let n : Node = led_node first v s l a.voted a.votes a.marks a.mine known.0 known.1 in
      let stands = here_as first holds f.now v s a (Leader l) is in
      let laws = reached_laws first is_single_change single_change_overlaps holds f.now a.reached in
      let fits : s.promised ≤ length s.path = laws.promised_held v n stands in
      let i : ℕ = promise_index s l in
      elim (greatest_is (may_promise s l) s.promised (length s.path - s.promised)) [
        | inl same ↦ subst (λ k. Going link first holds Held w v (record c { state = record s { promised = k } })) (sym same) f
        | inr up ↦
            let lt : s.promised < i = up.0 in
            let le : i ≤ length s.path = omega (arith, greatest_to (may_promise s l) s.promised (length s.path - s.promised)) in
            let g : On first holds f.now v (node.promising n i) [] (choices first v n (λ j. j == i) (length s.path)) =
            raises first is_single_change single_change_overlaps holds f.now v n a.reached stands i (le-leb s.promised i (omega arith))
            (may_choose_it first v s l a.voted a.votes a.marks a.mine known.0 known.1 i up.1 (omega arith) le) in
            record {
              now = g.machine;
              at = lead_at first holds g.machine v s.me s.first s.path s.base i s.committed s.term s.vote s.role s.halted l is g.reached a.voted a.votes a.marks g.here a.mine a.some a.based a.vote_is known.0 known.1 a.awake;
              others = λ u apart. g.others u apart ∙ f.others u apart;
              later = later_on w f.now g.machine f.later g.later;
              noted = λ x h. elim (goes_chosen first is_single_change single_change_overlaps holds f.now v (node.promising n i) [] (choices first v n (λ j. j == i) (length s.path)) g x h) [
                | inl new ↦
                    let o = choice_of first v n (λ j. j == i) (length s.path) x new in
                    let may = may_parts first v n o.0 o.2 in
                    let at' : o.0 ≡ i = eqb-true o.0 i o.1 in
                    inr (here x (enough_there s l o.0 x is may.some may.le (subst (λ j. may_promise s l j ≡ true) (sym at') up.1) o.3))
                | inr old ↦ f.noted x old
              ];
              enough = λ x h. g.later.chosen x (f.enough x h);
              told = λ held. sent_more link first Held Held (λ p h. h) f.now.history.messages g.machine.history.messages g.later.messages v c.sent (f.told held);
              led = λ t is'. let y = f.led t is' in (y.0, g.later.leads (record { term = t; leader = v; path = y.0 }) y.1);
              untold = f.untold;
            }
      ]

  -- the committed index rises to a promised one
  commit_went : (c : Call) (l : Leading) → Going link first holds Held w v c → c.state.role ≡ Leader l → Going link first holds Held w v (commit_raised c l)
  commit_went c l f is =
      let s : Replica = c.state in
      let a = f.at in
      let known = known_of first holds f.now v s a l is in
      let n : Node = led_node first v s l a.voted a.votes a.marks a.mine known.0 known.1 in
      let stands = here_as first holds f.now v s a (Leader l) is in
      let laws = reached_laws first is_single_change single_change_overlaps holds f.now a.reached in
      let within : s.committed ≤ s.promised = laws.committed_promised v n stands in
      let i : ℕ = commit_index s l in
      let le : i ≤ s.promised = omega (arith, greatest_to (may_commit s l) s.committed (s.promised - s.committed)) in
      let based = a.based in
      let j : ℕ = max s.committed i in
      let g : On first holds f.now v (record n { committed = j }) [] [] =
      commits first is_single_change single_change_overlaps holds f.now v n a.reached stands j (le-leb s.committed j (omega arith)) (le-leb j s.promised (omega arith)) in
      onward link first holds Held w v c (commit_raised c l) f (record n { committed = j }) [] g
      (lead_at first holds g.machine v s.me s.first s.path s.base s.promised j s.term s.vote s.role s.halted l is g.reached a.voted a.votes a.marks g.here a.mine a.some (omega arith) a.vote_is known.0
      (record {
        next_fits = known.1.next_fits;
        mark_fits = known.1.mark_fits;
        marked = known.1.marked;
        sendings = λ u sending at'. let x = known.1.sendings u sending at' in let le' = x.0 in (omega arith, x.1);
      })
      a.awake)
      refl (λ held. held) (λ held x. x) (λ t is'. inl is') f.untold

  -- raise
  pub raise_went : (c : Call) (l : Leading) → Going link first holds Held w v c → c.state.role ≡ Leader l → Going link first holds Held w v (raise c l)
  raise_went c l f is =
      let c1 : Call = moment c in
      let c2 : Call = promise_raised c1 l in
      let c3 : Call = moment c2 in
      let c4 : Call = commit_raised c3 l in
      let f1 = noted_went c l f is in
      let f2 = promise_went c1 l f1 is (λ x e. any_right (EnoughAt x.term x.path) c.moments (c.state ∷ []) (inl e)) in
      let f3 = noted_went c2 l f2 is in
      let f4 = commit_went c3 l f3 is in
      noted_went c4 l f4 is
