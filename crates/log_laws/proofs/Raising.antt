-- Raising keeps a leader good: what it commits was promised at each place.
use Rattle.std.proofs.Common.{◌≡◌, ℕ, ◌+◌, ◌-◌, ◌<◌, ◌≤◌, Bool, true, cond, ◌||◌, ◌==◌, nat_le, max, ◌⊎◌, inl, inr, length, take, sym, ◌∙◌, subst, arith}
use Rattle.std.proofs.lemmas.Bool.{and_parts, or_cases, leb-true, eqb-true, cases_Bool, cases_eq}
use Rattle.std.proofs.lemmas.List.{take-take, length-take-le}
use Rattle.group_quorum.specs.Conf.{Conf, met}
use Rattle.replica_model.specs.Path.{Path, Link}
use Rattle.replica_model.specs.Configs.{conf, conf_index, older_conf}
use Rattle.replica_model.specs.Enough.{enough_for, greatest_above}
use Rattle.replica_model.specs.Replica.{Role, Leader, Leading, Replica}
use Rattle.replica_model.specs.Peers.{progress_of}
use Rattle.replica_model.specs.Call.{Call}
use Rattle.replica_model.specs.Raise.{promised_mark, may_promise, may_commit, promise_index, commit_index, raise}
use Rattle.replica_model.proofs.Greatest.{above}
use Rattle.group_model.specs.Log.{IsFrontOf}
use Rattle.group_model.specs.Log.{MetBy}
use Rattle.agreement.specs.Promised.{EachPlacePromised}
use Rattle.agreement.proofs.Committing.{committed_each}
use Rattle.agreement.proofs.Places.{conf_index_le, take_front}
use Rattle.log_laws.proofs.Chain.{max_cases}
use Rattle.log_laws.proofs.Good.{GoodPath, GoodLeading, GoodRole, GoodShape, GoodCall}
use Rattle.agreement.proofs.Fronts.{begins}
use Rattle.log_laws.proofs.Leading.{front, path_shorter}

-- the greatest number above `had` that passes is `had`, or it is above it and passes
pub greatest_is : (passes : ℕ → Bool) (had n : ℕ) → (greatest_above passes had n ≡ had) ⊎ ((had < greatest_above passes had n) × (passes (greatest_above passes had n) ≡ true))
greatest_is passes had n =
    let is = above passes had n in
    let from = is.at_least in
    elim (cases_eq (greatest_above passes had n) had) [
      | inl same ↦ inl same
      | inr more ↦ inr (omega (arith, more), is.passing more)
    ]

pub greatest_to : (passes : ℕ → Bool) (had n : ℕ) → greatest_above passes had n ≤ had + n
greatest_to passes had n = elim (cases_eq (greatest_above passes had n) had) [
  | inl same ↦ omega (arith, same)
  | inr more ↦ (above passes had n).within more
]

module _ (link : Link) (first : Conf) (Ever : ℕ → Path → Type 0) (Held : Path → Type 0) (shorter : (v : ℕ) (p w : Path) → IsFrontOf p w → Ever v w → Ever v p) where
  -- who has a mark of k promised the first k entries
  mark_ever : (v : ℕ) (s : Replica) (l : Leading) → s.me ≡ v → Ever v (take s.promised s.path) → GoodLeading first Ever Held s.path l → (u k : ℕ) → 0 < k → k ≤ promised_mark s l u → Ever u (take k s.path)
  mark_ever v s l me own g u k some le = elim (cases_Bool (u == s.me)) [
    | inl here ↦
        let is : v ≡ u = sym me ∙ sym (eqb-true u s.me here) in
        let upto : k ≤ s.promised = subst (λ b. k ≤ cond b s.promised (progress_of l u).promised) here le in
        subst (λ x. Ever x (take k s.path)) is (shorter v (take k s.path) (take s.promised s.path) (take_front k s.promised s.path upto) own)
    | inr other ↦
        let upto : k ≤ (progress_of l u).promised = subst (λ b. k ≤ cond b s.promised (progress_of l u).promised) other le in
        shorter u (take k s.path) (take (progress_of l u).promised s.path) (take_front k (progress_of l u).promised s.path upto) ((g.progress u).promised (omega arith))
  ]

  met_from : (C : Conf) (who : ℕ → Bool) (R : ℕ → Type 0) → met C who ≡ true → ((u : ℕ) → who u ≡ true → R u) → MetBy C R
  met_from C who R b f = record { who = who; each = f; enough = leb-true _ _ b }

  -- what may be committed was promised at each place
  may_commit_good : (v : ℕ) (s : Replica) (l : Leading) (i : ℕ) → s.me ≡ v → s.first ≡ first → Ever v (take s.promised s.path) → GoodLeading first Ever Held s.path l → GoodPath first Ever s.committed s.path → 0 < i → i ≤ length s.path → may_commit s l i ≡ true → EachPlacePromised first Ever (take i s.path)
  may_commit_good v s l i me theirs own g good some fits b =
      let r : Path = take i s.path in
      let long : length r ≡ i = length-take-le i s.path fits in
      let part : GoodPath first Ever s.committed r = path_shorter first Ever Held s.committed r s.path (front i s.path) good in
      let enough : enough_for first r (promised_mark s l) s.committed ≡ true = subst (λ f. enough_for f r (promised_mark s l) s.committed ≡ true) theirs b in
      let parts = and_parts (met (conf first r) (λ u. nat_le (length r) (promised_mark s l u))) (nat_le (conf_index r) s.committed || met (older_conf first r) (λ u. nat_le (conf_index r) (promised_mark s l u))) enough in
      committed_each first Ever shorter s.committed r part.safe part.older
      (met_from (conf first r) (λ u. nat_le (length r) (promised_mark s l u)) (λ u. Ever u r) parts.0
      (λ u is. mark_ever v s l me own g u i some (subst (λ k. k ≤ promised_mark s l u) long (leb-true (length r) (promised_mark s l u) is))))
      (λ newer. elim (or_cases (nat_le (conf_index r) s.committed) (met (older_conf first r) (λ u. nat_le (conf_index r) (promised_mark s l u))) parts.1) [
        | inl old ↦ absurd (omega (arith, leb-true (conf_index r) s.committed old))
        | inr other ↦
            met_from (older_conf first r) (λ u. nat_le (conf_index r) (promised_mark s l u)) (λ u. Ever u (take (conf_index r) r)) other
            (λ u is.
            let same : take (conf_index r) r ≡ take (conf_index r) s.path = take-take (conf_index r) i s.path (omega (arith, conf_index_le r, long)) in
            subst (Ever u) (sym same) (mark_ever v s l me own g u (conf_index r) (omega arith) (leb-true (conf_index r) (promised_mark s l u) is)))
      ])

  -- the committed index rises
  pub committed_more : (base committed promised i : ℕ) (theirs : Conf) (path : Path) (role : Role) → GoodShape first Ever Held base committed promised theirs path role → i ≤ promised → EachPlacePromised first Ever (take i path) → GoodShape first Ever Held base (max committed i) promised theirs path role
  committed_more base committed promised i theirs path role g le safe =
      let within = g.within in
      let based = g.based in
      record {
        within = omega arith;
        based = omega arith;
        fits = g.fits;
        good = record {
          safe = elim (max_cases committed i) [
            | inl old ↦ subst (λ k. EachPlacePromised first Ever (take k path)) (sym old) g.good.safe
            | inr now ↦ subst (λ k. EachPlacePromised first Ever (take k path)) (sym now) safe
          ];
          older = g.good.older;
        };
        acts = g.acts;
      }

  -- the greatest index that may be committed
  commit_index_good : (v : ℕ) (s : Replica) (l : Leading) → s.me ≡ v → s.first ≡ first → Ever v (take s.promised s.path) → GoodLeading first Ever Held s.path l → GoodShape first Ever Held s.base s.committed s.promised s.first s.path s.role → EachPlacePromised first Ever (take (commit_index s l) s.path)
  commit_index_good v s l me theirs own leading g =
      let within = g.within in
      let fits = g.fits in
      elim (greatest_is (may_commit s l) s.committed (s.promised - s.committed)) [
        | inl same ↦ subst (λ k. EachPlacePromised first Ever (take k s.path)) (sym same) g.good.safe
        | inr new ↦
            let above = new.0 in
            may_commit_good v s l (commit_index s l) me theirs own leading g.good (omega arith) (omega (arith, greatest_to (may_commit s l) s.committed (s.promised - s.committed))) new.1
      ]

  -- raise
  pub raise_good : (v : ℕ) (before : Path) (c : Call) (l : Leading) → c.state.role ≡ Leader l → GoodCall link first Ever Held v before c → GoodCall link first Ever Held v before (raise c l)
  raise_good v before c l leads g =
      let s : Replica = c.state in
      let high : ℕ = promise_index s l in
      let s' : Replica = record s { promised = high } in
      let up : s.promised ≤ high = (above (may_promise s l) s.promised (length s.path - s.promised)).at_least in
      let grows : IsFrontOf (take s.promised s.path) (take high s.path) = take_front s.promised high s.path up in
      record {
        mine = g.mine;
        keeps = begins before (take s.promised s.path) (take high s.path) g.keeps grows;
        after = λ held own.
            let old = g.after held (shorter v (take s.promised s.path) (take high s.path) grows own) in
            let shape = old.0 in
            let within = shape.within in
            let fits = shape.fits in
            let raised : GoodShape first Ever Held s.base s.committed high s.first s.path s.role =
            record {
              within = omega arith;
              based = shape.based;
              fits = omega (arith, greatest_to (may_promise s l) s.promised (length s.path - s.promised));
              good = shape.good;
              acts = shape.acts;
            } in
            let leading = subst (GoodRole first Ever Held s.first s.path) leads shape.acts in
            let le : commit_index s' l ≤ high = omega (arith, greatest_to (may_commit s' l) s.committed (high - s.committed)) in
            (committed_more s.base s.committed high (commit_index s' l) s.first s.path s.role raised le (commit_index_good v s' l g.mine leading.0 own leading.1 raised), old.1);
      }
