-- What a step raises.
use Rattle.std.proofs.Common.{◌≡◌, ℕ, max, inl, inr, [], ◌∷◌, ◌++◌, length, filter, filter_map, refl, sym, ap, subst, ◌∙◌, arith}
use Rattle.replica_model.specs.Replica.{Follower, Leader, Leading, Replica}
use Rattle.replica_model.specs.Call.{Call, moment}
use Rattle.replica_model.specs.Raise.{may_promise, may_commit, promise_index, commit_index, promise_raised, commit_raised, is_due, outcome_of, raise}
use Rattle.replica_model.specs.Laws.{IsGreatest}
use Rattle.replica_model.specs.Raised.{RaisesIn, RaisesOrStays, StepsRaiseToTheGreatest}
use Rattle.replica_model.proofs.Greatest.{greatest}
use Rattle.replica_model.proofs.Walk.{Pushed, Carries, stepped}

module _ (s : Replica) where
  -- a call of which nothing is raised, in a state with the indices from before it
  stays : (c : Call) → c.moments ≡ [] → c.state.promised ≡ s.promised → c.state.committed ≡ s.committed → RaisesOrStays s c
  stays c none p k = inr (record { moments = none; promised = λ l is. p; committed = λ l is. k })

  -- nor is it one of a leader
  follows : (c : Call) → c.moments ≡ [] → c.state.role ≡ Follower → RaisesOrStays s c
  follows c none role =
      inr (record { moments = none; promised = λ l is. (let e : Follower ≡ Leader l = sym role ∙ is in cc); committed = λ l is. (let e : Follower ≡ Leader l = sym role ∙ is in cc) })

  -- a raise
  raises : (c : Call) (l : Leading) → c.moments ≡ [] → c.batch.answers ≡ [] → Pushed s c.state → RaisesIn s (raise c l)
  raises c l none unanswered had =
      let r0 : Replica = c.state in
      let r1 : Replica = record r0 { promised = promise_index r0 l } in
      let n : ℕ = commit_index r1 l in
      let r2 : Replica = (commit_raised (moment (promise_raised (moment c) l)) l).state in
      let found : IsGreatest (may_commit r1 l) r1.committed r1.promised n = greatest (may_commit r1 l) r1.committed r1.promised in
      let same : max r1.committed n ≡ n = (let least = found.at_least in omega (arith, least)) in
      record {
        known = l;
        first = r0;
        between = r1;
        last = r2;
        moments = ap (λ ms. ((ms ++ r0 ∷ []) ++ r1 ∷ []) ++ r2 ∷ []) none;
        had_promised = had.0;
        had_committed = had.1;
        promised = greatest (may_promise r0 l) r0.promised (length r0.path);
        promise_alone = refl;
        committed = subst (IsGreatest (may_commit r1 l) r1.committed r1.promised) (sym same) found;
        ends_promised = refl;
        ends_committed = refl;
        answers =
            ap (λ xs. xs ++ filter_map (outcome_of r1) (filter (is_due r1 n) r1.tickets)) unanswered
            ∙ ap (λ i. filter_map (outcome_of r1) (filter (is_due r1 i) r1.tickets)) (sym same);
      }

  carried : (c d : Call) → Carries c d → RaisesOrStays s c → RaisesOrStays s d
  carried c d on (inl r) = inl (record {
    known = r.known;
    first = r.first;
    between = r.between;
    last = r.last;
    moments = on.moments ∙ r.moments;
    had_promised = r.had_promised;
    had_committed = r.had_committed;
    promised = r.promised;
    promise_alone = r.promise_alone;
    committed = r.committed;
    ends_promised = on.state.0.0 ∙ r.ends_promised;
    ends_committed = on.state.0.1 ∙ r.ends_committed;
    answers = on.answers ∙ r.answers;
  })
  carried c d on (inr q) = inr (record {
    moments = on.moments ∙ q.moments;
    promised = λ l is. let k = on.leads l is in on.state.0.0 ∙ q.promised k.0 k.1;
    committed = λ l is. let k = on.leads l is in on.state.0.1 ∙ q.committed k.0 k.1;
  })

pub raised : StepsRaiseToTheGreatest
raised link s i =
    stepped s (RaisesOrStays s) (record {
      stays = λ c none same. stays s c none same.0 same.1;
      raises = λ c l none unanswered had. inl (raises s c l none unanswered had);
      grafts = λ at t same role d o. follows s _ refl role;
      whole = λ at taking is from part names term limit. follows s _ refl refl;
      carried = carried s;
    }) link i
