-- Elections, requests and changes of the members keep a replica good.
use Rattle.std.proofs.Common.{◌≡◌, ℕ, ◌+◌, ◌<◌, ◌≤◌, inl, inr, Bool, true, false, cond, Option, Some, None, [], ◌∷◌, ◌++◌, length, take, refl, sym, ◌∙◌, subst, arith}
use Rattle.std.proofs.lemmas.Bool.{cond-true, cond-false, cases_Bool, ltb-false}
use Rattle.std.proofs.lemmas.Option.{none-some}
use Rattle.std.proofs.lemmas.List.{take-append-le, take_all, length-take}
use Rattle.values.specs.declared.batch.Refusal.{Refusal}
use Rattle.values.specs.declared.entry.Body.TheVariants.{Noop, Ask, Members}
use Rattle.values.specs.declared.entry.LogEntry.{LogEntry}
use Rattle.values.specs.declared.ids.ClientId.{ClientId}
use Rattle.values.specs.declared.message.Request.{Request}
use Rattle.client_msgs.specs.Canonical.{canonical_request}
use Rattle.group_quorum.specs.Conf.{Conf}
use Rattle.replica_model.specs.Path.{Path, Link}
use Rattle.replica_model.specs.Configs.{is_members, conf_index}
use Rattle.replica_model.specs.Replica.{Role, Learner, Follower, Candidate, Leader, Leading, Replica}
use Rattle.replica_model.specs.Peers.{is_pending, leads_with}
use Rattle.replica_model.specs.Call.{still, send_to}
use Rattle.replica_model.specs.Raise.{pushed, raise_and_send}
use Rattle.replica_model.specs.Votes.{leading_anew, led, win}
use Rattle.replica_model.specs.Clients.{asked}
use Rattle.replica_model.specs.Tables.{part_message}
use Rattle.replica_model.specs.Changes.{joined, push_members}
use Rattle.group_model.specs.Log.{IsFrontOf}
use Rattle.agreement.specs.Promised.{EachPlacePromised}
use Rattle.log_laws.proofs.Good.{GoodSending, GoodLeading, GoodRole, GoodReplica, GoodParts, GoodCall, front_refl}
use Rattle.log_laws.proofs.Leading.{front, path_shorter, path_pushed, leading_pushed, anew_good, put_good, sending_put}
use Rattle.log_laws.proofs.Raising.{raise_good}
use Rattle.log_laws.proofs.Calls.{unmoved}
use Rattle.step_walk.specs.Rules.{IsHolder}

module _ (link : Link) (first : Conf) (Ever : ℕ → Path → Type 0) (Held : Path → Type 0) (closed : (p w : Path) → IsFrontOf p w → Held w → Held p) (shorter : (v : ℕ) (p w : Path) → IsFrontOf p w → Ever v w → Ever v p) (v : ℕ) where
  -- the same with another role
  pub in_role : (s : Replica) (role : Role) → GoodReplica first Ever Held v s → GoodRole first Ever Held s.first s.path role → GoodReplica first Ever Held v (record s { role = role })
  in_role s role g acts = record {
    mine = g.mine;
    state = record { within = g.state.within; based = g.state.based; fits = g.state.fits; good = g.state.good; acts = acts };
    held = g.held;
    own = g.own;
  }

  module _ (s : Replica) (g : GoodReplica first Ever Held v s) where
    -- one entry is pushed
    pub push_good : (e : LogEntry) (role : Role) → GoodRole first Ever Held s.first (s.path ++ e ∷ []) role → (is_members e.body ≡ true → conf_index s.path ≤ s.committed) → GoodParts link first Ever Held v (take s.promised s.path) s.me s.base s.committed s.promised s.first (s.path ++ e ∷ []) role []
    push_good e role acts one =
        let within = g.state.within in
        let fits = g.state.fits in
        record {
          mine = g.mine;
          keeps = subst (λ y. IsFrontOf (take s.promised s.path) y) (sym (take-append-le s.promised s.path (e ∷ []) fits)) (front_refl (take s.promised s.path));
          after = λ held own. (
            record {
              within = within;
              based = g.state.based;
              fits = omega (arith, length_more s.path e);
              good = path_pushed first Ever Held s.committed s.path e (omega arith) g.state.good one;
              acts = acts;
            },
            tt,
          );
        }
      where
        length_more : (p : Path) (e : LogEntry) → length p ≤ length (p ++ e ∷ [])
        length_more [] e = omega arith
        length_more (x ∷ p) e = omega (arith, length_more p e)

    pub win_good : s.first ≡ first → GoodCall link first Ever Held v (take s.promised s.path) (win s)
    win_good theirs =
        let l : Leading = leading_anew s in
        let e : LogEntry = record { term = s.term; body = Noop } in
        raise_good link first Ever Held shorter v (take s.promised s.path) (still (pushed (led s l) Noop)) l refl
        (push_good e (Leader l) (theirs, leading_pushed first Ever Held s.path e l (anew_good first Ever Held s)) (λ no. absurd (let apart : false ≡ true = no in cc)))

    -- ---- a leader
    module _ (l : Leading) (is : s.role ≡ Leader l) where
      pub leads : (s.first ≡ first) × GoodLeading first Ever Held s.path l
      leads = subst (GoodRole first Ever Held s.first s.path) is g.state.acts

      -- a client's request
      pub request_good : (client : ClientId) (number : ℕ) (request : Request) → GoodCall link first Ever Held v (take s.promised s.path) (raise_and_send (still (asked s client number request)) l)
      request_good client number request =
          let e : LogEntry = record { term = s.term; body = Ask client number (canonical_request request) } in
          raise_good link first Ever Held shorter v (take s.promised s.path) (still (asked s client number request)) l is
          (push_good e s.role
          (subst (GoodRole first Ever Held s.first (s.path ++ e ∷ [])) (sym is) (leads.0, leading_pushed first Ever Held s.path e l leads.1))
          (λ no. absurd (let apart : false ≡ true = no in cc)))

      -- a table at the committed point
      table_good : GoodSending first Ever Held s.path (record { path = take s.committed s.path; part = 0 })
      table_good =
          let p : Path = take s.committed s.path in
          record {
            table = record {
              held = closed p s.path (front s.committed s.path) g.held;
              good = record {
                safe = subst (EachPlacePromised first Ever) (sym (take_all (length p) p (omega arith))) g.state.good.safe;
                older = (path_shorter first Ever Held s.committed p s.path (front s.committed s.path) g.state.good).older;
              };
            };
            fits = omega (arith, length-take s.committed s.path);
          }

      pub join_good : (id : ℕ) → GoodCall link first Ever Held v (take s.promised s.path) (send_to (still (leads_with s (joined s l id))) id (part_message link s (record { path = take s.committed s.path; part = 0 })))
      join_good id =
          let within = g.state.within in
          let fits = g.state.fits in
          unmoved link first Ever Held v s g (Leader (joined s l id)) (
            leads.0,
            record {
              progress = (put_good first Ever Held s.path l id (record { next = s.committed + 1; mark = 0; promised = 0 }) (record { next_fits = omega arith; mark_fits = omega arith; promised_fits = omega arith; promised = λ some. absurd (no_less some) }) leads.1).progress;
              sendings = sending_put first Ever Held s.path l id (record { path = take s.committed s.path; part = 0 }) table_good leads.1;
            },
          )
          ((id, part_message link s (record { path = take s.committed s.path; part = 0 })) ∷ [])
          (record { table = table_good.table; first_is = leads.0 }, tt)
        where
          no_less : 0 < 0 → ⊥
          no_less h = omega arith

      pub push_members_good : (l' : Leading) (c : Conf) → GoodLeading first Ever Held s.path l' → is_pending s ≡ false → GoodCall link first Ever Held v (take s.promised s.path) (push_members s l' c)
      push_members_good l' c known' settled =
          let e : LogEntry = record { term = s.term; body = Members c.margin c.voters } in
          raise_good link first Ever Held shorter v (take s.promised s.path) (still (pushed (leads_with s l') (Members c.margin c.voters))) l' refl
          (push_good e (Leader l') (leads.0, leading_pushed first Ever Held s.path e l' known') (λ m. ltb-false s.committed (conf_index s.path) settled))

      -- the second refusal did not hold
      pub second_passes : (a b : Bool × Refusal) (rest : Option Refusal) → cond a.0 (Some a.1) (cond b.0 (Some b.1) rest) ≡ None → b.0 ≡ false
      second_passes a b rest none = elim (cases_Bool a.0) [
        | inl holds ↦ absurd (none-some a.1 (sym none ∙ cond-true a.0 (Some a.1) (cond b.0 (Some b.1) rest) holds))
        | inr fails ↦
            let second : cond b.0 (Some b.1) rest ≡ None = sym (cond-false a.0 (Some a.1) (cond b.0 (Some b.1) rest) fails) ∙ none in
            elim (cases_Bool b.0) [
              | inl holds ↦ absurd (none-some b.1 (sym second ∙ cond-true b.0 (Some b.1) rest holds))
              | inr fails' ↦ fails'
            ]
      ]

  -- who holds a log reads it by the first configuration of the run
  first_is : (theirs : Conf) (path : Path) (role : Role) → IsHolder role → GoodRole first Ever Held theirs path role → theirs ≡ first
  first_is theirs path (Learner taking) holder acts = absurd holder
  first_is theirs path Follower holder acts = acts
  first_is theirs path (Candidate votes) holder acts = acts
  first_is theirs path (Leader l) holder acts = acts.0

  pub holder_first : (s : Replica) → GoodReplica first Ever Held v s → IsHolder s.role → s.first ≡ first
  holder_first s g holder = first_is s.first s.path s.role holder g.state.acts
