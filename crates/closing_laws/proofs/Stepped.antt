-- One call of a replica tells how far its committed index rose, and each configuration that its path gained.
use Rattle.log_laws.proofs.History.{any_right, all_more, all_take}
use Rattle.std.proofs.Common.{◌≡◌, ℕ, ◌+◌, ◌-◌, ◌≤◌, Bool, true, false, cond, ◌||◌, nat_lt, min, inl, inr, Option, Some, None, List, [], ◌∷◌, ◌++◌, length, take, map, refl, sym, subst, ◌∙◌, arith}
use Rattle.std.specs.Prelude.{filter_map}
use Rattle.std.specs.List.{AllByRecursion}
use Rattle.std.proofs.lemmas.Bool.{cond_both, ltb-false, leb-false, eqb-false}
use Rattle.std.proofs.lemmas.List.{length-take, length-drop, length-append}
use Rattle.std.proofs.lemmas.Option.{none-some, same_Some}
use Rattle.values.specs.declared.entry.Body.{Body}
use Rattle.values.specs.declared.entry.Body.TheVariants.{Noop, Ask, Members}
use Rattle.values.specs.declared.entry.LogEntry.{LogEntry}
use Rattle.values.specs.declared.ids.ClientId.{ClientId}
use Rattle.values.specs.declared.message.Request.{Request}
use Rattle.values.specs.declared.peer.TablePart.{TablePart}
use Rattle.values.specs.declared.peer.PeerMsg.{PeerMsg}
use Rattle.values.specs.declared.peer.PeerMsg.TheVariants.{AskVote}
use Rattle.client_msgs.specs.Canonical.{canonical_request}
use Rattle.group_quorum.specs.Conf.{Conf}
use Rattle.replica_model.specs.Path.{Path, Link, last_term}
use Rattle.replica_model.specs.Keyed.{value_at, put, without}
use Rattle.replica_model.specs.Message.{Message, plain}
use Rattle.replica_model.specs.Replica.{Named, Sending, Role, Learner, Follower, Candidate, Leader, Leading, Replica}
use Rattle.replica_model.specs.Peers.{others, progress_of, with_progress, leads_with, newest, peers}
use Rattle.replica_model.specs.Call.{Call, empty_batch, still, Input, Peer, send_to}
use Rattle.replica_model.specs.Raise.{numbered_from, pushed, raise_and_send}
use Rattle.replica_model.specs.Votes.{leading_anew, led, win, stood, with_vote}
use Rattle.replica_model.specs.Clients.{asked}
use Rattle.replica_model.specs.Graft.{Offer, points_of, end_of, Difference, first_difference, kept_length, added, members_of, differs_at, refusal_hint, following, spliced, replaced, grafted, accepts}
use Rattle.replica_model.specs.Heard.{accepted_upto}
use Rattle.replica_model.specs.Tables.{part_message, taken_with, takes_whole}
use Rattle.replica_model.specs.Ticks.{all_again}
use Rattle.replica_model.specs.Changes.{join_refusal, admit_refusal, remove_refusal, margin_refusal, joined, push_members, with_voter, without_voter}
use Rattle.group_model.specs.Group.{conf_told}
use Rattle.log_laws.proofs.Ending.{all-append}
use Rattle.log_laws.proofs.Lookups.{put_cases, without_stood}
use Rattle.log_laws.proofs.Offered.{found_within}
use Rattle.closing_laws.proofs.Tells.{IsTold, AllTold, IsOf, Holds, SendingsTold, NamesTold, IsTable, table_from, table_told, table_short, none_from, Tells, TellsCall, TellsState, path_more, sendings_more}
use Rattle.closing_laws.proofs.Raised.{commit_tells, raise_tells}
use Rattle.client_msgs.specs.Reading.{request_of}
use Rattle.replica_model.specs.Term.{followed, learner_term}
use Rattle.replica_model.specs.Step.{step}
use Rattle.step_walk.specs.Rules.{Rules}
use Rattle.step_walk.proofs.Outcomes as may
use Rattle.step_walk.proofs.Outcomes.{IsCalm, again_by, parts_by, same_to_each}
use Rattle.step_walk.proofs.Walk.{followed_is, step_keeps}

-- ---- the configurations of entries that are added
abbrev told_of : ℕ → Path → List Conf
told_of k p = map conf_told (filter_map members_of (numbered_from k p))

one_told : (confs : List Conf) (k : ℕ) (b : Body) (term : ℕ) (p : Path) → AllTold (told_of (k + 1) p ++ confs) p → AllTold (told_of k (record { term = term; body = b } ∷ p) ++ confs) (record { term = term; body = b } ∷ p)
one_told confs k Noop term p h = (tt, h)
one_told confs k (Ask client number request) term p h = (tt, h)
one_told confs k (Members margin voters) term p h = (inl refl, path_more (record { margin = margin; voters = voters } ∷ []) (told_of (k + 1) p ++ confs) p h)

added_told : (confs : List Conf) (k : ℕ) (p : Path) → AllTold (told_of k p ++ confs) p
added_told confs k [] = tt
added_told confs k (e ∷ p) = one_told confs k e.body e.term p (added_told confs (k + 1) p)

one_held : (k : ℕ) (b : Body) (term : ℕ) (p : Path) → AllByRecursion (Holds p) (told_of (k + 1) p) → AllByRecursion (Holds (record { term = term; body = b } ∷ p)) (told_of k (record { term = term; body = b } ∷ p))
one_held k Noop term p h = all_more (Holds p) (Holds (record { term = term; body = Noop } ∷ p)) (λ c m. inr m) (told_of (k + 1) p) h
one_held k (Ask client number request) term p h = all_more (Holds p) (Holds (record { term = term; body = Ask client number request } ∷ p)) (λ c m. inr m) (told_of (k + 1) p) h
one_held k (Members margin voters) term p h =
    (inl refl, all_more (Holds p) (Holds (record { term = term; body = Members margin voters } ∷ p)) (λ c m. inr m) (told_of (k + 1) p) h)

added_held : (k : ℕ) (p : Path) → AllByRecursion (Holds p) (told_of k p)
added_held k [] = tt
added_held k (e ∷ p) = one_held k e.body e.term p (added_held (k + 1) p)

-- ---- what is not refused
not_refused : (s : Replica) (d : Option Difference) (o : Offer) → refusal_hint s d o ≡ None → (o.prev.index ≤ length s.path) × (differs_at d o.prev.index ≡ false)
not_refused s d o = cond_both (nat_lt (length s.path) o.prev.index) (Some (length s.path)) (cond (differs_at d o.prev.index || nat_lt (end_of o) s.base) (Some s.promised) None) (λ h. h ≡ None → (o.prev.index ≤ length s.path) × (differs_at d o.prev.index ≡ false))
    (λ b is. absurd (none-some (length s.path) (sym is)))
    (λ short. by_first (differs_at d o.prev.index) (nat_lt (end_of o) s.base) (ltb-false (length s.path) o.prev.index short))
  where
    by_first : (x y : Bool) → o.prev.index ≤ length s.path → cond (x || y) (Some s.promised) None ≡ None → (o.prev.index ≤ length s.path) × (x ≡ false)
    by_first true y fits is = absurd (none-some s.promised (sym is))
    by_first false y fits is = (fits, refl)

module _ (seen : ℕ) (confs : List Conf) (link : Link) where
  abbrev Told : Call → Type 0
  Told c = TellsCall seen confs c

  module _ (s : Replica) (g : TellsState seen confs s) where
    -- nothing moves but the role, and some messages are sent
    in_role : (role : Role) → SendingsTold seen confs role → (sent : List (ℕ × Message)) → NamesTold seen confs sent → Tells seen confs s.path s.committed s.promised role 0 [] [] sent
    in_role role sendings sent named = record { within = g.within; fits = g.fits; below = g.below; above = g.above; told = g.told; held = tt; sendings = sendings; named = named; from = none_from seen s.path s.committed (omega (arith, g.below)) }

    pub saying : (m : ℕ × Message) → NamesTold seen confs (m ∷ []) → Tells seen confs s.path s.committed s.promised s.role 0 [] [] (m ∷ [])
    saying m named = in_role s.role g.sendings (m ∷ []) named

    -- one entry is pushed
    push_tells : (e : LogEntry) (l : Leading) (new : List Conf) → SendingsTold seen confs (Leader l) → IsTold (new ++ confs) e.body → AllByRecursion (Holds (s.path ++ e ∷ [])) new → Tells seen confs (s.path ++ e ∷ []) s.committed s.promised (Leader l) 0 [] new []
    push_tells e l new sendings told held = record {
      within = g.within;
      fits = omega (arith, g.fits, length-append s.path (e ∷ []));
      below = g.below;
      above = g.above;
      told = all-append (λ (e : LogEntry). IsTold (new ++ confs) e.body) s.path (e ∷ []) (path_more new confs s.path g.told) (told, tt);
      held = held;
      sendings = sendings_more seen seen new confs (Leader l) (omega arith) sendings;
      named = tt;
      from = none_from seen (s.path ++ e ∷ []) s.committed (omega (arith, g.below));
    }

    win_tells : Told (win s)
    win_tells =
        let l : Leading = leading_anew s in
        raise_tells seen confs (record (still (pushed (led s l) Noop)) { batch = record empty_batch { lead = Some s.term } }) l
        (push_tells (record { term = s.term; body = Noop }) l [] (λ v x is. absurd (none-some x is)) tt tt)

  -- the same state in another role
  turned : (s : Replica) (role : Role) → TellsState seen confs s → SendingsTold seen confs role → TellsState seen confs (record s { role = role })
  turned s role g sendings = in_role s g role sendings [] tt

  module _ (s : Replica) (g : TellsState seen confs s) where
    -- ---- an append heard
    spliced_tells : (d : Option Difference) (o : Offer) → s.promised ≤ kept_length s.path d → kept_length s.path d ≤ length s.path → o.prev.index ≤ kept_length s.path d
        → TellsCall seen confs (record (still (spliced (following s o.from) (kept_length s.path d) o)) { batch = replaced (following s o.from) d (kept_length s.path d) o })
    spliced_tells d o keeps fits from =
        let k : ℕ = kept_length s.path d in
        let new : List Conf = told_of (k + 1) (added k o) in
        let long : length (take k s.path ++ added k o) ≡ k + (length o.entries - (k - o.prev.index)) =
        omega (arith, length-append (take k s.path) (added k o), length-take k s.path, length-drop (k - o.prev.index) o.entries, fits) in
        record {
          within = omega (arith, g.within);
          fits = omega (arith, long, keeps, from);
          below = g.below;
          above = g.above;
          told = all-append (λ (e : LogEntry). IsTold (new ++ confs) e.body) (take k s.path) (added k o)
              (path_more new confs (take k s.path) (all_take (λ (e : LogEntry). IsTold confs e.body) k s.path g.told))
              (added_told confs (k + 1) (added k o));
          held = all_more (Holds (added k o)) (Holds (take k s.path ++ added k o)) (λ c h. any_right (λ (e : LogEntry). IsOf c e.body) (take k s.path) (added k o) h) new (added_held (k + 1) (added k o));
          sendings = tt;
          named = tt;
          from = none_from seen (take k s.path ++ added k o) s.committed (omega (arith, g.below));
        }

    grafted_tells : (d : Option Difference) (o : Offer) → s.promised ≤ kept_length s.path d → kept_length s.path d ≤ length s.path → o.prev.index ≤ kept_length s.path d → TellsCall seen confs (grafted (following s o.from) d o)
    grafted_tells d o keeps fits from =
        commit_tells seen confs (record (still (spliced (following s o.from) (kept_length s.path d) o)) { batch = replaced (following s o.from) d (kept_length s.path d) o }) (min o.commit (min o.promise (end_of o)))
        (omega arith) (spliced_tells d o keeps fits from)

    -- without a conflict
    accepts_tells : (d : Option Difference) (o : Offer) → first_difference link s (points_of link o) ≡ d → IsCalm s d → refusal_hint (following s o.from) d o ≡ None → Told (accepts link (grafted (following s o.from) d o) o)
    accepts_tells None o found calm is =
        let c = grafted_tells None o g.fits (omega arith) (not_refused (following s o.from) None o is).0 in
        record { within = c.within; fits = c.fits; below = c.below; above = c.above; told = c.told; held = c.held; sendings = c.sendings; named = (tt, tt); from = c.from }
    accepts_tells (Some d) o found calm is =
        let fine = not_refused (following s o.from) (Some d) o is in
        let at = found_within link s o.prev.index o.prev.hash o.entries d found in
        let apart = eqb-false d.0 o.prev.index fine.1 in
        let c = grafted_tells (Some d) o (omega (arith, leb-false d.0 s.promised calm)) (omega (arith, at.1)) (omega (arith, at.0, apart)) in
        record { within = c.within; fits = c.fits; below = c.below; above = c.above; told = c.told; held = c.held; sendings = c.sendings; named = (tt, tt); from = c.from }

    -- ---- a leader
    module _ (l : Leading) (is : s.role ≡ Leader l) where
      mine : SendingsTold seen confs (Leader l)
      mine = subst (SendingsTold seen confs) is g.sendings

      leading : (l' : Leading) → SendingsTold seen confs (Leader l') → (sent : List (ℕ × Message)) → NamesTold seen confs sent → Tells seen confs s.path s.committed s.promised (Leader l') 0 [] [] sent
      leading l' sendings sent named = in_role s g (Leader l') sendings sent named

      put_sending : (u : ℕ) (x : Sending) → IsTable seen confs x.path → (v : ℕ) (y : Sending) → value_at (put l.sendings u x) v ≡ Some y → IsTable seen confs y.path
      put_sending u x told v y at = elim (put_cases l.sendings u x v) [
        | inl new ↦ subst (λ (z : Sending). IsTable seen confs z.path) (same_Some x y (sym new.1 ∙ at)) told
        | inr old ↦ mine v y (sym old.1 ∙ at)
      ]

      ended_sending : (u v : ℕ) (y : Sending) → value_at (without l.sendings u) v ≡ Some y → IsTable seen confs y.path
      ended_sending u v y at = mine v y (without_stood l.sendings u v y at)

      request_tells : (client : ClientId) (number : ℕ) (request : Request) → Told (raise_and_send (still (asked s client number request)) l)
      request_tells client number request =
          let e : LogEntry = record { term = s.term; body = Ask client number (canonical_request request) } in
          let pushed_to = push_tells s g e l [] mine tt tt in
          raise_tells seen confs (still (asked s client number request)) l
          (record { within = pushed_to.within; fits = pushed_to.fits; below = g.below; above = g.above; told = pushed_to.told; held = tt; sendings = g.sendings; named = tt; from = pushed_to.from })

      push_members_tells : (l' : Leading) → SendingsTold seen confs (Leader l') → (c : Conf) → Told (push_members s l' c)
      push_members_tells l' sendings c =
          let e : LogEntry = record { term = s.term; body = Members c.margin c.voters } in
          raise_tells seen confs (record (still (pushed (leads_with s l') (Members c.margin c.voters))) { batch = record empty_batch { members = (length s.path + 1, c.margin, c.voters) ∷ [] } }) l'
          (push_tells s g e l' (c ∷ []) sendings (inl refl) (any_right (λ (e : LogEntry). IsOf c e.body) s.path (e ∷ []) (inl refl), tt))

      join_tells : (id : ℕ) → Told (send_to (still (leads_with s (joined s l id))) id (part_message link s (record { path = take s.committed s.path; part = 0 })))
      join_tells id =
          let told = table_from seen confs (take s.committed s.path) (all_take (λ (e : LogEntry). IsTold confs e.body) s.committed s.path g.told) (omega (arith, length-take s.committed s.path, g.below)) in
          leading (joined s l id) (put_sending id (record { path = take s.committed s.path; part = 0 }) told) _ (told, tt)

    -- a learner that took a whole table
    whole_tells : (term from : ℕ) (part : TablePart) (names : Named) (limit : ℕ) → IsTable seen confs names.path → Told (takes_whole link (learner_term s term) from part names limit)
    whole_tells term from part names limit known =
        let short = table_short seen confs names.path known in
        record {
          within = omega arith;
          fits = omega arith;
          below = omega arith;
          above = omega arith;
          told = table_told seen confs names.path known;
          held = tt;
          sendings = tt;
          named = (tt, tt);
          from = none_from seen names.path (length names.path) short;
        }

  -- what is handed names a path whose configurations were told
  abbrev pub IsKnownInput : Input → Type 0
  IsKnownInput (Peer from m) = IsTable seen confs m.names.path
  IsKnownInput input = Unit {0}

  abbrev Names : ℕ → Named → PeerMsg → Type 0
  Names from names msg = IsTable seen confs names.path

  -- every rule tells so
  rules : Rules link (TellsState seen confs) (λ s. IsKnownInput) Names (λ s. Told) (λ s input. Told)
  rules = record {
    idle = λ s g. g;
    not_leader = λ s known le g. g;
    rises = λ s from names msg g holder x up. turned s (followed s.role) g (followed_is (SendingsTold seen confs) s.role holder tt);
    back = λ s t c done. done;
    message = λ s from m x. x;
    stands = λ s g behind x.
        let up : TellsState seen confs (stood s) = turned s (Candidate (s.me ∷ [])) g tt in
        may.stand_by Told s g (λ b. (λ b. win_tells (stood s) up, in_role (stood s) up (Candidate (s.me ∷ [])) tt _ (same_to_each (λ m. IsTable seen confs m.1.names.path) (plain (AskVote (s.term + 1) (length s.path) (last_term s.path))) (λ v. tt) _)));
    asked_vote = λ s from names term last_index last g holder same x. may.vote_asked_by Told s from last_index last (λ b. saying s g _ (tt, tt)) (saying s g _ (tt, tt));
    heard_vote = λ s votes from names term granted g is same x.
        let up : (votes : List ℕ) → TellsState seen confs (record s { role = Candidate votes }) = λ votes. turned s (Candidate votes) g tt in
        may.vote_heard_by Told s g votes from granted (λ b. (λ b. win_tells (record s { role = Candidate (with_vote s votes from) }) (up (with_vote s votes from)), up (with_vote s votes from)));
    heard_append = λ s names term o g holder same x. may.append_heard_by Told link s o (λ d found b. g) (λ d hint found at. in_role s g Follower tt _ (tt, tt)) (λ d found calm at. accepts_tells s g d o found calm at);
    older_vote = λ s from names term last_index last g holder x. saying s g _ (tt, tt);
    older_append = λ s from names term prev entries promise commit g holder x. saying s g _ (tt, tt);
    older_part = λ s from names term part g holder x. saying s g _ (tt, tt);
    heard_part = λ s from names term part g holder x. may.part_heard_by Told link s from part (saying s g _ (tt, tt)) (λ hint at. saying s g _ (tt, tt));
    takes_part = λ s taking from names term part g is x.
        may.take_part_by Told link (learner_term s term) taking from part names (λ b. (whole_tells s g term from part names (taken_with taking part names).names.limit x, in_role s g (Learner (taken_with taking part names)) tt _ (tt, tt))) (saying s g _ (tt, tt));
    heard_accepted = λ s l from names term end promised g is same x.
        let l' : Leading = with_progress l from (accepted_upto (progress_of l from) end.index promised) in
        may.accepted_heard_by Told link s g l from (λ c done. done) end promised (λ done. done) (λ b. raise_tells seen confs (still (leads_with s l')) l' (leading s g l is l' (mine s g l is) [] tt));
    heard_rejected = λ s l from names term asked hint g is same x. may.rejected_heard_by Told link s g l from (λ c done. done) hint (leading s g l is _ (ended_sending s g l is from) [] tt) (leading s g l is _ (ended_sending s g l is from) [] tt);
    heard_taken = λ s l from names term point next g is x. may.part_taken_by Told link s g l from (λ c done. done) point next
        (λ sending has. (
          leading s g l is _ (ended_sending s g l is from) [] tt,
          λ later. leading s g l is _ (put_sending s g l is from (record sending { part = next }) (mine s g l is from sending has)) _ (mine s g l is from sending has, tt),
        ));
    leader_ticks = λ s l g is x.
        leading s g l is (all_again s l (peers s l)) (again_by (λ l. SendingsTold seen confs (Leader l)) s (λ l v told. told) (peers s l) l (mine s g l is)) _
        (parts_by (λ m. IsTable seen confs m.1.names.path) link s l (mine s g l is) (peers s l));
    joins = λ s l id linked g is x. may.unless_by Told s (join_refusal s l id linked) _ (λ r at. g) (λ fine. join_tells s g l is id);
    admits = λ s l id g is x. may.unless_by Told s (admit_refusal s l id) _ (λ r at. g) (λ fine. push_members_tells s g l is (record l { learners = others id l.learners }) (mine s g l is) (with_voter (newest s) id));
    removes = λ s l id g is x. may.unless_by Told s (remove_refusal s id) _ (λ r at. g) (λ fine. push_members_tells s g l is l (mine s g l is) (without_voter (newest s) id));
    sets_margin = λ s l margin g is x. may.unless_by Told s (margin_refusal s margin) _ (λ r at. g) (λ fine. push_members_tells s g l is l (mine s g l is) (record (newest s) { margin = margin }));
    asked = λ s client number request g x. may.on_request_by Told s client number (request_of request) g (λ why. g) (λ l asks read is. request_tells s g l is client number asks);
    others = λ s input c other done. done;
    ends = λ s input c done. may.ended_by Told link
        (λ c l v is b g. record {
          within = g.within;
          fits = g.fits;
          below = g.below;
          above = g.above;
          told = g.told;
          held = g.held;
          sendings = subst (SendingsTold seen (map conf_told c.batch.members ++ confs)) is g.sendings;
          named = all-append (λ (m : ℕ × Message). IsTable seen (map conf_told c.batch.members ++ confs) m.1.names.path) c.sent _ g.named (tt, tt);
          from = g.from;
        })
        (λ c done. done) (λ c l is g. record { within = g.within; fits = g.fits; below = g.below; above = g.above; told = g.told; held = g.held; sendings = tt; named = g.named; from = g.from }) (λ c done. done) c c.state.halted done;
  }

  pub step_tells : (s : Replica) → TellsState seen confs s → (input : Input) → IsKnownInput input → Told (step link s input)
  step_tells s g input x = step_keeps link (TellsState seen confs) (λ s. IsKnownInput) Names (λ s. Told) (λ s input. Told) rules s g input x
