-- A step, rule by rule: what holds of each way in which a rule may end holds of the step.
use Rattle.std.proofs.Common.{◌≡◌, ℕ, ◌+◌, Bool, true, false, cond, not, ◌&&◌, ◌||◌, ◌==◌, nat_lt, nat_le, Option, Some, None, Result, Ok, Err, List, [], ◌∷◌, ◌++◌, length, refl, sym, ◌∙◌, min}
use Rattle.std.proofs.lemmas.Bool.{cond_both}
use Rattle.values.specs.declared.entry.Hash.{Hash}
use Rattle.values.specs.declared.entry.Body.TheVariants.{Noop, Members}
use Rattle.values.specs.declared.entry.Point.{Point}
use Rattle.values.specs.declared.ids.ClientId.{ClientId}
use Rattle.values.specs.declared.batch.Refusal.{Refusal}
use Rattle.values.specs.declared.message.Request.{Request}
use Rattle.values.specs.declared.message.Answer.TheVariants.{Busy}
use Rattle.values.specs.declared.peer.PeerMsg.{PeerMsg}
use Rattle.values.specs.declared.peer.PeerMsg.TheVariants as msg
use Rattle.values.specs.declared.peer.TablePart.{TablePart}
use Rattle.client_msgs.specs.declared.fault.RequestFault.{RequestFault}
use Rattle.client_msgs.specs.declared.fault.RequestFault.TheVariants as faults
use Rattle.client_msgs.specs.Reading.{request_of}
use Rattle.group_quorum.specs.Conf.{Conf}
use Rattle.replica_model.specs.Path.{Link, end_point, same_point}
use Rattle.replica_model.specs.Replica.{Named, Sending, Taking, Role, Learner, Follower, Candidate, Leader, Leading, Replica}
use Rattle.replica_model.specs.Message.{Message}
use Rattle.replica_model.specs.Peers.{leads_with, progress_of, is_peer, is_voter, newest, others, with_progress}
use Rattle.replica_model.specs.Call as model_call
use Rattle.replica_model.specs.Call.{Call, still, moment}
use Rattle.replica_model.specs.Raise.{raise, raise_and_send, to_every_peer, pushed}
use Rattle.values.specs.Terms.{term_of}
use Rattle.replica_model.specs.Term.{higher_term, learner_term, followed}
use Rattle.replica_model.specs.Votes.{vote_asked, vote_heard, counted, win, stand, stands, stood, as_new, asks_votes, is_elected, with_vote, leading_anew, led}
use Rattle.replica_model.specs.Graft.{Difference, Offer, append_heard, conflict_or_graft, graft, halts, answered, following, refusal_hint, first_difference, points_of, stale_append, matches}
use Rattle.replica_model.specs.Heard.{accepted_heard, accepted_by, rejected_heard, rejected_by, sent_from, to_peer, accepted_upto}
use Rattle.replica_model.specs.Tables.{learner_hears, takes, takes_whole, expects, part_heard, part_taken, taken_by, sending_heard, sending_done, sends_next, is_taken, named_by, part_message, parts_of, rows_of, taken_with}
use Rattle.replica_model.specs.Clients.{client_request, on_request, valid_request, request_heard, asked, is_busy, open_entries}
use Rattle.replica_model.specs.Changes.{refused_or, at_leader, join, admit, remove, set_margin, push_members, admit_refusal, join_refusal, joined, margin_refusal, remove_refusal, with_voter, without_voter}
use Rattle.replica_model.specs.Ticks.{tick}
use Rattle.replica_model.specs.Send.{send_append, send_appends, can_append, appended_to, stepped_down, concluded, ended, with_sent, base_moved}
use Rattle.replica_model.specs.Step.{hears, hears_older, holder_hears, peer_hears, acts_on, acts, with_end, step}
use Rattle.replica_model.specs.Keyed.{value_at, without}
use Rattle.group_quorum.specs.Voters.{is_in}
use Rattle.values.specs.declared.limits.TheConstants.{TOP}
use Rattle.std.specs.Prelude.{take}
use Rattle.replica_model.specs.Configs.{conf_index}
use Rattle.std.proofs.lemmas.List.{append-nil}
use Rattle.replica_model.specs.Replica.{Ticket}
use Rattle.replica_model.specs.Graft.{accepts, grafted}

-- the replica has the indices, the tickets and the log that it had
abbrev pub Same : Replica → Replica → Type 0
Same s t = (t.promised ≡ s.promised) × (t.committed ≡ s.committed) × (t.tickets ≡ s.tickets) × (t.path ≡ s.path)

-- it has the indices that it had, and its tickets, with new ones after them
abbrev pub Pushed : Replica → Replica → Type 0
Pushed s t = (t.promised ≡ s.promised) × (t.committed ≡ s.committed) × ((made : List Ticket) × (t.tickets ≡ s.tickets ++ made))

-- it has what its answers rest on
abbrev pub Keeps : Replica → Replica → Type 0
Keeps s t = Same s t × (t.limit ≡ s.limit)

-- what carries on a call raises no more, and answers no more
pub record Carries (c d : Call) : Type 0 where
  pub moments : d.moments ≡ c.moments
  pub answers : d.batch.answers ≡ c.batch.answers
  pub state : Keeps c.state d.state
  pub leads : (l : Leading) → d.state.role ≡ Leader l → (k : Leading) × (c.state.role ≡ Leader k)

-- the ways in which a rule may end: nothing is raised and no ticket is made or dropped; a leader raises; an append is
-- grafted; a learner has a table whole; and what comes after that
pub record Ways (s : Replica) (P : Call → Type 0) : Type 0 where
  pub stays : (c : Call) → c.moments ≡ [] → Same s c.state → P c
  pub raises : (c : Call) (l : Leading) → c.moments ≡ [] → c.batch.answers ≡ [] → Pushed s c.state → P (raise c l)
  pub grafts : (link : Link) (t : Replica) → Same s t → t.role ≡ Follower → (d : Option Difference) (o : Offer) → P (accepts link (grafted t d o) o)
  pub whole : (link : Link) (taking : Taking) → s.role ≡ Learner taking → (from : ℕ) (part : TablePart) (names : Named) (term limit : ℕ)
      → P (takes_whole link (learner_term s term) from part names limit)
  pub carried : (c d : Call) → Carries c d → P c → P d

module _ (s : Replica) (P : Call → Type 0) (w : Ways s P) where
  stays : (c : Call) → c.moments ≡ [] → Same s c.state → P c
  stays = w.stays

  here : Same s s
  here = (refl, refl, refl, refl)

  kept-state : (t : Replica) → Keeps t t
  kept-state t = ((refl, refl, refl, refl), refl)

  unmade : (t : Replica) → Same s t → Pushed s t
  unmade t same = (same.0, same.1, ([], same.2 ∙ sym (append-nil s.tickets)))

  carries-on : (c d e : Call) → Carries c d → Carries d e → Carries c e
  carries-on c d e f g = record {
    moments = g.moments ∙ f.moments;
    answers = g.answers ∙ f.answers;
    state = let kept = f.state in let still-kept = g.state in (
      (
        still-kept.0.0 ∙ kept.0.0,
        still-kept.0.1 ∙ kept.0.1,
        still-kept.0.2 ∙ kept.0.2,
        still-kept.0.3 ∙ kept.0.3,
      ),
      still-kept.1 ∙ kept.1,
    );
    leads = λ l is. let k = g.leads l is in f.leads k.0 k.1;
  }

  same-call : (c : Call) → Carries c c
  same-call c = record { moments = refl; answers = refl; state = kept-state c.state; leads = λ l is. (l, is) }

  -- with other peers that are to be sent an append
  sending : (c : Call) (appends : List ℕ) → P c → P (record c { appends = appends })
  sending c appends = w.carried c (record c { appends = appends }) (record { moments = refl; answers = refl; state = kept-state c.state; leads = λ l is. (l, is) })

  raises-and-sends : (c : Call) (l : Leading) → c.moments ≡ [] → c.batch.answers ≡ [] → Pushed s c.state → P (raise_and_send c l)
  raises-and-sends c l none unanswered pushed-to = sending (raise c l) (to_every_peer (raise c l) l).appends (w.raises c l none unanswered pushed-to)

  -- ---- the rules, at a replica with the indices from before the call
  module _ (t : Replica) (at : Same s t) where
    stilled : P (still t)
    stilled = stays (still t) refl at

    wins : (a : Replica) → Same s a → P (win a)
    wins a same = raises-and-sends (record (still (pushed (led a (leading_anew a)) Noop)) {
      batch = record model_call.empty_batch { lead = Some a.term };
    }) (leading_anew a) refl refl (unmade a same)

    asked-vote : (from index term : ℕ) → P (vote_asked t from index term)
    asked-vote from index term =
        cond_both ((t.vote == 0 || t.vote == from) && as_new t.path index term)
        (model_call.says (record t { vote = from }) from (msg.Vote t.term true)) (model_call.says t from (msg.Vote t.term false)) P
        (λ so. stays (model_call.says (record t { vote = from }) from (msg.Vote t.term true)) refl at)
        (λ not_so. stays (model_call.says t from (msg.Vote t.term false)) refl at)

    counts : (ids : List ℕ) → P (counted t ids)
    counts ids =
        cond_both (is_elected t ids) (win (record t { role = Candidate ids })) (still (record t { role = Candidate ids })) P
        (λ so. wins (record t { role = Candidate ids }) at)
        (λ not_so. stays (still (record t { role = Candidate ids })) refl at)

    hears-vote : (r : Role) (from : ℕ) (granted : Bool) → P (vote_heard t r from granted)
    hears-vote (Learner taking) from granted = stilled
    hears-vote Follower from granted = stilled
    hears-vote (Leader l) from granted = stilled
    hears-vote (Candidate votes) from true = counts (with_vote t votes from)
    hears-vote (Candidate votes) from false = stilled

    grafts : (link : Link) (d : Option Difference) (o : Offer) → P (graft link t d o)
    grafts link d o = by_hint (refusal_hint (following t o.from) d o)
      where
        by_hint : (hint : Option ℕ) → P (answered link (following t o.from) d o hint)
        by_hint (Some hint) = stays (answered link (following t o.from) d o (Some hint)) refl at
        by_hint None = w.grafts link (following t o.from) at refl d o

    hears-append : (link : Link) (o : Offer) → P (append_heard link t o)
    hears-append link o = by_difference (first_difference link t (points_of link o))
      where
        by_difference : (d : Option Difference) → P (conflict_or_graft link t d o)
        by_difference None = grafts link None o
        by_difference (Some d) =
            cond_both (nat_le d.0 t.promised) (halts t d) (graft link t (Some d) o) P (λ so. stays (halts t d) refl at) (λ not_so. grafts link (Some d) o)

    accepts-by : (l : Leading) (v : ℕ) → P (accepted_by t l v)
    accepts-by l v =
        let c : Call = raise (still (leads_with t l)) l in
        let r : P c = w.raises (still (leads_with t l)) l refl refl (unmade t at) in
        cond_both (nat_lt t.promised c.state.promised || nat_lt t.committed c.state.committed) (to_every_peer c l)
        (cond (nat_le (progress_of l v).next (length t.path)) (to_peer c v) c) P
        (λ so. sending c (to_every_peer c l).appends r)
        (λ not_so. cond_both (nat_le (progress_of l v).next (length t.path)) (to_peer c v) c P (λ so. sending c (v ∷ []) r) (λ n. r))

    hears-accepted : (link : Link) (r : Role) (from : ℕ) (end : Point) (promised : ℕ) → P (accepted_heard link t r from end promised)
    hears-accepted link (Learner taking) from end promised = stilled
    hears-accepted link Follower from end promised = stilled
    hears-accepted link (Candidate votes) from end promised = stilled
    hears-accepted link (Leader l) from end promised =
        let m : Leading = with_progress l from (accepted_upto (progress_of l from) end.index promised) in
        cond_both (is_peer t l from && matches link t end) (accepted_by t m from) (still t) P
        (λ so. accepts-by m from) (λ not_so. stilled)

    hears-rejected : (r : Role) (from hint : ℕ) → P (rejected_heard t r from hint)
    hears-rejected (Learner taking) from hint = stilled
    hears-rejected Follower from hint = stilled
    hears-rejected (Candidate votes) from hint = stilled
    hears-rejected (Leader l) from hint =
        let m : Leading = record l { sendings = without l.sendings from } in
        let next : ℕ = min hint (length t.path) + 1 in
        cond_both (is_peer t l from) (rejected_by t m from hint) (still t) P
        (λ so. cond_both (nat_lt hint t.base) (still (leads_with t m)) (sent_from t m from next) P
        (λ low. stays (still (leads_with t m)) refl at)
        (λ high. cond_both (next == (progress_of m from).next) (still (leads_with t m))
        (to_peer (still (leads_with t (with_progress m from (record (progress_of m from) { next = next })))) from) P
        (λ same. stays (still (leads_with t m)) refl at)
        (λ other. stays (to_peer (still (leads_with t (with_progress m from (record (progress_of m from) { next = next })))) from) refl at)))
        (λ not_so. stilled)

    hears-part : (link : Link) (from : ℕ) (part : TablePart) → P (part_heard link t from part)
    hears-part link from part =
        let yes : Call = model_call.says t from (msg.PartTaken t.term part.point part.parts) in
        let no : Call = model_call.says t from (msg.Rejected t.term part.point.index (cond (nat_lt (length t.path) part.point.index) (length t.path) t.promised)) in
        cond_both (matches link t part.point) yes no P (λ so. stays yes refl at) (λ not_so. stays no refl at)

    hears-taken : (link : Link) (r : Role) (from : ℕ) (point : Point) (next : ℕ) → P (part_taken link t r from point next)
    hears-taken link (Learner taking) from point next = stilled
    hears-taken link Follower from point next = stilled
    hears-taken link (Candidate votes) from point next = stilled
    hears-taken link (Leader l) from point next =
        cond_both (is_in l.learners from) (taken_by link t l from (value_at l.sendings from) point next) (still t)
        P (λ so. by_sending (value_at l.sendings from)) (λ not_so. stilled)
      where
        heard : (sending : Sending) (parts : ℕ) → P (sending_heard link t l from sending next parts)
        heard sending parts =
            cond_both (next == parts) (sending_done t l from (length sending.path))
            (cond (nat_lt sending.part next && nat_lt next parts) (sends_next link t l from (record sending { part = next })) (still t)) P
            (λ so. stays (sending_done t l from (length sending.path)) refl at)
            (λ not_so. cond_both (nat_lt sending.part next && nat_lt next parts) (sends_next link t l from (record sending { part = next })) (still t) P
            (λ so. stays (sends_next link t l from (record sending { part = next })) refl at) (λ n. stilled))

        by_sending : (o : Option Sending) → P (taken_by link t l from o point next)
        by_sending None = stilled
        by_sending (Some sending) =
            let parts : ℕ = parts_of (rows_of (named_by t sending.path)) in
            cond_both (same_point point (end_point link sending.path)) (sending_heard link t l from sending next parts) (still t)
            P (λ so. heard sending parts) (λ not_so. stilled)

    hears-own : (link : Link) (from : ℕ) (m : PeerMsg) → P (hears link t from m)
    hears-own link from (msg.AskVote term last_index last_term) = asked-vote from last_index last_term
    hears-own link from (msg.Vote term granted) = hears-vote t.role from granted
    hears-own link from (msg.Append term prev entries promise commit) =
        hears-append link (record { from = from; prev = prev; entries = entries; promise = promise; commit = commit })
    hears-own link from (msg.Accepted term end promised) = hears-accepted link t.role from end promised
    hears-own link from (msg.Rejected term asked hint) = hears-rejected t.role from hint
    hears-own link from (msg.Part term part) = hears-part link from part
    hears-own link from (msg.PartTaken term point next) = hears-taken link t.role from point next

    hears-old : (link : Link) (from : ℕ) (m : PeerMsg) → P (hears_older link t from m)
    hears-old link from (msg.AskVote term last_index last_term) = stays (model_call.says t from (msg.Vote t.term false)) refl at
    hears-old link from (msg.Vote term granted) = stilled
    hears-old link from (msg.Append term prev entries promise commit) = stays (stale_append t from prev.index) refl at
    hears-old link from (msg.Accepted term end promised) = stilled
    hears-old link from (msg.Rejected term asked hint) = stilled
    hears-old link from (msg.Part term part) = stays (stale_append t from part.point.index) refl at
    hears-old link from (msg.PartTaken term point next) = hears-taken link t.role from point next

  -- ---- a message

  heard : (link : Link) (from : ℕ) (m : PeerMsg) → P (holder_hears link s from m)
  heard link from m =
      let n : ℕ = term_of m in
      cond_both (nat_lt n s.term) (hears_older link s from m) (hears link (higher_term s n) from m) P
      (λ old. hears-old s here link from m)
      (λ own. cond_both (nat_lt s.term n) (record s { term = n; vote = 0; known = 0; role = followed s.role }) s (λ t. P (hears link t from m))
      (λ higher. hears-own (record s { term = n; vote = 0; known = 0; role = followed s.role }) here link from m)
      (λ same. hears-own s here link from m))

  learner-heard : (link : Link) (taking : Taking) → s.role ≡ Learner taking → (from : ℕ) (names : Named) (m : PeerMsg) → P (learner_hears link s taking from names m)
  learner-heard link taking is from names (msg.AskVote term last_index last_term) = stilled s here
  learner-heard link taking is from names (msg.Vote term granted) = stilled s here
  learner-heard link taking is from names (msg.Append term prev entries promise commit) = stilled s here
  learner-heard link taking is from names (msg.Accepted term end promised) = stilled s here
  learner-heard link taking is from names (msg.Rejected term asked hint) = stilled s here
  learner-heard link taking is from names (msg.PartTaken term point next) = stilled s here
  learner-heard link taking is from names (msg.Part term part) =
      let t : Replica = learner_term s term in
      let after : Taking = taken_with taking part names in
      cond_both (is_taken link taking part) (takes link t from after part names) (expects link t from taking) P
      (λ so. cond_both (part.part + 1 == part.parts) (takes_whole link t from part names after.names.limit) (expects link (record t { role = Learner after }) from after) P
      (λ whole. w.whole link taking is from part names term after.names.limit)
      (λ more. stays (expects link (record t { role = Learner after }) from after) refl here))
      (λ not_so. stays (expects link t from taking) refl here)

  peer-heard : (link : Link) (r : Role) → s.role ≡ r → (from : ℕ) (m : Message) → P (peer_hears link s r from m)
  peer-heard link (Learner taking) is from m = learner-heard link taking is from m.names m.msg
  peer-heard link Follower is from m = heard link from m.msg
  peer-heard link (Candidate votes) is from m = heard link from m.msg
  peer-heard link (Leader l) is from m = heard link from m.msg

  -- ---- the timer

  stood-up : P (stand s)
  stood-up =
      let own : List ℕ = s.me ∷ [] in
      cond_both (is_voter s && not (s.term == TOP || length s.path == TOP))
      (stands (stood s)) (still s) P
      (λ so. cond_both (is_elected (stood s) own) (win (stood s)) (asks_votes (stood s)) P
      (λ won. wins s here (stood s) here)
      (λ lost. stays (asks_votes (stood s)) refl here))
      (λ not_so. stilled s here)

  ticked : (link : Link) (r : Role) → P (tick link s r)
  ticked link (Learner taking) = stilled s here
  ticked link Follower = stood-up
  ticked link (Candidate votes) = stood-up
  ticked link (Leader l) = stays (tick link s (Leader l)) refl here

  -- ---- a client, and changes of the members

  requested : (r : Role) (client : ClientId) (number : ℕ) (request : Request) → P (request_heard s r client number request)
  requested (Learner taking) client number request = stays (request_heard s (Learner taking) client number request) refl here
  requested Follower client number request = stays (request_heard s Follower client number request) refl here
  requested (Candidate votes) client number request = stays (request_heard s (Candidate votes) client number request) refl here
  requested (Leader l) client number request =
      let busy : Call = model_call.answers s client number (Busy (open_entries s)) in
      let c : Call = still (asked s client number request) in
      cond_both (is_busy s) busy (raise_and_send c l) P
      (λ so. stays busy refl here) (λ not_so. raises-and-sends c l refl refl (refl, refl, (record { index = length s.path + 1; client = client; number = number; request = request } ∷ [], refl)))

  asks-of : (client : ClientId) (number : ℕ) (bytes : List ℕ) → P (client_request s client number bytes)
  asks-of client number bytes = by_request (request_of bytes)
    where
      by_halt : (o : Option (ℕ × Hash × Hash)) (request : Request) → P (valid_request s o client number request)
      by_halt (Some d) request = stays (valid_request s (Some d) client number request) refl here
      by_halt None request = requested s.role client number request

      by_request : (r : Result Request RequestFault) → P (on_request s client number r)
      by_request (Ok request) = by_halt s.halted request
      by_request (Err faults.Memory) = stays (on_request s client number (Err faults.Memory)) refl here
      by_request (Err (faults.Wire fault)) = stays (on_request s client number (Err (faults.Wire fault))) refl here
      by_request (Err faults.Nothing) = stays (on_request s client number (Err faults.Nothing)) refl here
      by_request (Err (faults.Size part size)) = stays (on_request s client number (Err (faults.Size part size))) refl here

  changed : (refusal : Option Refusal) (c : Call) → P c → P (refused_or s refusal c)
  changed (Some refusal) c done = stays (refused_or s (Some refusal) c) refl here
  changed None c done = done

  pushes : (l : Leading) (c : Conf) → P (push_members s l c)
  pushes l c =
      raises-and-sends (record (still (pushed (leads_with s l) (Members c.margin c.voters))) {
        batch = record model_call.empty_batch { members = (length s.path + 1, c.margin, c.voters) ∷ [] };
      }) l refl refl (unmade s here)

  if-leading : (r : Role) (change : Leading → Call) → ((l : Leading) → P (change l)) → P (at_leader s r change)
  if-leading (Leader l) change done = done l
  if-leading (Learner taking) change done = stays (at_leader s (Learner taking) change) refl here
  if-leading Follower change done = stays (at_leader s Follower change) refl here
  if-leading (Candidate votes) change done = stays (at_leader s (Candidate votes) change) refl here

  -- ---- a call, and its end

  acted : (link : Link) (i : model_call.Input) → P (acts_on link s i)
  acted link model_call.Tick = ticked link s.role
  acted link (model_call.Peer from m) = peer-heard link s.role refl from m
  acted link (model_call.Client client number request) = asks-of client number request
  acted link (model_call.Join id linked) =
      if-leading s.role (λ l. join link s l id linked) (λ l. changed (join_refusal s l id linked)
      (model_call.send_to (still (leads_with s (joined s l id))) id (part_message link s (record { path = take s.committed s.path; part = 0 })))
      (stays (model_call.send_to (still (leads_with s (joined s l id))) id (part_message link s (record { path = take s.committed s.path; part = 0 }))) refl here))
  acted link (model_call.Admit id) =
      if-leading s.role (λ l. admit s l id) (λ l. changed (admit_refusal s l id)
      (push_members s (record l { learners = others id l.learners }) (with_voter (newest s) id))
      (pushes (record l { learners = others id l.learners }) (with_voter (newest s) id)))
  acted link (model_call.Remove id) =
      if-leading s.role (λ l. remove s l id) (λ l. changed (remove_refusal s id)
      (push_members s l (without_voter (newest s) id)) (pushes l (without_voter (newest s) id)))
  acted link (model_call.Margin margin) =
      if-leading s.role (λ l. set_margin s l margin) (λ l. changed (margin_refusal s margin)
      (push_members s l (record (newest s) { margin = margin })) (pushes l (record (newest s) { margin = margin })))

  acted-halted : (link : Link) (o : Option (ℕ × Hash × Hash)) (i : model_call.Input) → P (acts link s o i)
  acted-halted link None i = acted link i
  acted-halted link (Some d) model_call.Tick = stilled s here
  acted-halted link (Some d) (model_call.Peer from m) = stilled s here
  acted-halted link (Some d) (model_call.Client client number request) = asks-of client number request
  acted-halted link (Some d) (model_call.Join id linked) = stays (acts link s (Some d) (model_call.Join id linked)) refl here
  acted-halted link (Some d) (model_call.Admit id) = stays (acts link s (Some d) (model_call.Admit id)) refl here
  acted-halted link (Some d) (model_call.Remove id) = stays (acts link s (Some d) (model_call.Remove id)) refl here
  acted-halted link (Some d) (model_call.Margin margin) = stays (acts link s (Some d) (model_call.Margin margin)) refl here

  appends-one : (link : Link) (c : Call) (r : Role) (v : ℕ) → c.state.role ≡ r → Carries c (send_append link c r v)
  appends-one link c (Learner taking) v is = same-call c
  appends-one link c Follower v is = same-call c
  appends-one link c (Candidate votes) v is = same-call c
  appends-one link c (Leader l) v is =
      cond_both (can_append c.state l v) (appended_to link c l v) c (Carries c)
      (λ so. record { moments = refl; answers = refl; state = kept-state c.state; leads = λ k e. (l, is) }) (λ not_so. same-call c)

  appends-all : (link : Link) (vs : List ℕ) (c : Call) → Carries c (send_appends link c vs)
  appends-all link [] c = record { moments = refl; answers = refl; state = kept-state c.state; leads = λ l is. (l, is) }
  appends-all link (v ∷ vs) c =
      let d : Call = send_append link c c.state.role v in
      carries-on c d (send_appends link d vs) (appends-one link c c.state.role v refl) (appends-all link vs d)

  stops : (c : Call) → Carries c (concluded c)
  stops c = by_role c.state.role refl
    where
      ends : (t : Replica) → Keeps c.state t → ((l : Leading) → t.role ≡ Leader l → (k : Leading) × (c.state.role ≡ Leader k))
          → Carries c (record c { state = base_moved t })
      ends t kept leads = record { moments = refl; answers = refl; state = kept; leads = leads }

      by_role : (r : Role) → c.state.role ≡ r → Carries c (record c { state = base_moved (stepped_down c.state r) })
      by_role (Learner taking) is = ends c.state (kept-state c.state) (λ l e. (l, e))
      by_role Follower is = ends c.state (kept-state c.state) (λ l e. (l, e))
      by_role (Candidate votes) is = ends c.state (kept-state c.state) (λ l e. (l, e))
      by_role (Leader l) is =
          cond_both (not (is_voter c.state) && nat_le (conf_index c.state.path) c.state.committed)
          (record (c.state) { role = Follower; known = 0 }) c.state (λ t. Carries c (record c { state = base_moved t }))
          (λ so. ends (record (c.state) { role = Follower; known = 0 }) (kept-state c.state) (λ k e. (l, is))) (λ not_so. ends c.state (kept-state c.state) (λ k e. (k, e)))

  ended-with : (link : Link) (c : Call) (o : Option (ℕ × Hash × Hash)) → Carries c (ended link c o)
  ended-with link c (Some d) = same-call c
  ended-with link c None =
      let d : Call = send_appends link c c.appends in
      carries-on c d (concluded d) (appends-all link c.appends c) (stops d)

  pub stepped : (link : Link) (i : model_call.Input) → P (step link s i)
  stepped link i =
      let c : Call = acts link s s.halted i in
      let d : Call = with_end link c in
      w.carried d (with_sent d) (record { moments = refl; answers = refl; state = kept-state d.state; leads = λ l is. (l, is) })
      (w.carried c d (ended-with link c c.state.halted) (acted-halted link s.halted i))
