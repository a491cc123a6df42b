-- A replica keeps its id.
use Rattle.std.proofs.Common.{◌≡◌, ℕ, ◌+◌, ◌-◌, Bool, true, false, cond, not, ◌&&◌, ◌||◌, ◌==◌, Option, Some, None, Result, Ok, Err, List, [], ◌∷◌, ◌++◌, length, slice_get, refl, sym, min}
use Rattle.std.specs.Prelude.{nat_lt, nat_le}
use Rattle.std.specs.List.{AllByRecursion}
use Rattle.std.proofs.lemmas.Bool.{cond_both}
use Rattle.values.specs.Terms.{term_of}
use Rattle.values.specs.declared.limits.TheConstants.{TOP}
use Rattle.values.specs.declared.batch.Refusal.{Refusal}
use Rattle.values.specs.declared.entry.Hash.{Hash}
use Rattle.values.specs.declared.entry.Point.{Point}
use Rattle.values.specs.declared.ids.ClientId.{ClientId}
use Rattle.values.specs.declared.message.Request.{Request}
use Rattle.values.specs.declared.peer.PeerMsg.{PeerMsg}
use Rattle.values.specs.declared.peer.PeerMsg.TheVariants as msg
use Rattle.values.specs.declared.peer.TablePart.{TablePart}
use Rattle.client_msgs.specs.declared.fault.RequestFault.{RequestFault}
use Rattle.client_msgs.specs.declared.fault.RequestFault.TheVariants as faults
use Rattle.client_msgs.specs.Reading.{request_of}
use Rattle.group_quorum.specs.Voters.{is_in}
use Rattle.schedule_model.specs.Reading.{max_u32}
use Rattle.replica_model.specs.Path.{Link, end_point, same_point}
use Rattle.replica_model.specs.Replica.{Named, Sending, Taking, Role, Learner, Follower, Candidate, Leader, Leading, Replica}
use Rattle.replica_model.specs.Message.{Message}
use Rattle.replica_model.specs.Call as model_call
use Rattle.replica_model.specs.Call.{Call, still}
use Rattle.replica_model.specs.Term.{followed, higher_term, learner_term}
use Rattle.replica_model.specs.Votes.{vote_asked, vote_heard, counted, stand, stands, stood, asks_votes, is_elected, win, with_vote}
use Rattle.replica_model.specs.Graft.{Difference, Offer, append_heard, conflict_or_graft, graft, answered, refusal_hint, first_difference, points_of, following}
use Rattle.replica_model.specs.Heard.{accepted_heard, accepted_by, rejected_by, rejected_heard, accepted_upto, sent_from, to_peer}
use Rattle.replica_model.specs.Peers.{is_peer, is_voter, leads_with, progress_of, with_progress}
use Rattle.replica_model.specs.Raise.{raise, to_every_peer}
use Rattle.replica_model.specs.Tables.{expects, is_taken, learner_hears, named_by, part_heard, part_taken, parts_of, rows_of, sending_done, sending_heard, sends_next, taken_by, taken_with, takes, takes_whole}
use Rattle.replica_model.specs.Clients.{client_request, on_request, valid_request, request_heard}
use Rattle.replica_model.specs.Changes.{refused_or, at_leader, join_refusal, admit_refusal, remove_refusal, margin_refusal}
use Rattle.replica_model.specs.Ticks.{tick}
use Rattle.replica_model.specs.Send.{send_append, send_appends, stepped_down, ended}
use Rattle.replica_model.specs.Step.{hears, hears_older, holder_hears, peer_hears, acts_on, acts, step}
use Rattle.replica_model.specs.Keyed.{value_at, without}
use Rattle.group_model.specs.Enclave.{HostInput, Tick, Peer, Client, Join, Admit, Remove, Save, Roll, Connect, Margin, Enclave, accepts, called, rolls_to, saves_if}

module _ (link : Link) (v : ℕ) where
  abbrev Own : Call → Type 0
  Own c = c.state.me ≡ v

  module _ (t : Replica) (at : t.me ≡ v) where
    vote-asked : (from index term : ℕ) → Own (vote_asked t from index term)
    vote-asked from index term = cond_both _ _ _ Own (λ so. at) (λ no_more. at)

    vote-counted : (ids : List ℕ) → Own (counted t ids)
    vote-counted ids = cond_both _ _ _ Own (λ so. at) (λ no_more. at)

    vote-heard : (r : Role) (from : ℕ) (granted : Bool) → Own (vote_heard t r from granted)
    vote-heard (Learner taking) from granted = at
    vote-heard Follower from granted = at
    vote-heard (Leader l) from granted = at
    vote-heard (Candidate votes) from true = vote-counted (with_vote t votes from)
    vote-heard (Candidate votes) from false = at

    grafts : (d : Option Difference) (o : Offer) → Own (graft link t d o)
    grafts d o = by_hint (refusal_hint (following t o.from) d o)
      where
        by_hint : (hint : Option ℕ) → Own (answered link (following t o.from) d o hint)
        by_hint (Some hint) = at
        by_hint None = at

    append-heard : (o : Offer) → Own (append_heard link t o)
    append-heard o = by_difference (first_difference link t (points_of link o))
      where
        by_difference : (d : Option Difference) → Own (conflict_or_graft link t d o)
        by_difference None = grafts None o
        by_difference (Some d) = cond_both _ _ _ Own (λ so. at) (λ no_more. grafts (Some d) o)

    accepts-by : (l : Leading) (from : ℕ) → Own (accepted_by t l from)
    accepts-by l from =
        let c : Call = raise (still (leads_with t l)) l in
        cond_both (nat_lt t.promised c.state.promised || nat_lt t.committed c.state.committed) (to_every_peer c l)
        (cond (nat_le (progress_of l from).next (length t.path)) (to_peer c from) c) Own
        (λ so. at) (λ no_more. cond_both (nat_le (progress_of l from).next (length t.path)) (to_peer c from) c Own (λ so. at) (λ none. at))

    accepted-heard : (r : Role) (from : ℕ) (end : Point) (promised : ℕ) → Own (accepted_heard link t r from end promised)
    accepted-heard (Learner taking) from end promised = at
    accepted-heard Follower from end promised = at
    accepted-heard (Candidate votes) from end promised = at
    accepted-heard (Leader l) from end promised =
        cond_both _ _ _ Own (λ so. accepts-by (with_progress l from (accepted_upto (progress_of l from) end.index promised)) from) (λ no_more. at)

    rejected-heard : (r : Role) (from hint : ℕ) → Own (rejected_heard t r from hint)
    rejected-heard (Learner taking) from hint = at
    rejected-heard Follower from hint = at
    rejected-heard (Candidate votes) from hint = at
    rejected-heard (Leader l) from hint =
        let m : Leading = record l { sendings = without l.sendings from } in
        let next : ℕ = min hint (length t.path) + 1 in
        cond_both (is_peer t l from) (rejected_by t m from hint) (still t) Own
        (λ so. cond_both (nat_lt hint t.base) (still (leads_with t m)) (sent_from t m from next) Own (λ low. at)
        (λ high. cond_both (next == (progress_of m from).next) (still (leads_with t m))
        (to_peer (still (leads_with t (with_progress m from (record (progress_of m from) { next = next })))) from) Own (λ same. at) (λ other. at)))
        (λ no_more. at)

    part-heard : (from : ℕ) (part : TablePart) → Own (part_heard link t from part)
    part-heard from part = cond_both _ _ _ Own (λ so. at) (λ no_more. at)

    part-taken : (r : Role) (from : ℕ) (point : Point) (next : ℕ) → Own (part_taken link t r from point next)
    part-taken (Learner taking) from point next = at
    part-taken Follower from point next = at
    part-taken (Candidate votes) from point next = at
    part-taken (Leader l) from point next = cond_both _ _ _ Own (λ so. by_sending (value_at l.sendings from)) (λ no_more. at)
      where
        heard : (sending : Sending) (parts : ℕ) → Own (sending_heard link t l from sending next parts)
        heard sending parts =
            cond_both (next == parts) (sending_done t l from (length sending.path))
            (cond (nat_lt sending.part next && nat_lt next parts) (sends_next link t l from (record sending { part = next })) (still t)) Own
            (λ so. at) (λ no_more. cond_both (nat_lt sending.part next && nat_lt next parts) (sends_next link t l from (record sending { part = next })) (still t) Own (λ so. at) (λ none. at))

        by_sending : (o : Option Sending) → Own (taken_by link t l from o point next)
        by_sending None = at
        by_sending (Some sending) =
            let parts : ℕ = parts_of (rows_of (named_by t sending.path)) in
            cond_both (same_point point (end_point link sending.path)) (sending_heard link t l from sending next parts) (still t) Own
            (λ so. heard sending parts) (λ no_more. at)

    hears-own : (from : ℕ) (m : PeerMsg) → Own (hears link t from m)
    hears-own from (msg.AskVote term last_index last_term) = vote-asked from last_index last_term
    hears-own from (msg.Vote term granted) = vote-heard t.role from granted
    hears-own from (msg.Append term prev entries promise commit) =
        append-heard (record { from = from; prev = prev; entries = entries; promise = promise; commit = commit })
    hears-own from (msg.Accepted term end promised) = accepted-heard t.role from end promised
    hears-own from (msg.Rejected term asked hint) = rejected-heard t.role from hint
    hears-own from (msg.Part term part) = part-heard from part
    hears-own from (msg.PartTaken term point next) = part-taken t.role from point next

    hears-old : (from : ℕ) (m : PeerMsg) → Own (hears_older link t from m)
    hears-old from (msg.AskVote term last_index last_term) = at
    hears-old from (msg.Vote term granted) = at
    hears-old from (msg.Append term prev entries promise commit) = at
    hears-old from (msg.Accepted term end promised) = at
    hears-old from (msg.Rejected term asked hint) = at
    hears-old from (msg.Part term part) = at
    hears-old from (msg.PartTaken term point next) = part-taken t.role from point next

  module _ (s : Replica) (mine : s.me ≡ v) where
    heard : (from : ℕ) (m : PeerMsg) → Own (holder_hears link s from m)
    heard from m =
        let n : ℕ = term_of m in
        let higher : Replica = record s { term = n; vote = 0; known = 0; role = followed s.role } in
        cond_both (nat_lt n s.term) (hears_older link s from m) (hears link (higher_term s n) from m) Own
        (λ old. hears-old s mine from m)
        (λ own. cond_both (nat_lt s.term n) higher s (λ (t : Replica). Own (hears link t from m)) (λ so. hears-own higher mine from m) (λ same. hears-own s mine from m))

    learner-heard : (taking : Taking) (from : ℕ) (names : Named) (m : PeerMsg) → Own (learner_hears link s taking from names m)
    learner-heard taking from names (msg.AskVote term last_index last_term) = mine
    learner-heard taking from names (msg.Vote term granted) = mine
    learner-heard taking from names (msg.Append term prev entries promise commit) = mine
    learner-heard taking from names (msg.Accepted term end promised) = mine
    learner-heard taking from names (msg.Rejected term asked hint) = mine
    learner-heard taking from names (msg.PartTaken term point next) = mine
    learner-heard taking from names (msg.Part term part) =
        let t : Replica = learner_term s term in
        let after : Taking = taken_with taking part names in
        cond_both (is_taken link taking part) (takes link t from after part names) (expects link t from taking) Own
        (λ so. cond_both (part.part + 1 == part.parts) (takes_whole link t from part names after.names.limit) (expects link (record t { role = Learner after }) from after) Own
        (λ whole. mine) (λ more. mine))
        (λ no_more. mine)

    peer-heard : (r : Role) (from : ℕ) (m : Message) → Own (peer_hears link s r from m)
    peer-heard (Learner taking) from m = learner-heard taking from m.names m.msg
    peer-heard Follower from m = heard from m.msg
    peer-heard (Candidate votes) from m = heard from m.msg
    peer-heard (Leader l) from m = heard from m.msg

    stood-up : Own (stand s)
    stood-up =
        let own : List ℕ = s.me ∷ [] in
        cond_both (is_voter s && not (s.term == TOP || length s.path == TOP)) (stands (stood s)) (still s) Own
        (λ so. cond_both (is_elected (stood s) own) (win (stood s)) (asks_votes (stood s)) Own (λ won. mine) (λ lost. mine))
        (λ no_more. mine)

    ticked : (r : Role) → Own (tick link s r)
    ticked (Learner taking) = mine
    ticked Follower = stood-up
    ticked (Candidate votes) = stood-up
    ticked (Leader l) = mine

    requested : (r : Role) (client : ClientId) (number : ℕ) (request : Request) → Own (request_heard s r client number request)
    requested (Learner taking) client number request = mine
    requested Follower client number request = mine
    requested (Candidate votes) client number request = mine
    requested (Leader l) client number request = cond_both _ _ _ Own (λ so. mine) (λ no_more. mine)

    asks-of : (client : ClientId) (number : ℕ) (bytes : List ℕ) → Own (client_request s client number bytes)
    asks-of client number bytes = by_request (request_of bytes)
      where
        by_halt : (o : Option (ℕ × Hash × Hash)) (request : Request) → Own (valid_request s o client number request)
        by_halt (Some d) request = mine
        by_halt None request = requested s.role client number request

        by_request : (r : Result Request RequestFault) → Own (on_request s client number r)
        by_request (Ok request) = by_halt s.halted request
        by_request (Err faults.Memory) = mine
        by_request (Err (faults.Wire fault)) = mine
        by_request (Err faults.Nothing) = mine
        by_request (Err (faults.Size part size)) = mine

    changed : (refusal : Option Refusal) (c : Call) → Own c → Own (refused_or s refusal c)
    changed (Some refusal) c done = mine
    changed None c done = done

    if-leading : (r : Role) (change : Leading → Call) → ((l : Leading) → Own (change l)) → Own (at_leader s r change)
    if-leading (Leader l) change done = done l
    if-leading (Learner taking) change done = mine
    if-leading Follower change done = mine
    if-leading (Candidate votes) change done = mine

    acted : (i : model_call.Input) → Own (acts_on link s i)
    acted model_call.Tick = ticked s.role
    acted (model_call.Peer from m) = peer-heard s.role from m
    acted (model_call.Client client number request) = asks-of client number request
    acted (model_call.Join id linked) = if-leading s.role _ (λ l. changed (join_refusal s l id linked) _ mine)
    acted (model_call.Admit id) = if-leading s.role _ (λ l. changed (admit_refusal s l id) _ mine)
    acted (model_call.Remove id) = if-leading s.role _ (λ l. changed (remove_refusal s id) _ mine)
    acted (model_call.Margin margin) = if-leading s.role _ (λ l. changed (margin_refusal s margin) _ mine)

    acted-halted : (o : Option (ℕ × Hash × Hash)) (i : model_call.Input) → Own (acts link s o i)
    acted-halted None i = acted i
    acted-halted (Some d) model_call.Tick = mine
    acted-halted (Some d) (model_call.Peer from m) = mine
    acted-halted (Some d) (model_call.Client client number request) = asks-of client number request
    acted-halted (Some d) (model_call.Join id linked) = mine
    acted-halted (Some d) (model_call.Admit id) = mine
    acted-halted (Some d) (model_call.Remove id) = mine
    acted-halted (Some d) (model_call.Margin margin) = mine

  append-sent : (c : Call) (r : Role) (to : ℕ) → Own c → Own (send_append link c r to)
  append-sent c (Learner taking) to at = at
  append-sent c Follower to at = at
  append-sent c (Candidate votes) to at = at
  append-sent c (Leader l) to at = cond_both _ _ _ Own (λ so. at) (λ no_more. at)

  appends-sent : (ids : List ℕ) (c : Call) → Own c → Own (send_appends link c ids)
  appends-sent [] c at = at
  appends-sent (to ∷ ids) c at = appends-sent ids (send_append link c c.state.role to) (append-sent c c.state.role to at)

  down-stepped : (s : Replica) (r : Role) → s.me ≡ v → (stepped_down s r).me ≡ v
  down-stepped s (Learner taking) at = at
  down-stepped s Follower at = at
  down-stepped s (Candidate votes) at = at
  down-stepped s (Leader l) at = cond_both _ _ _ (λ (t : Replica). t.me ≡ v) (λ so. at) (λ no_more. at)

  ended-own : (c : Call) (o : Option (ℕ × Hash × Hash)) → Own c → Own (ended link c o)
  ended-own c (Some d) at = at
  ended-own c None at =
      let d = send_appends link c c.appends in
      down-stepped d.state d.state.role (appends-sent c.appends c at)

  pub stepped-own : (s : Replica) (i : model_call.Input) → s.me ≡ v → Own (step link s i)
  stepped-own s i mine = ended-own (acts link s s.halted i) (acts link s s.halted i).state.halted (acted-halted s mine s.halted i)

  -- ---- an enclave

  -- the replica of an enclave and each state of it that was saved are of this id
  abbrev pub IsOwn : Enclave → Type 0
  IsOwn e = (e.replica.me ≡ v) × AllByRecursion (λ (s : Replica). s.me ≡ v) e.saved

  saved-more : (ss : List Replica) (s : Replica) → AllByRecursion (λ (s : Replica). s.me ≡ v) ss → s.me ≡ v → AllByRecursion (λ (s : Replica). s.me ≡ v) (ss ++ s ∷ [])
  saved-more [] s all at = (at, tt)
  saved-more (t ∷ ss) s (here, all) at = (here, saved-more ss s all at)

  saved-at : (ss : List Replica) (k : ℕ) (s : Replica) → AllByRecursion (λ (s : Replica). s.me ≡ v) ss → slice_get ss k ≡ Some s → s.me ≡ v
  saved-at [] k s all is = absurd cc
  saved-at (t ∷ ss) ℕ.zero s (here, all) is = let same : t ≡ s = cc in rw (sym same) here
  saved-at (t ∷ ss) (ℕ.suc k) s (here, all) is = saved-at ss k s all is

  module _ (e : Enclave) (own : IsOwn e) where
    accepted-own : (mine linked : Bool) (from to : ℕ) (m : Message) → IsOwn (accepts mine linked link e from to m).enclave
    accepted-own false linked from to m = own
    accepted-own true false from to m = own
    accepted-own true true from to m = (stepped-own e.replica (model_call.Peer from m) own.0, own.1)

    saved-own : (room : Bool) → IsOwn (saves_if room e).enclave
    saved-own true = (own.0, saved-more e.saved e.replica own.1 own.0)
    saved-own false = own

    rolled-own : (k : ℕ) (o : Option Replica) → slice_get e.saved k ≡ o → IsOwn (rolls_to e k o).enclave
    rolled-own k None is = own
    rolled-own k (Some s) is = (saved-at e.saved k s own.1 is, own.1)

    pub called-own : (input : HostInput Message) → IsOwn (called link e input).enclave
    called-own Tick = (stepped-own e.replica model_call.Tick own.0, own.1)
    called-own (Peer from to m) = accepted-own (to == e.replica.me) (is_in e.links from) from to m
    called-own (Client client number bytes) = (stepped-own e.replica (model_call.Client client number bytes) own.0, own.1)
    called-own (Join id) = (stepped-own e.replica (model_call.Join id (is_in e.links id)) own.0, own.1)
    called-own (Admit id) = (stepped-own e.replica (model_call.Admit id) own.0, own.1)
    called-own (Remove id) = (stepped-own e.replica (model_call.Remove id) own.0, own.1)
    called-own Save = saved-own (not (length e.saved - 1 == max_u32))
    called-own (Roll k) = rolled-own k (slice_get e.saved k) refl
    called-own (Connect id) = own
    called-own (Margin margin) = (stepped-own e.replica (model_call.Margin margin) own.0, own.1)
