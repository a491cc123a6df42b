-- Each ticket whose index the committed one passes in a call is told its outcome in that call, or that its entry was
-- replaced.
use Rattle.std.proofs.Common.{◌≡◌, ℕ, zero, suc, ◌+◌, ◌-◌, ◌<◌, ◌≤◌, ◌⊎◌, Bool, true, false, cond, not, ◌&&◌, ◌||◌, ◌==◌, nat_lt, nat_le, min, inl, inr, Option, Some, None, Result, Ok, Err, List, [], ◌∷◌, ◌++◌, length, take, map, refl, sym, ap, subst, ◌∙◌, arith}
use Rattle.std.specs.Prelude.{filter, filter_map, option_map}
use Rattle.std.specs.List.{Contains, cons_option}
use Rattle.std.proofs.lemmas.Bool.{cond_both, and_from, lt-ltb, le-leb, cases_Bool, leb-false}
use Rattle.std.proofs.lemmas.List.Elements.{Contains-append_left, Contains-append_right}
use Rattle.values.specs.declared.entry.Point.{Point}
use Rattle.values.specs.declared.limits.TheConstants.{TOP}
use Rattle.values.specs.declared.entry.Hash.{Hash}
use Rattle.values.specs.declared.ids.ClientId.{ClientId}
use Rattle.values.specs.declared.message.Answer.{Answer}
use Rattle.values.specs.declared.message.Answer.TheVariants.{Outcome, NotLeader, Busy, Malformed, Invalid, Halted}
use Rattle.values.specs.declared.message.Part.TheVariants.{Nothing}
use Rattle.values.specs.declared.batch.Refusal.{Refusal}
use Rattle.values.specs.declared.peer.TablePart.{TablePart}
use Rattle.group_quorum.specs.Conf.{Conf}
use Rattle.group_quorum.specs.Voters.{is_in}
use Rattle.values.specs.declared.message.Reply.{Reply}
use Rattle.values.specs.declared.message.Request.{Request}
use Rattle.values.specs.declared.peer.PeerMsg.{PeerMsg}
use Rattle.values.specs.declared.peer.PeerMsg.TheVariants.{AskVote, Vote, Append, Accepted, Rejected, Part, PartTaken}
use Rattle.values.specs.declared.entry.Body.TheVariants.{Noop, Members}
use Rattle.values.specs.Terms.{term_of}
use Rattle.client_msgs.specs.declared.fault.RequestFault.{RequestFault}
use Rattle.client_msgs.specs.declared.fault.RequestFault.TheVariants as faults
use Rattle.client_msgs.specs.Reading.{request_of}
use Rattle.replica_model.specs.Path.{Path, Link, same_point, end_point}
use Rattle.replica_model.specs.Keyed.{value_at, without}
use Rattle.replica_model.specs.Message.{Message}
use Rattle.replica_model.specs.Replica.{Ticket, Taking, Sending, Role, Learner, Follower, Candidate, Leader, Leading, Replica}
use Rattle.replica_model.specs.Peers.{is_peer, is_voter, newest, others, progress_of, leads_with, with_progress}
use Rattle.replica_model.specs.Call.{Input, Tick, Peer, Client, Join, Admit, Remove, Margin, Call, empty_batch, still, says, send_to, answers, moment}
use Rattle.replica_model.specs.Raise.{is_due, outcome_of, commit_to, commit_index, promise_raised, raise, pushed, raise_and_send, to_every_peer}
use Rattle.replica_model.specs.Send.{can_append, appended_to, send_append, send_appends, stepped_down, ended}
use Rattle.replica_model.specs.Configs.{conf_index}
use Rattle.replica_model.specs.Step.{hears, hears_older, holder_hears, peer_hears, acts_on, acts_halted, acts, step}
use Rattle.replica_model.specs.Term.{followed, higher_term}
use Rattle.replica_model.specs.Votes.{is_elected, leading_anew, led, win, stood, asks_votes, stands, stand, as_new, vote_asked, counted, with_vote, vote_heard}
use Rattle.replica_model.specs.Heard.{to_peer, accepted_upto, accepted_by, accepted_heard, rejected_by, sent_from, rejected_heard}
use Rattle.replica_model.specs.Graft.{Offer, Difference, first_difference, points_of, end_of, kept_length, undecided, undecided_at, refusal_hint, following, answered, spliced, replaced, graft, halts, conflict_or_graft, append_heard, matches}
use Rattle.replica_model.specs.Tables.{parts_of, rows_of, named_by, part_taken, taken_by, sending_heard, sends_next, sending_done, learner_hears, part_heard, part_message}
use Rattle.replica_model.specs.Clients.{asked, is_busy, request_heard, valid_request, on_request, open_entries, offset_of}
use Rattle.replica_model.specs.Changes.{refused_or, at_leader, join, joined, push_members, with_voter, without_voter, admit, remove, set_margin, join_refusal, admit_refusal, remove_refusal, margin_refusal}
use Rattle.replica_model.specs.Ticks.{tick}
use Rattle.replica_core.specs.Due.{ticket_of, tickets_by, IsToldReplaced, AreTold, DueAreTold}

-- an element of a list, by recursion
abbrev Among : {A : Type 0} → List A → A → Type 0
Among [] x = ⊥
Among (y ∷ ys) x = (y ≡ x) ⊎ Among ys x

among-from : {A : Type 0} (xs : List A) (x : A) → Contains xs x → Among xs x
among-from [] x (k, lt, is) = absurd (omega (arith, lt))
among-from (y ∷ ys) x (zero, lt, is) = inl is
among-from (y ∷ ys) x (suc k, lt, is) = inr (among-from ys x (k, omega (arith, lt), is))

pub none-among : {A : Type 0} (x : A) → Contains [] x → ⊥
none-among x at = among-from [] x at

contains-from : {A : Type 0} (xs : List A) (x : A) → Among xs x → Contains xs x
contains-from [] x at = absurd at
contains-from (y ∷ ys) x (inl is) = (0, omega arith, is)
contains-from (y ∷ ys) x (inr later) = let at = contains-from ys x later in let lt = at.1 in (suc at.0, omega (arith, lt), at.2)

filter-among : {A : Type 0} (test : A → Bool) (xs : List A) (x : A) → test x ≡ true → Among xs x → Among (filter test xs) x
filter-among test [] x is at = at
filter-among test (y ∷ ys) x is (inl same) = subst (λ b. Among (cond b (y ∷ filter test ys) (filter test ys)) x) (sym (ap test same ∙ is)) (inl same)
filter-among test (y ∷ ys) x is (inr later) =
    cond_both (test y) (y ∷ filter test ys) (filter test ys) (λ zs. Among zs x) (λ t. inr (filter-among test ys x is later)) (λ f. filter-among test ys x is later)

cons-among : {A : Type 0} (o : Option A) (xs : List A) (x : A) → Among xs x → Among (cons_option o xs) x
cons-among None xs x at = at
cons-among (Some y) xs x at = inr at

filter_map-among : {A B : Type 0} (f : A → Option B) (xs : List A) (x : A) (y : B) → f x ≡ Some y → Among xs x → Among (filter_map f xs) y
filter_map-among f [] x y is at = absurd at
filter_map-among f (z ∷ zs) x y is (inl same) = subst (λ o. Among (cons_option o (filter_map f zs)) y) (sym (ap f same ∙ is)) (inl refl)
filter_map-among f (z ∷ zs) x y is (inr later) = cons-among (f z) (filter_map f zs) y (filter_map-among f zs x y is later)

map-among : {A B : Type 0} (f : A → B) (xs : List A) (x : A) → Among xs x → Among (map f xs) (f x)
map-among f [] x at = at
map-among f (z ∷ zs) x (inl same) = inl (ap f same)
map-among f (z ∷ zs) x (inr later) = inr (map-among f zs x later)

module _ (olds : List Ticket) (since : ℕ) where
  -- what a call has told so far is enough
  abbrev Told : Call → Type 0
  Told c = AreTold olds since c.state.limit c.state.path c.state.committed c.batch.answers

  -- nothing falls due where the committed index stays
  quiet : (limit : ℕ) (path : Path) (answers : List (ClientId × ℕ × Answer)) → AreTold olds since limit path since answers
  quiet limit path answers t at above le = absurd (omega (arith, above, le))

  -- the tickets that are owed are kept, or were told that their entries were replaced
  abbrev Kept : Call → Type 0
  Kept c = (t : Ticket) → Contains olds t → since < t.index → IsToldReplaced c.batch.answers t ⊎ Contains c.state.tickets t

  committed-told : (c : Call) (i : ℕ) → c.state.committed ≡ since → Kept c → Told (commit_to c i)
  committed-told c i was kept t at above le = elim (kept t at above) [
    | inl told ↦ inr (told.0, (told.1.0, Contains-append_left c.batch.answers due (t.client, t.number, _) told.1.1))
    | inr held ↦ inl (λ reply is.
        Contains-append_right c.batch.answers due (t.client, t.number, Outcome t.index reply)
        (contains-from due (t.client, t.number, Outcome t.index reply)
        (filter_map-among (outcome_of c.state) (filter (is_due c.state i) c.state.tickets) t (t.client, t.number, Outcome t.index reply)
        (ap (option_map (λ (r : Reply). (t.client, t.number, Outcome t.index r))) is)
        (filter-among (is_due c.state i) c.state.tickets t due-now (among-from c.state.tickets t held)))))
  ]
    where
      due : List (ClientId × ℕ × Answer)
      due = filter_map (outcome_of c.state) (filter (is_due c.state i) c.state.tickets)

      due-now : is_due c.state i t ≡ true
      due-now =
          and_from (nat_lt c.state.committed t.index) (nat_le t.index i) (lt-ltb c.state.committed t.index (omega (arith, was, above)))
          (le-leb t.index i (omega (arith, was, above, le)))

  raised-told : (c : Call) (l : Leading) → c.state.committed ≡ since → Kept c → Told (raise c l)
  raised-told c l was kept =
      let c1 : Call = moment (promise_raised (moment c) l) in
      committed-told c1 (commit_index c1.state l) was kept

  -- the end of a call tells no client anything
  appended-told : (link : Link) (c : Call) (r : Role) (v : ℕ) → Told c → Told (send_append link c r v)
  appended-told link c (Learner taking) v told = told
  appended-told link c Follower v told = told
  appended-told link c (Candidate votes) v told = told
  appended-told link c (Leader l) v told = cond_both (can_append c.state l v) (appended_to link c l v) c Told (λ t. told) (λ f. told)

  appends-told : (link : Link) (c : Call) (vs : List ℕ) → Told c → Told (send_appends link c vs)
  appends-told link c [] told = told
  appends-told link c (v ∷ vs) told = appends-told link (send_append link c c.state.role v) vs (appended-told link c c.state.role v told)

  stepped-told : (c : Call) (s : Replica) (r : Role) → AreTold olds since s.limit s.path s.committed c.batch.answers
      → AreTold olds since (stepped_down s r).limit (stepped_down s r).path (stepped_down s r).committed c.batch.answers
  stepped-told c s (Learner taking) told = told
  stepped-told c s Follower told = told
  stepped-told c s (Candidate votes) told = told
  stepped-told c s (Leader l) told =
      cond_both (not (is_voter s) && nat_le (conf_index s.path) s.committed) (record s { role = Follower; known = 0 }) s
      (λ (q : Replica). AreTold olds since q.limit q.path q.committed c.batch.answers) (λ t. told) (λ f. told)

  ended-told : (link : Link) (c : Call) (halted : Option (ℕ × Hash × Hash)) → Told c → Told (ended link c halted)
  ended-told link c (Some d) told = told
  ended-told link c None told =
      let sent : Call = send_appends link c c.appends in
      stepped-told sent sent.state sent.state.role (appends-told link c c.appends told)

  -- ---- rule by rule, from a state whose committed index this is, that keeps the tickets
  module _ (link : Link) where
    win-told : (s : Replica) → s.committed ≡ since → ((t : Ticket) → Contains olds t → Contains s.tickets t) → Told (win s)
    win-told s was keeps =
        let l : Leading = leading_anew s in
        raised-told (record (still (pushed (led s l) Noop)) { batch = record empty_batch { lead = Some s.term } }) l was (λ t at above. inr (keeps t at))

    module _ (s : Replica) (keeps : (t : Ticket) → Contains olds t → Contains s.tickets t) (was : s.committed ≡ since)
        (within : (t : Ticket) → Contains s.tickets t → t.index ≤ length s.path) where
      calm : (limit : ℕ) (path : Path) (answers : List (ClientId × ℕ × Answer)) → AreTold olds since limit path s.committed answers
      calm limit path answers = subst (λ n. AreTold olds since limit path n answers) (sym was) (quiet limit path answers)

      stands-told : Told (stand s)
      stands-told =
          cond_both (is_voter s && not (s.term == TOP || length s.path == TOP)) (stands (stood s)) (still s) Told
          (λ t. cond_both (is_elected (stood s) (s.me ∷ [])) (win (stood s)) (asks_votes (stood s)) Told
          (λ u. win-told (stood s) was keeps) (λ f. calm s.limit s.path []))
          (λ f. calm s.limit s.path [])

      tick-told : (r : Role) → Told (tick link s r)
      tick-told (Learner taking) = calm s.limit s.path []
      tick-told Follower = stands-told
      tick-told (Candidate votes) = stands-told
      tick-told (Leader l) = calm s.limit s.path []

      vote-told : (r : Role) (from : ℕ) (granted : Bool) → Told (vote_heard s r from granted)
      vote-told (Learner taking) from granted = calm s.limit s.path []
      vote-told Follower from granted = calm s.limit s.path []
      vote-told (Leader l) from granted = calm s.limit s.path []
      vote-told (Candidate votes) from granted =
          let ws : List ℕ = with_vote s votes from in
          cond_both granted (counted s ws) (still s) Told
          (λ t. cond_both (is_elected s ws) (win (record s { role = Candidate ws })) (still (record s { role = Candidate ws })) Told
          (λ u. win-told (record s { role = Candidate ws }) was keeps) (λ f. calm s.limit s.path []))
          (λ f. calm s.limit s.path [])

      -- an append: the tickets of replaced entries are told so, the others are kept
      undecided-told : (cut : Option Difference) (t : Ticket) → Contains s.tickets t → nat_le t.index (kept_length s.path cut) ≡ false
          → IsToldReplaced (undecided cut s.tickets) t
      undecided-told None t at past =
          let in_path = within t at in
          absurd (let over : length s.path < t.index = leb-false t.index (length s.path) past in omega (arith, over, in_path))
      undecided-told (Some d) t at past =
          let over : d.0 - 1 < t.index = leb-false t.index (d.0 - 1) past in
          let le : d.0 ≤ t.index = omega (arith, over) in
          let gone : List Ticket = filter (λ (ticket : Ticket). nat_le d.0 ticket.index) s.tickets in (
            d,
            (
              le,
              contains-from (map (undecided_at d) gone) (undecided_at d t)
                  (map-among (undecided_at d) gone t (filter-among (λ (ticket : Ticket). nat_le d.0 ticket.index) s.tickets t (le-leb d.0 t.index le) (among-from s.tickets t at))),
            ),
          )

      spliced-keeps : (cut : Option Difference) (t : Ticket) → Contains s.tickets t
          → IsToldReplaced (undecided cut s.tickets) t ⊎ Contains (filter (λ (ticket : Ticket). nat_le ticket.index (kept_length s.path cut)) s.tickets) t
      spliced-keeps cut t at = elim (cases_Bool (nat_le t.index (kept_length s.path cut))) [
        | inl stays ↦
            inr (contains-from (filter (λ (ticket : Ticket). nat_le ticket.index (kept_length s.path cut)) s.tickets) t
            (filter-among (λ (ticket : Ticket). nat_le ticket.index (kept_length s.path cut)) s.tickets t stays (among-from s.tickets t at)))
        | inr past ↦ inl (undecided-told cut t at past)
      ]

      graft-told : (cut : Option Difference) (o : Offer) → Told (graft link s cut o)
      graft-told cut o = by (refusal_hint (following s o.from) cut o)
        where
          by : (hint : Option ℕ) → Told (answered link (following s o.from) cut o hint)
          by (Some hint) = calm s.limit s.path []
          by None =
              let f : Replica = following s o.from in
              let k : ℕ = kept_length s.path cut in
              committed-told (record (still (spliced f k o)) { batch = replaced f cut k o }) (min o.commit (min o.promise (end_of o))) was
              (λ t at above. spliced-keeps cut t (keeps t at))

      append-told : (o : Offer) → Told (append_heard link s o)
      append-told o = by (first_difference link s (points_of link o))
        where
          by : (d : Option Difference) → Told (conflict_or_graft link s d o)
          by None = graft-told None o
          by (Some d) = cond_both (nat_le d.0 s.promised) (halts s d) (graft link s (Some d) o) Told (λ t. calm s.limit s.path []) (λ f. graft-told (Some d) o)

      -- what a leader hears
      accepted-told : (r : Role) (from : ℕ) (end : Point) (promised : ℕ) → Told (accepted_heard link s r from end promised)
      accepted-told (Learner taking) from end promised = calm s.limit s.path []
      accepted-told Follower from end promised = calm s.limit s.path []
      accepted-told (Candidate votes) from end promised = calm s.limit s.path []
      accepted-told (Leader l) from end promised =
          let m : Leading = with_progress l from (accepted_upto (progress_of l from) end.index promised) in
          let c : Call = raise (still (leads_with s m)) m in
          let told : Told c = raised-told (still (leads_with s m)) m was (λ t at above. inr (keeps t at)) in
          cond_both (is_peer s l from && matches link s end) (accepted_by s m from) (still s) Told
          (λ t. cond_both (nat_lt s.promised c.state.promised || nat_lt s.committed c.state.committed) (to_every_peer c m)
          (cond (nat_le (progress_of m from).next (length s.path)) (to_peer c from) c) Told (λ u. told)
          (λ f. cond_both (nat_le (progress_of m from).next (length s.path)) (to_peer c from) c Told (λ u. told) (λ g. told)))
          (λ f. calm s.limit s.path [])

      rejected-told : (r : Role) (from hint : ℕ) → Told (rejected_heard s r from hint)
      rejected-told (Learner taking) from hint = calm s.limit s.path []
      rejected-told Follower from hint = calm s.limit s.path []
      rejected-told (Candidate votes) from hint = calm s.limit s.path []
      rejected-told (Leader l) from hint =
          let m : Leading = record l { sendings = without l.sendings from } in
          let next : ℕ = min hint (length s.path) + 1 in
          cond_both (is_peer s l from) (rejected_by s m from hint) (still s) Told
          (λ t. cond_both (nat_lt hint s.base) (still (leads_with s m)) (sent_from s m from next) Told (λ u. calm s.limit s.path [])
          (λ f. cond_both (next == (progress_of m from).next) (still (leads_with s m))
          (to_peer (still (leads_with s (with_progress m from (record (progress_of m from) { next = next })))) from) Told
          (λ u. calm s.limit s.path []) (λ g. calm s.limit s.path [])))
          (λ f. calm s.limit s.path [])

      part-told : (from : ℕ) (part : TablePart) → Told (part_heard link s from part)
      part-told from part =
          cond_both (matches link s part.point) (says s from (PartTaken s.term part.point part.parts))
          (says s from (Rejected s.term part.point.index (cond (nat_lt (length s.path) part.point.index) (length s.path) s.promised))) Told
          (λ t. calm s.limit s.path []) (λ f. calm s.limit s.path [])

      sending-told : (l : Leading) (from next : ℕ) (k : Sending) → Told (sending_heard link s l from k next (parts_of (rows_of (named_by s k.path))))
      sending-told l from next k =
          let parts : ℕ = parts_of (rows_of (named_by s k.path)) in
          cond_both (next == parts) (sending_done s l from (length k.path))
          (cond (nat_lt k.part next && nat_lt next parts) (sends_next link s l from (record k { part = next })) (still s)) Told
          (λ t. calm s.limit s.path [])
          (λ f. cond_both (nat_lt k.part next && nat_lt next parts) (sends_next link s l from (record k { part = next })) (still s) Told
          (λ t. calm s.limit s.path []) (λ g. calm s.limit s.path []))

      taken-told : (r : Role) (from : ℕ) (point : Point) (next : ℕ) → Told (part_taken link s r from point next)
      taken-told (Learner taking) from point next = calm s.limit s.path []
      taken-told Follower from point next = calm s.limit s.path []
      taken-told (Candidate votes) from point next = calm s.limit s.path []
      taken-told (Leader l) from point next =
          cond_both (is_in l.learners from) (taken_by link s l from (value_at l.sendings from) point next) (still s) Told
          (λ t. by (value_at l.sendings from)) (λ f. calm s.limit s.path [])
        where
          by : (o : Option Sending) → Told (taken_by link s l from o point next)
          by None = calm s.limit s.path []
          by (Some k) =
              cond_both (same_point point (end_point link k.path)) (sending_heard link s l from k next (parts_of (rows_of (named_by s k.path)))) (still s) Told
              (λ t. sending-told l from next k) (λ f. calm s.limit s.path [])

      asked-told : (from : ℕ) (index term : ℕ) → Told (vote_asked s from index term)
      asked-told from index term =
          cond_both ((s.vote == 0 || s.vote == from) && as_new s.path index term) (says (record s { vote = from }) from (Vote s.term true)) (says s from (Vote s.term false)) Told
          (λ t. calm s.limit s.path []) (λ f. calm s.limit s.path [])

      -- a message
      hears-told : (from : ℕ) (msg : PeerMsg) → Told (hears link s from msg)
      hears-told from (AskVote term index last) = asked-told from index last
      hears-told from (Vote term granted) = vote-told s.role from granted
      hears-told from (Append term prev entries promise commit) =
          append-told (record { from = from; prev = prev; entries = entries; promise = promise; commit = commit })
      hears-told from (Accepted term end promised) = accepted-told s.role from end promised
      hears-told from (Rejected term asked hint) = rejected-told s.role from hint
      hears-told from (Part term part) = part-told from part
      hears-told from (PartTaken term point next) = taken-told s.role from point next

      older-told : (from : ℕ) (msg : PeerMsg) → Told (hears_older link s from msg)
      older-told from (AskVote term index last) = calm s.limit s.path []
      older-told from (Vote term granted) = calm s.limit s.path []
      older-told from (Append term prev entries promise commit) = calm s.limit s.path []
      older-told from (Accepted term end promised) = calm s.limit s.path []
      older-told from (Rejected term asked hint) = calm s.limit s.path []
      older-told from (Part term part) = calm s.limit s.path []
      older-told from (PartTaken term point next) = taken-told s.role from point next

      -- a change of the members
      changed-told : (l : Leading) (c : Conf) → Told (push_members s l c)
      changed-told l c =
          raised-told (record (still (pushed (leads_with s l) (Members c.margin c.voters))) { batch = record empty_batch { members = (length s.path + 1, c.margin, c.voters) ∷ [] } })
          l was (λ t at above. inr (keeps t at))

      refused_or-told : (o : Option Refusal) (c : Call) → Told c → Told (refused_or s o c)
      refused_or-told None c told = told
      refused_or-told (Some refusal) c told = calm s.limit s.path []

      at_leader-told : (r : Role) (change : Leading → Call) → ((l : Leading) → Told (change l)) → Told (at_leader s r change)
      at_leader-told (Learner taking) change told = calm s.limit s.path []
      at_leader-told Follower change told = calm s.limit s.path []
      at_leader-told (Candidate votes) change told = calm s.limit s.path []
      at_leader-told (Leader l) change told = told l

    -- a message of any term, where a log is held: one of a higher term is heard by the replica that has taken it
    holder-told : (s : Replica) → ((t : Ticket) → Contains olds t → Contains s.tickets t) → s.committed ≡ since
        → ((t : Ticket) → Contains s.tickets t → t.index ≤ length s.path) → (from : ℕ) (msg : PeerMsg) → Told (holder_hears link s from msg)
    holder-told s keeps was within from msg =
        cond_both (nat_lt (term_of msg) s.term) (hears_older link s from msg) (hears link (higher_term s (term_of msg)) from msg) Told
        (λ t. older-told s keeps was within from msg)
        (λ f. cond_both (nat_lt s.term (term_of msg)) (record s { term = term_of msg; vote = 0; known = 0; role = followed s.role }) s (λ (q : Replica). Told (hears link q from msg))
        (λ t. hears-told (record s { term = term_of msg; vote = 0; known = 0; role = followed s.role }) keeps was within from msg)
        (λ g. hears-told s keeps was within from msg))

-- ---- one call

-- a replica whose tickets are of its path; one that holds no log has none
module _ (link : Link) (s : Replica) (within : (t : Ticket) → Contains s.tickets t → t.index ≤ length s.path)
    (unlogged : (taking : Taking) → s.role ≡ Learner taking → s.tickets ≡ []) where
  -- the tickets are those that it finds
  abbrev Found : Call → Type 0
  Found c = Told s.tickets s.committed c

  found : (t : Ticket) → Contains s.tickets t → Contains s.tickets t
  found t at = at

  -- a learner that holds nothing owes none
  none-told : s.tickets ≡ [] → (c : Call) → Found c
  none-told none c t at above le = absurd (among-from [] t (subst (λ ts. Contains ts t) none at))

  peer-told : (r : Role) → s.role ≡ r → (from : ℕ) (m : Message) → Found (peer_hears link s r from m)
  peer-told (Learner taking) is from m = none-told (unlogged taking is) (learner_hears link s taking from m.names m.msg)
  peer-told Follower is from m = holder-told s.tickets s.committed link s found refl within from m.msg
  peer-told (Candidate votes) is from m = holder-told s.tickets s.committed link s found refl within from m.msg
  peer-told (Leader l) is from m = holder-told s.tickets s.committed link s found refl within from m.msg

  -- a request: the ticket that it may make is one of them
  module _ (client : ClientId) (number : ℕ) where
    request-told : (request : Request) (r : Role) → Told (s.tickets ++ ticket_of s client number (Ok request)) s.committed (request_heard s r client number request)
    request-told request (Learner taking) = quiet (s.tickets ++ ticket_of s client number (Ok request)) s.committed s.limit s.path ((client, number, NotLeader s.known) ∷ [])
    request-told request Follower = quiet (s.tickets ++ ticket_of s client number (Ok request)) s.committed s.limit s.path ((client, number, NotLeader s.known) ∷ [])
    request-told request (Candidate votes) = quiet (s.tickets ++ ticket_of s client number (Ok request)) s.committed s.limit s.path ((client, number, NotLeader s.known) ∷ [])
    request-told request (Leader l) =
        let olds : List Ticket = s.tickets ++ ticket_of s client number (Ok request) in
        cond_both (is_busy s) (answers s client number (Busy (open_entries s))) (raise_and_send (still (asked s client number request)) l) (Told olds s.committed)
        (λ t. quiet olds s.committed s.limit s.path ((client, number, Busy (open_entries s)) ∷ []))
        (λ f. raised-told olds s.committed (still (asked s client number request)) l refl (λ t at above. inr at))

    valid-told : (request : Request) (halted : Option (ℕ × Hash × Hash)) → Told (s.tickets ++ ticket_of s client number (Ok request)) s.committed (valid_request s halted client number request)
    valid-told request None = request-told request s.role
    valid-told request (Some d) = quiet (s.tickets ++ ticket_of s client number (Ok request)) s.committed s.limit s.path ((client, number, Halted d.0) ∷ [])

    on_request-told : (r : Result Request RequestFault) → Told (s.tickets ++ ticket_of s client number r) s.committed (on_request s client number r)
    on_request-told (Ok request) = valid-told request s.halted
    on_request-told (Err faults.Memory) = quiet (s.tickets ++ []) s.committed s.limit s.path []
    on_request-told (Err (faults.Wire fault)) = quiet (s.tickets ++ []) s.committed s.limit s.path ((client, number, Malformed (offset_of fault)) ∷ [])
    on_request-told (Err faults.Nothing) = quiet (s.tickets ++ []) s.committed s.limit s.path ((client, number, Invalid Nothing 0) ∷ [])
    on_request-told (Err (faults.Size part size)) = quiet (s.tickets ++ []) s.committed s.limit s.path ((client, number, Invalid part size) ∷ [])

  acts_on-told : (i : Input) → Told (tickets_by s i) s.committed (acts_on link s i)
  acts_on-told Tick = tick-told s.tickets s.committed link s found refl within s.role
  acts_on-told (Peer from m) = peer-told s.role refl from m
  acts_on-told (Client client number bytes) = on_request-told client number (request_of bytes)
  acts_on-told (Join id linked) =
      at_leader-told s.tickets s.committed link s found refl within s.role (λ l. join link s l id linked)
      (λ l. refused_or-told s.tickets s.committed link s found refl within (join_refusal s l id linked)
      (send_to (still (leads_with s (joined s l id))) id (part_message link s (record { path = take s.committed s.path; part = 0 })))
      (quiet s.tickets s.committed s.limit s.path []))
  acts_on-told (Admit id) =
      at_leader-told s.tickets s.committed link s found refl within s.role (λ l. admit s l id)
      (λ l. refused_or-told s.tickets s.committed link s found refl within (admit_refusal s l id)
      (push_members s (record l { learners = others id l.learners }) (with_voter (newest s) id))
      (changed-told s.tickets s.committed link s found refl within (record l { learners = others id l.learners }) (with_voter (newest s) id)))
  acts_on-told (Remove id) =
      at_leader-told s.tickets s.committed link s found refl within s.role (λ l. remove s l id)
      (λ l. refused_or-told s.tickets s.committed link s found refl within (remove_refusal s id) (push_members s l (without_voter (newest s) id))
      (changed-told s.tickets s.committed link s found refl within l (without_voter (newest s) id)))
  acts_on-told (Margin margin) =
      at_leader-told s.tickets s.committed link s found refl within s.role (λ l. set_margin s l margin)
      (λ l. refused_or-told s.tickets s.committed link s found refl within (margin_refusal s margin) (push_members s l (record (newest s) { margin = margin }))
      (changed-told s.tickets s.committed link s found refl within l (record (newest s) { margin = margin })))

  acts_halted-told : (i : Input) → Told (tickets_by s i) s.committed (acts_halted s i)
  acts_halted-told Tick = quiet s.tickets s.committed s.limit s.path []
  acts_halted-told (Peer from m) = quiet s.tickets s.committed s.limit s.path []
  acts_halted-told (Client client number bytes) = on_request-told client number (request_of bytes)
  acts_halted-told (Join id linked) = quiet s.tickets s.committed s.limit s.path []
  acts_halted-told (Admit id) = quiet s.tickets s.committed s.limit s.path []
  acts_halted-told (Remove id) = quiet s.tickets s.committed s.limit s.path []
  acts_halted-told (Margin margin) = quiet s.tickets s.committed s.limit s.path []

  acts-told : (halted : Option (ℕ × Hash × Hash)) (i : Input) → Told (tickets_by s i) s.committed (acts link s halted i)
  acts-told None i = acts_on-told i
  acts-told (Some d) i = acts_halted-told i

  pub due-told : (i : Input) → DueAreTold s i (step link s i) (step link s i).batch
  due-told i =
      let c : Call = acts link s s.halted i in
      ended-told (tickets_by s i) s.committed link c c.state.halted (acts-told s.halted i)
