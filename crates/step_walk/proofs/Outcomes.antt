-- What each rule of a replica may come to: a fact that stands of each outcome stands of the rule.
use Rattle.std.proofs.Common.{◌≡◌, ℕ, ◌+◌, Bool, true, false, not, ◌&&◌, ◌||◌, ◌==◌, cond, nat_lt, nat_le, min, Option, Some, None, Result, Ok, Err, List, [], ◌∷◌, length, map, refl}
use Rattle.std.specs.Prelude.{filter_map, option_map}
use Rattle.std.specs.List.{AllByRecursion, cons_option}
use Rattle.std.proofs.lemmas.Bool.{cond_both}
use Rattle.values.specs.declared.batch.Refusal.{Refusal}
use Rattle.values.specs.declared.entry.Hash.{Hash}
use Rattle.values.specs.declared.entry.Point.{Point}
use Rattle.values.specs.declared.ids.ClientId.{ClientId}
use Rattle.values.specs.declared.message.Answer.{Answer}
use Rattle.values.specs.declared.message.Answer.TheVariants.{NotLeader, Busy, Malformed, Invalid, Halted}
use Rattle.values.specs.declared.message.Part.TheVariants.{Nothing}
use Rattle.values.specs.declared.message.Request.{Request}
use Rattle.values.specs.declared.peer.TablePart.{TablePart}
use Rattle.values.specs.declared.peer.PeerMsg.TheVariants.{Vote, Rejected, PartTaken}
use Rattle.values.specs.declared.limits.TheConstants.{TOP}
use Rattle.client_msgs.specs.declared.fault.RequestFault.{RequestFault}
use Rattle.client_msgs.specs.declared.fault.RequestFault.TheVariants as faults
use Rattle.group_quorum.specs.Voters.{is_in}
use Rattle.replica_model.specs.Path.{Link, same_point, end_point}
use Rattle.replica_model.specs.Configs.{conf_index}
use Rattle.replica_model.specs.Keyed.{value_at, without, has}
use Rattle.replica_model.specs.Message.{Message}
use Rattle.replica_model.specs.Replica.{Named, Sending, Taking, Role, Learner, Follower, Candidate, Leader, Leading, Replica}
use Rattle.replica_model.specs.Peers.{is_peer, is_voter, progress_of, with_progress, leads_with}
use Rattle.replica_model.specs.Call.{Call, still, says, answers, refuses}
use Rattle.replica_model.specs.Raise.{raise, raise_and_send, to_every_peer}
use Rattle.replica_model.specs.Votes.{is_elected, win, stood, asks_votes, stands, stand, as_new, vote_asked, counted, with_vote, vote_heard}
use Rattle.replica_model.specs.Clients.{open_entries, asked, is_busy, request_heard, valid_request, offset_of, on_request}
use Rattle.replica_model.specs.Graft.{Offer, points_of, Difference, first_difference, refusal_hint, following, answered, accepts, grafted, graft, halts, conflict_or_graft, append_heard, matches}
use Rattle.replica_model.specs.Heard.{to_peer, accepted_upto, accepted_by, accepted_heard, sent_from, rejected_by, rejected_heard}
use Rattle.replica_model.specs.Tables.{parts_of, rows_of, named_by, part_message, is_taken, taken_with, expects, takes_whole, takes, take_part, part_heard, sends_next, sending_done, sending_heard, taken_by, part_taken}
use Rattle.replica_model.specs.Ticks.{sent_again, all_again}
use Rattle.replica_model.specs.Changes.{refused_or}
use Rattle.replica_model.specs.Send.{can_append, appended_to, send_append, send_appends, stepped_down, base_moved, ended}

-- a difference that is no conflict
abbrev pub IsCalm : Replica → Option Difference → Type 0
IsCalm s None = Unit {0}
IsCalm s (Some d) = nat_le d.0 s.promised ≡ false

module _ (C : Call → Type 0) where
  -- ---- elections
  module _ (s : Replica) (same : C (still s)) where
    pub stand_by : ((is_voter s && not (s.term == TOP || length s.path == TOP)) ≡ true → (is_elected (stood s) (s.me ∷ []) ≡ true → C (win (stood s))) × C (asks_votes (stood s))) → C (stand s)
    stand_by may = cond_both (is_voter s && not (s.term == TOP || length s.path == TOP)) (stands (stood s)) (still s) C
        (λ b. cond_both (is_elected (stood s) (s.me ∷ [])) (win (stood s)) (asks_votes (stood s)) C (may b).0 (λ more. (may b).1))
        (λ b. same)

    pub vote_heard_by : (votes : List ℕ) (from : ℕ) (granted : Bool)
        → (granted ≡ true → (is_elected s (with_vote s votes from) ≡ true → C (win (record s { role = Candidate (with_vote s votes from) }))) × C (still (record s { role = Candidate (with_vote s votes from) }))) → C (vote_heard s (Candidate votes) from granted)
    vote_heard_by votes from granted counts = cond_both granted (counted s (with_vote s votes from)) (still s) C
        (λ b. cond_both (is_elected s (with_vote s votes from)) (win (record s { role = Candidate (with_vote s votes from) })) (still (record s { role = Candidate (with_vote s votes from) })) C (counts b).0 (λ more. (counts b).1))
        (λ b. same)

  pub vote_asked_by : (s : Replica) (from last_index last_term : ℕ)
      → (((s.vote == 0 || s.vote == from) && as_new s.path last_index last_term) ≡ true → C (says (record s { vote = from }) from (Vote s.term true))) → C (says s from (Vote s.term false)) → C (vote_asked s from last_index last_term)
  vote_asked_by s from last_index last_term grants denies =
      cond_both ((s.vote == 0 || s.vote == from) && as_new s.path last_index last_term) (says (record s { vote = from }) from (Vote s.term true)) (says s from (Vote s.term false)) C grants (λ b. denies)

  -- ---- an append: a conflict, a refusal, or a graft
  module _ (link : Link) (s : Replica) (o : Offer) where
    pub append_heard_by :
        ((d : Difference) → first_difference link s (points_of link o) ≡ Some d → nat_le d.0 s.promised ≡ true → C (halts s d))
        → ((d : Option Difference) (hint : ℕ) → first_difference link s (points_of link o) ≡ d → refusal_hint (following s o.from) d o ≡ Some hint → C (says (following s o.from) o.from (Rejected s.term o.prev.index hint)))
        → ((d : Option Difference) → first_difference link s (points_of link o) ≡ d → IsCalm s d → refusal_hint (following s o.from) d o ≡ None → C (accepts link (grafted (following s o.from) d o) o))
        → C (append_heard link s o)
    append_heard_by conflict refused fine = judged (first_difference link s (points_of link o)) refl
      where
        hinted : (d : Option Difference) → first_difference link s (points_of link o) ≡ d → IsCalm s d → (hint : Option ℕ) → refusal_hint (following s o.from) d o ≡ hint → C (answered link (following s o.from) d o hint)
        hinted d is calm (Some hint) at = refused d hint is at
        hinted d is calm None at = fine d is calm at

        judged : (d : Option Difference) → first_difference link s (points_of link o) ≡ d → C (conflict_or_graft link s d o)
        judged None is = hinted None is tt (refusal_hint (following s o.from) None o) refl
        judged (Some d) is = cond_both (nat_le d.0 s.promised) (halts s d) (graft link s (Some d) o) C
            (λ b. conflict d is b)
            (λ b. hinted (Some d) is b (refusal_hint (following s o.from) (Some d) o) refl)

  -- ---- what a leader hears
  module _ (link : Link) (s : Replica) (same : C (still s)) (l : Leading) (from : ℕ) (to_one : (c : Call) → C c → C (to_peer c from)) where
    pub accepted_heard_by : (end : Point) (promised : ℕ) (to_all : C (raise (still (leads_with s (with_progress l from (accepted_upto (progress_of l from) end.index promised)))) (with_progress l from (accepted_upto (progress_of l from) end.index promised)))
        → C (to_every_peer (raise (still (leads_with s (with_progress l from (accepted_upto (progress_of l from) end.index promised)))) (with_progress l from (accepted_upto (progress_of l from) end.index promised))) (with_progress l from (accepted_upto (progress_of l from) end.index promised))))
        → ((is_peer s l from && matches link s end) ≡ true → C (raise (still (leads_with s (with_progress l from (accepted_upto (progress_of l from) end.index promised)))) (with_progress l from (accepted_upto (progress_of l from) end.index promised))))
        → C (accepted_heard link s (Leader l) from end promised)
    accepted_heard_by end promised to_all fine =
        let l' : Leading = with_progress l from (accepted_upto (progress_of l from) end.index promised) in
        let c : Call = raise (still (leads_with s l')) l' in
        cond_both (is_peer s l from && matches link s end) (accepted_by s l' from) (still s) C
        (λ b. cond_both (nat_lt s.promised c.state.promised || nat_lt s.committed c.state.committed) (to_every_peer c l') (cond (nat_le (progress_of l' from).next (length s.path)) (to_peer c from) c) C
        (λ rose. to_all (fine b))
        (λ not_rose. cond_both (nat_le (progress_of l' from).next (length s.path)) (to_peer c from) c C (λ lacks. to_one c (fine b)) (λ has. fine b)))
        (λ b. same)

    abbrev ended_sending : Leading
    ended_sending = record l { sendings = without l.sendings from }

    -- a table that is being sent ends, and the next index of the peer may be put
    pub rejected_heard_by : (hint : ℕ) → C (still (leads_with s ended_sending)) → C (still (leads_with s (with_progress ended_sending from (record (progress_of ended_sending from) { next = min hint (length s.path) + 1 })))) → C (rejected_heard s (Leader l) from hint)
    rejected_heard_by hint over put =
        let next : ℕ = min hint (length s.path) + 1 in
        cond_both (is_peer s l from) (rejected_by s ended_sending from hint) (still s) C
        (λ b. cond_both (nat_lt hint s.base) (still (leads_with s ended_sending)) (sent_from s ended_sending from next) C
        (λ below. over)
        (λ above. cond_both (next == (progress_of ended_sending from).next) (still (leads_with s ended_sending)) (to_peer (still (leads_with s (with_progress ended_sending from (record (progress_of ended_sending from) { next = next })))) from) C
        (λ known. over)
        (λ other. to_one _ put)))
        (λ b. same)

    -- a table that is being sent was taken whole, or its next part goes out
    pub part_taken_by : (point : Point) (next : ℕ)
        → ((sending : Sending) → value_at l.sendings from ≡ Some sending →
        C (still (leads_with s (with_progress ended_sending from (record (progress_of ended_sending from) { next = length sending.path + 1 }))))
        × ((nat_lt sending.part next && nat_lt next (parts_of (rows_of (named_by s sending.path)))) ≡ true → C (sends_next link s l from (record sending { part = next }))))
        → C (part_taken link s (Leader l) from point next)
    part_taken_by point next each = cond_both (is_in l.learners from) (taken_by link s l from (value_at l.sendings from) point next) (still s) C (λ b. of_sending (value_at l.sendings from) refl) (λ b. same)
      where
        by_number : (sending : Sending) → value_at l.sendings from ≡ Some sending → C (sending_heard link s l from sending next (parts_of (rows_of (named_by s sending.path))))
        by_number sending is = cond_both (next == parts_of (rows_of (named_by s sending.path))) (sending_done s l from (length sending.path)) (cond (nat_lt sending.part next && nat_lt next (parts_of (rows_of (named_by s sending.path)))) (sends_next link s l from (record sending { part = next })) (still s)) C
            (λ whole. to_one _ (each sending is).0)
            (λ more. cond_both (nat_lt sending.part next && nat_lt next (parts_of (rows_of (named_by s sending.path)))) (sends_next link s l from (record sending { part = next })) (still s) C (each sending is).1 (λ b. same))

        of_sending : (o : Option Sending) → value_at l.sendings from ≡ o → C (taken_by link s l from o point next)
        of_sending None is = same
        of_sending (Some sending) is = cond_both (same_point point (end_point link sending.path)) (sending_heard link s l from sending next (parts_of (rows_of (named_by s sending.path)))) (still s) C (λ b. by_number sending is) (λ b. same)

  -- ---- tables
  pub part_heard_by : (link : Link) (s : Replica) (from : ℕ) (part : TablePart) → C (says s from (PartTaken s.term part.point part.parts)) → ((hint : ℕ) → hint ≡ cond (nat_lt (length s.path) part.point.index) (length s.path) s.promised → C (says s from (Rejected s.term part.point.index hint))) → C (part_heard link s from part)
  part_heard_by link s from part held lacks =
      cond_both (matches link s part.point) (says s from (PartTaken s.term part.point part.parts)) (says s from (Rejected s.term part.point.index (cond (nat_lt (length s.path) part.point.index) (length s.path) s.promised))) C (λ b. held) (λ b. lacks _ refl)

  pub take_part_by : (link : Link) (s : Replica) (t : Taking) (from : ℕ) (part : TablePart) (names : Named)
      → (is_taken link t part ≡ true → C (takes_whole link s from part names (taken_with t part names).names.limit) × C (expects link (record s { role = Learner (taken_with t part names) }) from (taken_with t part names)))
      → C (expects link s from t) → C (take_part link s t from part names)
  take_part_by link s t from part names taken other =
      let t' : Taking = taken_with t part names in
      cond_both (is_taken link t part) (takes link s from t' part names) (expects link s from t) C
      (λ b. cond_both (part.part + 1 == part.parts) (takes_whole link s from part names t'.names.limit) (expects link (record s { role = Learner t' }) from t') C (λ whole. (taken b).0) (λ more. (taken b).1))
      (λ b. other)

  -- ---- changes of the members
  pub unless_by : (s : Replica) (o : Option Refusal) (c : Call) → ((refusal : Refusal) → o ≡ Some refusal → C (refuses s refusal)) → (o ≡ None → C c) → C (refused_or s o c)
  unless_by s (Some refusal) c refused fine = refused refusal refl
  unless_by s None c refused fine = fine refl

  -- ---- the end of a call
  module _ (link : Link) (appended : (c : Call) (l : Leading) (v : ℕ) → c.state.role ≡ Leader l → can_append c.state l v ≡ true → C c → C (appended_to link c l v)) where
    append_by : (c : Call) (role : Role) (v : ℕ) → c.state.role ≡ role → C c → C (send_append link c role v)
    append_by c (Learner taking) v is g = g
    append_by c Follower v is g = g
    append_by c (Candidate votes) v is g = g
    append_by c (Leader l) v is g = cond_both (can_append c.state l v) (appended_to link c l v) c C (λ may. appended c l v is may g) (λ b. g)

    module _ (emptied : (c : Call) → C c → C (record c { appends = [] })) where
      pub appends_by : (vs : List ℕ) (c : Call) → C c → C (send_appends link c vs)
      appends_by [] c g = emptied c g
      appends_by (v ∷ vs) c g = appends_by vs (send_append link c c.state.role v) (append_by c c.state.role v refl g)

      module _ (follows : (c : Call) (l : Leading) → c.state.role ≡ Leader l → C c → C (record c { state = record (c.state) { role = Follower; known = 0 } })) (moved : (c : Call) → C c → C (record c { state = base_moved c.state })) where
        stopped_by : (c : Call) (role : Role) → c.state.role ≡ role → C c → C (record c { state = stepped_down c.state role })
        stopped_by c (Learner taking) is g = g
        stopped_by c Follower is g = g
        stopped_by c (Candidate votes) is g = g
        stopped_by c (Leader l) is g = cond_both (not (is_voter c.state) && nat_le (conf_index c.state.path) c.state.committed) (record (c.state) { role = Follower; known = 0 }) c.state (λ s. C (record c { state = s }))
            (λ b. follows c l is g)
            (λ b. g)

        pub ended_by : (c : Call) (halted : Option (ℕ × Hash × Hash)) → C c → C (ended link c halted)
        ended_by c (Some d) g = g
        ended_by c None g =
            let sent : Call = send_appends link c c.appends in
            moved (record sent { state = stepped_down sent.state sent.state.role }) (stopped_by sent sent.state.role refl (appends_by c.appends c g))

-- ---- a leader's tick
-- what stands of what a leader knows stands as it sends again
pub again_by : (L : Leading → Type 0) (s : Replica) → ((l : Leading) (v : ℕ) → L l → L (with_progress l v (sent_again s (progress_of l v)))) → (vs : List ℕ) (l : Leading) → L l → L (all_again s l vs)
again_by L s again [] l fine = fine
again_by L s again (v ∷ vs) l fine =
    again_by L s again vs (cond (has l.sendings v) l (with_progress l v (sent_again s (progress_of l v))))
    (cond_both (has l.sendings v) l (with_progress l v (sent_again s (progress_of l v))) L (λ b. fine) (λ b. again l v fine))

-- what stands of the part of each table that is being sent stands of all that go out again
pub parts_by : (S : ℕ × Message → Type 0) (link : Link) (s : Replica) (l : Leading) → ((v : ℕ) (sending : Sending) → value_at l.sendings v ≡ Some sending → S (v, part_message link s sending)) → (vs : List ℕ)
    → AllByRecursion S (filter_map (λ v. option_map (λ sending. (v, part_message link s sending)) (value_at l.sendings v)) vs)
parts_by S link s l each [] = tt
parts_by S link s l each (v ∷ vs) = one (value_at l.sendings v) refl _ (parts_by S link s l each vs)
  where
    one : (o : Option Sending) → value_at l.sendings v ≡ o → (rest : List (ℕ × Message)) → AllByRecursion S rest → AllByRecursion S (cons_option (option_map (λ sending. (v, part_message link s sending)) o) rest)
    one None is rest fine = fine
    one (Some sending) is rest fine = (each v sending is, fine)

-- what stands of a message to anyone stands of it to each of these
pub same_to_each : (S : ℕ × Message → Type 0) (m : Message) → ((v : ℕ) → S (v, m)) → (vs : List ℕ) → AllByRecursion S (map (λ v. (v, m)) vs)
same_to_each S m each [] = tt
same_to_each S m each (v ∷ vs) = (each v, same_to_each S m each vs)

-- ---- a client's request
-- why a request is not taken
pub data Untaken (s : Replica) (r : Result Request RequestFault) : Type 0 where
  Halts : (d : ℕ × Hash × Hash) → s.halted ≡ Some d → Untaken s r
  LeadsNot : Untaken s r
  Waits : Untaken s r
  Malforms : (fault : _) → r ≡ Err (faults.Wire fault) → Untaken s r
  NoMember : Untaken s r
  OutOfRange : (part : _) (size : ℕ) → r ≡ Err (faults.Size part size) → Untaken s r

abbrev pub answer_of : {s : Replica} {r : Result Request RequestFault} → Untaken s r → Answer
answer_of {s} (Halts d is) = Halted d.0
answer_of {s} LeadsNot = NotLeader s.known
answer_of {s} Waits = Busy (open_entries s)
answer_of (Malforms fault is) = Malformed (offset_of fault)
answer_of NoMember = Invalid Nothing 0
answer_of (OutOfRange part size is) = Invalid part size

module _ (C : Call → Type 0) (s : Replica) (client : ClientId) (number : ℕ) (r : Result Request RequestFault) (same : C (still s)) (untaken : (why : Untaken s r) → C (answers s client number (answer_of why)))
    (taken : (l : Leading) (request : Request) → r ≡ Ok request → s.role ≡ Leader l → C (raise_and_send (still (asked s client number request)) l)) where
  request_by : (role : Role) → s.role ≡ role → (request : Request) → r ≡ Ok request → C (request_heard s role client number request)
  request_by (Learner taking) is request read = untaken LeadsNot
  request_by Follower is request read = untaken LeadsNot
  request_by (Candidate votes) is request read = untaken LeadsNot
  request_by (Leader l) is request read =
      cond_both (is_busy s) (answers s client number (Busy (open_entries s))) (raise_and_send (still (asked s client number request)) l) C (λ b. untaken Waits) (λ b. taken l request read is)

  valid_by : (halted : Option (ℕ × Hash × Hash)) → s.halted ≡ halted → (request : Request) → r ≡ Ok request → C (valid_request s halted client number request)
  valid_by (Some d) is request read = untaken (Halts d is)
  valid_by None is request read = request_by s.role refl request read

  read_by : (x : Result Request RequestFault) → r ≡ x → C (on_request s client number x)
  read_by (Ok request) is = valid_by s.halted refl request is
  read_by (Err faults.Memory) is = same
  read_by (Err (faults.Wire fault)) is = untaken (Malforms fault is)
  read_by (Err faults.Nothing) is = untaken NoMember
  read_by (Err (faults.Size part size)) is = untaken (OutOfRange part size is)

  pub on_request_by : C (on_request s client number r)
  on_request_by = read_by r refl
