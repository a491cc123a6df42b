-- One call keeps a replica good, and what it sends is good.
use Rattle.replica_model.specs.Call.{says, Input, Peer, Call, still}
use Rattle.std.proofs.Common.{◌≡◌, ℕ, false, Option, Some, None, take, subst, ◌+◌, cond, min, max, List, [], ◌∷◌, length, sym, arith}
use Rattle.values.specs.declared.peer.PeerMsg.{PeerMsg}
use Rattle.values.specs.declared.peer.PeerMsg.TheVariants.{AskVote}
use Rattle.group_quorum.specs.Conf.{Conf}
use Rattle.replica_model.specs.Path.{Path, Link, last_term}
use Rattle.replica_model.specs.Message.{plain}
use Rattle.replica_model.specs.Replica.{Role, Learner, Follower, Candidate, Leader, Replica, Taking, Leading}
use Rattle.replica_model.specs.Term.{followed, learner_term}
use Rattle.replica_model.specs.Step.{acts, step}
use Rattle.group_model.specs.Log.{IsFrontOf}
use Rattle.log_laws.proofs.Chain.{NoCollisionIn}
use Rattle.log_laws.proofs.Good.{GoodRole, GoodReplica, GoodMsg, GoodMessage, GoodCall, GoodLeading, GoodSent}
use Rattle.log_laws.proofs.Calls.{as_was, saying, unmoved}
use Rattle.log_laws.proofs.Electing.{in_role, win_good, leads, request_good, join_good, push_members_good, second_passes, holder_first}
use Rattle.log_laws.proofs.Grafting.{graft_good}
use Rattle.log_laws.proofs.Hearing.{accepted_at, next_put, over, whole_sent, next_sent, tick_at, whole_good}
use Rattle.log_laws.proofs.Ending.{ended_good}
use Rattle.replica_model.specs.Keyed.{without}
use Rattle.replica_model.specs.Peers.{leads_with, is_pending, newest, others}
use Rattle.replica_model.specs.Graft.{following}
use Rattle.replica_model.specs.Tables.{taken_with}
use Rattle.values.specs.declared.batch.Refusal.{Refusal}
use Rattle.client_msgs.specs.Reading.{request_of}
use Rattle.replica_model.specs.Votes.{win, stood, with_vote}
use Rattle.replica_model.specs.Changes.{log_full, change_pending, join_refusal, admit_refusal, remove_refusal, margin_refusal, push_members, with_voter, without_voter}
use Rattle.step_walk.specs.Rules.{IsHolder, Rules}
use Rattle.step_walk.proofs.Outcomes as may
use Rattle.step_walk.proofs.Outcomes.{same_to_each}
use Rattle.step_walk.proofs.Walk.{followed_is, holds_behind, step_keeps}

-- a message that is handed is good
abbrev pub GoodInput : Link → Conf → (ℕ → Path → Type 0) → (Path → Type 0) → Input → Type 0
GoodInput link first Ever Held (Peer from m) = GoodMessage link first Ever Held from m
GoodInput link first Ever Held input = Unit {0}

module _ (link : Link) (first : Conf) (Ever : ℕ → Path → Type 0) (Held : Path → Type 0) (closed : (p w : Path) → IsFrontOf p w → Held w → Held p) (none : NoCollisionIn link Held) (shorter : (v : ℕ) (p w : Path) → IsFrontOf p w → Ever v w → Ever v p) (v : ℕ) where
  abbrev Good : Replica → Call → Type 0
  Good s c = GoodCall link first Ever Held v (take s.promised s.path) c

  abbrev Found : Replica → Type 0
  Found s = GoodReplica first Ever Held v s

  module _ (s : Replica) (g : Found s) where
    same : Good s (still s)
    same = as_was link first Ever Held v s g

    plainly : (to : ℕ) (msg : PeerMsg) → GoodSent link first Ever Held v ((to, plain msg) ∷ []) → Good s (says s to msg)
    plainly to msg fine = saying link first Ever Held v s g (to, plain msg) fine

    turned : (role : Role) → GoodRole first Ever Held s.first s.path role → Found (record s { role = role })
    turned role acts = in_role link first Ever Held closed shorter v s role g acts

    module _ (holder : IsHolder s.role) where
      theirs : s.first ≡ first
      theirs = holder_first link first Ever Held closed shorter v s g holder

      wins : (votes : List ℕ) → Good s (win (record s { role = Candidate votes }))
      wins votes = win_good link first Ever Held closed shorter v (record s { role = Candidate votes }) (turned (Candidate votes) theirs) theirs

      follows : (to : ℕ) (msg : PeerMsg) → GoodSent link first Ever Held v ((to, plain msg) ∷ []) → Good s (says (following s to) to msg)
      follows to msg fine = unmoved link first Ever Held v s g Follower theirs ((to, plain msg) ∷ []) fine

    module _ (l : Leading) (is : s.role ≡ Leader l) where
      known : (s.first ≡ first) × GoodLeading first Ever Held s.path l
      known = leads link first Ever Held closed shorter v s g l is

      leads_on : (l' : Leading) → GoodLeading first Ever Held s.path l' → Good s (still (leads_with s l'))
      leads_on l' fine = unmoved link first Ever Held v s g (Leader l') (known.0, fine) [] tt

      members : (l' : Leading) (c : Conf) → GoodLeading first Ever Held s.path l' → is_pending s ≡ false → Good s (push_members s l' c)
      members l' c fine settled = push_members_good link first Ever Held closed shorter v s g l is l' c fine settled

      settled : (rest : Option Refusal) → cond (log_full s).0 (Some (log_full s).1) (cond (change_pending s).0 (Some (change_pending s).1) rest) ≡ None → is_pending s ≡ false
      settled rest fine = second_passes link first Ever Held closed shorter v s g l is (log_full s) (change_pending s) rest fine

      gone : (from : ℕ) → GoodLeading first Ever Held s.path (record l { sendings = without l.sendings from })
      gone from = over link first Ever Held closed none shorter v s g l known.0 known.1 from

  rules : Rules link Found (λ s. GoodInput link first Ever Held) (GoodMsg link first Ever Held) Good (λ s input. Good s)
  rules = record {
    idle = same;
    not_leader = λ s known le g. same s g;
    rises = λ s from names msg g holder x up. turned s g (followed s.role) (followed_is (GoodRole first Ever Held s.first s.path) s.role holder (theirs s g holder));
    back = λ s t c done. done;
    message = λ s from m x. x;
    stands = λ s g behind x.
        let holder = holds_behind s.role behind in
        may.stand_by (Good s) s (same s g) (λ b. (
          λ b. win_good link first Ever Held closed shorter v (stood s) (turned s g (Candidate (s.me ∷ [])) (theirs s g holder)) (theirs s g holder),
          unmoved link first Ever Held v s g (Candidate (s.me ∷ [])) (theirs s g holder) _ (same_to_each (λ m. GoodMessage link first Ever Held v m.1) (plain (AskVote (s.term + 1) (length s.path) (last_term s.path))) (λ to. tt) _),
        ));
    asked_vote = λ s from names term last_index last g holder same_term x. may.vote_asked_by (Good s) s from last_index last (λ b. plainly s g from _ (tt, tt)) (plainly s g from _ (tt, tt));
    heard_vote = λ s votes from names term granted g is same_term x.
        let holder : IsHolder s.role = subst IsHolder (sym is) tt in
        may.vote_heard_by (Good s) s (same s g) votes from granted (λ b. (λ b. wins s g holder (with_vote s votes from), unmoved link first Ever Held v s g (Candidate (with_vote s votes from)) (theirs s g holder) [] tt));
    heard_append = λ s names term o g holder same_term x.
        may.append_heard_by (Good s) link s o (λ d is b. same s g) (λ d hint is at. follows s g holder o.from _ (tt, tt)) (λ d is calm at. graft_good link first Ever Held closed none shorter v s g (theirs s g holder) o x d is calm at);
    older_vote = λ s from names term last_index last g holder x. plainly s g from _ (tt, tt);
    older_append = λ s from names term prev entries promise commit g holder x. plainly s g from _ (tt, tt);
    older_part = λ s from names term part g holder x. plainly s g from _ (tt, tt);
    heard_part = λ s from names term part g holder x. may.part_heard_by (Good s) link s from part (plainly s g from _ (tt, tt)) (λ hint at. plainly s g from _ (tt, tt));
    takes_part = λ s taking from names term part g is x.
        let empty : s.path ≡ [] = subst (GoodRole first Ever Held s.first s.path) is g.state.acts in
        let t' : Taking = taken_with taking part names in
        may.take_part_by (Good s) link (learner_term s term) taking from part names
        (λ b. (whole_good link first Ever Held closed none shorter v s g empty (max s.term term) from t'.names.limit part names x, unmoved link first Ever Held v s g (Learner t') empty _ (tt, tt)))
        (plainly s g from _ (tt, tt));
    heard_accepted = λ s l from names term end promised g is same_term x. let k = known s g l is in
        may.accepted_heard_by (Good s) link s (same s g) l from (λ c done. done) end promised (λ done. done) (λ b. accepted_at link first Ever Held closed none shorter v s g l k.0 k.1 from end promised x b);
    heard_rejected = λ s l from names term asked hint g is same_term x. let k = known s g l is in
        may.rejected_heard_by (Good s) link s (same s g) l from (λ c done. done) hint (leads_on s g l is _ (gone s g l is from))
        (leads_on s g l is _ (next_put link first Ever Held closed none shorter v s g l k.0 k.1 _ from (min hint (length s.path) + 1) (gone s g l is from) (omega arith)));
    heard_taken = λ s l from names term point next g is x. let k = known s g l is in
        may.part_taken_by (Good s) link s (same s g) l from (λ c done. done) point next
        (λ sending has. (whole_sent link first Ever Held closed none shorter v s g l k.0 k.1 from sending has, λ later. next_sent link first Ever Held closed none shorter v s g l k.0 k.1 from sending next has));
    leader_ticks = λ s l g is x. let k = known s g l is in tick_at link first Ever Held closed none shorter v s g l k.0 k.1;
    joins = λ s l id linked g is x. may.unless_by (Good s) s (join_refusal s l id linked) _ (λ r at. same s g) (λ fine. join_good link first Ever Held closed shorter v s g l is id);
    admits = λ s l id g is x. may.unless_by (Good s) s (admit_refusal s l id) _ (λ r at. same s g)
        (λ fine. let k = (known s g l is).1 in members s g l is (record l { learners = others id l.learners }) (with_voter (newest s) id) (record { progress = k.progress; sendings = k.sendings }) (settled s g l is _ fine));
    removes = λ s l id g is x. may.unless_by (Good s) s (remove_refusal s id) _ (λ r at. same s g) (λ fine. members s g l is l (without_voter (newest s) id) (known s g l is).1 (settled s g l is _ fine));
    sets_margin = λ s l margin g is x. may.unless_by (Good s) s (margin_refusal s margin) _ (λ r at. same s g) (λ fine. members s g l is l (record (newest s) { margin = margin }) (known s g l is).1 (settled s g l is _ fine));
    asked = λ s client number request g x. may.on_request_by (Good s) s client number (request_of request) (same s g) (λ why. same s g) (λ l asks read is. request_good link first Ever Held closed shorter v s g l is client number asks);
    others = λ s input c other done. done;
    ends = λ s input c done. ended_good link first Ever Held closed v (take s.promised s.path) c c.state.halted done;
  }

  pub step_good : (s : Replica) → Found s → (input : Input) → GoodInput link first Ever Held input → Good s (step link s input)
  step_good s g input x = step_keeps link Found (λ s. GoodInput link first Ever Held) (GoodMsg link first Ever Held) Good (λ s input. Good s) rules s g input x
