-- One call of a replica keeps its tickets and its limit, and tells outcomes of its path.
use Rattle.std.proofs.Common.{◌≡◌, ℕ, Ok, List, [], ◌++◌, refl, sym, subst, ◌+◌, true, max, Result, ◌∷◌, length}
use Rattle.std.proofs.lemmas.List.{append-nil}
use Rattle.values.specs.declared.message.Request.{Request}
use Rattle.values.specs.declared.peer.PeerMsg.TheVariants.{AskVote}
use Rattle.client_msgs.specs.Reading.{request_of}
use Rattle.replica_model.specs.Path.{Link, last_term}
use Rattle.replica_model.specs.Message.{Message, plain}
use Rattle.replica_model.specs.Replica.{Ticket, Role, Learner, Follower, Candidate, Leader, Leading, Replica, Named, Taking}
use Rattle.replica_model.specs.Call.{Input, Peer, Client, Call, still, answers}
use Rattle.replica_model.specs.Changes.{join_refusal, admit_refusal, remove_refusal, margin_refusal, joined, push_members, with_voter, without_voter}
use Rattle.replica_model.specs.Term.{followed, learner_term}
use Rattle.replica_model.specs.Ticks.{all_again}
use Rattle.replica_model.specs.Step.{step}
use Rattle.group_model.specs.Log.{new_ticket}
use Rattle.outcome_laws.proofs.Tickets.{Wait, Reads, LimitTold, FairCall, FairState, Stands, NamesLimit, LimitsTold, FairParts}
use Rattle.outcome_laws.proofs.Raised.{raise_fair}
use Rattle.outcome_laws.proofs.Rules.{IsNew, in_role, win_fair, owed_now, accepts_fair, push_members_fair, answering_new, with_new, pushed_request, limit_known, none_owed}
use Rattle.std.specs.List.{AllByRecursion}
use Rattle.values.specs.declared.ids.ClientId.{ClientId}
use Rattle.values.specs.declared.peer.TablePart.{TablePart}
use Rattle.client_msgs.specs.declared.fault.RequestFault.{RequestFault}
use Rattle.group_quorum.specs.Conf.{Conf}
use Rattle.replica_model.specs.Peers.{others, progress_of, with_progress, leads_with, newest, peers}
use Rattle.replica_model.specs.Raise.{raise_and_send}
use Rattle.replica_model.specs.Votes.{win, with_vote}
use Rattle.replica_model.specs.Clients.{asked}
use Rattle.replica_model.specs.Heard.{accepted_upto}
use Rattle.replica_model.specs.Tables.{is_taken, taken_with, expects, takes_whole}
use Rattle.log_laws.proofs.Ending.{all-append}
use Rattle.step_walk.specs.Rules.{IsHolder, IsNoRequest, Rules}
use Rattle.step_walk.proofs.Outcomes as may
use Rattle.step_walk.proofs.Outcomes.{parts_by, same_to_each}
use Rattle.step_walk.proofs.Walk.{followed_is, holds_behind, step_keeps}

module _ (all olds : List Ticket) (since run : ℕ) (link : Link) where
  abbrev Fair : Call → Type 0
  Fair c = FairCall all olds since run c

  -- a state in a call that has told nothing yet, and what it found waits
  pub record Waiting (s : Replica) : Type 0 where
    pub state : FairState all olds since run s
    pub waits : Wait olds since s.committed s.tickets
    pub now : s.committed ≡ since

  -- what is handed: a part with the run's limit, or a request whose ticket is among these
  abbrev pub IsFairInput : Replica → Input → Type 0
  IsFairInput s (Peer from m) = LimitTold run m
  IsFairInput s (Client client number bytes) = (request : Request) → request_of bytes ≡ Ok request → IsNew all s client number request
  IsFairInput s input = Unit {0}

  -- the tickets that an input may make
  abbrev pub new_tickets : Replica → Input → List Ticket
  new_tickets s (Client client number bytes) = new_ticket s client number (request_of bytes)
  new_tickets s input = []

  none_new : (s : Replica) (input : Input) → IsNoRequest input → new_tickets s input ≡ []
  none_new s (Client client number bytes) other = absurd other
  none_new s input other = refl

  abbrev FairOn : Replica → Input → Call → Type 0
  FairOn s input c = FairCall all (olds ++ new_tickets s input) since run c

  reads_run : (limit : ℕ) (tickets : List Ticket) (role : Role) → IsHolder role → Reads run limit tickets role → limit ≡ run
  reads_run limit tickets (Learner taking) holder reads = absurd holder
  reads_run limit tickets other holder reads = reads

  module _ (s : Replica) (g : Waiting s) where
    quiet : (sent : List (ℕ × Message)) → LimitsTold run sent → FairParts all olds since run s.limit s.committed s.path s.role s.tickets [] sent
    quiet sent fine = in_role all olds since run link s g.state s.role g.state.reads sent fine

    turned : (role : Role) → Reads run s.limit s.tickets role → FairState all olds since run (record s { role = role })
    turned role reads = in_role all olds since run link s g.state role reads [] tt

    module _ (holder : IsHolder s.role) where
      theirs : s.limit ≡ run
      theirs = reads_run s.limit s.tickets s.role holder g.state.reads

      wins : (term vote known : ℕ) (votes : List ℕ) → Fair (win (record s { term = term; vote = vote; known = known; role = Candidate votes }))
      wins term vote known votes = win_fair all olds since run link (record s { term = term; vote = vote; known = known; role = Candidate votes }) (turned (Candidate votes) theirs) theirs g.waits

    module _ (l : Leading) (is : s.role ≡ Leader l) where
      mine : s.limit ≡ run
      mine = subst (Reads run s.limit s.tickets) is g.state.reads

      leading : (l' : Leading) (sent : List (ℕ × Message)) → LimitsTold run sent → FairParts all olds since run s.limit s.committed s.path (Leader l') s.tickets [] sent
      leading l' sent fine = in_role all olds since run link s g.state (Leader l') mine sent fine

      members : (l' : Leading) (c : Conf) → Fair (push_members s l' c)
      members l' c = push_members_fair all olds since run link s g.state mine g.waits l' c

    -- a request that is not taken is answered with no outcome
    untaken : (client : ClientId) (number : ℕ) (r : Result Request RequestFault) (why : may.Untaken s r) → FairCall all (olds ++ new_ticket s client number r) since run (answers s client number (may.answer_of why))
    untaken client number r (may.Halts d is) = answering_new all olds since run link s g.state g.waits g.now _ client number _ tt
    untaken client number r may.LeadsNot = answering_new all olds since run link s g.state g.waits g.now _ client number _ tt
    untaken client number r may.Waits = answering_new all olds since run link s g.state g.waits g.now _ client number _ tt
    untaken client number r (may.Malforms fault is) = answering_new all olds since run link s g.state g.waits g.now _ client number _ tt
    untaken client number r may.NoMember = answering_new all olds since run link s g.state g.waits g.now _ client number _ tt
    untaken client number r (may.OutOfRange part size is) = answering_new all olds since run link s g.state g.waits g.now _ client number _ tt

    taken : (client : ClientId) (number : ℕ) (bytes : List ℕ) → IsFairInput s (Client client number bytes) → (l : Leading) (request : Request) → request_of bytes ≡ Ok request → s.role ≡ Leader l → FairOn s (Client client number bytes) (raise_and_send (still (asked s client number request)) l)
    taken client number bytes x l request read is =
        subst (λ r. FairCall all (olds ++ new_ticket s client number r) since run (raise_and_send (still (asked s client number request)) l)) (sym read) (pushed_request all olds since run link s g.state g.waits g.now l is client number request (x request read))

    -- a learner takes parts alone, and owes nothing
    module _ (t : Taking) (is : s.role ≡ Learner t) (from : ℕ) (names : Named) (term : ℕ) (part : TablePart) (told : names.limit ≡ run) (taken : is_taken link t part ≡ true) where
      reads : Reads run s.limit s.tickets (Learner t)
      reads = subst (Reads run s.limit s.tickets) is g.state.reads

      known : (taken_with t part names).names.limit ≡ run
      known = limit_known all olds since run link s g.state g.waits t part names taken reads.1 told

      whole_fair : Fair (takes_whole link (learner_term s term) from part names (taken_with t part names).names.limit)
      whole_fair = record { reads = known; stand = subst (AllByRecursion (Stands all names.path)) (sym reads.0) tt; answered = tt; told = (tt, tt); owed = none_owed all olds since run link s g.state g.waits reads.0 _ _ names.path [] }

      more_fair : Fair (expects link (record s { term = max s.term term; role = Learner (taken_with t part names) }) from (taken_with t part names))
      more_fair = in_role all olds since run link s g.state (Learner (taken_with t part names)) (reads.0, λ some. known) _ (tt, tt)

  rules : Rules link Waiting IsFairInput (λ from. NamesLimit run) (λ s. Fair) FairOn
  rules = record {
    idle = λ s g. quiet s g [] tt;
    not_leader = λ s known le g. quiet s g [] tt;
    rises = λ s from names msg g holder x up. record { state = turned s g (followed s.role) (followed_is (Reads run s.limit s.tickets) s.role holder (theirs s g holder)); waits = g.waits; now = g.now };
    back = λ s t c done. done;
    message = λ s from m x. x;
    stands = λ s g behind x.
        let holder : IsHolder s.role = holds_behind s.role behind in
        may.stand_by Fair s (quiet s g [] tt) (λ b. (
          λ b. wins s g holder (s.term + 1) s.me 0 (s.me ∷ []),
          in_role all olds since run link s g.state (Candidate (s.me ∷ [])) (theirs s g holder) _ (same_to_each (λ m. LimitTold run m.1) (plain (AskVote (s.term + 1) (length s.path) (last_term s.path))) (λ v. tt) _),
        ));
    asked_vote = λ s from names term last_index last g holder same x. may.vote_asked_by Fair s from last_index last (λ b. quiet s g _ (tt, tt)) (quiet s g _ (tt, tt));
    heard_vote = λ s votes from names term granted g is same x.
        let holder : IsHolder s.role = subst IsHolder (sym is) tt in
        may.vote_heard_by Fair s (quiet s g [] tt) votes from granted (λ b. (λ b. wins s g holder s.term s.vote s.known (with_vote s votes from), turned s g (Candidate (with_vote s votes from)) (theirs s g holder)));
    heard_append = λ s names term o g holder same x.
        may.append_heard_by Fair link s o (λ d is b. quiet s g [] tt)
        (λ d hint is at. in_role all olds since run link s g.state Follower (theirs s g holder) _ (tt, tt))
        (λ d is calm at. accepts_fair all olds since run link s g.state (theirs s g holder) g.waits d o);
    older_vote = λ s from names term last_index last g holder x. quiet s g _ (tt, tt);
    older_append = λ s from names term prev entries promise commit g holder x. quiet s g _ (tt, tt);
    older_part = λ s from names term part g holder x. quiet s g _ (tt, tt);
    heard_part = λ s from names term part g holder x. may.part_heard_by Fair link s from part (quiet s g _ (tt, tt)) (λ hint at. quiet s g _ (tt, tt));
    takes_part = λ s t from names term part g is x. may.take_part_by Fair link (learner_term s term) t from part names (λ b. (whole_fair s g t is from names term part x b, more_fair s g t is from names term part x b)) (quiet s g _ (tt, tt));
    heard_accepted = λ s l from names term end promised g is same x.
        let l' : Leading = with_progress l from (accepted_upto (progress_of l from) end.index promised) in
        may.accepted_heard_by Fair link s (quiet s g [] tt) l from (λ c done. done) end promised (λ done. done)
        (λ b. raise_fair all olds since run (still (leads_with s l')) l' (mine s g l is) (owed_now all olds since run link s g.state (mine s g l is) g.waits s.path) (leading s g l is l' [] tt));
    heard_rejected = λ s l from names term asked hint g is same x. may.rejected_heard_by Fair link s (quiet s g [] tt) l from (λ c done. done) hint (leading s g l is _ [] tt) (leading s g l is _ [] tt);
    heard_taken = λ s l from names term point next g is x. may.part_taken_by Fair link s (quiet s g [] tt) l from (λ c done. done) point next (λ sending has. (leading s g l is _ [] tt, λ later. leading s g l is _ _ (mine s g l is, tt)));
    leader_ticks = λ s l g is x. leading s g l is (all_again s l (peers s l)) _ (parts_by (λ m. LimitTold run m.1) link s l (λ v sending has. mine s g l is) (peers s l));
    joins = λ s l id linked g is x. may.unless_by Fair s (join_refusal s l id linked) _ (λ r at. quiet s g [] tt) (λ fine. leading s g l is (joined s l id) _ (mine s g l is, tt));
    admits = λ s l id g is x. may.unless_by Fair s (admit_refusal s l id) _ (λ r at. quiet s g [] tt) (λ fine. members s g l is (record l { learners = others id l.learners }) (with_voter (newest s) id));
    removes = λ s l id g is x. may.unless_by Fair s (remove_refusal s id) _ (λ r at. quiet s g [] tt) (λ fine. members s g l is l (without_voter (newest s) id));
    sets_margin = λ s l margin g is x. may.unless_by Fair s (margin_refusal s margin) _ (λ r at. quiet s g [] tt) (λ fine. members s g l is l (record (newest s) { margin = margin }));
    asked = λ s client number bytes g x.
        may.on_request_by (FairOn s (Client client number bytes)) s client number (request_of bytes)
        (with_new all olds since run link s g.state g.waits g.now _ (still s) g.now g.state) (untaken s g client number (request_of bytes)) (taken s g client number bytes x);
    others = λ s input c other done. subst (λ new. FairCall all (olds ++ new) since run c) (sym (none_new s input other)) (subst (λ ts. FairCall all ts since run c) (sym (append-nil olds)) done);
    ends = λ s input c done. may.ended_by (FairOn s input) link
        (λ c l v is b g. record { reads = subst (Reads run c.state.limit c.state.tickets) is g.reads; stand = g.stand; answered = g.answered; told = all-append (λ m. LimitTold run m.1) c.sent _ g.told (tt, tt); owed = g.owed })
        (λ c done. done)
        (λ c l is g. record { reads = subst (Reads run c.state.limit c.state.tickets) is g.reads; stand = g.stand; answered = g.answered; told = g.told; owed = g.owed })
        (λ c done. done) c c.state.halted done;
  }

  pub step_fair : (s : Replica) → Waiting s → (input : Input) → IsFairInput s input → FairOn s input (step link s input)
  step_fair s g input x = step_keeps link Waiting IsFairInput (λ from. NamesLimit run) (λ s. Fair) FairOn rules s g input x
