-- What every rule of a replica keeps, every step keeps.
use Rattle.std.proofs.Common.{◌≡◌, ℕ, nat_lt, Option, Some, None, refl, sym, subst, arith}
use Rattle.std.proofs.lemmas.Bool.{cond_both, ltb-true, ltb-false}
use Rattle.values.specs.declared.entry.Hash.{Hash}
use Rattle.values.specs.declared.entry.Point.{Point}
use Rattle.values.specs.declared.peer.PeerMsg.{PeerMsg}
use Rattle.values.specs.declared.peer.PeerMsg.TheVariants.{AskVote, Vote, Append, Accepted, Rejected, Part, PartTaken}
use Rattle.values.specs.Terms.{term_of}
use Rattle.replica_model.specs.Path.{Link}
use Rattle.replica_model.specs.Message.{Message}
use Rattle.replica_model.specs.Replica.{Named, Taking, Role, Learner, Follower, Candidate, Leader, Leading, Replica}
use Rattle.replica_model.specs.Call.{Input, Tick, Peer, Client, Join, Admit, Remove, Margin, Call}
use Rattle.replica_model.specs.Changes.{join, admit, remove, set_margin, at_leader}
use Rattle.replica_model.specs.Heard.{accepted_heard, rejected_heard}
use Rattle.replica_model.specs.Tables.{learner_hears, part_taken}
use Rattle.replica_model.specs.Term.{followed, higher_term}
use Rattle.replica_model.specs.Ticks.{tick}
use Rattle.replica_model.specs.Votes.{vote_heard}
use Rattle.replica_model.specs.Step.{hears, hears_older, holder_hears, peer_hears, acts_on, acts_halted, acts, with_end}
use Rattle.step_walk.specs.Rules.{IsHolder, IsBehind, risen, Rules}

-- a role that follows is that of a follower
pub followed_is : (P : Role → Type 0) (role : Role) → IsHolder role → P Follower → P (followed role)
followed_is P (Learner taking) holder fine = absurd holder
followed_is P Follower holder fine = fine
followed_is P (Candidate votes) holder fine = fine
followed_is P (Leader l) holder fine = fine

-- who does not lead holds a log
pub holds_behind : (role : Role) → IsBehind role → IsHolder role
holds_behind (Learner taking) behind = absurd behind
holds_behind Follower behind = tt
holds_behind (Candidate votes) behind = tt
holds_behind (Leader l) behind = absurd behind

module _ (link : Link) (F : Replica → Type 0) (T : Replica → Input → Type 0) (M : ℕ → Named → PeerMsg → Type 0) (C : Replica → Call → Type 0) (D : Replica → Input → Call → Type 0) (r : Rules link F T M C D) where
  module _ (s : Replica) (f : F s) where
    -- what only a candidate, or only a leader, makes something of
    vote_keeps : (role : Role) → s.role ≡ role → (from : ℕ) (names : Named) (granted : _) → M from names (Vote s.term granted) → C s (vote_heard s role from granted)
    vote_keeps (Learner taking) is from names granted x = r.idle s f
    vote_keeps Follower is from names granted x = r.idle s f
    vote_keeps (Candidate votes) is from names granted x = r.heard_vote s votes from names s.term granted f is refl x
    vote_keeps (Leader l) is from names granted x = r.idle s f

    accepted_keeps : (role : Role) → s.role ≡ role → (from : ℕ) (names : Named) (end : Point) (promised : ℕ) → M from names (Accepted s.term end promised) → C s (accepted_heard link s role from end promised)
    accepted_keeps (Learner taking) is from names end promised x = r.idle s f
    accepted_keeps Follower is from names end promised x = r.idle s f
    accepted_keeps (Candidate votes) is from names end promised x = r.idle s f
    accepted_keeps (Leader l) is from names end promised x = r.heard_accepted s l from names s.term end promised f is refl x

    rejected_keeps : (role : Role) → s.role ≡ role → (from : ℕ) (names : Named) (asked hint : ℕ) → M from names (Rejected s.term asked hint) → C s (rejected_heard s role from hint)
    rejected_keeps (Learner taking) is from names asked hint x = r.idle s f
    rejected_keeps Follower is from names asked hint x = r.idle s f
    rejected_keeps (Candidate votes) is from names asked hint x = r.idle s f
    rejected_keeps (Leader l) is from names asked hint x = r.heard_rejected s l from names s.term asked hint f is refl x

    taken_keeps : (role : Role) → s.role ≡ role → (from : ℕ) (names : Named) (term : ℕ) (point : Point) (next : ℕ) → M from names (PartTaken term point next) → C s (part_taken link s role from point next)
    taken_keeps (Learner taking) is from names term point next x = r.idle s f
    taken_keeps Follower is from names term point next x = r.idle s f
    taken_keeps (Candidate votes) is from names term point next x = r.idle s f
    taken_keeps (Leader l) is from names term point next x = r.heard_taken s l from names term point next f is x

  -- a message of the replica's own term
  hears_keeps : (s : Replica) → F s → IsHolder s.role → (from : ℕ) (names : Named) (msg : PeerMsg) → term_of msg ≡ s.term → M from names msg → C s (hears link s from msg)
  hears_keeps s f holder from names (AskVote term last_index last_term) same x = r.asked_vote s from names term last_index last_term f holder same x
  hears_keeps s f holder from names (Vote term granted) same x = vote_keeps s f s.role refl from names granted (subst (λ t. M from names (Vote t granted)) same x)
  hears_keeps s f holder from names (Append term prev entries promise commit) same x =
      r.heard_append s names term (record { from = from; prev = prev; entries = entries; promise = promise; commit = commit }) f holder same x
  hears_keeps s f holder from names (Accepted term end promised) same x = accepted_keeps s f s.role refl from names end promised (subst (λ t. M from names (Accepted t end promised)) same x)
  hears_keeps s f holder from names (Rejected term asked hint) same x = rejected_keeps s f s.role refl from names asked hint (subst (λ t. M from names (Rejected t asked hint)) same x)
  hears_keeps s f holder from names (Part term part) same x = r.heard_part s from names term part f holder x
  hears_keeps s f holder from names (PartTaken term point next) same x = taken_keeps s f s.role refl from names term point next x

  -- a message of an older term
  older_keeps : (s : Replica) → F s → IsHolder s.role → (from : ℕ) (names : Named) (msg : PeerMsg) → M from names msg → C s (hears_older link s from msg)
  older_keeps s f holder from names (AskVote term last_index last_term) x = r.older_vote s from names term last_index last_term f holder x
  older_keeps s f holder from names (Vote term granted) x = r.idle s f
  older_keeps s f holder from names (Append term prev entries promise commit) x = r.older_append s from names term prev entries promise commit f holder x
  older_keeps s f holder from names (Accepted term end promised) x = r.idle s f
  older_keeps s f holder from names (Rejected term asked hint) x = r.idle s f
  older_keeps s f holder from names (Part term part) x = r.older_part s from names term part f holder x
  older_keeps s f holder from names (PartTaken term point next) x = taken_keeps s f s.role refl from names term point next x

  module _ (s : Replica) (f : F s) where
    holder_keeps : IsHolder s.role → (from : ℕ) (names : Named) (msg : PeerMsg) → M from names msg → C s (holder_hears link s from msg)
    holder_keeps holder from names msg x =
        cond_both (nat_lt (term_of msg) s.term) (hears_older link s from msg) (hears link (higher_term s (term_of msg)) from msg) (C s)
        (λ b. older_keeps s f holder from names msg x)
        (λ b. cond_both (nat_lt s.term (term_of msg)) (risen s (term_of msg)) s (λ s'. C s (hears link s' from msg))
        (λ up.
        let higher = r.rises s from names msg f holder x (ltb-true s.term (term_of msg) up) in
        r.back s (term_of msg) (hears link (risen s (term_of msg)) from msg) (hears_keeps (risen s (term_of msg)) higher (followed_is IsHolder s.role holder tt) from names msg refl x))
        (λ low.
        let one = ltb-false (term_of msg) s.term b in
        let two = ltb-false s.term (term_of msg) low in
        hears_keeps s f holder from names msg (omega arith) x))

    learner_keeps : (t : Taking) → s.role ≡ Learner t → (from : ℕ) (names : Named) (msg : PeerMsg) → M from names msg → C s (learner_hears link s t from names msg)
    learner_keeps t is from names (AskVote term last_index last_term) x = r.idle s f
    learner_keeps t is from names (Vote term granted) x = r.idle s f
    learner_keeps t is from names (Append term prev entries promise commit) x = r.idle s f
    learner_keeps t is from names (Accepted term end promised) x = r.idle s f
    learner_keeps t is from names (Rejected term asked hint) x = r.idle s f
    learner_keeps t is from names (Part term part) x = r.takes_part s t from names term part f is x
    learner_keeps t is from names (PartTaken term point next) x = r.idle s f

    peer_keeps : (role : Role) → s.role ≡ role → (from : ℕ) (m : Message) → M from m.names m.msg → C s (peer_hears link s role from m)
    peer_keeps (Learner t) is from m x = learner_keeps t is from m.names m.msg x
    peer_keeps Follower is from m x = holder_keeps (subst IsHolder (sym is) tt) from m.names m.msg x
    peer_keeps (Candidate votes) is from m x = holder_keeps (subst IsHolder (sym is) tt) from m.names m.msg x
    peer_keeps (Leader l) is from m x = holder_keeps (subst IsHolder (sym is) tt) from m.names m.msg x

    tick_keeps : (role : Role) → s.role ≡ role → T s Tick → C s (tick link s role)
    tick_keeps (Learner t) is x = r.idle s f
    tick_keeps Follower is x = r.stands s f (subst IsBehind (sym is) tt) x
    tick_keeps (Candidate votes) is x = r.stands s f (subst IsBehind (sym is) tt) x
    tick_keeps (Leader l) is x = r.leader_ticks s l f is x

    change_keeps : (role : Role) (change : Leading → Call) → s.role ≡ role → ((l : Leading) → s.role ≡ Leader l → C s (change l)) → C s (at_leader s role change)
    change_keeps (Learner t) change is fine = r.not_leader s s.known (omega arith) f
    change_keeps Follower change is fine = r.not_leader s s.known (omega arith) f
    change_keeps (Candidate votes) change is fine = r.not_leader s s.known (omega arith) f
    change_keeps (Leader l) change is fine = fine l is

    acts_on_keeps : (input : Input) → T s input → D s input (acts_on link s input)
    acts_on_keeps Tick x = r.others s Tick _ tt (tick_keeps s.role refl x)
    acts_on_keeps (Peer from m) x = r.others s (Peer from m) _ tt (peer_keeps s.role refl from m (r.message s from m x))
    acts_on_keeps (Client client number request) x = r.asked s client number request f x
    acts_on_keeps (Join id linked) x = r.others s (Join id linked) _ tt (change_keeps s.role (λ l. join link s l id linked) refl (λ l is. r.joins s l id linked f is x))
    acts_on_keeps (Admit id) x = r.others s (Admit id) _ tt (change_keeps s.role (λ l. admit s l id) refl (λ l is. r.admits s l id f is x))
    acts_on_keeps (Remove id) x = r.others s (Remove id) _ tt (change_keeps s.role (λ l. remove s l id) refl (λ l is. r.removes s l id f is x))
    acts_on_keeps (Margin margin) x = r.others s (Margin margin) _ tt (change_keeps s.role (λ l. set_margin s l margin) refl (λ l is. r.sets_margin s l margin f is x))

    acts_halted_keeps : (input : Input) → T s input → D s input (acts_halted s input)
    acts_halted_keeps Tick x = r.others s Tick _ tt (r.idle s f)
    acts_halted_keeps (Peer from m) x = r.others s (Peer from m) _ tt (r.idle s f)
    acts_halted_keeps (Client client number request) x = r.asked s client number request f x
    acts_halted_keeps (Join id linked) x = r.others s (Join id linked) _ tt (r.not_leader s 0 (omega arith) f)
    acts_halted_keeps (Admit id) x = r.others s (Admit id) _ tt (r.not_leader s 0 (omega arith) f)
    acts_halted_keeps (Remove id) x = r.others s (Remove id) _ tt (r.not_leader s 0 (omega arith) f)
    acts_halted_keeps (Margin margin) x = r.others s (Margin margin) _ tt (r.not_leader s 0 (omega arith) f)

    acts_keeps : (halted : Option (ℕ × Hash × Hash)) (input : Input) → T s input → D s input (acts link s halted input)
    acts_keeps (Some d) input x = acts_halted_keeps input x
    acts_keeps None input x = acts_on_keeps input x

    -- one step, before its messages stand in its batch
    pub step_keeps : (input : Input) → T s input → D s input (with_end link (acts link s s.halted input))
    step_keeps input x = r.ends s input (acts link s s.halted input) (acts_keeps s.halted input x)
