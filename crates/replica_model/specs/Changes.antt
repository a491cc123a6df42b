-- Changes of the members: join, admit, remove and margin, with their refusals in order.
use Rattle.std.specs.Prelude.{ℕ, ◌+◌, ◌-◌, ◌*◌, Bool, cond, not, ◌||◌, ◌==◌, nat_lt, nat_le, Option, Some, None, List, [], ◌∷◌, length, take}
use Rattle.values.specs.declared.entry.Body.TheVariants.{Members}
use Rattle.values.specs.declared.batch.Refusal.{Refusal}
use Rattle.values.specs.declared.batch.Refusal.TheVariants.{NotLeader, ChangePending, AlreadyVoter, NotVoter, TooFew, TooMany, NotCaughtUp, NoLink, LogFull, SameMargin}
use Rattle.group_quorum.specs.Conf.{Conf}
use Rattle.group_quorum.specs.Voters.{is_in, insert_rising}
use Rattle.group_quorum.specs.declared.TheConstants.{MAX_VOTERS}
use Rattle.values.specs.declared.limits.TheConstants.{TOP}
use Rattle.replica_model.specs.declared.TheConstants.{MAX_LEARNERS}
use Rattle.replica_model.specs.Path.{Link}
use Rattle.replica_model.specs.Configs.{conf_index}
use Rattle.replica_model.specs.Keyed.{put}
use Rattle.replica_model.specs.Replica.{Role, Leader, Leading, Replica}
use Rattle.replica_model.specs.Peers.{with_id, others, newest, is_pending, progress_of, leads_with}
use Rattle.replica_model.specs.Call.{Call, empty_batch, still, refuses, send_to}
use Rattle.replica_model.specs.Raise.{pushed, raise_and_send}
use Rattle.replica_model.specs.Tables.{part_message}

-- the first refusal whose test holds
abbrev pub first_refusal : List (Bool × Refusal) → Option Refusal
first_refusal [] = None
first_refusal ((holds, refusal) ∷ more) = cond holds (Some refusal) (first_refusal more)

-- the log is full, or a change of the members is under way
abbrev pub log_full : Replica → Bool × Refusal
log_full s = (length s.path == TOP, LogFull (length s.path))

-- the newest configuration is above the committed index
abbrev pub change_pending : Replica → Bool × Refusal
change_pending s = (is_pending s, ChangePending (conf_index s.path) s.committed)

-- the number of voters of the newest configuration
abbrev pub voter_count : Replica → ℕ
voter_count s = length (newest s).voters

-- the id is a voter of the newest configuration
abbrev pub votes : Replica → ℕ → Bool
votes s id = is_in (newest s).voters id

-- why a join is refused: a voter, no link, or too many learners
abbrev pub join_refusal : Replica → Leading → ℕ → Bool → Option Refusal
join_refusal s l id linked =
    first_refusal (
    (votes s id, AlreadyVoter id)
    ∷ (not linked, NoLink id)
    ∷ (nat_le MAX_LEARNERS (length l.learners), TooMany (MAX_LEARNERS + 1))
    ∷ []
    )

-- the mark of a learner; of any other id it is 0
abbrev pub learner_mark : Leading → ℕ → ℕ
learner_mark l id = cond (is_in l.learners id) (progress_of l id).mark 0

-- why an admission is refused. A learner of which nothing is marked has not caught up, even where nothing is committed
abbrev pub admit_refusal : Replica → Leading → ℕ → Option Refusal
admit_refusal s l id =
    first_refusal (
    log_full s
    ∷ change_pending s
    ∷ (votes s id, AlreadyVoter id)
    ∷ (nat_le MAX_VOTERS (voter_count s), TooMany (voter_count s + 1))
    ∷ (learner_mark l id == 0 || nat_lt (learner_mark l id) s.committed, NotCaughtUp (learner_mark l id) s.committed)
    ∷ []
    )

-- so many voters are fewer than twice the margin and one
abbrev pub are_few : ℕ → ℕ → Bool
are_few n margin = nat_lt n (2 * margin + 1)

-- why a removal is refused
abbrev pub remove_refusal : Replica → ℕ → Option Refusal
remove_refusal s id =
    first_refusal (
    log_full s
    ∷ change_pending s
    ∷ (not (votes s id), NotVoter id)
    ∷ (are_few (voter_count s - 1) (newest s).margin, TooFew (voter_count s - 1))
    ∷ []
    )

-- why another margin is refused
abbrev pub margin_refusal : Replica → ℕ → Option Refusal
margin_refusal s margin =
    first_refusal (
    log_full s
    ∷ change_pending s
    ∷ ((newest s).margin == margin, SameMargin margin)
    ∷ (are_few (voter_count s) margin, TooFew (voter_count s))
    ∷ []
    )

-- the refusal, or the change
abbrev pub refused_or : Replica → Option Refusal → Call → Call
refused_or s (Some refusal) c = refuses s refusal
refused_or s None c = c

-- a learner anew: nothing is known of it, and a table at the committed point is begun
abbrev pub joined : Replica → Leading → ℕ → Leading
joined s l id =
    record {
      progress = put l.progress id (record { next = s.committed + 1; mark = 0; promised = 0 });
      learners = with_id id l.learners;
      sendings = put l.sendings id (record { path = take s.committed s.path; part = 0 });
    }

-- join: the first part is sent
abbrev pub join : Link → Replica → Leading → ℕ → Bool → Call
join link s l id linked =
    refused_or s (join_refusal s l id linked)
    (send_to (still (leads_with s (joined s l id))) id (part_message link s (record { path = take s.committed s.path; part = 0 })))

-- a Members entry is pushed; then the leader raises, and sends to every peer
abbrev pub push_members : Replica → Leading → Conf → Call
push_members s l c =
    raise_and_send
    (record (still (pushed (leads_with s l) (Members c.margin c.voters))) {
      batch = record empty_batch { members = (length s.path + 1, c.margin, c.voters) ∷ [] };
    })
    l

-- the configuration with one voter more
abbrev pub with_voter : Conf → ℕ → Conf
with_voter c id = record c { voters = insert_rising id c.voters }

-- the configuration with one voter less
abbrev pub without_voter : Conf → ℕ → Conf
without_voter c id = record c { voters = others id c.voters }

-- admit: a learner becomes a voter, and keeps its progress
abbrev pub admit : Replica → Leading → ℕ → Call
admit s l id =
    refused_or s (admit_refusal s l id) (push_members s (record l { learners = others id l.learners }) (with_voter (newest s) id))

-- remove
abbrev pub remove : Replica → Leading → ℕ → Call
remove s l id = refused_or s (remove_refusal s id) (push_members s l (without_voter (newest s) id))

-- margin: the voters stay as they are
abbrev pub set_margin : Replica → Leading → ℕ → Call
set_margin s l margin = refused_or s (margin_refusal s margin) (push_members s l (record (newest s) { margin = margin }))

-- a replica that does not lead refuses, with its known leader
abbrev pub at_leader : Replica → Role → (Leading → Call) → Call
at_leader s (Leader l) change = change l
at_leader s _ change = refuses s (NotLeader s.known)
