-- One call of a replica stays in range.
use Rattle.group_quorum.specs.Conf.{Conf}
use Rattle.std.proofs.Common.{false, ◌≡◌, ℕ, ◌+◌, ◌≤◌, ◌&&◌, max, length, subst, arith}
use Rattle.step_walk.specs.Rules.{risen, IsHolder, Rules}
use Rattle.replica_model.specs.Message.{plain}
use Rattle.replica_model.specs.Call.{says, Input, Tick, Peer, Client, Join, Admit, Remove, Margin, Call, still}
use Rattle.step_walk.proofs.Walk.{followed_is, holds_behind, step_keeps}
use Rattle.range_laws.specs.Ranges.{IsId, ConfIn, RoleIn, FirstIn, LeadingIn, StateIn, MsgIn, MessageIn, CallIn}
use Rattle.std.specs.Prelude.{IsTrue}
use Rattle.values.specs.declared.limits.TheConstants.{MAX_EVENTS}
use Rattle.values.specs.declared.batch.Refusal.TheVariants.{NotLeader}
use Rattle.values.specs.declared.peer.PeerMsg.{PeerMsg}
use Rattle.values.specs.declared.peer.PeerMsg.TheVariants.{Vote, Rejected}
use Rattle.client_msgs.specs.Reading.{request_of}
use Rattle.replica_model.specs.Path.{Link}
use Rattle.replica_model.specs.Replica.{Named, Role, Learner, Leader, Leading, Replica}
use Rattle.values.specs.Terms.{term_of}
use Rattle.replica_model.specs.Term.{followed}
use Rattle.replica_model.specs.Step.{step}
use Rattle.trace_model.specs.TraceLines.{is_client_id, is_u64}
use Rattle.trace_model.specs.Hashing.{GivesHashes}
use Rattle.range_laws.proofs.Bounds.{first_any, with_term}
use Rattle.range_laws.proofs.Raising.{ended_in}
use Rattle.range_laws.proofs.Rules.{still_so, saying, refusing, u64_of, vote_asked_in, vote_heard_in, stand_in, append_heard_in}
use Rattle.range_laws.proofs.Hearing.{RequestIn, one_number, on_request_in, part_heard_in, take_part_in, accepted_in, rejected_in, taken_heard_in, leader_tick_in, join_in, admit_in, remove_in, margin_in}

module _ (m : ℕ) (small : m ≤ MAX_EVENTS) (link : Link) (hashes : GivesHashes link) where
  conf_of_holder : (role : Role) (first : Conf) → IsHolder role → FirstIn role first → ConfIn first
  conf_of_holder (Learner taking) first holder f = absurd holder
  conf_of_holder other first holder f = f

  term_low : (names : Named) (x : PeerMsg) → MsgIn m names x → term_of x ≤ m
  term_low names (Vote term granted) x = x
  term_low names other x = x.0

  -- what a replica is told is in range
  abbrev pub InputIn : Input → Type 0
  InputIn Tick = Unit {0}
  InputIn (Peer from y) = IsId from × MessageIn m y
  InputIn (Client client number bytes) = IsTrue (is_client_id client && is_u64 number) × RequestIn client number (request_of bytes)
  InputIn (Join id linked) = IsId id
  InputIn (Admit id) = IsId id
  InputIn (Remove id) = IsId id
  InputIn (Margin margin) = margin ≤ 15

  -- a state that has room for one entry more
  record Roomy (s : Replica) : Type 0 where
    state : StateIn m s
    first : FirstIn s.role s.first
    room : length s.path + 1 ≤ m

  abbrev Told : Replica → Input → Type 0
  Told s Tick = s.term + 1 ≤ m
  Told s input = InputIn input

  abbrev Heard : ℕ → Named → PeerMsg → Type 0
  Heard from names msg = IsId from × MsgIn m names msg

  abbrev In : Call → Type 0
  In c = CallIn m c

  module _ (s : Replica) (g : Roomy s) where
    same : In (still s)
    same = still_so m small link hashes s g.state g.first

    says_in : (to : ℕ) (msg : PeerMsg) → IsId to → MessageIn m (plain msg) → In (says s to msg)
    says_in to msg id x = saying m small link hashes s g.state g.first to msg id x

    conf : IsHolder s.role → ConfIn s.first
    conf holder = conf_of_holder s.role s.first holder g.first

    risen_in : (term : ℕ) → IsHolder s.role → term ≤ m → Roomy (risen s term)
    risen_in term holder le = record {
      state = with_term m s g.state term 0 0 (followed s.role) le (omega arith) (followed_is (RoleIn m) s.role holder tt);
      first = first_any (followed s.role) s.first (conf holder);
      room = g.room;
    }

    module _ (l : Leading) (is : s.role ≡ Leader l) where
      led : ConfIn s.first
      led = subst (λ r. FirstIn r s.first) is g.first

      mine : LeadingIn m l
      mine = subst (RoleIn m) is g.state.role

  rules : Rules link Roomy Told Heard (λ s. In) (λ s input. In)
  rules = record {
    idle = same;
    not_leader = λ s known le g. let low = g.state.known in refusing m small link hashes s g.state g.first (NotLeader known) (one_number known (u64_of known (omega (arith, le, low))));
    rises = λ s from names msg g holder x up. risen_in s g (term_of msg) holder (term_low names msg x.1);
    back = λ s t c done. done;
    message = λ s from y x. x;
    stands = λ s g behind more. stand_in m small link hashes s g.state (conf s g (holds_behind s.role behind)) g.room more;
    asked_vote = λ s from names term last_index last g holder at x. vote_asked_in m small link hashes s g.state (conf s g holder) g.room from last_index last x.0;
    heard_vote = λ s votes from names term granted g is at x. vote_heard_in m small link hashes s g.state (subst (λ r. FirstIn r s.first) is g.first) g.room votes from granted;
    heard_append = λ s names term o g holder at x. append_heard_in m small link hashes s g.state (conf s g holder) o x.0 x.1.1;
    older_vote = λ s from names term last_index last g holder x. says_in s g from (Vote s.term false) x.0 g.state.term;
    older_append = λ s from names term prev entries promise commit g holder x. says_in s g from (Rejected s.term prev.index s.promised) x.0 (g.state.term, omega (arith, x.1.1.ends), g.state.promised);
    older_part = λ s from names term part g holder x. says_in s g from (Rejected s.term part.point.index s.promised) x.0 (g.state.term, x.1.1, g.state.promised);
    heard_part = λ s from names term part g holder x. part_heard_in m small link hashes s g.state g.first from x.0 part x.1.1 x.1.3;
    takes_part = λ s t from names term part g is x. take_part_in m small link hashes s g.state t is from x.0 names (max s.term term) (omega (arith, g.state.term, x.1.0)) part x.1.2 x.1.3 x.1.5;
    heard_accepted = λ s l from names term end promised g is at x. accepted_in m small link hashes s g.state (led s g l is) l (mine s g l is) from x.0 (same s g) end promised x.1.1;
    heard_rejected = λ s l from names term asked hint g is at x. rejected_in m small link hashes s g.state (led s g l is) l (mine s g l is) from x.0 (same s g) hint;
    heard_taken = λ s l from names term point next g is x. taken_heard_in m small link hashes s g.state (led s g l is) l (mine s g l is) from x.0 (same s g) point next;
    leader_ticks = λ s l g is x. leader_tick_in m small link hashes s g.state (led s g l is) l (mine s g l is);
    joins = λ s l id linked g is x. join_in m small link hashes s g.state (led s g l is) l (mine s g l is) g.first g.room id linked x;
    admits = λ s l id g is x. admit_in m small link hashes s g.state (led s g l is) l (mine s g l is) g.first g.room id x;
    removes = λ s l id g is x. remove_in m small link hashes s g.state (led s g l is) l (mine s g l is) g.first g.room id x;
    sets_margin = λ s l margin g is x. margin_in m small link hashes s g.state (led s g l is) l (mine s g l is) g.first g.room margin x;
    asked = λ s client number bytes g x. on_request_in m small link hashes s g.state g.first g.room client number x.0 (request_of bytes) x.1;
    others = λ s input c other done. done;
    ends = λ s input c done. ended_in m link hashes c c.state.halted done;
  }

  pub step_in : (s : Replica) → StateIn m s → FirstIn s.role s.first → length s.path + 1 ≤ m → s.term + 1 ≤ m → (input : Input) → InputIn input → In (step link s input)
  step_in s h f room more input x =
      let told : (input : Input) → InputIn input → Told s input = by_input more in
      let e = step_keeps link Roomy Told Heard (λ s. In) (λ s input. In) rules s (record { state = h; first = f; room = room }) input (told input x) in
      let b = e.batch in
      record {
        state = e.state;
        first = e.first;
        sent = e.sent;
        batch = record { lead = b.lead; members = b.members; halt = b.halt; taken = b.taken; commits = b.commits; answers = b.answers; saved = b.saved; refused = b.refused };
        appends = e.appends;
      }
    where
      by_input : s.term + 1 ≤ m → (input : Input) → InputIn input → Told s input
      by_input more Tick x = more
      by_input more other x = x
