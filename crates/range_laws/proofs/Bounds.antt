-- The ranges of all that a run holds, by the number of its events.
use Rattle.std.proofs.Common.{◌≡◌, ℕ, ◌≤◌, ◌&&◌, true, false, Option, Some, None, List, [], ◌∷◌, length, refl, sym, arith}
use Rattle.std.specs.Prelude.{IsTrue, IfSome, is_none, nat_le, nat_lt, min, ◌^◌, ◌-◌}
use Rattle.std.specs.List.{AllByRecursion}
use Rattle.std.proofs.lemmas.Bool.{cond_both, and_parts, leb-true, ltb-false}
use Rattle.std.proofs.lemmas.Option.{none-some}
use Rattle.group_quorum.specs.Conf.{Conf}
use Rattle.group_quorum.specs.Voters.{fault_of, bad_fault, first_bad}
use Rattle.group_quorum.specs.declared.ConfigFault.{ConfigFault}
use Rattle.group_quorum.specs.declared.ConfigFault.TheVariants.{TooMany}
use Rattle.group_quorum.specs.declared.TheConstants.{MAX_VOTERS}
use Rattle.values.specs.declared.batch.Batch.{Batch}
use Rattle.values.specs.declared.entry.Hash.{Hash}
use Rattle.values.specs.declared.entry.LogEntry.{LogEntry}
use Rattle.values.specs.declared.entry.Point.{Point}
use Rattle.values.specs.declared.message.Answer.{Answer}
use Rattle.values.specs.declared.message.Answer.TheVariants as answer
use Rattle.values.specs.declared.peer.PeerMsg.{PeerMsg}
use Rattle.values.specs.declared.peer.PeerMsg.TheVariants.{AskVote, Vote, Append, Accepted, Rejected, Part, PartTaken}
use Rattle.replica_model.specs.Path.{Path}
use Rattle.replica_model.specs.Replica.{Named, Ticket, Role, Learner, Follower, Candidate, Leader, Leading, Replica}
use Rattle.replica_model.specs.Message.{Message}
use Rattle.replica_model.specs.Call.{Call, still, send_to, empty_batch}
use Rattle.trace_model.specs.TraceLines.{is_hash, is_rising}
use Rattle.log_laws.proofs.Ending.{all-append}
use Rattle.log_laws.proofs.History.{all_more}
use Rattle.range_laws.specs.Ranges.{ApartIn, BatchIn, CallIn, ConfIn, EntriesIn, EntryIn, FirstIn, IsId, LeadingIn, MessageIn, MsgIn, PathIn, RoleIn, SentIn, StateIn, TicketIn, AnswerIn, AnsweredIn}

pub first_any : (role : Role) (first : Conf) → ConfIn first → FirstIn role first
first_any (Learner taking) first h = tt
first_any other first h = h

-- a configuration has few voters, and a margin of at most 15
pub conf_few : (c : Conf) → ConfIn c → (c.margin ≤ 15) × (length c.voters ≤ 1000)
conf_few c h =
    let a = and_parts (nat_le c.margin 15) (nat_le 1 (length c.voters) && (is_rising c.voters && is_none (fault_of c.margin c.voters))) h.sound in
    let b = and_parts (nat_le 1 (length c.voters)) (is_rising c.voters && is_none (fault_of c.margin c.voters)) a.1 in
    let d = and_parts (is_rising c.voters) (is_none (fault_of c.margin c.voters)) b.1 in
    (leb-true c.margin 15 a.0, at_most (fault_of c.margin c.voters) d.1 refl)
  where
    at_most : (o : Option ConfigFault) → is_none o ≡ true → fault_of c.margin c.voters ≡ o → length c.voters ≤ 1000
    at_most (Some f) none is = absurd (let e : false ≡ true = none in cc)
    at_most None none is =
        cond_both (nat_lt MAX_VOTERS (length c.voters)) (Some (TooMany (min (length c.voters) (2 ^ 32 - 1)))) (bad_fault (first_bad c.voters) c.margin c.voters) (λ o. o ≡ None → length c.voters ≤ 1000)
        (λ b is. absurd (none-some (TooMany (min (length c.voters) (2 ^ 32 - 1))) (sym is)))
        (λ b is. omega (arith, ltb-false MAX_VOTERS (length c.voters) b))
        is

-- ---- later there are more events
entry_later : (n m : ℕ) → n ≤ m → (e : LogEntry) → EntryIn n e → EntryIn m e
entry_later n m le e h = (omega (arith, h.0, le), h.1)

pub entries_later : (n m : ℕ) → n ≤ m → (p : Path) → EntriesIn n p → EntriesIn m p
entries_later n m le p h = all_more (EntryIn n) (EntryIn m) (entry_later n m le) p h

pub path_later : (n m : ℕ) → n ≤ m → (p : Path) → PathIn n p → PathIn m p
path_later n m le p h = record { entries = entries_later n m le p h.entries; long = omega (arith, h.long, le) }

pub leading_later : (n m : ℕ) → n ≤ m → (l : Leading) → LeadingIn n l → LeadingIn m l
leading_later n m le l h = record {
  progress = λ v p is. let old = h.progress v p is in record { next = omega (arith, old.next, le); mark = omega (arith, old.mark, le) };
  learners = h.learners;
  sendings = λ v x is. let old = h.sendings v x is in record { path = path_later n m le x.path old.path; part = old.part };
}

pub role_later : (n m : ℕ) → n ≤ m → (role : Role) → RoleIn n role → RoleIn m role
role_later n m le (Learner taking) h = record { path = path_later n m le taking.names.path h.path; limit = h.limit; next = h.next }
role_later n m le Follower h = tt
role_later n m le (Candidate votes) h = tt
role_later n m le (Leader l) h = leading_later n m le l h

apart_later : (n m : ℕ) → n ≤ m → (o : Option (ℕ × Hash × Hash)) → IfSome o (ApartIn n) → IfSome o (ApartIn m)
apart_later n m le None h = tt
apart_later n m le (Some d) h = record { index = omega (arith, h.index, le); kept = h.kept; offered = h.offered }

pub state_later : (n m : ℕ) → n ≤ m → (s : Replica) → StateIn n s → StateIn m s
state_later n m le s h = record {
  me = h.me;
  limit = h.limit;
  path = path_later n m le s.path h.path;
  base = omega (arith, h.base, le);
  promised = omega (arith, h.promised, le);
  committed = omega (arith, h.committed, le);
  term = omega (arith, h.term, le);
  known = h.known;
  role = role_later n m le s.role h.role;
  tickets = h.tickets;
  halted = apart_later n m le s.halted h.halted;
}

pub message_later : (n m : ℕ) → n ≤ m → (names : Named) (x : PeerMsg) → MsgIn n names x → MsgIn m names x
message_later n m le names (AskVote term last_index last_term) h = (omega (arith, h.0, le), omega (arith, h.1, le), omega (arith, h.2, le))
message_later n m le names (Vote term granted) h = omega (arith, h, le)
message_later n m le names (Append term prev entries promise commit) h = (
  omega (arith, h.0, le),
  record { hash = h.1.hash; entries_in = entries_later n m le entries h.1.entries_in; ends = omega (arith, h.1.ends, le); promised = omega (arith, h.1.promised, le); committed = omega (arith, h.1.committed, le) },
)
message_later n m le names (Accepted term end promised) h = (omega (arith, h.0, le), omega (arith, h.1, le), omega (arith, h.2, le))
message_later n m le names (Rejected term asked hint) h = (omega (arith, h.0, le), omega (arith, h.1, le), omega (arith, h.2, le))
message_later n m le names (Part term p) h = (
  omega (arith, h.0, le),
  omega (arith, h.1, le),
  h.2,
  h.3,
  h.4,
  record { path = path_later n m le names.path h.5.path; limit = h.5.limit; first = h.5.first },
)
message_later n m le names (PartTaken term at next) h = (omega (arith, h.0, le), omega (arith, h.1, le), h.2)

pub answer_later : (n m : ℕ) → n ≤ m → (a : Answer) → AnswerIn n a → AnswerIn m a
answer_later n m le (answer.Outcome index what) h = (omega (arith, h.0, le), h.1)
answer_later n m le (answer.Busy waiting) h = omega (arith, h, le)
answer_later n m le (answer.Undecided at kept offered) h = record { index = omega (arith, h.index, le); kept = h.kept; offered = h.offered }
answer_later n m le (answer.Halted index) h = omega (arith, h, le)
answer_later n m le other h = h

sent_later : (n m : ℕ) → n ≤ m → (x : ℕ × Message) → SentIn n x → SentIn m x
sent_later n m le x h = (h.0, message_later n m le x.1.names x.1.msg h.1)

batch_later : (n m : ℕ) → n ≤ m → (b : Batch) → BatchIn n b → BatchIn m b
batch_later n m le b h = record {
  lead = some_later b.lead (λ term. term ≤ n) (λ term. term ≤ m) (λ term x. omega (arith, x, le)) h.lead;
  members = all_more (λ (x : ℕ × ℕ × List ℕ). (x.0 ≤ n) × ConfIn (record { margin = x.1; voters = x.2 })) (λ (x : ℕ × ℕ × List ℕ). (x.0 ≤ m) × ConfIn (record { margin = x.1; voters = x.2 })) (λ x y. (omega (arith, y.0, le), y.1)) b.members h.members;
  halt = apart_later n m le b.halt h.halt;
  taken = some_later b.taken (λ (p : Point). (p.index ≤ n) × IsTrue (is_hash p.hash)) (λ (p : Point). (p.index ≤ m) × IsTrue (is_hash p.hash)) (λ p x. (omega (arith, x.0, le), x.1)) h.taken;
  commits = all_more (λ (c : ℕ × LogEntry). (c.0 ≤ n) × EntryIn n c.1) (λ (c : ℕ × LogEntry). (c.0 ≤ m) × EntryIn m c.1) (λ c x. (omega (arith, x.0, le), entry_later n m le c.1 x.1)) b.commits h.commits;
  answers = all_more (AnsweredIn n) (AnsweredIn m) (λ a x. (x.0, answer_later n m le a.2 x.1)) b.answers h.answers;
  saved = h.saved;
  refused = h.refused;
}
  where
    some_later : {A : Type 0} (o : Option A) (P Q : A → Type 0) → ((x : A) → P x → Q x) → IfSome o P → IfSome o Q
    some_later None P Q f h = tt
    some_later (Some x) P Q f h = f x h

pub call_later : (n m : ℕ) → n ≤ m → (c : Call) → CallIn n c → CallIn m c
call_later n m le c h = record {
  state = state_later n m le c.state h.state;
  first = h.first;
  sent = all_more (SentIn n) (SentIn m) (sent_later n m le) c.sent h.sent;
  batch = batch_later n m le c.batch h.batch;
  appends = h.appends;
}

-- ---- a state that changes in part
module _ (n : ℕ) (s : Replica) (h : StateIn n s) where
  pub with_role : (role : Role) → RoleIn n role → StateIn n (record s { role = role })
  with_role role r = record { me = h.me; limit = h.limit; path = h.path; base = h.base; promised = h.promised; committed = h.committed; term = h.term; known = h.known; role = r; tickets = h.tickets; halted = h.halted }

  pub with_role_known : (role : Role) (known : ℕ) → RoleIn n role → known ≤ 65535 → StateIn n (record s { role = role; known = known })
  with_role_known role known r k = record { me = h.me; limit = h.limit; path = h.path; base = h.base; promised = h.promised; committed = h.committed; term = h.term; known = k; role = r; tickets = h.tickets; halted = h.halted }

  pub with_term : (term vote known : ℕ) (role : Role) → term ≤ n → known ≤ 65535 → RoleIn n role → StateIn n (record s { term = term; vote = vote; known = known; role = role })
  with_term term vote known role t k r = record { me = h.me; limit = h.limit; path = h.path; base = h.base; promised = h.promised; committed = h.committed; term = t; known = k; role = r; tickets = h.tickets; halted = h.halted }

  pub with_path : (path : Path) (promised : ℕ) (tickets : List Ticket) → PathIn n path → promised ≤ n → AllByRecursion TicketIn tickets → StateIn n (record s { path = path; promised = promised; tickets = tickets })
  with_path path promised tickets p q t = record { me = h.me; limit = h.limit; path = p; base = h.base; promised = q; committed = h.committed; term = h.term; known = h.known; role = h.role; tickets = t; halted = h.halted }

  pub with_committed : (committed : ℕ) (tickets : List Ticket) → committed ≤ n → AllByRecursion TicketIn tickets → StateIn n (record s { committed = committed; tickets = tickets })
  with_committed committed tickets c t = record { me = h.me; limit = h.limit; path = h.path; base = h.base; promised = h.promised; committed = c; term = h.term; known = h.known; role = h.role; tickets = t; halted = h.halted }

  pub with_base : (base : ℕ) → base ≤ n → StateIn n (record s { base = base })
  with_base base b = record { me = h.me; limit = h.limit; path = h.path; base = b; promised = h.promised; committed = h.committed; term = h.term; known = h.known; role = h.role; tickets = h.tickets; halted = h.halted }

  pub with_halted : (d : ℕ × Hash × Hash) → ApartIn n d → StateIn n (record s { halted = Some d })
  with_halted d a = record { me = h.me; limit = h.limit; path = h.path; base = h.base; promised = h.promised; committed = h.committed; term = h.term; known = h.known; role = h.role; tickets = h.tickets; halted = a }

pub nothing_told : (n : ℕ) → BatchIn n empty_batch
nothing_told n = record { lead = tt; members = tt; halt = tt; taken = tt; commits = tt; answers = tt; saved = tt; refused = tt }

pub still_in : (n : ℕ) (s : Replica) → StateIn n s → FirstIn s.role s.first → CallIn n (still s)
still_in n s h f = record { state = h; first = f; sent = tt; batch = nothing_told n; appends = tt }

pub send_in : (n : ℕ) (c : Call) (to : ℕ) (m : Message) → CallIn n c → IsId to → MessageIn n m → CallIn n (send_to c to m)
send_in n c to m h id msg = record { state = h.state; first = h.first; sent = all-append (SentIn n) c.sent ((to, m) ∷ []) h.sent ((id, msg), tt); batch = h.batch; appends = h.appends }
