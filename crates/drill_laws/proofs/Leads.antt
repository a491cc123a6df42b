-- What the leader makes of what it hears in a round.
use Rattle.std.proofs.Common.{◌≡◌, ℕ, ◌+◌, ◌-◌, ◌<◌, ◌==◌, ◌&&◌, ◌||◌, not, Bool, true, false, Option, Some, None, List, [], ◌∷◌, ◌++◌, length, take, max, min, refl, sym, ◌∙◌, arith}
use Rattle.std.proofs.lemmas.Bool.{le-leb, le-ltb, lt-leb, lt-ltb}
use Rattle.std.specs.Prelude.{nat_le, nat_lt, cond, filter, filter_map, option_map}
use Rattle.std.proofs.lemmas.List.{take_all, drop_all}
use Rattle.values.specs.declared.batch.Batch.{Batch}
use Rattle.values.specs.declared.entry.LogEntry.{LogEntry}
use Rattle.values.specs.declared.entry.Point.{Point}
use Rattle.values.specs.declared.ids.ClientId.{ClientId}
use Rattle.values.specs.declared.limits.TheConstants.{MOST_ROWS, MAX_ENTRIES}
use Rattle.values.specs.declared.message.Answer.{Answer}
use Rattle.values.specs.declared.message.Answer.TheVariants.{Outcome}
use Rattle.values.specs.declared.peer.PeerMsg.TheVariants.{Append}
use Rattle.group_quorum.specs.Conf.{met}
use Rattle.group_quorum.specs.Voters.{is_in}
use Rattle.record_rules.specs.Places.{ClientAsk}
use Rattle.replica_model.specs.declared.TheConstants.{KEPT_BELOW}
use Rattle.replica_model.specs.Path.{Path, Link, chain, point, term_at}
use Rattle.replica_model.specs.Configs.{is_members, changed_by, conf, conf_index, older_conf}
use Rattle.replica_model.specs.Enough.{enough_for, is_enough, greatest_above}
use Rattle.replica_model.specs.Folds.{reply_of}
use Rattle.replica_model.specs.Message.{Message, plain}
use Rattle.replica_model.specs.Replica.{Ticket, Follower, Leader, Leading, Replica}
use Rattle.replica_model.specs.Peers.{others, united, peers, progress_of, with_progress}
use Rattle.replica_model.specs.Call.{Call, Peer, moment, still}
use Rattle.replica_model.specs.Raise.{commit_to, outcome_of, accepted_mark, promised_mark, may_promise, may_commit, promise_index, commit_index, raise, to_every_peer}
use Rattle.replica_model.specs.Heard.{to_peer, accepted_upto, after_raise, accepted_by, accepted_heard}
use Rattle.replica_model.specs.Graft.{is_hash}
use Rattle.replica_model.specs.Send.{entries_from, sent_on, send_append, send_appends, appended_to, stepped_down, base_moved, concluded, ended, with_sent}
use Rattle.replica_model.specs.Step.{step, with_end}
use Rattle.replica_model.proofs.Paths.{conf-push}
use Rattle.drill_laws.proofs.Numbers.{hash_same}
use Rattle.drill_laws.proofs.Setting.{conf_of_five, Each, all, Who, Two, Three, Four, Five, each, id_of, of, set, leading, leader, four_of, whole, offer, acceptance, at, le_at, lt_at, max_at, min_whole, below_whole}
use Rattle.drill_laws.proofs.Follows.{Did, did}

and_true : (b : Bool) → (b && true) ≡ b
and_true true = refl
and_true false = refl

-- ---- a leader of a path without a Members entry
pub record IsPlain (path : Path) : Type 0 where
  pub conf : conf conf_of_five path ≡ conf_of_five
  pub index : conf_index path ≡ 0

-- it stays one with one more entry of another kind
pub plain_more : (p : Path) (e : LogEntry) → changed_by conf_of_five e.body ≡ conf_of_five → is_members e.body ≡ false → IsPlain p → IsPlain (p ++ e ∷ [])
plain_more p e same other plain =
    record {
      conf = (conf-push conf_of_five p e).conf ∙ (λ i. changed_by (plain.conf i) e.body) ∙ same;
      index = (conf-push conf_of_five p e).index ∙ (λ i. cond (other i) (length p + 1) (plain.index i));
    }

module _ (path : Path) (no_members : IsPlain path) where
  conf_is : conf conf_of_five path ≡ conf_of_five
  conf_is = no_members.conf

  index_is : conf_index path ≡ 0
  index_is = no_members.index

  pub peers_are : (base a c : ℕ) (ts : List Ticket) (x m r : Each ℕ) → peers (leader path base a c ts (leading x m r)) (leading x m r) ≡ 2 ∷ 3 ∷ 4 ∷ 5 ∷ []
  peers_are base a c ts x m r =
      (λ i. others 1 (cond (settled i) (united (older_conf conf_of_five path).voters (conf conf_of_five path).voters) (conf conf_of_five path).voters))
      ∙ (λ i. others 1 (conf_is i).voters)
    where
      settled : nat_lt c (conf_index path) ≡ false
      settled = (λ i. nat_lt c (index_is i)) ∙ le-ltb c 0 (omega arith)

  -- it stays the leader
  stays : (base a c : ℕ) (ts : List Ticket) (l : Leading) → stepped_down (leader path base a c ts l) (Leader l) ≡ leader path base a c ts l
  stays base a c ts l = λ i. cond (not (is_in (conf_is i).voters 1) && nat_le (conf_index path) c) (record (leader path base a c ts l) { role = Follower; known = 0 }) (leader path base a c ts l)

-- ---- appends to the four followers
module _ (link : Link) (path : Path) (base a c : ℕ) (ts : List Ticket) (m r : Each ℕ) (b : Batch) (ms : List Replica)
    (x x' : ℕ) (es : Path) (pt : Point) (entries_is : entries_from path x ≡ es) (next_is : x + length (entries_from path x) ≡ x')
    (point_is : point link path (x - 1) ≡ pt) (low : nat_lt base x ≡ true) where
  abbrev C : Each ℕ → List (ℕ × Message) → Call
  C xs sent = record { state = leader path base a c ts (leading xs m r); batch = b; sent = sent; appends = 2 ∷ 3 ∷ 4 ∷ 5 ∷ []; moments = ms }

  abbrev msg : Message
  msg = offer pt es a c

  sends : (v : Who) (xs : Each ℕ) (sent : List (ℕ × Message)) → of v xs ≡ x → send_append link (C xs sent) (Leader (leading xs m r)) (id_of v) ≡ C (set v x' xs) (sent ++ (id_of v, msg) ∷ [])
  sends v xs sent here =
      (λ i. cond (nat_lt base (known_next i)) (appended_to link (C xs sent) (leading xs m r) (id_of v)) (C xs sent))
      ∙ (λ i. cond (low i) (appended_to link (C xs sent) (leading xs m r) (id_of v)) (C xs sent))
      ∙ (λ i. record (C xs (sent ++ (id_of v, plain (Append 1 (point link path (known_next i - 1)) (entries_from path (known_next i)) a c)) ∷ [])) { state = leader path base a c ts (known_on i) })
      ∙ (λ i. C (set v (next_is i) xs) (sent ++ (id_of v, plain (Append 1 (point_is i) (entries_is i) a c)) ∷ []))
    where
      known_next : (progress_of (leading xs m r) (id_of v)).next ≡ x
      known_next = each (λ w. (progress_of (leading xs m r) (id_of w)).next ≡ of w xs) refl refl refl refl v ∙ here

      known_on : with_progress (leading xs m r) (id_of v) (sent_on path (progress_of (leading xs m r) (id_of v))) ≡ leading (set v (x + length (entries_from path x)) xs) m r
      known_on = each (λ w. with_progress (leading xs m r) (id_of w) (sent_on path (progress_of (leading xs m r) (id_of w))) ≡ leading (set w (of w xs + length (entries_from path (of w xs))) xs) m r) refl refl refl refl v ∙ (λ i. leading (set v (here i + length (entries_from path (here i))) xs) m r)

  pub all_sent : send_appends link (C (all x) []) (2 ∷ 3 ∷ 4 ∷ 5 ∷ []) ≡ record (C (all x') (four_of msg)) { appends = [] }
  all_sent =
      (λ i. send_appends link (sends Two (all x) [] refl i) (3 ∷ 4 ∷ 5 ∷ []))
      ∙ (λ i. send_appends link (sends Three (record (all x) { two = x' }) ((2, msg) ∷ []) refl i) (4 ∷ 5 ∷ []))
      ∙ (λ i. send_appends link (sends Four (record (all x') { four = x; five = x }) ((2, msg) ∷ (3, msg) ∷ []) refl i) (5 ∷ []))
      ∙ (λ i. send_appends link (sends Five (record (all x') { five = x }) ((2, msg) ∷ (3, msg) ∷ (4, msg) ∷ []) refl i) [])

  -- the end of such a call
  pub ends_sent : (no_members : IsPlain path) → ended link (C (all x) []) None ≡ record (C (all x') (four_of msg)) { state = leader path (max base (c - KEPT_BELOW)) a c ts (leading (all x') m r); appends = [] }
  ends_sent no_members =
      (λ i. concluded (all_sent i))
      ∙ (λ i. record (C (all x') (four_of msg)) { state = base_moved (stays path no_members base a c ts (leading (all x') m r) i); appends = [] })

-- ---- a round
abbrev pub at_each : Path → ℕ → Each Bool → Each ℕ
at_each q n b = record { two = at q n b.two; three = at q n b.three; four = at q n b.four; five = at q n b.five }

abbrev pub votes : Bool → Each Bool → ℕ → Bool
votes own b v = cond (v == 1) own (cond (v == 2) b.two (cond (v == 3) b.three (cond (v == 4) b.four b.five)))

-- these and the leader are a quorum
abbrev pub enough : Each Bool → Bool
enough b = met conf_of_five (votes true b)

-- a ticket for the last entry
abbrev pub tickets : Path → Option ClientAsk → List Ticket
tickets q None = []
tickets q (Some a) = record { index = length q; client = a.client; number = a.number; request = a.request } ∷ []

-- its outcome
abbrev pub outcomes : Path → Option ClientAsk → List (ClientId × ℕ × Answer)
outcomes q o = filter_map (λ (t : Ticket). option_map (λ reply. (t.client, t.number, Outcome t.index reply)) (reply_of MOST_ROWS q t.index)) (tickets q o)

-- the path with its newest entry, which is the leader's own, and who asked for it
pub record Round : Type 0 where
  pub path : Path
  pub n : ℕ
  pub long : length path ≡ n + 1
  pub plain : IsPlain path
  pub own : term_at path (length path) ≡ 1
  pub ask : Option ClientAsk

-- what the leader has come to: what it promised and committed, and which followers have the entry and promised it
pub record Led : Type 0 where
  pub promised : Bool
  pub committed : Bool
  pub marks : Each Bool
  pub promises : Each Bool

abbrev pub led_all : Bool → Led
led_all b = record { promised = b; committed = b; marks = all b; promises = all b }

-- a follower took the entry, and this is what it promised
abbrev pub taken : Who → Bool → Led → Led
taken v x led = record led { marks = set v true led.marks; promises = set v (of v led.promises || x) led.promises }

-- what it promises and commits by what it knows
abbrev pub promises_by : Led → Bool
promises_by led = led.promised || enough led.marks

abbrev pub commits_by : Led → Bool
commits_by led = led.committed || (promises_by led && enough led.promises)

abbrev pub rises : Led → Led
rises led = record led { promised = promises_by led; committed = led.committed || commits_by led }

abbrev pub rose : Led → Bool
rose led = (not led.promised && (rises led).promised) || (not led.committed && (rises led).committed)

module _ (link : Link) (round : Round) where
  abbrev q : Path
  q = round.path

  abbrev n : ℕ
  n = round.n

  abbrev A : Bool → ℕ
  A b = at q n b

  abbrev As : Each Bool → Each ℕ
  As b = at_each q n b

  abbrev T : Bool → List Ticket
  T committed = cond committed [] (tickets q round.ask)

  abbrev next : ℕ
  next = length q + 1

  abbrev known : Led → Leading
  known led = leading (all next) (As led.marks) (As led.promises)

  -- what it holds then
  abbrev pub leads : Led → Replica
  leads led = leader q (A led.committed - KEPT_BELOW) (A led.promised) (A led.committed) (T led.committed) (known led)

  counted : (mark : ℕ → ℕ) (b : Each Bool) → mark 1 ≡ length q → mark 2 ≡ A b.two → mark 3 ≡ A b.three → mark 4 ≡ A b.four → mark 5 ≡ A b.five → met conf_of_five (λ v. nat_le (length q) (mark v)) ≡ enough b
  counted mark b one two three four fifth =
      λ i. nat_le 4 (0 + cond (has 1 true one i) 1 0 + cond (has 2 b.two two i) 1 0 + cond (has 3 b.three three i) 1 0 + cond (has 4 b.four four i) 1 0 + cond (has 5 b.five fifth i) 1 0)
    where
      has : (v : ℕ) (c : Bool) → mark v ≡ A c → nat_le (length q) (mark v) ≡ c
      has v c is = (λ i. nat_le (length q) (is i)) ∙ le_at q n round.long c

  enough_at : (mark : ℕ → ℕ) (c : ℕ) (b : Each Bool) → mark 1 ≡ length q → mark 2 ≡ A b.two → mark 3 ≡ A b.three → mark 4 ≡ A b.four → mark 5 ≡ A b.five → is_enough conf_of_five q (length q) mark c ≡ enough b
  enough_at mark c b one two three four fifth =
      (λ i. enough_for conf_of_five (take_all (length q) q (omega arith) i) mark c)
      ∙ (λ i. met (conf_is q round.plain i) (λ v. nat_le (length q) (mark v)) && (low i || met (older_conf conf_of_five q) (λ v. nat_le (conf_index q) (mark v))))
      ∙ and_true (met conf_of_five (λ v. nat_le (length q) (mark v)))
      ∙ counted mark b one two three four fifth
    where
      low : nat_le (conf_index q) c ≡ true
      low = (λ i. nat_le (index_is q round.plain i) c) ∙ le-leb 0 c (omega arith)

  -- the greatest index that passes, where only the last one may pass
  greatest_is : (passes : ℕ → Bool) (had b : Bool) → (had ≡ false → passes (length q) ≡ b) → greatest_above passes (A had) (length q - A had) ≡ A (had || b)
  greatest_is passes true b h = λ i. greatest_above passes (length q) (none i)
    where
      none : length q - length q ≡ 0
      none = omega arith
  greatest_is passes false b h = (λ i. greatest_above passes n (single i)) ∙ (λ i. cond (passes (sym round.long i)) (sym round.long i) n) ∙ (λ i. cond (h refl i) (length q) n)
    where
      single : length q - n ≡ 1
      single = omega (arith, round.long)

  -- up to an index that is reached or not
  greatest_to : (passes : ℕ → Bool) (had top b : Bool) → (top ≡ true → had ≡ false → passes (length q) ≡ b) → greatest_above passes (A had) (A top - A had) ≡ A (had || (top && b))
  greatest_to passes had true b h = greatest_is passes had b (h refl)
  greatest_to passes true false b h = λ i. greatest_above passes (length q) (none i)
    where
      none : n - length q ≡ 0
      none = omega (arith, round.long)
  greatest_to passes false false b h = λ i. greatest_above passes n (none i)
    where
      none : n - n ≡ 0
      none = omega arith

  -- what is due, and what stays
  due : (a c : Bool) (w : Option ClientAsk) → filter (λ (t : Ticket). nat_lt (A a) t.index && nat_le t.index (A c)) (cond a [] (tickets q w)) ≡ cond a [] (cond c (tickets q w) [])
  due true c w = refl
  due false true None = refl
  due false false None = refl
  due false c (Some x) = λ i. cond (lt_at q n round.long false true i && le_at q n round.long c i) (tickets q (Some x)) []

  stay : (a c : Bool) (w : Option ClientAsk) → filter (λ (t : Ticket). not (nat_lt (A a) t.index && nat_le t.index (A c))) (cond a [] (tickets q w)) ≡ cond (a || c) [] (tickets q w)
  stay true c w = refl
  stay false true None = refl
  stay false false None = refl
  stay false c (Some x) = (λ i. cond (not (lt_at q n round.long false true i && le_at q n round.long c i)) (tickets q (Some x)) []) ∙ turned c
    where
      turned : (c : Bool) → cond (not c) (tickets q (Some x)) [] ≡ cond c [] (tickets q (Some x))
      turned true = refl
      turned false = refl

  base_is : (a b : Bool) → max (A a - KEPT_BELOW) (A (a || b) - KEPT_BELOW) ≡ A (a || b) - KEPT_BELOW
  base_is true true = omega arith
  base_is true false = omega arith
  base_is false true = omega (arith, round.long)
  base_is false false = omega arith

  -- after the last entry nothing is left to send
  pub nothing_left : entries_from q next ≡ []
  nothing_left = λ i. take MAX_ENTRIES (drop_all (next - 1) q (omega arith) i)

  pub after_all : next + length (entries_from q next) ≡ next
  after_all = (λ i. next + length (nothing_left i)) ∙ omega arith

  pub whole_is : point link q (next - 1) ≡ whole link q
  whole_is = λ i. record { index = one_less i; hash = chain link (front i) }
    where
      one_less : next - 1 ≡ length q
      one_less = omega arith

      front : take (next - 1) q ≡ q
      front = take_all (next - 1) q (omega arith)

  module _ (led : Led) where
    abbrev to : Led
    to = rises led

    abbrev replied : List (ClientId × ℕ × Answer)
    replied = cond led.committed [] (cond (commits_by led) (outcomes q round.ask) [])

    abbrev Ends : Call → List (ℕ × Message) → Type 0
    Ends c sent = Did (with_sent (with_end link c)) (leads to) sent replied

    -- where it sends each follower what follows from x on
    module _ (x : ℕ) where
      abbrev l : Leading
      l = leading (all x) (As led.marks) (As led.promises)

      abbrev s : Replica
      s = leader q (A led.committed - KEPT_BELOW) (A led.promised) (A led.committed) (T led.committed) l

      promise_to : promise_index s l ≡ A to.promised
      promise_to = greatest_is (may_promise s l) led.promised (enough led.marks)
          (λ h. (λ i. (round.own i == 1) && is_enough conf_of_five q (length q) (accepted_mark s l) (A led.committed)) ∙ enough_at (accepted_mark s l) (A led.committed) led.marks refl refl refl refl refl)

      -- when it has promised this
      abbrev between : ℕ → Replica
      between a = record s { promised = a }

      reached_by : (top : Bool) → top ≡ true → promised_mark (between (A top)) l 1 ≡ length q
      reached_by true h = refl
      reached_by false h = absurd (let e : false ≡ true = h in cc)

      commit_to_ : commit_index (between (A to.promised)) l ≡ A (commits_by led)
      commit_to_ = greatest_to (may_commit (between (A to.promised)) l) led.committed to.promised (enough led.promises)
          (λ top h. enough_at (promised_mark (between (A to.promised)) l) (A led.committed) led.promises (reached_by to.promised top) refl refl refl refl)

      abbrev raised : ℕ → ℕ → Call
      raised a i = moment (commit_to (moment (record (moment (still s)) { state = between a })) i)

      -- the call after its raise, before its end
      abbrev pub done : List ℕ → Call
      done to_whom = record (raised (A to.promised) (A (commits_by led))) { state = leader q (A led.committed - KEPT_BELOW) (A to.promised) (A to.committed) (T to.committed) l; appends = to_whom }

      pub raise_is : raise (still s) l ≡ done []
      raise_is =
          (λ i. raised (promise_to i) (commit_index (between (promise_to i)) l))
          ∙ (λ i. raised (A to.promised) (commit_to_ i))
          ∙ (λ i. record (raised (A to.promised) (A (commits_by led))) { state = leader q (A led.committed - KEPT_BELOW) (A to.promised) (max_at q n round.long led.committed (commits_by led) i) (stay led.committed (commits_by led) round.ask i) l })

      -- its outcomes
      outcomes_are : (done []).batch.answers ≡ replied
      outcomes_are = (λ i. filter_map (outcome_of s) (due led.committed (commits_by led) round.ask i)) ∙ told_by led.committed (commits_by led)
        where
          told_by : (a c : Bool) → filter_map (outcome_of s) (cond a [] (cond c (tickets q round.ask) [])) ≡ cond a [] (cond c (outcomes q round.ask) [])
          told_by true c = refl
          told_by false true = refl
          told_by false false = refl

      pub ends_sending : (es : Path) (pt : Point) → entries_from q x ≡ es → x + length (entries_from q x) ≡ next → point link q (x - 1) ≡ pt → length q < x + 1
          → Ends (done (2 ∷ 3 ∷ 4 ∷ 5 ∷ [])) (four_of (offer pt es (A to.promised) (A to.committed)))
      ends_sending es pt entries_is next_is point_is high =
          did _ _ _ _ _ (λ i. with_sent (sending i))
          (record { state = λ i. leader q (base_is led.committed (commits_by led) i) (A to.promised) (A to.committed) (T to.committed) (known led); sent = refl; answers = outcomes_are; saved = refl; halt = refl })
        where
          low : nat_lt (A led.committed - KEPT_BELOW) x ≡ true
          low = lt-ltb (A led.committed - KEPT_BELOW) x (omega (arith, below_whole q n round.long led.committed, round.long))

          sending : ended link (done (2 ∷ 3 ∷ 4 ∷ 5 ∷ [])) None
              ≡ record (done []) { state = leader q (max (A led.committed - KEPT_BELOW) (A to.committed - KEPT_BELOW)) (A to.promised) (A to.committed) (T to.committed) (known led); sent = four_of (offer pt es (A to.promised) (A to.committed)) }
          sending = ends_sent link q (A led.committed - KEPT_BELOW) (A to.promised) (A to.committed) (T to.committed) (As led.marks) (As led.promises) (done []).batch (done []).moments x next es pt entries_is next_is point_is low round.plain

    abbrev pub more : Message
    more = offer (whole link q) [] (A to.promised) (A to.committed)

    ended_by : (b : Bool) → Ends (cond b (done next (2 ∷ 3 ∷ 4 ∷ 5 ∷ [])) (done next [])) (cond b (four_of more) [])
    ended_by false =
        did _ _ _ _ _ (λ i. with_sent (record (done next []) { state = base_moved (stays q round.plain (A led.committed - KEPT_BELOW) (A to.promised) (A to.committed) (T to.committed) (known led) i) }))
        (record { state = λ i. leader q (base_is led.committed (commits_by led) i) (A to.promised) (A to.committed) (T to.committed) (known led); sent = refl; answers = outcomes_are next; saved = refl; halt = refl })
    ended_by true = ends_sending next [] (whole link q) nothing_left after_all whole_is (omega arith)

    -- after an acceptance, by which it knows this much
    after_is : (old : Replica) (v : ℕ) → old.promised ≡ A led.promised → old.committed ≡ A led.committed → old.path ≡ q → (progress_of (known led) v).next ≡ next
        → after_raise old (raise (still (leads led)) (known led)) (known led) v ≡ cond (rose led) (done next (2 ∷ 3 ∷ 4 ∷ 5 ∷ [])) (done next [])
    after_is old v promised committed path next_is =
        (λ i. after_raise old (raise_is next i) (known led) v)
        ∙ (λ i. cond (nat_lt (promised i) (A to.promised) || nat_lt (committed i) (A to.committed)) (to_every_peer (done next []) (known led)) (cond (nat_le (next_is i) (length (path i))) (to_peer (done next []) v) (done next [])))
        ∙ (λ i. cond (lt_at q n round.long led.promised to.promised i || lt_at q n round.long led.committed to.committed i) (to_every_peer (done next []) (known led)) (cond (lt-leb next (length q) (omega arith) i) (to_peer (done next []) v) (done next [])))
        ∙ (λ i. cond (rose led) (done next (peers_are q round.plain (A led.committed - KEPT_BELOW) (A to.promised) (A to.committed) (T to.committed) (all next) (As led.marks) (As led.promises) i)) (done next []))

  -- it hears an acceptance of the whole path
  module _ (led : Led) (v : Who) (x : Bool) where
    abbrev then : Led
    then = taken v x led

    matched : is_hash (cond (nat_le (A led.committed - KEPT_BELOW) (length q) && nat_le (length q) (length q)) (Some (chain link (take (length q) q))) None) (chain link q) ≡ true
    matched =
        (λ i. is_hash (cond (le-leb (A led.committed - KEPT_BELOW) (length q) (omega (arith, below_whole q n round.long led.committed)) i && le-leb (length q) (length q) (omega arith) i) (Some (chain link (take_all (length q) q (omega arith) i))) None) (chain link q))
        ∙ hash_same (chain link q)

    is_one : is_in (2 ∷ 3 ∷ 4 ∷ 5 ∷ []) (id_of v) ≡ true
    is_one = each (λ w. is_in (2 ∷ 3 ∷ 4 ∷ 5 ∷ []) (id_of w) ≡ true) refl refl refl refl v

    -- what it knows of it then
    learnt : with_progress (known led) (id_of v) (accepted_upto (progress_of (known led) (id_of v)) (length q) (A x)) ≡ known then
    learnt =
        each (λ w. with_progress (known led) (id_of w) (accepted_upto (progress_of (known led) (id_of w)) (length q) (A x)) ≡ known (taken w x led))
        (λ i. leading (set Two (next_is i) (all next)) (set Two (mark_is led.marks.two i) (As led.marks)) (set Two (promise_is led.promises.two i) (As led.promises)))
        (λ i. leading (set Three (next_is i) (all next)) (set Three (mark_is led.marks.three i) (As led.marks)) (set Three (promise_is led.promises.three i) (As led.promises)))
        (λ i. leading (set Four (next_is i) (all next)) (set Four (mark_is led.marks.four i) (As led.marks)) (set Four (promise_is led.promises.four i) (As led.promises)))
        (λ i. leading (set Five (next_is i) (all next)) (set Five (mark_is led.marks.five i) (As led.marks)) (set Five (promise_is led.promises.five i) (As led.promises)))
        v
      where
        next_is : max next (length q + 1) ≡ next
        next_is = omega arith

        mark_is : (b : Bool) → max (A b) (length q) ≡ length q
        mark_is b = omega (arith, below_whole q n round.long b)

        promise_is : (b : Bool) → max (A b) (min (A x) (length q)) ≡ A (b || x)
        promise_is b = (λ i. max (A b) (min_whole q n round.long x i)) ∙ max_at q n round.long b x

    heard : accepted_heard link (leads led) (Leader (known led)) (id_of v) (whole link q) (A x) ≡ cond (rose then) (done then next (2 ∷ 3 ∷ 4 ∷ 5 ∷ [])) (done then next [])
    heard =
        (λ i. cond (is_in (peers_are q round.plain (A led.committed - KEPT_BELOW) (A led.promised) (A led.committed) (T led.committed) (all next) (As led.marks) (As led.promises) i) (id_of v) && matched i) (accepted_by (leads led) (learnt i) (id_of v)) (still (leads led)))
        ∙ (λ i. cond (is_one i && true) (accepted_by (leads led) (known then) (id_of v)) (still (leads led)))
        ∙ after_is then (leads led) (id_of v) refl refl refl (each (λ w. (progress_of (known (taken w x led)) (id_of w)).next ≡ next) refl refl refl refl v)

    pub hears : Did (step link (leads led) (Peer (id_of v) (acceptance (whole link q) (A x)))) (leads (rises then)) (cond (rose then) (four_of (more then)) []) (cond led.committed [] (cond (commits_by then) (outcomes q round.ask) []))
    hears = did _ _ _ _ _ (λ i. with_sent (with_end link (heard i))) (ended_by then (rose then))
