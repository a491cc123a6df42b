-- Every drill is played to its end.
use Rattle.std.proofs.Common.{◌≡◌, ℕ, zero, suc, ◌+◌, ◌-◌, ◌*◌, ◌%◌, ◌≤◌, ◌<◌, ◌==◌, Bool, true, false, cond, Some, None, List, [], ◌∷◌, ◌++◌, length, refl, ap, sym, subst, ◌∙◌, inl, inr, arith}
use Rattle.std.specs.Prelude.{◌&&◌, fold, nat_le}
use Rattle.std.specs.List.{list_all}
use Rattle.std.proofs.lemmas.Bool.{cases_eq, le-leb}
use Rattle.group_quorum.specs.Conf.{Conf}
use Rattle.group_quorum.specs.Voters.{is_in}
use Rattle.schedule_model.specs.Written.{last_of}
use Rattle.trace_model.specs.Summary.{drill_played}
use Rattle.std.proofs.lemmas.List.{append_assoc}
use Rattle.values.specs.declared.entry.LogEntry.{LogEntry}
use Rattle.values.specs.declared.event.Event.{Event}
use Rattle.values.specs.declared.event.Event.TheVariants as event
use Rattle.values.specs.declared.ids.ClientId.{ClientId}
use Rattle.values.specs.declared.limits.TheConstants.{MOST_ROWS}
use Rattle.record_rules.specs.Table.{RecordTable, row_of, empty_table}
use Rattle.replica_model.specs.Path.{Path, Link}
use Rattle.replica_model.specs.Folds.{fold_of}
use Rattle.replica_model.specs.Message.{Message}
use Rattle.schedule_model.specs.Client.{Core}
use Rattle.schedule_model.specs.Drill.{client, wish, word, stores, exchange, all_store, all_wish, drill_events}
use Rattle.group_model.specs.Group.{Answered, bears, core_of}
use Rattle.group_model.specs.Run.{Enclaves, World, empty_world}
use Rattle.trace_model.specs.Summary.{halts}
use Rattle.trace_model.specs.Trace.{Playing, playing}
use Rattle.drill_laws.specs.Laws.{DrillIsPlayed, DrillComesTo, HearsNameTheNewest, AllHoldLogs, NobodyLearns, rounds}
use Rattle.drill_laws.proofs.Leads.{IsPlain}
use Rattle.drill_laws.proofs.Plays.{Plays, none_stops, ends_so, each_newest}
use Rattle.drill_laws.proofs.Exchanges.{Calm}
use Rattle.drill_laws.proofs.Starting.{noop, noop_plain, begin_plays, tick_plays}
use Rattle.drill_laws.proofs.Clients.{clients_differ, clients_apart, is_wish}
use Rattle.drill_laws.proofs.Storing.{ready, store_plays, front_stored, last_stored, plain_stored, long_stored, table_stored, few_rows_stored, other_row, fold_stored, cores_stored, few_cores_stored, own_core, other_core, answers_stored, count_stored, wish_plays, last_wished, plain_wished, long_wished, cores_wished, few_cores_wished, still_core, answers_wished, count_wished}

-- where nobody was rolled back, each configuration bears it
none_counted : (n : ℕ) (vs : List ℕ) → fold (λ (a : ℕ) (v : ℕ). a + cond (is_in [] v) 1 0) n vs ≡ n
none_counted n [] = refl
none_counted n (v ∷ vs) = none_counted (n + 0) vs ∙ omega arith

all_bear : (confs : List Conf) → list_all (bears []) confs ≡ true
all_bear [] = refl
all_bear (c ∷ confs) = λ i. borne i && all_bear confs i
  where
    borne : bears [] c ≡ true
    borne = (λ i. nat_le (none_counted 0 c.voters i) (2 * c.margin)) ∙ le-leb 0 (2 * c.margin) (omega arith)

-- the world where the clients below i have stored
pub record Stored (i : ℕ) (w : World) : Type 0 where
  pub front : Path
  pub last : LogEntry
  pub own : last.term ≡ 1
  pub plain : IsPlain (front ++ last ∷ [])
  pub table : RecordTable
  pub events : ℕ
  pub messages : ℕ
  pub answers : List Answered
  pub cores : List (ClientId × Core)
  pub at : Calm w (front ++ last ∷ []) events messages answers cores
  pub fold_is : fold_of MOST_ROWS (front ++ last ∷ []) ≡ table
  pub limit_is : table.limit ≡ 20000
  pub few_rows : length table.rows ≤ 2 * i
  pub fresh : (j : ℕ) → i ≤ j → j ≤ 2000 → row_of table.rows (client j) ≡ None
  pub unknown : (j : ℕ) → i ≤ j → j ≤ 2000 → core_of cores (client j) ≡ None
  pub stored : (j : ℕ) → 1 ≤ j → j < i → core_of cores (client j) ≡ Some ready
  pub few_cores : length cores ≤ 3 * i
  pub short : length (front ++ last ∷ []) ≤ 2 * i
  pub few_events : events + 53 ≡ 34 + 53 * i
  pub few_messages : messages + 48 ≡ 32 + 48 * i
  pub few_answers : length answers + 2 ≡ 2 * i

-- where those from i up to m have still to wish
pub record Wishing (i m : ℕ) (w : World) : Type 0 where
  pub front : Path
  pub last : LogEntry
  pub own : last.term ≡ 1
  pub plain : IsPlain (front ++ last ∷ [])
  pub events : ℕ
  pub messages : ℕ
  pub answers : List Answered
  pub cores : List (ClientId × Core)
  pub at : Calm w (front ++ last ∷ []) events messages answers cores
  pub waits : (j : ℕ) → i ≤ j → j < m → core_of cores (client j) ≡ Some ready
  pub few_cores : length cores ≤ 6010 + 2 * i
  pub short : length (front ++ last ∷ []) ≤ 4010 + i
  pub few_events : events ≤ 107000 + 36 * i
  pub few_messages : messages ≤ 96100 + 32 * i
  pub few_answers : length answers ≤ 4010 + i

module _ (link : Link) where
  abbrev Player : Type 0
  Player = Playing Message Enclaves

  -- ---- the clients store; what follows is played from where those below m have
  abbrev From : ℕ → List Event → (Player → Type 0) → Type 0
  From m rest Q = (t : Player) → Stored m t.group → Plays link t rest Q

  -- one more has stored
  stores_one : (i : ℕ) → i ≤ 2000 → (pl : Player) → Stored i pl.group → (a : ℕ) → (rest : List Event) (Q : Player → Type 0) → a + 1 ≡ 2 * i → From (i + 1) rest Q → Plays link pl (stores i a ++ rest) Q
  stores_one i within pl s a rest Q newest next =
      let p : Path = s.front ++ s.last ∷ [] in
      let low : length p + 2 < 4611686018427387904 = omega (arith, s.short, within) in
      let few : length s.table.rows < 20000 = omega (arith, s.few_rows, within) in
      let free : row_of s.table.rows (client i) ≡ None = s.fresh i (omega arith) within in
      store_plays link p s.plain s.table s.answers s.cores i s.fold_is s.limit_is few free pl rest Q s.at
      (omega (arith, s.few_events, within)) (omega (arith, s.few_messages, within)) (omega (arith, s.few_answers, within)) (omega (arith, s.few_cores, within)) low
      (s.unknown i (omega arith) within) a (omega (arith, newest, s.few_answers))
      (λ t at. next t (record {
        front = front_stored link p s.plain s.table s.answers s.cores i;
        last = last_stored link p s.plain s.table s.answers s.cores i;
        own = refl;
        plain = plain_stored link p s.plain s.table s.answers s.cores i;
        table = table_stored link p s.plain s.table s.answers s.cores i;
        events = s.events + 53;
        messages = s.messages + 48;
        answers = answers_stored link p s.plain s.table s.answers s.cores i;
        cores = cores_stored link p s.plain s.table s.answers s.cores i;
        at = at;
        fold_is = fold_stored link p s.plain s.table s.answers s.cores i s.fold_is s.limit_is few free;
        limit_is = s.limit_is;
        few_rows = omega (arith, s.few_rows, few_rows_stored link p s.plain s.table s.answers s.cores i);
        fresh = λ j above low. other_row link p s.plain s.table s.answers s.cores i (client j) (clients_apart i j (omega (arith, within)) (omega (arith, low)) (λ e. omega (arith, e, above))) ∙ s.fresh j (omega (arith, above)) low;
        unknown = λ j above low. other_core link p s.plain s.table s.answers s.cores i (client j) (clients_differ i j (omega (arith, within)) (omega (arith, low)) (λ e. omega (arith, e, above))) ∙ s.unknown j (omega (arith, above)) low;
        stored = λ j from below. elim (cases_eq i j) [
          | inl same ↦ subst (λ k. core_of (cores_stored link p s.plain s.table s.answers s.cores i) (client k) ≡ Some ready) same (own_core link p s.plain s.table s.answers s.cores i)
          | inr apart ↦ other_core link p s.plain s.table s.answers s.cores i (client j) (clients_differ i j (omega (arith, within)) (omega (arith, below, within)) apart) ∙ s.stored j from (omega (arith, below, apart))
        ];
        few_cores = omega (arith, s.few_cores, few_cores_stored link p s.plain s.table s.answers s.cores i);
        short = omega (arith, s.short, long_stored link p s.plain s.table s.answers s.cores i);
        few_events = omega (arith, s.few_events);
        few_messages = omega (arith, s.few_messages);
        few_answers = omega (arith, s.few_answers, count_stored link p s.plain s.table s.answers s.cores i);
      }))

  all_stored : (n i m : ℕ) → i + n ≡ m → m ≤ 2001 → (pl : Player) → Stored i pl.group → (a : ℕ) → a + 1 ≡ 2 * i → (rest : List Event) (Q : Player → Type 0) → From m rest Q → Plays link pl (all_store n i a ++ rest) Q
  all_stored zero i m is within pl s a newest rest Q next = next pl (subst (λ k. Stored k pl.group) same s)
    where
      same : i ≡ m
      same = omega (arith, is)
  all_stored (suc n) i m is within pl s a newest rest Q next =
      subst (λ es. Plays link pl es Q) (sym (append_assoc (stores i a) (all_store n (i + 1) (a + 2)) rest))
      (stores_one i (omega (arith, is, within)) pl s a (all_store n (i + 1) (a + 2) ++ rest) Q newest
      (λ t s'. all_stored n (i + 1) m (omega (arith, is)) within t s' (a + 2) (omega (arith, newest)) rest Q next))

  -- ---- the clients wish, from client i on
  -- the rest is played from where client i has wished
  abbrev Then : ℕ → ℕ → ℕ → ℕ → ℕ → List Event → (Player → Type 0) → Type 0
  Then i m ev ms count rest Q = (t : Player) (s : Wishing (i + 1) m t.group) → s.events ≡ ev → s.messages ≡ ms → length s.answers ≡ count → Plays link t rest Q

  module _ (i m : ℕ) (below : i < m) (within : m ≤ 2001) (w : World) (s : Wishing i m w) (a : ℕ) (newest : a ≡ length s.answers + 1) (seed : ℕ) (rest : List Event) (Q : Player → Type 0) where
    abbrev p : Path
    p = s.front ++ s.last ∷ []

    -- one more has wished, maybe after a tick
    wishes_one : {ev ms : ℕ} (pl : Player) → Calm pl.group p ev ms s.answers s.cores → ev ≤ s.events + 9 → ms ≤ s.messages + 8 → Then i m (ev + 27) (ms + 24) (length s.answers + 1) rest Q
        → Plays link pl (event.Want (client i) (wish i seed) ∷ (exchange i a ++ rest)) Q
    wishes_one {ev} {ms} pl at ev_is ms_is next =
        let low : length p + 2 < 4611686018427387904 = omega (arith, s.short, within, below) in
        wish_plays link p s.plain s.answers s.cores (client i) (wish i seed) (is_wish i seed) (s.waits i (omega arith) below) pl rest Q at
        (omega (arith, s.few_events, within, below, ev_is)) (omega (arith, s.few_messages, within, below, ms_is)) (omega (arith, s.few_answers, within, below)) (omega (arith, s.few_cores, within, below)) low a newest
        (λ t at'. next t
        (record {
          front = p;
          last = last_wished link p s.plain s.answers s.cores (client i) (wish i seed);
          own = refl;
          plain = plain_wished link p s.plain s.answers s.cores (client i) (wish i seed);
          events = ev + 27;
          messages = ms + 24;
          answers = answers_wished link p s.plain s.answers s.cores (client i) (wish i seed);
          cores = cores_wished link p s.plain s.answers s.cores (client i) (wish i seed);
          at = at';
          waits = λ j above low. still_core link p s.plain s.answers s.cores (client i) (wish i seed) (client j)
              (clients_differ i j (omega (arith, below, within)) (omega (arith, low, within)) (λ e. omega (arith, e, above))) ∙ s.waits j (omega (arith, above)) low;
          few_cores = omega (arith, s.few_cores, few_cores_wished link p s.plain s.answers s.cores (client i) (wish i seed));
          short = omega (arith, s.short, long_wished link p s.plain s.answers s.cores (client i) (wish i seed));
          few_events = omega (arith, s.few_events, ev_is);
          few_messages = omega (arith, s.few_messages, ms_is);
          few_answers = omega (arith, s.few_answers, count_wished link p s.plain s.answers s.cores (client i) (wish i seed));
        })
        refl refl (count_wished link p s.plain s.answers s.cores (client i) (wish i seed)))

    with_tick : (b : Bool) (pl : Player) → Calm pl.group p s.events s.messages s.answers s.cores → Then i m (s.events + 27 + 9 * cond b 1 0) (s.messages + 24 + 8 * cond b 1 0) (length s.answers + 1) rest Q
        → Plays link pl ((cond b (event.Tick 1 ∷ event.Settle 8 ∷ []) [] ++ (event.Want (client i) (wish i seed) ∷ exchange i a)) ++ rest) Q
    with_tick false pl at next = wishes_one pl at (omega arith) (omega arith) (λ t s' ev_is ms_is. next t s' (omega (arith, ev_is)) (omega (arith, ms_is)))
    with_tick true pl at next =
        tick_plays link s.front s.last s.own s.plain s.events s.messages s.answers s.cores
        (omega (arith, s.few_events, within, below)) (omega (arith, s.few_messages, within, below)) (omega (arith, s.few_answers, within, below)) (omega (arith, s.few_cores, within, below))
        pl (event.Want (client i) (wish i seed) ∷ (exchange i a ++ rest)) Q at
        (λ t at'. wishes_one t at' (omega arith) (omega arith) (λ u s' ev_is ms_is. next u s' (omega (arith, ev_is)) (omega (arith, ms_is))))

  -- so many events, messages and answers there are at the end
  pub record Ends (events messages answers : ℕ) (t : Player) : Type 0 where
    pub events_are : length t.group.past ≡ events
    pub messages_are : length t.group.messages ≡ messages
    pub answers_are : length t.group.answers ≡ answers
    pub no_halt : halts t.group ≡ 0
    pub all_hold : AllHoldLogs t.group
    pub none_rolled : t.group.rolled ≡ []

  all_wished : (seed n i m : ℕ) → i + n ≡ m → m ≤ 2001 → (pl : Player) (s : Wishing i m pl.group) (a : ℕ) → a ≡ length s.answers + 1
      → (x y z : ℕ) → x ≡ s.events + 27 * n + 9 * rounds seed n i → y ≡ s.messages + 24 * n + 8 * rounds seed n i → z ≡ length s.answers + n → Plays link pl (all_wish seed n i a) (Ends x y z)
  all_wished seed zero i m is within pl s a newest x y z x_is y_is z_is =
      record {
        events_are = s.at.past_is ∙ omega (arith, x_is);
        messages_are = s.at.sent_is ∙ omega (arith, y_is);
        answers_are = (λ i. length (s.at.answers_are i)) ∙ omega (arith, z_is);
        no_halt = s.at.runs.no_halt;
        all_hold = s.at.runs.all_hold;
        none_rolled = s.at.runs.none_rolled;
      }
  all_wished seed (suc n) i m is within pl s a newest x y z x_is y_is z_is =
      with_tick i m (omega (arith, is)) within pl.group s a newest (word seed (i - 1)) (all_wish seed n (i + 1) (a + 1)) (Ends x y z) (word seed (i - 1) % 4 == 3) pl s.at
      (λ t s' ev_is ms_is count. all_wished seed n (i + 1) m (omega (arith, is)) within t s' (a + 1) (omega (arith, newest, count)) x y z (omega (arith, x_is, ev_is)) (omega (arith, y_is, ms_is)) (omega (arith, z_is, count)))

  -- ---- the whole drill
  begun : (t : Player) → Calm t.group (noop ∷ []) 34 32 [] [] → Stored 1 t.group
  begun t at =
      record {
        front = [];
        last = noop;
        own = refl;
        plain = noop_plain;
        table = empty_table MOST_ROWS;
        events = 34;
        messages = 32;
        answers = [];
        cores = [];
        at = at;
        fold_is = refl;
        limit_is = refl;
        few_rows = omega arith;
        fresh = λ j above low. refl;
        unknown = λ j above low. refl;
        stored = λ j from below. absurd (omega (arith, from, below));
        few_cores = omega arith;
        short = omega arith;
        few_events = omega arith;
        few_messages = omega arith;
        few_answers = omega arith;
      }

  abbrev all_have : (clients : ℕ) → clients ≤ 2000 → (t : Player) → Stored (1 + clients) t.group → Wishing 1 (1 + clients) t.group
  all_have clients few t s =
      record {
        front = s.front;
        last = s.last;
        own = s.own;
        plain = s.plain;
        events = s.events;
        messages = s.messages;
        answers = s.answers;
        cores = s.cores;
        at = s.at;
        waits = λ j from below. s.stored j from below;
        few_cores = omega (arith, s.few_cores, few);
        short = omega (arith, s.short, few);
        few_events = omega (arith, s.few_events, few);
        few_messages = omega (arith, s.few_messages, few);
        few_answers = omega (arith, s.few_answers, few);
      }

  abbrev AtTheEnd : ℕ → ℕ → Player → Type 0
  AtTheEnd seed clients = Ends (34 + 80 * clients + 9 * rounds seed clients 1) (32 + 72 * clients + 8 * rounds seed clients 1) (3 * clients)

  pub drill_plays : (seed clients : ℕ) → clients ≤ 2000 → Plays link (playing empty_world) (drill_events seed clients) (AtTheEnd seed clients)
  drill_plays seed clients few =
      let wishes : List Event = all_wish seed clients 1 (2 * clients + 1) in
      begin_plays link (all_store clients 1 1 ++ wishes) (AtTheEnd seed clients)
      (λ t at. all_stored clients 1 (1 + clients) refl (omega (arith, few)) t (begun t at) 1 refl wishes (AtTheEnd seed clients)
      (λ u s. all_wished seed clients 1 (1 + clients) refl (omega (arith, few)) u (all_have clients few u s) (2 * clients + 1) (omega (arith, s.few_answers))
      (34 + 80 * clients + 9 * rounds seed clients 1) (32 + 72 * clients + 8 * rounds seed clients 1) (3 * clients) (omega (arith, s.few_events)) (omega (arith, s.few_messages)) (omega (arith, s.few_answers))))

pub played : DrillIsPlayed
played link seed clients some few = none_stops link (drill_events seed clients) (playing empty_world) _ (drill_plays link seed clients few)

pub comes_to : DrillComesTo
comes_to link seed clients some few =
    let w : World = (last_of (drill_played link seed clients)).group in
    let ends = ends_so link (drill_events seed clients) (playing empty_world) _ (drill_plays link seed clients few) in
    record { events = ends.events_are; messages = ends.messages_are; answers = ends.answers_are; no_halt = ends.no_halt; within = ap (λ (rolled : List ℕ). list_all (bears rolled) w.confs) ends.none_rolled ∙ all_bear w.confs }

pub newest : HearsNameTheNewest
newest link seed clients some few = each_newest link (drill_events seed clients) (playing empty_world) _ (drill_plays link seed clients few)

pub none_learns : NobodyLearns
none_learns link seed clients some few = (ends_so link (drill_events seed clients) (playing empty_world) _ (drill_plays link seed clients few)).all_hold
