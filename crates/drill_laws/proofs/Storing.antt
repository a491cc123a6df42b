-- A client stores, and a client recovers or deletes, where all five agree.
use Rattle.std.proofs.Common.{◌≡◌, ℕ, ◌+◌, ◌-◌, ◌≤◌, ◌<◌, ◌==◌, Bool, true, false, cond, Option, Some, None, Ok, Err, List, [], ◌∷◌, ◌++◌, length, refl, ◌∙◌, arith}
use Rattle.std.specs.Prelude.{nat_lt, unwrap_or}
use Rattle.std.proofs.lemmas.Bool.{ne_eqb}
use Rattle.std.proofs.lemmas.List.{length-append}
use Rattle.values.specs.declared.entry.LogEntry.{LogEntry}
use Rattle.values.specs.declared.event.Event.{Event}
use Rattle.values.specs.declared.event.Event.TheVariants as event
use Rattle.values.specs.declared.ids.ClientId.{ClientId}
use Rattle.values.specs.declared.limits.TheConstants.{MOST_ROWS, TOP}
use Rattle.values.specs.declared.message.Answer.TheVariants.{Outcome}
use Rattle.values.specs.declared.message.Reply.{Reply}
use Rattle.values.specs.declared.message.Reply.TheVariants.{Applied, TableFull}
use Rattle.values.specs.declared.message.Response.TheVariants.{Backup as BackedUp, Expose as Exposed}
use Rattle.values.specs.declared.row.Kept.{Kept}
use Rattle.values.specs.declared.row.Row.{Row}
use Rattle.values.specs.declared.want.Report.{Report}
use Rattle.values.specs.declared.want.Report.TheVariants as report
use Rattle.values.specs.declared.want.Want.{Want}
use Rattle.values.specs.declared.want.Want.TheVariants as want
use Rattle.values.specs.declared.want.WantFault.TheVariants as fault
use Rattle.record_rules.specs.declared.status.TheConstants.{OK, ERROR}
use Rattle.record_rules.specs.Clients.{client_eq}
use Rattle.record_rules.specs.Rules.{apply, apply_by, after_acting}
use Rattle.record_rules.specs.Table.{RecordTable, row_of, put_row}
use Rattle.replica_model.specs.Path.{Path, Link}
use Rattle.replica_model.specs.Folds.{fold_of, reply_of}
use Rattle.replica_model.specs.Message.{Message}
use Rattle.schedule_model.specs.Client.{Core, new_core, first_request, wanted, want_sizes, flies, heard}
use Rattle.schedule_model.specs.Drill.{client, secret, pin, tries}
use Rattle.schedule_model.specs.Reading.{max_u64}
use Rattle.group_model.specs.Group.{Answered, is_client, core_of, put_core}
use Rattle.group_model.specs.Run.{Enclaves}
use Rattle.trace_model.specs.Trace.{Playing}
use Rattle.drill_laws.proofs.Numbers.{same_bytes}
use Rattle.drill_laws.proofs.Leads.{IsPlain}
use Rattle.drill_laws.proofs.Asking.{ask, ask_plain, ask_long}
use Rattle.drill_laws.proofs.Events.{want_goes}
use Rattle.drill_laws.proofs.Worlds.{restated}
use Rattle.drill_laws.proofs.Plays.{Plays}
use Rattle.drill_laws.proofs.Exchanges.{put_length, Calm, outcome, exchange_plays}
use Rattle.drill_laws.proofs.Tables.{table_after, reply_after, row_put, row_stays, rows_more}
use Rattle.drill_laws.proofs.Clients.{core_put, core_stays, backup, expose, backup_reads, expose_reads, backup_sized, IsWish}

-- a client that has stored, and has nothing in flight
abbrev pub ready : Core
ready = record { last = 2; flight = None }

-- one whose request of this number is out
abbrev pub asking : Want → ℕ → Bool → Core
asking w number exposes = record { last = number; flight = Some (record { want = w; number = number; exposes = exposes }) }

-- ---- client k, which is not known, stores: what becomes of the path, the table, the answers and the cores
module _ (link : Link) (p : Path) (no_members : IsPlain p) (tb : RecordTable) (answers : List Answered) (cores : List (ClientId × Core)) (k : ℕ) where
  abbrev c : ClientId
  c = client k

  abbrev w : Want
  w = want.Store (secret k) (pin k) (tries k)

  abbrev cores1 : List (ClientId × Core)
  cores1 = put_core cores c (asking w 1 false)

  abbrev cores2 : List (ClientId × Core)
  cores2 = put_core cores1 c (asking w 2 true)

  abbrev pub cores_stored : List (ClientId × Core)
  cores_stored = put_core cores2 c ready

  pub few_cores_stored : length cores_stored ≤ length cores + 3
  few_cores_stored = omega (arith, put_length cores c (asking w 1 false), put_length cores1 c (asking w 2 true), put_length cores2 c ready)

  pub own_core : core_of cores_stored c ≡ Some ready
  own_core = core_put cores2 c ready

  pub other_core : (d : ClientId) → is_client c d ≡ false → core_of cores_stored d ≡ core_of cores d
  other_core d apart = core_stays cores2 c d ready apart ∙ core_stays cores1 c d (asking w 2 true) apart ∙ core_stays cores c d (asking w 1 false) apart

  abbrev kept : Bool → Kept
  kept exposed = record { secret = secret k; pin = pin k; left = tries k; exposed = exposed }

  abbrev row : ℕ → Bool → Row
  row last exposed = record { client = c; last = last; kept = Some (kept exposed) }

  abbrev tb1 : RecordTable
  tb1 = record tb { rows = put_row tb.rows (row 1 false) }

  abbrev pub table_stored : RecordTable
  table_stored = record tb { rows = put_row tb1.rows (row 2 true) }

  pub few_rows_stored : length table_stored.rows ≤ length tb.rows + 2
  few_rows_stored = omega (arith, rows_more tb.rows (row 1 false), rows_more tb1.rows (row 2 true))

  pub other_row : (d : ClientId) → client_eq c d ≡ false → row_of table_stored.rows d ≡ row_of tb.rows d
  other_row d apart = row_stays tb1.rows (row 2 true) d apart ∙ row_stays tb.rows (row 1 false) d apart

  abbrev pub front_stored : Path
  front_stored = p ++ ask link p no_members c 1 (backup k) ∷ []

  pub plain1 : IsPlain front_stored
  plain1 = ask_plain link p no_members c 1 (backup k)

  abbrev pub last_stored : LogEntry
  last_stored = ask link front_stored plain1 c 2 (expose k)

  abbrev path_stored : Path
  path_stored = front_stored ++ last_stored ∷ []

  pub plain_stored : IsPlain path_stored
  plain_stored = ask_plain link front_stored plain1 c 2 (expose k)

  long1 : length front_stored ≡ length p + 1
  long1 = ask_long link p no_members c 1 (backup k)

  pub long_stored : length path_stored ≡ length p + 2
  long_stored = ask_long link front_stored plain1 c 2 (expose k) ∙ omega (arith, long1)

  abbrev answers1 : List Answered
  answers1 = answers ++ outcome c 1 (length front_stored) (Applied (BackedUp OK)) ∷ []

  abbrev pub answers_stored : List Answered
  answers_stored = answers1 ++ outcome c 2 (length path_stored) (Applied (Exposed OK)) ∷ []

  count1 : length answers1 ≡ length answers + 1
  count1 = length-append answers (outcome c 1 (length front_stored) (Applied (BackedUp OK)) ∷ [])

  pub count_stored : length answers_stored ≡ length answers + 2
  count_stored = length-append answers1 (outcome c 2 (length path_stored) (Applied (Exposed OK)) ∷ []) ∙ omega (arith, count1)

  module _ (fold_is : fold_of MOST_ROWS p ≡ tb) (limit_is : tb.limit ≡ 20000) (few_rows : length tb.rows < 20000) (fresh : row_of tb.rows c ≡ None) where
    apply1 : apply (fold_of MOST_ROWS p) c 1 (backup k) ≡ (tb1, Applied (BackedUp OK))
    apply1 =
        (λ i. apply (fold_is i) c 1 (backup k))
        ∙ (λ i. apply_by (fresh i) tb c 1 (backup k))
        ∙ (λ i. cond (room i) (tb, TableFull tb.limit) (tb1, Applied (BackedUp OK)))
      where
        room : (length tb.rows == tb.limit) ≡ false
        room = ne_eqb (length tb.rows) tb.limit (λ e. omega (arith, e, limit_is, few_rows))

    apply2 : apply (fold_of MOST_ROWS front_stored) c 2 (expose k) ≡ (table_stored, Applied (Exposed OK))
    apply2 =
        (λ i. apply (table_after MOST_ROWS p 1 c 1 (backup k) (backup_reads k) i) c 2 (expose k))
        ∙ (λ i. apply (apply1 i).0 c 2 (expose k))
        ∙ (λ i. apply_by (row_put tb.rows (row 1 false) i) tb1 c 2 (expose k))
        ∙ (λ i. after_acting tb1 c 2 (cond (same_bytes (secret k) i) (Some (kept true), Exposed OK) (Some (kept false), Exposed ERROR)))

    pub fold_stored : fold_of MOST_ROWS path_stored ≡ table_stored
    fold_stored = table_after MOST_ROWS front_stored 1 c 2 (expose k) (expose_reads k) ∙ (λ i. (apply2 i).0)

    reply1 : reply_of MOST_ROWS front_stored (length front_stored) ≡ Some (Applied (BackedUp OK))
    reply1 = reply_after MOST_ROWS p 1 c 1 (backup k) (backup_reads k) ∙ (λ i. Some ((apply1 i).1))

    reply2 : reply_of MOST_ROWS path_stored (length path_stored) ≡ Some (Applied (Exposed OK))
    reply2 = reply_after MOST_ROWS front_stored 1 c 2 (expose k) (expose_reads k) ∙ (λ i. Some ((apply2 i).1))

    -- its events are played
    module _ (pl : Playing Message Enclaves) (rest : List Event) (Q : Playing Message Enclaves → Type 0) {events messages : ℕ} (calm_at : Calm pl.group p events messages answers cores)
        (few_events : events + 100 ≤ 1000000) (few_messages : messages + 120 ≤ 200000) (few_answers : length answers + 2 ≤ 1000000) (few_cores : length cores + 4 ≤ 20000) (low : length p + 2 < TOP)
        (none : core_of cores c ≡ None) (a : ℕ) (newest : a ≡ length answers + 1)
        (next : (t : Playing Message Enclaves) → Calm t.group path_stored (events + 53) (messages + 48) answers_stored cores_stored → Plays link t rest Q) where
      abbrev exposes : List Event
      exposes = event.Say c 1 ∷ event.Settle 24 ∷ event.Hear c (a + 1) ∷ rest

      wanted_is : wanted (unwrap_or (core_of cores c) new_core) w ≡ Ok (asking w 1 false)
      wanted_is = (λ i. wanted (unwrap_or (none i) new_core) w) ∙ (λ i. want_sizes new_core w (backup_sized k i))

      exposes_play : (t : Playing Message Enclaves) → Calm t.group front_stored (events + 1 + 26) (messages + 24) answers1 cores2 → Plays link t exposes Q
      exposes_play t at =
          exchange_plays link front_stored plain1 t rest Q at (omega (arith, few_events)) (omega (arith, few_messages)) (omega (arith, few_answers, count1))
          (omega (arith, few_cores, put_length cores c (asking w 1 false), put_length cores1 c (asking w 2 true)))
          c (asking w 2 true) ready 2 (expose k) (Applied (Exposed OK)) (Some report.Stored) (a + 1) (core_put cores1 c (asking w 2 true)) refl (expose_reads k) (omega (arith, low, long1)) reply2 refl
          (omega (arith, newest, count1)) (λ u at'. next u (restated at' refl refl (omega arith) (omega arith) refl))

      pub store_plays : Plays link pl (event.Want c w ∷ event.Say c 1 ∷ event.Settle 24 ∷ event.Hear c a ∷ exposes) Q
      store_plays = (
        tt,
        want_goes link pl (λ t. Plays link t (event.Say c 1 ∷ event.Settle 24 ∷ event.Hear c a ∷ exposes) Q) calm_at (omega (arith, few_events)) c w (asking w 1 false) wanted_is
            (omega (arith, few_messages), omega (arith, few_answers), omega (arith, few_cores, put_length cores c (asking w 1 false)))
            (λ t at.
            exchange_plays link p no_members t exposes Q at (omega (arith, few_events)) (omega (arith, few_messages)) (omega (arith, few_answers)) (omega (arith, few_cores, put_length cores c (asking w 1 false)))
            c (asking w 1 false) (asking w 2 true) 1 (backup k) (Applied (BackedUp OK)) None a (core_put cores c (asking w 1 false)) refl (backup_reads k) (omega (arith, low)) reply1 refl newest exposes_play),
      )

-- ---- a client that has stored wants something else
module _ (link : Link) (p : Path) (no_members : IsPlain p) (answers : List Answered) (cores : List (ClientId × Core)) (c : ClientId) (w : Want) where
  abbrev pub last_wished : LogEntry
  last_wished = ask link p no_members c 3 (first_request w)

  abbrev path_wished : Path
  path_wished = p ++ last_wished ∷ []

  pub plain_wished : IsPlain path_wished
  plain_wished = ask_plain link p no_members c 3 (first_request w)

  pub long_wished : length path_wished ≡ length p + 1
  long_wished = ask_long link p no_members c 3 (first_request w)

  abbrev reply : Reply
  reply = (apply (fold_of MOST_ROWS p) c 3 (first_request w)).1

  abbrev hearing : Core × Option Report
  hearing = heard (asking w 3 false) 3 (Outcome (length path_wished) reply)

  abbrev cores3 : List (ClientId × Core)
  cores3 = put_core cores c (asking w 3 false)

  abbrev pub cores_wished : List (ClientId × Core)
  cores_wished = put_core cores3 c hearing.0

  pub few_cores_wished : length cores_wished ≤ length cores + 2
  few_cores_wished = omega (arith, put_length cores c (asking w 3 false), put_length cores3 c hearing.0)

  pub still_core : (d : ClientId) → is_client c d ≡ false → core_of cores_wished d ≡ core_of cores d
  still_core d apart = core_stays cores3 c d hearing.0 apart ∙ core_stays cores c d (asking w 3 false) apart

  abbrev pub answers_wished : List Answered
  answers_wished = answers ++ outcome c 3 (length path_wished) reply ∷ []

  pub count_wished : length answers_wished ≡ length answers + 1
  count_wished = length-append answers (outcome c 3 (length path_wished) reply ∷ [])

  module _ (wish : IsWish w) (is_ready : core_of cores c ≡ Some ready) (pl : Playing Message Enclaves) (rest : List Event) (Q : Playing Message Enclaves → Type 0)
      {events messages : ℕ} (calm_at : Calm pl.group p events messages answers cores)
      (few_events : events + 100 ≤ 1000000) (few_messages : messages + 120 ≤ 200000) (few_answers : length answers + 2 ≤ 1000000) (few_cores : length cores + 4 ≤ 20000) (low : length p + 2 < TOP)
      (a : ℕ) (newest : a ≡ length answers + 1)
      (next : (t : Playing Message Enclaves) → Calm t.group path_wished (events + 27) (messages + 24) answers_wished cores_wished → Plays link t rest Q) where
    wish_is : wanted (unwrap_or (core_of cores c) new_core) w ≡ Ok (asking w 3 false)
    wish_is =
        (λ i. wanted (unwrap_or (is_ready i) new_core) w)
        ∙ (λ i. want_sizes ready w (wish.sized i))
        ∙ (λ i. cond (nat_lt (max_u64 - 2) (wish.needed i)) (Err (fault.NumbersOut 2)) (Ok (flies ready w false)))

    pub wish_plays : Plays link pl (event.Want c w ∷ event.Say c 1 ∷ event.Settle 24 ∷ event.Hear c a ∷ rest) Q
    wish_plays = (
      tt,
      want_goes link pl (λ t. Plays link t (event.Say c 1 ∷ event.Settle 24 ∷ event.Hear c a ∷ rest) Q) calm_at (omega (arith, few_events)) c w (asking w 3 false) wish_is
          (omega (arith, few_messages), omega (arith, few_answers), omega (arith, few_cores, put_length cores c (asking w 3 false)))
          (λ t at.
          exchange_plays link p no_members t rest Q at (omega (arith, few_events)) (omega (arith, few_messages)) (omega (arith, few_answers)) (omega (arith, few_cores, put_length cores c (asking w 3 false)))
          c (asking w 3 false) hearing.0 3 (first_request w) reply hearing.1 a (core_put cores c (asking w 3 false)) refl wish.reads (omega (arith, low)) (reply_after MOST_ROWS p 1 c 3 (first_request w) wish.reads) refl newest
          (λ u at'. next u (restated at' refl refl (omega arith) refl refl))),
    )
