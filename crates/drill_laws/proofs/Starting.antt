-- The drill begins: the first replica is elected, and its first entry is committed; and its timer runs out now and then.
use Rattle.std.proofs.Common.{◌≡◌, ℕ, ◌+◌, ◌≤◌, true, None, List, [], ◌∷◌, ◌++◌, length, take, refl, sym, subst, arith}
use Rattle.std.proofs.lemmas.List.{append-nil}
use Rattle.values.specs.declared.entry.Body.TheVariants.{Noop}
use Rattle.values.specs.declared.entry.LogEntry.{LogEntry}
use Rattle.values.specs.declared.event.Event.{Event}
use Rattle.values.specs.declared.event.Event.TheVariants as event
use Rattle.values.specs.declared.ids.ClientId.{ClientId}
use Rattle.values.specs.declared.limits.TheConstants.{MOST_ROWS}
use Rattle.schedule_model.specs.Client.{Core}
use Rattle.schedule_model.specs.Written.{last_of}
use Rattle.replica_model.specs.Path.{Path, Link}
use Rattle.replica_model.specs.Message.{Message}
use Rattle.group_model.specs.Enclave.{Tick}
use Rattle.group_model.specs.Group.{Answered}
use Rattle.group_model.specs.Run.{Enclaves, enclaves, empty_world}
use Rattle.trace_model.specs.Trace.{Playing, playing, expanded, settled}
use Rattle.drill_laws.proofs.Setting.{five, conf_of_five}
use Rattle.drill_laws.proofs.Leads.{IsPlain, led_all, leads}
use Rattle.drill_laws.proofs.Asking.{round_of, ticks}
use Rattle.drill_laws.proofs.Worlds.{Goes, Room, restated}
use Rattle.drill_laws.proofs.Events.{call_goes}
use Rattle.drill_laws.proofs.Rounds.{begins, ticked, settles, entry_fits, entry_ends, tick_fits, tick_ends}
use Rattle.drill_laws.proofs.Simulated.{simulated, Stands}
use Rattle.drill_laws.proofs.Plays.{Plays, goes_last, settled_on}
use Rattle.drill_laws.proofs.Exchanges.{enclave_of, Calm}

abbrev pub noop : LogEntry
noop = record { term = 1; body = Noop }

pub noop_plain : IsPlain (noop ∷ [])
noop_plain = record { conf = refl; index = refl }

module _ (link : Link) where
  abbrev first : Playing Message Enclaves
  first = last_of (expanded (enclaves link) (playing empty_world) (event.Begin 1 MOST_ROWS five))

  abbrev second : Playing Message Enclaves
  second = last_of (expanded (enclaves link) first (event.Tick 1))

  abbrev elected : Playing Message Enclaves
  elected = last_of (settled (enclaves link) 8 second)

  few_steps : 10 + 32 ≤ 1000000
  few_steps = omega arith

  few_sent : Room (12 + 44) [] []
  few_sent = (omega arith, omega arith, omega arith)

  elected_stands : Stands link 0 [] noop refl noop_plain None 10 12 [] [] few_steps few_sent elected.group begins
  elected_stands =
      record {
        runs = record {
          setup = record { limit = MOST_ROWS; first = conf_of_five };
          begun = refl;
          five_run = refl;
          none_lost = refl;
          none_saved = refl;
          run_is = refl;
          no_halt = refl;
          all_hold = (tt, (tt, (tt, (tt, (tt, (tt, (tt, (tt, (tt, (tt, (tt, (tt, (tt, (tt, tt))))))))))))));
          none_rolled = refl;
        };
        mail = record { done = take 8 elected.group.messages; all = refl; numbers = refl };
        past_is = refl;
        sent_is = refl;
        answers_are = refl;
        cores_are = refl;
      }

  pub begin_plays : (rest : List Event) (Q : Playing Message Enclaves → Type 0) → ((t : Playing Message Enclaves) → Calm t.group (noop ∷ []) 34 32 [] [] → Plays link t rest Q)
      → Plays link (playing empty_world) (event.Begin 1 MOST_ROWS five ∷ event.Tick 1 ∷ event.Settle 32 ∷ rest) Q
  begin_plays rest Q next = (
    tt,
    goes_last (λ t. Plays link t (event.Tick 1 ∷ event.Settle 32 ∷ rest) Q) (expanded (enclaves link) (playing empty_world) (event.Begin 1 MOST_ROWS five)) refl (
      tt,
      goes_last (λ t. Plays link t (event.Settle 32 ∷ rest) Q) (expanded (enclaves link) first (event.Tick 1)) refl (
        tt,
        settled_on link 8 24 second (λ t. Plays link t rest Q)
            (goes_last (λ t. Goes (settled (enclaves link) 24 t) (λ u. Plays link u rest Q)) (settled (enclaves link) 8 second) refl
            (simulated link 0 [] noop refl noop_plain None 10 12 [] [] few_steps few_sent (λ t. Plays link t rest Q) 24 begins (settles 24 20) entry_fits entry_ends elected elected_stands next)),
      ),
    ),
  )

-- the leader's timer runs out where all agree
module _ (link : Link) (p : Path) (e : LogEntry) (own : e.term ≡ 1) (no_members : IsPlain (p ++ e ∷ [])) (events messages : ℕ) (answers : List Answered) (cores : List (ClientId × Core))
    (few_events : events + 40 ≤ 1000000) (few_messages : messages + 60 ≤ 200000) (few_answers : length answers ≤ 1000000) (few_cores : length cores ≤ 20000)
    (pl : Playing Message Enclaves) (rest : List Event) (Q : Playing Message Enclaves → Type 0) (calm_at : Calm pl.group (p ++ e ∷ []) events messages answers cores)
    (next : (t : Playing Message Enclaves) → Calm t.group (p ++ e ∷ []) (events + 9) (messages + 8) answers cores → Plays link t rest Q) where
  abbrev q : Path
  q = p ++ e ∷ []

  few_after : events + 1 + 32 ≤ 1000000
  few_after = omega (arith, few_events)

  room_after : Room (messages + 4 + 44) (answers ++ []) cores
  room_after = (omega (arith, few_messages), subst (λ (xs : List Answered). length xs ≤ 1000000) (sym (append-nil answers)) few_answers, few_cores)

  pub tick_plays : Plays link pl (event.Tick 1 ∷ event.Settle 8 ∷ rest) Q
  tick_plays = (
    tt,
    call_goes link pl (λ u. Plays link u (event.Settle 8 ∷ rest) Q) calm_at (omega (arith, few_events)) (event.Tick 1) refl 1 refl Tick refl
        (enclave_of 1 (leads link (round_of p e own no_members None) (led_all true))) refl tt
        (ticks link (round_of p e own no_members None)) refl
        (omega (arith, few_messages), subst (λ (xs : List Answered). length xs ≤ 1000000) (sym (append-nil answers)) few_answers, few_cores)
        (λ t at. (
          tt,
          simulated link 1 p e own no_members None (events + 1) (messages + 4) answers cores few_after room_after (λ u. Plays link u rest Q) 8 ticked (settles 8 4) tick_fits tick_ends t
              (restated at refl refl (omega arith) (omega arith) refl) (λ u at'. next u (restated at' refl refl (omega arith) (omega arith) (append-nil answers))),
        )),
  )
