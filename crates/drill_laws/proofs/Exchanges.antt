-- A client says its request where all five agree, and hears the answer.
use Rattle.std.proofs.Common.{◌≡◌, ℕ, suc, ◌+◌, ◌-◌, ◌≤◌, ◌<◌, Bool, true, false, Option, Some, Ok, List, [], ◌∷◌, ◌++◌, length, map, refl, ap, sym, subst, ◌∙◌, arith}
use Rattle.std.specs.Prelude.{cond, option_map, IsSomeAnd}
use Rattle.std.specs.List.{cons_option}
use Rattle.std.proofs.lemmas.List.{append-nil, length-append}
use Rattle.values.specs.declared.event.Event.{Event}
use Rattle.values.specs.declared.event.Event.TheVariants as event
use Rattle.values.specs.declared.ids.ClientId.{ClientId}
use Rattle.values.specs.declared.limits.TheConstants.{MOST_ROWS, TOP}
use Rattle.values.specs.declared.message.Answer.TheVariants.{Outcome}
use Rattle.values.specs.declared.message.Reply.{Reply}
use Rattle.values.specs.declared.message.Request.{Request}
use Rattle.values.specs.declared.want.Report.{Report}
use Rattle.client_msgs.specs.Canonical.{canonical_request}
use Rattle.client_msgs.specs.Reading.{request_of}
use Rattle.replica_model.specs.declared.TheConstants.{KEPT_BELOW}
use Rattle.replica_model.specs.Path.{Path, Link}
use Rattle.replica_model.specs.Folds.{reply_of}
use Rattle.replica_model.specs.Replica.{Replica}
use Rattle.replica_model.specs.Message.{Message}
use Rattle.schedule_model.specs.Client.{Core, said, heard}
use Rattle.group_model.specs.Enclave.{Enclave, Client, started, Begin}
use Rattle.group_model.specs.Group.{Answered, answered_by, numbered, is_client, core_of, put_core}
use Rattle.group_model.specs.Happens as happening
use Rattle.group_model.specs.Run.{Enclaves, World, enclaves}
use Rattle.trace_model.specs.Trace.{Playing}
use Rattle.drill_laws.proofs.Numbers.{same_bytes}
use Rattle.drill_laws.proofs.Setting.{five, all, leading, leader, follower}
use Rattle.drill_laws.proofs.Leads.{IsPlain}
use Rattle.drill_laws.proofs.Asking.{ask, ask_plain, asked_for, calm, asks}
use Rattle.drill_laws.proofs.Queue.{at_first}
use Rattle.drill_laws.proofs.Worlds.{At, Room, restated, noted}
use Rattle.drill_laws.proofs.Events.{call_goes, hear_goes}
use Rattle.drill_laws.proofs.Rounds.{begins, settles, entry_fits, entry_ends}
use Rattle.drill_laws.proofs.Simulated.{simulated}
use Rattle.drill_laws.proofs.Plays.{Plays}

pub put_length : (cores : List (ClientId × Core)) (c : ClientId) (core : Core) → length (put_core cores c core) ≤ length cores + 1
put_length [] c core = omega arith
put_length (x ∷ cores) c core = by_head (is_client x.0 c) (put_length cores c core)
  where
    by_head : (b : Bool) → length (put_core cores c core) ≤ length cores + 1 → length (cond b ((c, core) ∷ cores) (x ∷ put_core cores c core)) ≤ length (x ∷ cores) + 1
    by_head true le = omega arith
    by_head false le = omega (arith, le)

-- the enclaves of five that agree on a path
abbrev pub enclave_of : ℕ → Replica → Enclave
enclave_of v s = record (started (Begin v 1 MOST_ROWS five)) { replica = s }

abbrev pub agreed : Path → List (ℕ × Enclave)
agreed p =
    (1, enclave_of 1 (leader p (length p - KEPT_BELOW) (length p) (length p) [] (leading (all (length p + 1)) (all (length p)) (all (length p)))))
    ∷ (2, enclave_of 2 (follower 2 1 p (length p) (length p)))
    ∷ (3, enclave_of 3 (follower 3 1 p (length p) (length p)))
    ∷ (4, enclave_of 4 (follower 4 1 p (length p) (length p)))
    ∷ (5, enclave_of 5 (follower 5 1 p (length p) (length p)))
    ∷ []

-- nothing waits, and all agree
abbrev pub Calm : World → Path → ℕ → ℕ → List Answered → List (ClientId × Core) → Type 0
Calm w p events messages answers cores = At w [] (agreed p) events messages answers cores

-- the answer by which an outcome is heard
abbrev pub outcome : ClientId → ℕ → ℕ → Reply → Answered
outcome c number index reply = record { replica = 1; client = c; number = number; answer = Outcome index reply }

module _ (link : Link) (p : Path) (no_members : IsPlain p) (pl : Playing Message Enclaves) (rest : List Event) (Q : Playing Message Enclaves → Type 0)
    {events messages : ℕ} {answers : List Answered} {cores : List (ClientId × Core)} (calm_at : Calm pl.group p events messages answers cores)
    (few_events : events + 40 ≤ 1000000) (few_messages : messages + 60 ≤ 200000) (few_answers : length answers + 1 ≤ 1000000) (few_cores : length cores + 1 ≤ 20000) where
  module _ (c : ClientId) (core after : Core) (number : ℕ) (request : Request) (reply : Reply) (report : Option Report) (a : ℕ)
      (core_is : core_of cores c ≡ Some core) (said_is : said core ≡ Some (number, canonical_request request)) (reads : request_of (canonical_request request) ≡ Ok request)
      (low : length p < TOP) where
    abbrev q : Path
    q = p ++ ask link p no_members c number request ∷ []

    abbrev x : Answered
    x = outcome c number (length q) reply

    module _ (reply_is : reply_of MOST_ROWS q (length q) ≡ Some reply) (heard_is : heard core number (Outcome (length q) reply) ≡ (after, report)) (newest : a ≡ length answers + 1)
        (next : (t : Playing Message Enclaves) → Calm t.group q (events + 26) (messages + 24) (answers ++ x ∷ []) (put_core cores c after) → Plays link t rest Q) where
      hears : (t : Playing Message Enclaves) → Calm t.group q (events + 25) (messages + 24) (answers ++ x ∷ []) cores → Plays link t (event.Hear c a ∷ rest) Q
      hears t at = (
        (
          newest ∙ omega (arith, length-append answers (x ∷ []), ap (λ (xs : List Answered). length xs) at.answers_are),
          subst (λ (y : Option Answered). IsSomeAnd y (λ (z : Answered). z.client ≡ c)) (sym ((λ i. numbered (at.answers_are i) (more i)) ∙ at_first answers x [])) refl,
        ),
        hear_goes link t (λ u. Plays link u rest Q) at (omega (arith, few_events)) c a x core after report
            ((λ i. numbered (answers ++ x ∷ []) (more i)) ∙ at_first answers x []) (same_bytes c.0) core_is heard_is
            (omega (arith, few_messages), omega (arith, few_answers, length-append answers (x ∷ [])), omega (arith, few_cores, put_length cores c after))
            (λ u at'. next u (restated at' refl refl (omega arith) refl refl)),
      )
        where
          more : a ≡ suc (length answers)
          more = newest ∙ omega arith

      news_is : map (answered_by 1) (cons_option (option_map (λ (r : Reply). (c, number, Outcome (length q) r)) (reply_of MOST_ROWS q (length q))) []) ≡ x ∷ []
      news_is = λ i. map (answered_by 1) (cons_option (option_map (λ (r : Reply). (c, number, Outcome (length q) r)) (reply_is i)) [])

      few_news : Room (messages + 4 + 44) (answers ++ map (answered_by 1) (cons_option (option_map (λ (r : Reply). (c, number, Outcome (length q) r)) (reply_of MOST_ROWS q (length q))) [])) cores
      few_news = (omega (arith, few_messages), subst (λ (xs : List Answered). length (answers ++ xs) ≤ 1000000) (sym news_is) (omega (arith, few_answers, length-append answers (x ∷ []))), omega (arith, few_cores))

      few_steps : events + 1 + 32 ≤ 1000000
      few_steps = omega (arith, few_events)

      pub exchange_plays : Plays link pl (event.Say c 1 ∷ event.Settle 24 ∷ event.Hear c a ∷ rest) Q
      exchange_plays = (
        tt,
        call_goes link pl (λ u. Plays link u (event.Settle 24 ∷ event.Hear c a ∷ rest) Q) calm_at (omega (arith, few_events)) (event.Say c 1) refl 1 refl (Client c number (canonical_request request))
            ((λ i. happening.says (enclaves link) c 1 (happening.said_if_any (enclaves link) (core_of (calm_at.cores_are i) c)) (noted link pl (event.Say c 1)))
            ∙ (λ i. happening.says (enclaves link) c 1 (happening.said_if_any (enclaves link) (core_is i)) (noted link pl (event.Say c 1)))
            ∙ (λ i. happening.says (enclaves link) c 1 (said_is i) (noted link pl (event.Say c 1))))
            (enclave_of 1 (calm link p no_members c number request)) refl tt (asks link p no_members c number request (canonical_request request) reads low) refl
            (omega (arith, few_messages), omega (arith, few_answers, ap (λ (xs : List Answered). length xs) (append-nil answers)), omega (arith, few_cores))
            (λ t at. (
              tt,
              simulated link 1 p (ask link p no_members c number request) refl (ask_plain link p no_members c number request) (asked_for link p no_members c number request) (events + 1) (messages + 4) answers cores few_steps few_news
                  (λ u. Plays link u (event.Hear c a ∷ rest) Q) 24 begins (settles 24 20) entry_fits entry_ends t (restated at refl refl (omega arith) (omega arith) refl)
                  (λ u at'. hears u (restated at' refl refl (omega arith) (omega arith) (λ i. answers ++ news_is i))),
            )),
      )
