-- What a run keeps of its outcomes holds of its one log.
use Rattle.std.proofs.Common.{◌≡◌, ℕ, zero, suc, take, Option, Some, None, Result, Ok, Err, List, [], ◌∷◌, map, refl, sym, ap, subst, ◌∙◌}
use Rattle.std.specs.Prelude.{filter_map, option_map, IsSomeAnd}
use Rattle.std.specs.List.{AllByRecursion, cons_option}
use Rattle.std.proofs.lemmas.Option.{none-some}
use Rattle.values.specs.declared.entry.Hash.{Hash}
use Rattle.values.specs.declared.event.Event.{Event}
use Rattle.values.specs.declared.ids.ClientId.{ClientId}
use Rattle.values.specs.declared.message.Answer.{Answer}
use Rattle.values.specs.declared.message.Answer.TheVariants.{Outcome as Outcomes}
use Rattle.values.specs.declared.message.Reply.{Reply}
use Rattle.values.specs.declared.message.Reply.TheVariants.{Applied}
use Rattle.values.specs.declared.message.Request.{Request}
use Rattle.values.specs.declared.message.Request.TheVariants.{Restore}
use Rattle.values.specs.declared.message.Response.TheVariants.{Restore as Restored}
use Rattle.client_msgs.specs.Canonical.{canonical_request}
use Rattle.client_msgs.specs.Reading.{request_of}
use Rattle.client_msgs.specs.declared.fault.RequestFault.{RequestFault}
use Rattle.record_rules.specs.declared.status.TheConstants.{OK}
use Rattle.record_rules.specs.Rules.{apply}
use Rattle.record_rules.specs.Places.{ClientAsk, Places, fold_places, ask_at, reply_at}
use Rattle.record_rules.specs.Laws.{AreValid, NumbersRise, GuessesEnd, DataIsEarned, Earned}
use Rattle.replica_model.specs.Path.{Link}
use Rattle.replica_model.specs.Folds.{ask_of}
use Rattle.group_model.specs.Run.{Recorded, World, run}
use Rattle.group_model.specs.Log.{IsFrontOf, state_of, committed_path, log_of, Outcome, outcome_in, outcomes_in, WithinBound, NoCollision}
use Rattle.group_model.specs.Laws.{limit_of, log_places, IsAskAt, OutcomeHolds, DataHolds, OneLogLaws}
use Rattle.log_laws.specs.OneLog.{IsOneLog, RunsHaveOneLog}
use Rattle.log_laws.proofs.Ending.{all-append}
use Rattle.log_laws.proofs.History.{all_more}
use Rattle.outcome_laws.proofs.Places.{valid_places, entry_of_front, entry_fits, reply_of_front, ask_of_entry}
use Rattle.outcome_laws.proofs.Recorded.{OutcomeKept, AnswerKept}
use Rattle.outcome_laws.proofs.Moved.{OutcomesKept}
use Rattle.outcome_laws.proofs.Events.{FairWorld, run_fair}

no_reply : (limit : ℕ) (places : Places) (i : ℕ) → ask_at places i ≡ None → reply_at limit places i ≡ None
no_reply limit places zero is = refl
no_reply limit places (suc k) is = ap (option_map (λ (ask : ClientAsk). (apply (fold_places limit (take k places)) ask.client ask.number ask.request).1)) is

-- what holds of every list of asks
pub record TableLaws : Type 0 where
  pub numbers : (limit : ℕ) (places : Places) → NumbersRise limit places
  pub guesses : (limit : ℕ) (places : Places) → AreValid places → GuessesEnd limit places
  pub earned : (limit : ℕ) (places : Places) → AreValid places → DataIsEarned limit places

module _ (laws : TableLaws) (w : World) where
  -- ---- outcomes
  module _ (r : Recorded) (calls : List Recorded) (pre : IsFrontOf (committed_path (state_of r)) (log_of w)) where
    outcome_holds : (client : ClientId) (number index : ℕ) (reply : Reply) (k : OutcomeKept (limit_of w) r calls client number index reply) → OutcomeHolds w (record { calls = calls; replica = r.replica; client = client; number = number; request = Some k.request; index = index; reply = reply })
    outcome_holds client number index reply k = record {
      asked = (k.term, entry_of_front (committed_path (state_of r)) (log_of w) index _ pre k.asked);
      replied = sym (reply_of_front (limit_of w) (committed_path (state_of r)) (log_of w) index pre (entry_fits (committed_path (state_of r)) index _ k.asked)) ∙ k.replied;
      handed = k.handed;
    }

    one_answer : (a : ClientId × ℕ × Answer) (rest : List Outcome) → AnswerKept (limit_of w) r calls a → AllByRecursion (OutcomeHolds w) rest → AllByRecursion (OutcomeHolds w) (cons_option (outcome_in r calls a) rest)
    one_answer (client, number, Outcomes index reply) rest k fine =
        (subst (λ o. OutcomeHolds w (record { calls = calls; replica = r.replica; client = client; number = number; request = o; index = index; reply = reply })) (sym k.request_is) (outcome_holds client number index reply k), fine)
    one_answer (client, number, other) rest k fine = fine

    each_answer : (answers : List (ClientId × ℕ × Answer)) → AllByRecursion (AnswerKept (limit_of w) r calls) answers → AllByRecursion (OutcomeHolds w) (filter_map (outcome_in r calls) answers)
    each_answer [] k = tt
    each_answer (a ∷ answers) k = one_answer a (filter_map (outcome_in r calls) answers) k.0 (each_answer answers k.1)

  outcomes_hold : (history : List Recorded) → AllByRecursion (λ p. IsFrontOf p (log_of w)) (map (λ r. committed_path (state_of r)) history) → OutcomesKept (limit_of w) history → AllByRecursion (OutcomeHolds w) (outcomes_in history)
  outcomes_hold [] fronts k = tt
  outcomes_hold (r ∷ history) fronts k =
      all-append (OutcomeHolds w) (filter_map (outcome_in r (r ∷ history)) r.call.batch.answers) (outcomes_in history)
      (each_answer r (r ∷ history) fronts.0 r.call.batch.answers k.0)
      (outcomes_hold history fronts.1 k.1)

  -- ---- data
  module _ (o : Outcome) (replied : reply_at (limit_of w) (log_places w) o.index ≡ Some o.reply) (secret : List ℕ) (left : ℕ) (is : o.reply ≡ Applied (Restored OK secret left)) where
    abbrev IsEarned : Type 0
    IsEarned =
        (pin : Hash) × (ask_at (log_places w) o.index ≡ Some (record { client = o.client; number = o.number; request = Restore pin }))
        × Earned (limit_of w) (log_places w) o.client o.index secret pin left

    read_earned : (read : Result Request RequestFault) → ask_at (log_places w) o.index ≡ ask_of o.client o.number read → IsEarned
    read_earned (Err fault) none = absurd (none-some o.reply (sym (no_reply (limit_of w) (log_places w) o.index none) ∙ replied))
    read_earned (Ok request) some =
        let d = laws.earned (limit_of w) (log_places w) (valid_places (log_of w)) o.index (record { client = o.client; number = o.number; request = request }) secret left some (replied ∙ ap Some is) in
        (d.0, some ∙ ap (λ (q : Request). Some (record { client = o.client; number = o.number; request = q })) d.1, d.2)

    asked_earned : (request : Option Request) → IsSomeAnd request (λ request. IsAskAt w o request) → IsEarned
    asked_earned None never = absurd never
    asked_earned (Some request) at = read_earned (request_of (canonical_request request)) (ask_of_entry (log_of w) o.index _ at.1)

  data_holds : (o : Outcome) → OutcomeHolds w o → DataHolds w o
  data_holds o h secret left is = asked_earned o h.replied secret left is o.request h.asked

  pub laws_hold : IsOneLog w → FairWorld w → OneLogLaws w
  laws_hold one k =
      let outcomes = outcomes_hold w.field.history one k.outcomes in
      record {
        one_log = one;
        outcomes = outcomes;
        numbers = laws.numbers (limit_of w) (log_places w);
        guesses = laws.guesses (limit_of w) (log_places w) (valid_places (log_of w));
        data_earned = all_more (OutcomeHolds w) (DataHolds w) data_holds (outcomes_in w.field.history) outcomes;
      }

pub one_log_laws_of : RunsHaveOneLog → TableLaws → (link : Link) (events : List Event) → WithinBound (run link events) → NoCollision link (run link events) → OneLogLaws (run link events)
one_log_laws_of one_log laws link events bound none = laws_hold laws (run link events) (one_log link events bound none) (run_fair link events)
