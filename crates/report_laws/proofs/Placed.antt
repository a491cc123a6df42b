-- The place of the log at which the request in flight was answered.
use Rattle.std.proofs.Common.{◌≡◌, ℕ, inl, inr, Option, Some, None, Result, Ok, List, [], ◌∷◌, sym, ap, subst, ◌∙◌}
use Rattle.std.specs.Prelude.{IsSomeAnd}
use Rattle.std.specs.List.{AllByRecursion}
use Rattle.std.proofs.lemmas.Bool.{cond_both}
use Rattle.values.specs.Sizes.{IsValid}
use Rattle.values.specs.declared.entry.Hash.{Hash}
use Rattle.values.specs.declared.ids.ClientId.{ClientId}
use Rattle.values.specs.declared.message.Reply.{Reply}
use Rattle.values.specs.declared.message.Reply.TheVariants.{Applied}
use Rattle.values.specs.declared.message.Request.{Request}
use Rattle.values.specs.declared.message.Request.TheVariants.{Backup, Restore, Expose}
use Rattle.values.specs.declared.message.Response.TheVariants.{Restore as Restored}
use Rattle.values.specs.declared.want.Want.{Want}
use Rattle.values.specs.declared.want.Want.TheVariants as want
use Rattle.client_msgs.specs.Canonical.{canonical_request}
use Rattle.client_msgs.specs.Reading.{request_of}
use Rattle.client_msgs.specs.Sizes.{size_fault, FitsRequest}
use Rattle.client_msgs.specs.declared.fault.RequestFault.{RequestFault}
use Rattle.client_msgs.proofs.SizesLemmas.{size_fault-valid}
use Rattle.record_rules.specs.declared.status.TheConstants.{OK}
use Rattle.record_rules.specs.Places.{ask_at, reply_at}
use Rattle.record_rules.specs.Laws.{Earned}
use Rattle.schedule_model.specs.Client.{Flight, first_request, second_request, flight_request}
use Rattle.replica_model.specs.Folds.{ask_of}
use Rattle.group_model.specs.Run.{Recorded, World}
use Rattle.group_model.specs.Log.{AnyByRecursion, log_of, Outcome}
use Rattle.group_model.specs.Laws.{limit_of, log_places, Handed, IsAskAt, OutcomeHolds, DataHolds}
use Rattle.outcome_laws.proofs.Places.{ask_of_entry}
use Rattle.report_laws.proofs.Kept.{CallSaid, CallsSaid, InputSaid, IsOutcome}

-- the canonical bytes of a valid request are read as that request
abbrev pub ReadAgain : Type 0
ReadAgain = (request : Request) → IsValid request → FitsRequest request → request_of (canonical_request request) ≡ Ok request

-- ---- what is said is read
module _ (again : ReadAgain) where
  abbrev Reads : Request → Type 0
  Reads request = request_of (canonical_request request) ≡ Ok request

  first_reads : (w : Want) → size_fault (first_request w) ≡ None → Reads (first_request w)
  first_reads w is = let sized = size_fault-valid (first_request w) is in again (first_request w) sized.0 sized.1

  second_reads : (w : Want) → size_fault (first_request w) ≡ None → Reads (second_request w)
  second_reads (want.Store secret pin tries) is = again (Expose secret) (size_fault-valid (Backup secret pin tries) is).0.0 tt
  second_reads (want.Recover pin) is = first_reads (want.Recover pin) is
  second_reads want.Erase is = first_reads want.Erase is

  flight_reads : (f : Flight) → size_fault (first_request f.want) ≡ None → Reads (flight_request f)
  flight_reads f is = cond_both f.exposes (second_request f.want) (first_request f.want) Reads (λ b. second_reads f.want is) (λ b. first_reads f.want is)

  -- ---- what was handed for the client under the number in flight is the request in flight
  same_read : (a b : Request) → ◌≡◌ {A = Result Request RequestFault} (Ok a) (Ok b) → a ≡ b
  same_read a b is = cc

  module _ (c : ClientId) (last : ℕ) (f : Flight) (sized : size_fault (first_request f.want) ≡ None) where
    said_request : (v : ℕ) (client : ClientId) (number : ℕ) (request : Request) (r : Recorded) → client ≡ c → number ≡ f.number → Handed v client number request r → CallSaid c last (Some f) r → request ≡ flight_request f
    said_request v client number request r mine its handed said =
        let input = subst (InputSaid c last (Some f)) handed.1.1 said in
        let bytes_are = (input mine).1 its in
        same_read request (flight_request f) (sym handed.1.2 ∙ ap request_of bytes_are ∙ flight_reads f sized)

    said_in : (v : ℕ) (client : ClientId) (number : ℕ) (request : Request) (calls : List Recorded) → client ≡ c → number ≡ f.number → AnyByRecursion (Handed v client number request) calls → AllByRecursion (CallSaid c last (Some f)) calls → request ≡ flight_request f
    said_in v client number request [] mine its handed said = absurd handed
    said_in v client number request (r ∷ calls) mine its (inl handed) said = said_request v client number request r mine its handed said.0
    said_in v client number request (r ∷ calls) mine its (inr handed) said = said_in v client number request calls mine its handed said.1

    module _ (w : World) where
      -- at this index stands this request, with this reply, and a secret in it was earned
      pub record Placed (client : ClientId) (number index : ℕ) (reply : Reply) : Type 0 where
        pub asked : ask_at (log_places w) index ≡ Some (record { client = client; number = number; request = flight_request f })
        pub replied : reply_at (limit_of w) (log_places w) index ≡ Some reply
        pub earned :
            (secret : List ℕ) (left : ℕ) → reply ≡ Applied (Restored OK secret left)
            → (pin : Hash) × (ask_at (log_places w) index ≡ Some (record { client = client; number = number; request = Restore pin }))
            × Earned (limit_of w) (log_places w) client index secret pin left

      outcome_asks : (o : Outcome) (request : Option Request) → IsSomeAnd request (λ request. IsAskAt w o request) → IsSomeAnd request (λ request. AnyByRecursion (Handed o.replica o.client o.number request) o.calls)
          → o.client ≡ c → o.number ≡ f.number → CallsSaid c last (Some f) o
          → ask_at (log_places w) o.index ≡ Some (record { client = o.client; number = o.number; request = flight_request f })
      outcome_asks o None never handed mine its said = absurd never
      outcome_asks o (Some request) at handed mine its said =
          ask_of_entry (log_of w) o.index _ at.1
          ∙ ap (λ (r : Request). ask_of o.client o.number (request_of (canonical_request r))) (said_in o.replica o.client o.number request o.calls mine its handed said)
          ∙ ap (ask_of o.client o.number) (flight_reads f sized)

      pub placed : (index : ℕ) (reply : Reply) (os : List Outcome) → AllByRecursion (OutcomeHolds w) os → AllByRecursion (DataHolds w) os
          → AnyByRecursion (λ o. IsOutcome c f.number index reply o × CallsSaid c last (Some f) o) os → Placed c f.number index reply
      placed index reply [] holds data_holds h = absurd h
      placed index reply (o ∷ os) holds data_holds (inl h) =
          let is = h.0 in
          subst (λ x. Placed c f.number index x) is.3
          (subst (λ x. Placed c f.number x o.reply) is.2
          (subst (λ x. Placed c x o.index o.reply) is.1
          (subst (λ x. Placed x o.number o.index o.reply) is.0
          (record { asked = outcome_asks o o.request holds.0.asked holds.0.handed is.0 is.1 h.1; replied = holds.0.replied; earned = data_holds.0 }))))
      placed index reply (o ∷ os) holds data_holds (inr h) = placed index reply os holds.1 data_holds.1 h
