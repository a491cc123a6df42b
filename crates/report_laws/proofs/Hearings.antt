-- What a client's hearings say of the one log.
use Rattle.std.proofs.Common.{◌≡◌, ℕ, ◌+◌, ◌==◌, Bool, true, false, Option, Some, None, List, [], ◌∷◌, refl, sym, ap, subst, ◌∙◌}
use Rattle.std.specs.Prelude.{IsSomeAnd, if◌then◌else◌}
use Rattle.std.proofs.lemmas.Bool.{eqb-true}
use Rattle.std.proofs.lemmas.Option.{same_Some}
use Rattle.values.specs.declared.entry.Hash.{Hash}
use Rattle.values.specs.declared.event.Event.{Event}
use Rattle.values.specs.declared.ids.ClientId.{ClientId}
use Rattle.values.specs.declared.message.Answer.{Answer}
use Rattle.values.specs.declared.message.Answer.TheVariants as answer
use Rattle.values.specs.declared.message.Reply.{Reply}
use Rattle.values.specs.declared.message.Reply.TheVariants.{Applied}
use Rattle.values.specs.declared.message.Request.{Request}
use Rattle.values.specs.declared.message.Request.TheVariants.{Backup, Restore, Expose}
use Rattle.values.specs.declared.message.Response.TheVariants.{Backup as BackedUp, Expose as Exposed, Restore as Restored}
use Rattle.values.specs.declared.want.Report.{Report}
use Rattle.values.specs.declared.want.Report.TheVariants as report
use Rattle.values.specs.declared.want.Want.{Want}
use Rattle.values.specs.declared.want.Want.TheVariants as want
use Rattle.record_rules.specs.declared.status.TheConstants.{OK}
use Rattle.record_rules.specs.Places.{ClientAsk, ask_at, reply_at, IsApplied, Acts}
use Rattle.record_rules.specs.Laws.{Earned}
use Rattle.schedule_model.specs.Client.{Flight, first_request, second_request, flight_request, Meaning, Nothing, GoesOn, Reports, reply_meaning, answer_meaning, heard_as, hear_in, heard}
use Rattle.replica_model.specs.Path.{Link}
use Rattle.group_model.specs.Group.{Hearing}
use Rattle.group_model.specs.Run.{World, run}
use Rattle.group_model.specs.Log.{AnyByRecursion, outcomes_of}
use Rattle.group_model.specs.Laws.{limit_of, log_places, OneLogLaws}
use Rattle.group_model.specs.Reports.{IsOnlySaid, Heard, StoredFor, RecoveredFor, ReportHolds, HearingHolds, ReportsHold}
use Rattle.report_laws.proofs.Meanings.{IsStore, IsRecover, MeansSo, reply_means}
use Rattle.report_laws.proofs.Kept.{ListedAs, CallsSaid, FlightFits, FlightBegan, BackupHeard, HeardKept, HearingsKept, first_flight}
use Rattle.report_laws.proofs.Events.{run_follows}
use Rattle.report_laws.proofs.Placed.{ReadAgain, Placed, placed}
use Rattle.report_laws.proofs.Stores.{RowLaws, stored_at}

same_report : (a b : Report) → Reports a ≡ Reports b → a ≡ b
same_report a b e = cc

nothing : (r : Report) → Nothing ≡ Reports r → ⊥
nothing r e = cc

-- the pin of a restore
abbrev pin_in : Request → Hash → Hash
pin_in (Restore pin) other = pin
pin_in rest other = other

module _ (again : ReadAgain) (rows : RowLaws) (w : World) (laws : OneLogLaws w) (c : ClientId) where
  -- a hearing of the client, of an answer to what it had in flight
  module _ (hs : List Hearing) (h : Hearing) (last : ℕ) (f : Flight) (flight_is : h.flight ≡ Some f) (mine : h.client ≡ c) (number_is : h.answered.number ≡ f.number) (fits : FlightFits last (Some f)) (began : FlightBegan c (outcomes_of w) hs (Some f)) where
    place_of : (index : ℕ) (reply : Reply) → ListedAs (CallsSaid c last (Some f)) (outcomes_of w) c f.number (answer.Outcome index reply) → Placed again c last f fits.1 w c f.number index reply
    place_of index reply given = placed again c last f fits.1 w index reply (outcomes_of w) laws.outcomes laws.data_earned given

    acts_at : (index : ℕ) (reply : Reply) → reply_at (limit_of w) (log_places w) index ≡ Some reply → IsApplied reply → Acts (limit_of w) (log_places w) index
    acts_at index reply is applied = subst (λ o. IsSomeAnd o IsApplied) (sym is) applied

    module _ (index : ℕ) (reply : Reply) (heard_is : h.answered.answer ≡ answer.Outcome index reply) (place : Placed again c last f fits.1 w c f.number index reply) where
      stored_for : (wanted : Want) → f.want ≡ wanted → reply ≡ Applied (Exposed OK) → f.exposes ≡ true → IsStore wanted → StoredFor w c hs h f wanted
      stored_for (want.Store secret pin tries) is reply_is exposes store =
          let b : BackupHeard c (outcomes_of w) hs f.want f.number = began exposes in
          let first = placed again c b.number (first_flight f.want b.number) fits.1 w b.index (Applied (BackedUp OK)) (outcomes_of w) laws.outcomes laws.data_earned b.given in
          let backup : ask_at (log_places w) b.index ≡ Some (record { client = c; number = b.number; request = Backup secret pin tries }) =
          first.asked ∙ ap (λ (x : Want). Some (record { client = c; number = b.number; request = first_request x })) is in
          let expose : ask_at (log_places w) index ≡ Some (record { client = c; number = b.number + 1; request = Expose secret }) =
          place.asked
          ∙ ap (λ (x : Bool). Some (record { client = c; number = f.number; request = if x then second_request f.want else first_request f.want })) exposes
          ∙ ap (λ (x : Want). Some (record { client = c; number = f.number; request = second_request x })) is
          ∙ ap (λ (n : ℕ). Some (record { client = c; number = n; request = Expose secret })) b.next in
          let done = place.replied ∙ ap Some reply_is in
          let backup_acts = acts_at b.index (Applied (BackedUp OK)) first.replied tt in
          let at = stored_at rows (limit_of w) (log_places w) laws.numbers c b.number secret pin tries b.index index backup backup_acts expose done in
          record {
            number = b.number;
            next = b.next;
            backup = b.index;
            expose = index;
            in_order = at.in_order;
            heard_backup = subst (λ x. AnyByRecursion (Heard c (first_flight x b.number) b.index (Applied (BackedUp OK))) hs) is b.heard;
            heard_expose = (mine, flight_is, number_is, heard_is ∙ ap (answer.Outcome index) reply_is);
            asked_backup = backup;
            asked_expose = subst (λ n. ask_at (log_places w) index ≡ Some (record { client = c; number = n; request = Expose secret })) (sym b.next) expose;
            acts_backup = backup_acts;
            acts_expose = acts_at index (Applied (Exposed OK)) done tt;
            done = done;
            kept = at.kept;
          }
      stored_for (want.Recover pin) is reply_is exposes never = absurd never
      stored_for want.Erase is reply_is exposes never = absurd never

      recovered_for : (wanted : Want) → f.want ≡ wanted → (secret : List ℕ) (left : ℕ) → reply ≡ Applied (Restored OK secret left) → IsRecover wanted → RecoveredFor w c f wanted secret left h
      recovered_for (want.Store s p tries) is secret left reply_is never = absurd never
      recovered_for (want.Recover pin) is secret left reply_is recover =
          let e = place.earned secret left reply_is in
          let one = same_Some _ _ (sym e.1 ∙ place.asked) in
          let requested : flight_request f ≡ Restore pin = asks_for f.exposes in
          let same : e.0 ≡ pin = ap (λ (a : ClientAsk). pin_in a.request e.0) one ∙ ap (λ (r : Request). pin_in r e.0) requested in
          record {
            index = index;
            heard = (mine, flight_is, number_is, heard_is ∙ ap (answer.Outcome index) reply_is);
            asked = place.asked ∙ ap (λ (r : Request). Some (record { client = c; number = f.number; request = r })) requested;
            earned = subst (λ p. Earned (limit_of w) (log_places w) c index secret p left) same e.2;
          }
        where
          asks_for : (b : Bool) → (if b then second_request f.want else first_request f.want) ≡ Restore pin
          asks_for true = ap second_request is
          asks_for false = ap first_request is
      recovered_for want.Erase is secret left reply_is never = absurd never

      reported : (r : Report) → reply_meaning f reply ≡ Reports r → MeansSo f.want f.exposes reply (Reports r) → ReportHolds w c hs h f r
      reported report.Stored means so = stored_for f.want refl so.0 so.1 so.2
      reported (report.Recovered secret left) means so = recovered_for f.want refl secret left so.0 so.1
      reported (report.Undecided last) means so = tt
      reported r means so = record { index = index; reply = reply; heard = (mine, flight_is, number_is, heard_is); asked = place.asked; replied = place.replied; meant = means }

    meant : (a : Answer) → h.answered.answer ≡ a → ListedAs (CallsSaid c last (Some f)) (outcomes_of w) c f.number a → (r : Report) → answer_meaning f a ≡ Reports r → ReportHolds w c hs h f r
    meant (answer.Outcome index reply) is given r means = reported index reply is (place_of index reply given) r means (reply_means f reply (Reports r) means)
    meant (answer.Undecided at kept offered) is given r means = subst (ReportHolds w c hs h f) (same_report (report.Undecided f.number) r means) tt
    meant other is given r means = absurd (nothing r means)

  -- each hearing of the client
  module _ (hs : List Hearing) (h : Hearing) (mine : h.client ≡ c) (k : HeardKept c (outcomes_of w) hs h) where
    by_meaning : (f : Flight) (m : Meaning) → ((r : Report) → m ≡ Reports r → ReportHolds w c hs h f r) → HearingHolds w c hs h (Some f) (heard_as k.before f m).1
    by_meaning f Nothing fine = tt
    by_meaning f GoesOn fine = tt
    by_meaning f (Reports r) fine = fine r refl

    by_number : (f : Flight) → k.before.flight ≡ Some f → (b : Bool) → (h.answered.number == f.number) ≡ b → HearingHolds w c hs h (Some f) (if b then heard_as k.before f (answer_meaning f h.answered.answer) else (k.before, None)).1
    by_number f is true same = by_meaning f (answer_meaning f h.answered.answer)
        (meant hs h k.before.last f (sym k.flight_is ∙ is) mine (eqb-true h.answered.number f.number same) (subst (FlightFits k.before.last) is k.fits) (subst (FlightBegan c (outcomes_of w) hs) is k.began) h.answered.answer refl
        (subst (λ n. ListedAs (CallsSaid c k.before.last (Some f)) (outcomes_of w) c n h.answered.answer) (eqb-true h.answered.number f.number same)
        (subst (λ o. ListedAs (CallsSaid c k.before.last o) (outcomes_of w) c h.answered.number h.answered.answer) is k.given)))
    by_number f is false same = tt

    by_flight : (o : Option Flight) → k.before.flight ≡ o → HearingHolds w c hs h o (hear_in k.before h.answered.number h.answered.answer o).1
    by_flight None is = tt
    by_flight (Some f) is = by_number f is (h.answered.number == f.number) refl

    holds : HearingHolds w c hs h h.flight h.report
    holds = subst (HearingHolds w c hs h h.flight) (sym k.report_is)
        (subst (λ o. HearingHolds w c hs h o (heard k.before h.answered.number h.answered.answer).1) k.flight_is (by_flight k.before.flight refl))

  each : (hs : List Hearing) → HearingsKept c (outcomes_of w) hs → ReportsHold w c hs
  each [] k = tt
  each (h ∷ hs) k = (λ is. holds hs h is (k.0 is), each hs k.1)

pub reports_of : ReadAgain → RowLaws → (link : Link) (events : List Event) (c : ClientId) → OneLogLaws (run link events) → IsOnlySaid (run link events) c → ReportsHold (run link events) c (run link events).hearings
reports_of again rows link events c laws only = each again rows (run link events) laws c (run link events).hearings (run_follows c link events only).heard
