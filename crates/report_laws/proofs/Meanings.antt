-- What an answer was, by what it means to a want in flight.
use Rattle.std.proofs.Common.{◌≡◌, ℕ, ◌==◌, Bool, true, false, refl, ap, subst}
use Rattle.std.proofs.lemmas.Bool.{cond_both, eqb-true}
use Rattle.std.specs.Prelude.{if◌then◌else◌}
use Rattle.values.specs.declared.message.Answer.{Answer}
use Rattle.values.specs.declared.message.Answer.TheVariants as answer
use Rattle.values.specs.declared.message.Reply.{Reply}
use Rattle.values.specs.declared.message.Reply.TheVariants.{Applied, Stale, TableFull}
use Rattle.values.specs.declared.message.Response.{Response}
use Rattle.values.specs.declared.message.Response.TheVariants.{Backup as BackedUp, Restore as Restored, Delete as Deleted, Expose as Exposed}
use Rattle.values.specs.declared.want.Report.{Report}
use Rattle.values.specs.declared.want.Report.TheVariants as report
use Rattle.values.specs.declared.want.Want.{Want}
use Rattle.values.specs.declared.want.Want.TheVariants as want
use Rattle.record_rules.specs.declared.status.TheConstants.{OK}
use Rattle.schedule_model.specs.Client.{Flight, Meaning, Nothing, GoesOn, Reports, response_meaning, reply_meaning, answer_meaning}

abbrev pub IsStore : Want → Type 0
IsStore (want.Store secret pin tries) = Unit {0}
IsStore (want.Recover pin) = ⊥
IsStore want.Erase = ⊥

abbrev pub IsRecover : Want → Type 0
IsRecover (want.Store secret pin tries) = ⊥
IsRecover (want.Recover pin) = Unit {0}
IsRecover want.Erase = ⊥

-- the reply and the request in flight, by what the reply means
abbrev pub MeansSo : Want → Bool → Reply → Meaning → Type 0
MeansSo w exposes reply Nothing = Unit {0}
MeansSo w exposes reply GoesOn = (reply ≡ Applied (BackedUp OK)) × (exposes ≡ false)
MeansSo w exposes reply (Reports report.Stored) = (reply ≡ Applied (Exposed OK)) × (exposes ≡ true) × IsStore w
MeansSo w exposes reply (Reports (report.Recovered secret left)) = (reply ≡ Applied (Restored OK secret left)) × IsRecover w
MeansSo w exposes reply (Reports other) = Unit {0}

response_means : (w : Want) (exposes : Bool) (r : Response) → MeansSo w exposes (Applied r) (response_meaning w exposes r)
response_means (want.Store secret pin tries) false (BackedUp status) =
    cond_both (status == 1) GoesOn Nothing (MeansSo (want.Store secret pin tries) false (Applied (BackedUp status)))
    (λ b. (ap (λ n. Applied (BackedUp n)) (eqb-true status 1 b), refl))
    (λ b. tt)
response_means (want.Store secret pin tries) true (Exposed status) =
    cond_both (status == 1) (Reports report.Stored) (if status == 2 then Reports report.ExposeError else Nothing) (MeansSo (want.Store secret pin tries) true (Applied (Exposed status)))
    (λ b. (ap (λ n. Applied (Exposed n)) (eqb-true status 1 b), refl, tt))
    (λ b. cond_both (status == 2) (Reports report.ExposeError) Nothing (MeansSo (want.Store secret pin tries) true (Applied (Exposed status))) (λ b. tt) (λ b. tt))
response_means (want.Recover pin) exposes (Restored status given tries) =
    cond_both (status == 1) (Reports (report.Recovered given tries)) (if status == 2 then Reports report.Missing else if status == 3 then Reports (report.WrongPin tries) else Nothing) (MeansSo (want.Recover pin) exposes (Applied (Restored status given tries)))
    (λ b. (ap (λ n. Applied (Restored n given tries)) (eqb-true status 1 b), tt))
    (λ b. cond_both (status == 2) (Reports report.Missing) (if status == 3 then Reports (report.WrongPin tries) else Nothing) (MeansSo (want.Recover pin) exposes (Applied (Restored status given tries)))
    (λ b. tt)
    (λ b. cond_both (status == 3) (Reports (report.WrongPin tries)) Nothing (MeansSo (want.Recover pin) exposes (Applied (Restored status given tries))) (λ b. tt) (λ b. tt)))
response_means want.Erase exposes Deleted = tt
response_means w exposes other = tt

pub reply_means : (f : Flight) (reply : Reply) (m : Meaning) → reply_meaning f reply ≡ m → MeansSo f.want f.exposes reply m
reply_means f reply m is = subst (MeansSo f.want f.exposes reply) is (by_reply reply)
  where
    by_reply : (reply : Reply) → MeansSo f.want f.exposes reply (reply_meaning f reply)
    by_reply (Applied what) = response_means f.want f.exposes what
    by_reply (Stale last) = tt
    by_reply (TableFull rows) = tt

-- the answer is that a store's first request was done
pub record Done (f : Flight) (a : Answer) : Type 0 where
  pub index : ℕ
  pub answer_is : a ≡ answer.Outcome index (Applied (BackedUp OK))
  pub first : f.exposes ≡ false

not_going : Nothing ≡ GoesOn → ⊥
not_going is = cc

not_reported : (r : Report) → Reports r ≡ GoesOn → ⊥
not_reported r is = cc

pub goes_on_done : (f : Flight) (a : Answer) → answer_meaning f a ≡ GoesOn → Done f a
goes_on_done f (answer.Outcome index reply) is =
    let so = reply_means f reply GoesOn is in record { index = index; answer_is = ap (answer.Outcome index) so.0; first = so.1 }
goes_on_done f (answer.Undecided at kept offered) is = absurd (not_reported (report.Undecided f.number) is)
goes_on_done f other is = absurd (not_going is)
