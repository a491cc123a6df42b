use Rattle.std.proofs.Common.{◌≡◌, ℕ, ◌+◌, Some, map, refl, sym, ap, subst, ◌∙◌, arith}
use Rattle.values.specs.declared.batch.Batch.{Batch}
use Rattle.values.specs.declared.entry.Body.TheVariants.{Noop}
use Rattle.replica_log.specs.Window.{last_index}
use Rattle.replica_model.specs.Votes.{leading_anew}
use Rattle.replica_core.specs.declared.role.Role.TheVariants as kept
use Rattle.replica_core.specs.declared.role.Leading.{Leading}
use Rattle.replica_core.specs.declared.holder.Holder.{Holder}
use Rattle.replica_core.specs.Keeping.{IsSound, others_counted}
use Rattle.replica_core.specs.Calling.{Reaches}
use Rattle.replica_core.proofs.Sounds.{anew-sound, pushed-sound, led-sound}
use Rattle.replica_core.proofs.Wins.{winning, wins-reaches, wins-does}
use Rattle.replica_core.specs.InRange.{IsHolderInRange}
use Rattle.replica_core.proofs.Ranged.{anew-in, pushed-in, lead-in}
use Rattle.replica_core.proofs.holder.Holder.win.Goals as goal

pub raise-requires : goal.raise-requires
raise-requires c =
    let h : Holder = c.args.self.now in
    let l : Leading = c.in_ok-leading.leading in
    let made = c.in_ok-leading.ensures in
    let last = c.last.ensures.last in
    let led = led-sound h l c.requires.sound
    (anew-sound (last_index h.log) (c.last.result + 1) l c.as_slice.result.now (omega (arith, last)) made.progress made.learners made.sendings) in
    subst IsSound (sym c.in_ok-push.ensures.after)
    (pushed-sound (record h { role = kept.Leader l; known = h.me }) (record { term = h.ballot.term; body = Noop }) l refl
    (record { term = led.term; last = led.last; role = led.role; tickets = led.tickets; within = led.within }) c.requires.room)

pub returns-clause-model : goal.returns-clause-model
returns-clause-model c = λ s st.
    let h : Holder = c.args.self.now in
    let b : Batch = c.args.batch.now in
    let l : Leading = c.in_ok-leading.leading in
    let made = c.in_ok-leading.ensures in
    let o = c.last.ensures.ordered in
    let progress : l.progress ≡ map (λ (v : ℕ). (v, record { next = last_index h.log + 1; mark = 0; promised = 0 })) (others_counted h.me h.log) =
    made.progress
    ∙ (ap (λ n. map (λ (v : ℕ). (v, record { next = n + 1; mark = 0; promised = 0 })) c.as_slice.result.now) c.last.ensures.last
    ∙ ap (map (λ (v : ℕ). (v, record { next = last_index h.log + 1; mark = 0; promised = 0 }))) (c.as_slice.ensures ∙ c.in_ok-voters.ensures)) in
    let led : Holder = record h { role = kept.Leader l; known = h.me } in
    let call = winning c.logs_are_the_models.ensures h s st o in
    let begun = wins-reaches c.logs_are_the_models.ensures h s st o b c.requires.empty l c.push.new.self.log progress made.learners made.sendings (c.in_ok-push.ensures.model s st.log) in
    wins-does c.logs_are_the_models.ensures h s st o c.raise.new.self c.raise.new.batch
    (c.in_ok-raise.ensures.model call (leading_anew s)
    (subst (λ g. Reaches g (record b { lead = Some h.ballot.term }) call) (ap (λ (g : Holder). record led { log = g.log }) c.in_ok-push.ensures.after ∙ sym c.in_ok-push.ensures.after) begun) refl)

pub returns-clause-in_range : goal.returns-clause-in_range
returns-clause-in_range c = λ ranged in_b.
    let h : Holder = c.args.self.now in
    let b : Batch = c.args.batch.now in
    let l : Leading = c.in_ok-leading.leading in
    let made = c.in_ok-leading.ensures in
    let led : Holder = record h { role = kept.Leader l; known = h.me } in
    let pushed : IsHolderInRange c.push.new.self =
    subst IsHolderInRange (sym c.in_ok-push.ensures.after)
    (pushed-in led (record { term = h.ballot.term; body = Noop }) (anew-in h l ranged made.learners made.sendings) (c.requires.sound.term, tt)) in
    let raised = c.in_ok-raise.ensures.in_range pushed (lead-in b h.ballot.term in_b c.requires.sound.term) in
    (raised.0, (raised.1, tt))
