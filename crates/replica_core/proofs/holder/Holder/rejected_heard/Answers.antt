use Rattle.std.proofs.Common.{cond, sym, subst, ◌∙◌}
use Rattle.values.specs.declared.batch.Batch.{Batch}
use Rattle.replica_model.specs.Heard.{rejected_heard}
use Rattle.replica_core.specs.declared.holder.Holder.{Holder}
use Rattle.replica_core.specs.declared.send.Appends.TheVariants.{Nobody, One}
use Rattle.replica_core.specs.Keeping.{IsSound}
use Rattle.replica_core.specs.InRange.{IsHolderInRange}
use Rattle.replica_core.specs.Leads.{after_rejected}
use Rattle.replica_core.specs.Calling.{Does}
use Rattle.replica_core.proofs.Calls.{still-does}
use Rattle.replica_core.proofs.Hears.{rejected-still, rejected-does}
use Rattle.replica_core.proofs.Noted.{leading-sound, rejected-sound, leading-in, rejected-in}
use Rattle.replica_core.proofs.holder.Holder.rejected_heard.Goals as goal

pub returns-then-not-is_peer-clause-model : goal.returns-then-not-is_peer-clause-model
returns-then-not-is_peer-clause-model c = λ s st.
    let h : Holder = c.args.self.now in
    let b : Batch = c.args.batch.now in
    subst (Does h b Nobody)
    (sym (rejected-still c.logs_are_the_models.ensures h s st c.is_peer.ensures.ordered b c.requires.empty c.args.from c.args.hint (sym c.is_peer.ensures.peer ∙ c.if-not-is_peer.true)))
    (still-does h b s st c.requires.empty)

pub returns-then-branch-clause-model : goal.returns-then-branch-clause-model
returns-then-branch-clause-model c = λ s st.
    let h : Holder = c.args.self.now in
    let b : Batch = c.args.batch.now in
    subst (λ a. Does c.note_rejected.new.self b (cond a (One c.args.from) Nobody) (rejected_heard s s.role c.args.from c.args.hint)) c.if-branch.true
    (rejected-does c.logs_are_the_models.ensures h s st c.is_peer.ensures.ordered b c.requires.empty c.args.from c.args.hint c.note_rejected.new.self c.in_ok-note_rejected.field-0
    (sym c.is_peer.ensures.peer ∙ c.if-not-is_peer.false) c.in_ok-note_rejected.ensures.answer c.in_ok-note_rejected.ensures.after)

pub returns-else-branch-clause-model : goal.returns-else-branch-clause-model
returns-else-branch-clause-model c = λ s st.
    let h : Holder = c.args.self.now in
    let b : Batch = c.args.batch.now in
    subst (λ a. Does c.note_rejected.new.self b (cond a (One c.args.from) Nobody) (rejected_heard s s.role c.args.from c.args.hint)) c.if-branch.false
    (rejected-does c.logs_are_the_models.ensures h s st c.is_peer.ensures.ordered b c.requires.empty c.args.from c.args.hint c.note_rejected.new.self c.in_ok-note_rejected.field-0
    (sym c.is_peer.ensures.peer ∙ c.if-not-is_peer.false) c.in_ok-note_rejected.ensures.answer c.in_ok-note_rejected.ensures.after)

pub returns-then-branch-clause-sound : goal.returns-then-branch-clause-sound
returns-then-branch-clause-sound c =
    let h : Holder = c.args.self.now in
    subst IsSound (sym c.in_ok-note_rejected.ensures.after)
    (leading-sound h (λ l. after_rejected l h.log c.args.from c.args.hint) c.requires.sound (λ l sound. rejected-sound h.log l c.args.from sound c.args.hint))

pub returns-else-branch-clause-sound : goal.returns-else-branch-clause-sound
returns-else-branch-clause-sound c =
    let h : Holder = c.args.self.now in
    subst IsSound (sym c.in_ok-note_rejected.ensures.after)
    (leading-sound h (λ l. after_rejected l h.log c.args.from c.args.hint) c.requires.sound (λ l sound. rejected-sound h.log l c.args.from sound c.args.hint))

pub returns-then-not-is_peer-clause-in_range : goal.returns-then-not-is_peer-clause-in_range
returns-then-not-is_peer-clause-in_range c = λ id ranged told. (ranged, (told, tt))

pub returns-then-branch-clause-in_range : goal.returns-then-branch-clause-in_range
returns-then-branch-clause-in_range c = λ id ranged told.
    let h : Holder = c.args.self.now in (
      subst IsHolderInRange (sym c.in_ok-note_rejected.ensures.after)
          (leading-in h (λ l. after_rejected l h.log c.args.from c.args.hint) ranged (λ l r. rejected-in h.log l c.args.from r c.args.hint)),
      (told, id),
    )

pub returns-else-branch-clause-in_range : goal.returns-else-branch-clause-in_range
returns-else-branch-clause-in_range c = λ id ranged told.
    let h : Holder = c.args.self.now in (
      subst IsHolderInRange (sym c.in_ok-note_rejected.ensures.after)
          (leading-in h (λ l. after_rejected l h.log c.args.from c.args.hint) ranged (λ l r. rejected-in h.log l c.args.from r c.args.hint)),
      (told, tt),
    )
