use Rattle.std.proofs.Common.{◌≡◌, ◌&&◌, false, refl, sym, subst, ◌∙◌}
use Rattle.std.proofs.lemmas.Bool.{and_left, and_right}
use Rattle.values.specs.declared.batch.Batch.{Batch}
use Rattle.replica_model.specs.Linked.{sha_link}
use Rattle.replica_model.specs.Call.{still}
use Rattle.replica_model.specs.Peers.{leads_with}
use Rattle.replica_model.specs.Raise.{raise}
use Rattle.replica_model.specs.Heard.{accepted_heard, accepted_by}
use Rattle.replica_log.specs.Window.{matches}
use Rattle.replica_core.specs.declared.holder.Holder.{Holder}
use Rattle.replica_core.specs.declared.send.Appends.TheVariants.{Nobody}
use Rattle.replica_core.specs.Keeping.{IsSound, leads_now, learners_in, is_peer_at}
use Rattle.replica_core.specs.InRange.{IsHolderInRange, IsForId}
use Rattle.replica_core.specs.Leads.{after_accepted}
use Rattle.replica_core.specs.Calling.{Reaches, Does}
use Rattle.replica_core.proofs.Calls.{still-does}
use Rattle.replica_core.proofs.Hears.{accepted-still, accepted-unnoted, accepted-noted, accepted-does}
use Rattle.replica_core.proofs.Noted.{leading-sound, accepted-sound, leading-in, accepted-in, appends-for}
use Rattle.replica_core.proofs.holder.Holder.accepted_heard.Goals as goal

pub returns-then-not-is_peer-clause-model : goal.returns-then-not-is_peer-clause-model
returns-then-not-is_peer-clause-model c = λ s st.
    let h : Holder = c.args.self.now in
    let b : Batch = c.args.batch.now in
    let not_so : is_peer_at h.me h.log (learners_in h.role) c.args.from ≡ false = sym c.is_peer.ensures.peer ∙ c.if-not-is_peer.true in
    let none = and_left (is_peer_at h.me h.log (learners_in h.role) c.args.from) (leads_now h.role && matches sha_link h.log c.args.end) not_so in
    subst (Does h b Nobody) (sym (accepted-still c.logs_are_the_models.ensures h s st c.is_peer.ensures.ordered b c.args.from c.hashes_are_the_models.ensures c.args.end c.args.promised none)) (still-does h b s st c.requires.empty)

pub returns-then-not-branch-clause-model : goal.returns-then-not-branch-clause-model
returns-then-not-branch-clause-model c = λ s st.
    let h : Holder = c.args.self.now in
    let b : Batch = c.args.batch.now in
    let o = c.is_peer.ensures.ordered in
    let not_so : (leads_now h.role && matches sha_link h.log c.args.end) ≡ false = sym c.in_ok-note_accepted.ensures.answer ∙ c.if-not-branch.true in
    let none = and_right (is_peer_at h.me h.log (learners_in h.role) c.args.from) (leads_now h.role && matches sha_link h.log c.args.end) not_so in
    subst (λ g. Does g b Nobody (accepted_heard sha_link s s.role c.args.from c.args.end c.args.promised))
    (sym (c.in_ok-note_accepted.ensures.after ∙ accepted-unnoted c.logs_are_the_models.ensures h s st o b c.args.from c.hashes_are_the_models.ensures c.args.end c.args.promised not_so))
    (subst (Does h b Nobody) (sym (accepted-still c.logs_are_the_models.ensures h s st o b c.args.from c.hashes_are_the_models.ensures c.args.end c.args.promised none)) (still-does h b s st c.requires.empty))

pub raise-requires : goal.raise-requires
raise-requires c =
    let h : Holder = c.args.self.now in
    subst IsSound (sym c.in_ok-note_accepted.ensures.after)
    (leading-sound h (λ l. after_accepted l h.log c.args.from c.args.end c.args.promised) c.requires.sound
    (λ l sound. accepted-sound h.log l c.args.from sound c.args.end c.args.promised))

pub returns-clause-model : goal.returns-clause-model
returns-clause-model c = λ s st.
    let h : Holder = c.args.self.now in
    let b : Batch = c.args.batch.now in
    let peer = sym c.is_peer.ensures.peer ∙ c.if-not-is_peer.false in
    let noted = sym c.in_ok-note_accepted.ensures.answer ∙ c.if-not-branch.false in
    let a = accepted-noted c.logs_are_the_models.ensures h s st c.is_peer.ensures.ordered b c.args.from c.hashes_are_the_models.ensures c.args.end c.args.promised
    c.note_accepted.new.self peer noted c.in_ok-note_accepted.ensures.after in
    let before : Reaches c.note_accepted.new.self b (still (leads_with s a.leading)) = record { stands = a.stands; batch_is = c.requires.empty } in
    let r : Reaches c.raise.new.self c.raise.new.batch (raise (still (leads_with s a.leading)) a.leading) = c.in_ok-raise.ensures.model (still (leads_with s a.leading)) a.leading before refl in
    let does = accepted-does c.logs_are_the_models.ensures s a.leading c.args.from c.raise.new.self c.raise.new.batch r c.promised-promised_before.result c.committed-committed_before.result
    (c.promised-promised_before.ensures.promised ∙ st.log.is_promised) (c.committed-committed_before.ensures.committed ∙ st.log.is_committed) in
    subst (λ call. Does c.raise.new.self c.raise.new.batch c.appends_after.result call) (sym a.call)
    (subst (λ to. Does c.raise.new.self c.raise.new.batch to (accepted_by s a.leading c.args.from)) (sym c.appends_after.ensures) does)

pub returns-then-not-is_peer-clause-in_range : goal.returns-then-not-is_peer-clause-in_range
returns-then-not-is_peer-clause-in_range c = λ id ranged told. (ranged, (told, tt))

pub returns-then-not-branch-clause-in_range : goal.returns-then-not-branch-clause-in_range
returns-then-not-branch-clause-in_range c = λ id ranged told.
    let h : Holder = c.args.self.now in (
      subst IsHolderInRange (sym c.in_ok-note_accepted.ensures.after)
          (leading-in h (λ l. after_accepted l h.log c.args.from c.args.end c.args.promised) ranged (λ l r. accepted-in h.log l c.args.from r c.args.end c.args.promised)),
      (told, tt),
    )

pub returns-clause-in_range : goal.returns-clause-in_range
returns-clause-in_range c = λ id ranged told.
    let h : Holder = c.args.self.now in
    let noted = subst IsHolderInRange (sym c.in_ok-note_accepted.ensures.after)
    (leading-in h (λ l. after_accepted l h.log c.args.from c.args.end c.args.promised) ranged (λ l r. accepted-in h.log l c.args.from r c.args.end c.args.promised)) in
    let both = c.in_ok-raise.ensures.in_range noted told in (
      both.0,
      (
        both.1,
        subst IsForId (sym c.appends_after.ensures)
            (appends-for c.raise.new.self c.promised-promised_before.result c.committed-committed_before.result c.args.from id),
      ),
    )
