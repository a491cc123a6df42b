use Rattle.std.proofs.Common.{◌≡◌, ◌+◌, ◌≤◌, [], ◌∷◌, ◌++◌, Option, Some, All, length, refl, sym, ap, subst, ◌∙◌, arith}
use Rattle.std.specs.List.{AllByRecursion}
use Rattle.values.specs.declared.batch.Batch.{Batch}
use Rattle.values.specs.declared.limits.TheConstants.{TOP}
use Rattle.group_msgs.specs.Ranges.{IsEntryInRange}
use Rattle.replica_model.specs.Linked.{sha_link}
use Rattle.replica_model.specs.Path.{Path}
use Rattle.replica_model.specs.Graft.{Offer, Difference, append_heard}
use Rattle.replica_log.specs.Window.{Window, Fits, base_index, IsOrdered}
use Rattle.values.specs.declared.peer.PeerMsg.{PeerMsg}
use Rattle.append_rules.specs.Taken.{TakesOffer}
use Rattle.append_rules.specs.declared.take.Taken.TheVariants.{Replied, Conflict}
use Rattle.replica_core.specs.declared.holder.Holder.{Holder}
use Rattle.replica_core.specs.declared.send.Appends.TheVariants.{Nobody}
use Rattle.replica_core.specs.Applying.{applied_from, holder_applied, batch_applied}
use Rattle.replica_core.specs.InRange.{IsHolderInRange}
use Rattle.replica_core.specs.Keeping.{IsSound}
use Rattle.replica_core.specs.Ranges.{IsStepBatch}
use Rattle.replica_core.specs.Replacing.{kept_upto}
use Rattle.replica_core.specs.Calling.{Does}
use Rattle.replica_core.proofs.Offered.{all_fit, reached-as, halted-as, heard-sound, follower, told_first, follower-as, told-as}
use Rattle.replica_core.proofs.Joined.{brings-as, halted-in, follower-in, told-in, replied-in}
use Rattle.replica_core.proofs.Offers.{halts-does, taken-does}
use Rattle.replica_core.proofs.holder.Holder.append_heard.Goals as goal
use Rattle.replica_core.proofs.holder.Holder.append_heard.Goals.{In_ok-push-in-Replied}

pub take_append-requires-clause-top : goal.take_append-requires-clause-top
take_append-requires-clause-top c = subst (λ (es : Path). c.args.offer.prev.index + length es ≤ TOP) (sym c.as_slice.ensures) c.requires.range.end

pub take_append-requires-clause-fit : goal.take_append-requires-clause-fit
take_append-requires-clause-fit c = subst (AllByRecursion Fits) (sym c.as_slice.ensures) (all_fit c.args.offer.entries.now c.requires.range.entries)

pub returns-in-Conflict-clause-model : goal.returns-in-Conflict-clause-model
returns-in-Conflict-clause-model c = λ s st.
    let h : Holder = c.args.self.now in
    let w : Window = c.take_append.new.log in
    let d : Difference = (c.in-Conflict.index, c.in-Conflict.kept, c.in-Conflict.offered) in
    let o : Offer = record { from = c.args.from; prev = c.args.offer.prev; entries = c.args.offer.entries.now; promise = c.args.offer.promise; commit = c.args.offer.commit } in
    let tk = subst (TakesOffer s o w) c.in-Conflict.is (c.in_ok-taken.ensures.model s st.log o
    (record { term_is = sym st.term; prev_is = refl; entries_is = sym c.as_slice.ensures; promise_is = refl; commit_is = refl })) in
    halts-does c.logs_are_the_models.ensures h s st c.args.batch.now c.requires.empty o w d tk

pub returns-in-Conflict-clause-sound : goal.returns-in-Conflict-clause-sound
returns-in-Conflict-clause-sound c =
    let h : Holder = c.args.self.now in
    let w : Window = c.take_append.new.log in
    let d : Difference = (c.in-Conflict.index, c.in-Conflict.kept, c.in-Conflict.offered) in
    let same : w ≡ h.log =
    halted-as h.log c.last-last.ensures.ordered h.ballot.term c.args.offer.prev c.as_slice.result.now c.args.offer.promise c.args.offer.commit w c.in_ok-taken.taken
    c.in_ok-taken.ensures.taken c.in_ok-taken.ensures.after d c.in-Conflict.is in
    let sound = c.requires.sound in
    subst (λ (x : Window). IsSound (record h { log = x; halted = Some d })) (sym same)
    (record { term = sound.term; last = sound.last; role = sound.role; tickets = sound.tickets; within = sound.within })

pub tell_members-requires : goal.tell_members-requires
tell_members-requires c =
    let h : Holder = c.args.self.now in
    let r = reached-as h.log c.last-last.ensures.ordered h.ballot.term c.args.offer.prev c.as_slice.result.now c.args.offer.promise c.args.offer.commit
    c.take_append.new.log c.in_ok-taken.taken c.in_ok-taken.ensures.taken c.in_ok-taken.ensures.after c.in-Replied.reply c.in-Replied.cut c.in-Replied.is in
    let base = r.base in
    let above = r.above in
    let at = ap (λ (x : Holder). base_index x.log) c.follow.ensures.after in
    let k = c.kept_upto.ensures ∙ ap (λ n. kept_upto n c.in-Replied.cut) c.last-last.ensures.last in
    record { base = omega (arith, base, above, at, k) }

pub apply_committed-requires-clause-base : goal.apply_committed-requires-clause-base
apply_committed-requires-clause-base c =
    let h : Holder = c.args.self.now in
    let ordered = c.last-last.ensures.ordered in
    let r = reached-as h.log ordered h.ballot.term c.args.offer.prev c.as_slice.result.now c.args.offer.promise c.args.offer.commit
    c.take_append.new.log c.in_ok-taken.taken c.in_ok-taken.ensures.taken c.in_ok-taken.ensures.after c.in-Replied.reply c.in-Replied.cut c.in-Replied.is in
    let base = r.base in
    let low = ordered.committed in
    let at = ap (λ (x : Holder). base_index x.log) c.follow.ensures.after in
    let had = c.committed-committed.ensures.committed in
    omega (arith, base, low, at, had)

pub apply_committed-requires-clause-had : goal.apply_committed-requires-clause-had
apply_committed-requires-clause-had c =
    let h : Holder = c.args.self.now in
    let r = reached-as h.log c.last-last.ensures.ordered h.ballot.term c.args.offer.prev c.as_slice.result.now c.args.offer.promise c.args.offer.commit
    c.take_append.new.log c.in_ok-taken.taken c.in_ok-taken.ensures.taken c.in_ok-taken.ensures.after c.in-Replied.reply c.in-Replied.cut c.in-Replied.is in
    let more = r.committed in
    let at = ap (λ (x : Holder). x.log.committed) c.follow.ensures.after in
    let had = c.committed-committed.ensures.committed in
    omega (arith, more, at, had)

-- the replica and the batch before the entries are applied
follows : (c : In_ok-push-in-Replied) → record (c.follow.new.self) { tickets = c.give_up.new.self } ≡ follower c.args.self.now c.args.batch.now c.args.from c.take_append.new.log c.in-Replied.cut
follows c =
    follower-as c.args.self.now c.args.batch.now c.args.from c.take_append.new.log c.in-Replied.cut c.follow.new.self c.follow.ensures.after c.give_up.new.self c.in_ok-give_up-in-Replied.ensures.left

tells : (c : In_ok-push-in-Replied) → record (c.tell_members.new.batch) { answers = c.give_up.new.answers }
    ≡ told_first c.args.self.now c.args.batch.now c.args.from c.take_append.new.log c.in-Replied.cut
tells c =
    told-as c.args.self.now c.args.batch.now c.args.from c.take_append.new.log c.in-Replied.cut c.follow.new.self c.follow.ensures.after
    c.kept_upto.result c.tell_members.new.batch c.give_up.new.answers
    (c.kept_upto.ensures ∙ ap (λ n. kept_upto n c.in-Replied.cut) c.last-last.ensures.last) c.in_ok-tell_members-in-Replied.ensures c.in_ok-give_up-in-Replied.ensures.answers

ordered_then : (c : In_ok-push-in-Replied) → IsOrdered c.take_append.new.log
ordered_then c = subst (λ (x : Holder). IsOrdered x.log) c.follow.ensures.after c.in_ok-apply_committed-in-Replied.ensures.ordered

after : (c : In_ok-push-in-Replied) (f : Holder) (d : Batch) → record (c.follow.new.self) { tickets = c.give_up.new.self } ≡ f → record (c.tell_members.new.batch) { answers = c.give_up.new.answers } ≡ d
    → c.apply_committed.new.self ≡ holder_applied f (applied_from f d c.committed-committed.result)
after c f d f-is d-is =
    c.in_ok-apply_committed-in-Replied.ensures.after
    ∙ (ap (λ (x : Holder). holder_applied x (applied_from x (record (c.tell_members.new.batch) { answers = c.give_up.new.answers }) c.committed-committed.result)) f-is
    ∙ ap (λ (y : Batch). holder_applied f (applied_from f y c.committed-committed.result)) d-is)

batch_after : (c : In_ok-push-in-Replied) (f : Holder) (d : Batch) → record (c.follow.new.self) { tickets = c.give_up.new.self } ≡ f → record (c.tell_members.new.batch) { answers = c.give_up.new.answers } ≡ d
    → c.apply_committed.new.batch ≡ batch_applied d (applied_from f d c.committed-committed.result)
batch_after c f d f-is d-is =
    c.in_ok-apply_committed-in-Replied.ensures.batch
    ∙ (ap (λ (x : Holder). batch_applied (record (c.tell_members.new.batch) { answers = c.give_up.new.answers })
    (applied_from x (record (c.tell_members.new.batch) { answers = c.give_up.new.answers }) c.committed-committed.result)) f-is
    ∙ ap (λ (y : Batch). batch_applied y (applied_from f y c.committed-committed.result)) d-is)

pub returns-in_ok-push-in-Replied-clause-sound : goal.returns-in_ok-push-in-Replied-clause-sound
returns-in_ok-push-in-Replied-clause-sound c =
    let h : Holder = c.args.self.now in
    let b : Batch = c.args.batch.now in
    let w : Window = c.take_append.new.log in
    let cut : Option Difference = c.in-Replied.cut in
    let ordered = c.last-last.ensures.ordered in
    let r = reached-as h.log ordered h.ballot.term c.args.offer.prev c.as_slice.result.now c.args.offer.promise c.args.offer.commit
    w c.in_ok-taken.taken c.in_ok-taken.ensures.taken c.in_ok-taken.ensures.after c.in-Replied.reply cut c.in-Replied.is in
    subst IsSound (sym (after c (follower h b c.args.from w cut) (told_first h b c.args.from w cut) (follows c) (tells c)))
    (heard-sound h w c.args.from (c.args.offer.prev.index + length c.as_slice.result.now) cut (told_first h b c.args.from w cut) c.committed-committed.result
    c.requires.sound ordered (ordered_then c) r c.committed-committed.ensures.committed)

pub returns-in_ok-push-in-Replied-clause-model : goal.returns-in_ok-push-in-Replied-clause-model
returns-in_ok-push-in-Replied-clause-model c = λ s st.
    let h : Holder = c.args.self.now in
    let b : Batch = c.args.batch.now in
    let w : Window = c.take_append.new.log in
    let reply : PeerMsg = c.in-Replied.reply in
    let cut : Option Difference = c.in-Replied.cut in
    let o : Offer = record { from = c.args.from; prev = c.args.offer.prev; entries = c.args.offer.entries.now; promise = c.args.offer.promise; commit = c.args.offer.commit } in
    let f : Holder = follower h b c.args.from w cut in
    let d : Batch = told_first h b c.args.from w cut in
    let tk = subst (TakesOffer s o w) c.in-Replied.is (c.in_ok-taken.ensures.model s st.log o
    (record { term_is = sym st.term; prev_is = refl; entries_is = sym c.as_slice.ensures; promise_is = refl; commit_is = refl })) in
    let does = taken-does c.logs_are_the_models.ensures h s st c.last-last.ensures.ordered c.requires.sound.tickets c.requires.sound.within b c.requires.empty o w (ordered_then c) reply cut tk
    c.committed-committed.result c.committed-committed.ensures.committed in
    let applied : Batch = c.apply_committed.new.batch in
    let replies : record applied { sent = c.push.new.self } ≡ _ =
    ap (λ xs. record applied { sent = xs }) c.in_ok-push-in-Replied.ensures.ok
    ∙ ap (λ (x : Batch). record x { sent = x.sent ++ (c.args.from, reply) ∷ [] }) (batch_after c f d (follows c) (tells c)) in
    subst (λ g. Does g (record applied { sent = c.push.new.self }) Nobody (append_heard sha_link s o)) (sym (after c f d (follows c) (tells c)))
    (subst (λ x. Does (holder_applied f (applied_from f d c.committed-committed.result)) x Nobody (append_heard sha_link s o)) (sym replies) does)

pub returns-in-Conflict-clause-in_range : goal.returns-in-Conflict-clause-in_range
returns-in-Conflict-clause-in_range c = λ id ranged told.
    let h : Holder = c.args.self.now in
    let d : Difference = (c.in-Conflict.index, c.in-Conflict.kept, c.in-Conflict.offered) in
    let in_range = c.requires.range in
    let brings = brings-as h.log c.last-last.ensures.ordered c.args.offer.prev c.as_slice.result.now h.ballot.term c.args.offer.promise c.args.offer.commit ranged.entries
    (subst (All IsEntryInRange) (sym c.as_slice.ensures) in_range.entries)
    (subst (λ (es : Path). c.args.offer.prev.index + length es ≤ TOP) (sym c.as_slice.ensures) in_range.end) c.requires.sound.term c.take_append.new.log
    (Conflict d.0 d.1 d.2) (sym c.in_ok-taken.ensures.taken ∙ c.in-Conflict.is) c.in_ok-taken.ensures.after in (
      halted-in h ranged c.take_append.new.log d brings,
      (
        record {
          ranged = record {
            lead = told.ranged.lead;
            members = told.ranged.members;
            halt = brings.halt;
            taken = told.ranged.taken;
            commits = told.ranged.commits;
            answers = told.ranged.answers;
            sent = told.ranged.sent;
            refused = told.ranged.refused;
          };
          saved = told.saved;
        },
        tt,
      ),
    )

pub returns-in_ok-push-in-Replied-clause-in_range : goal.returns-in_ok-push-in-Replied-clause-in_range
returns-in_ok-push-in-Replied-clause-in_range c = λ id ranged told.
    let h : Holder = c.args.self.now in
    let b : Batch = c.args.batch.now in
    let w : Window = c.take_append.new.log in
    let reply : PeerMsg = c.in-Replied.reply in
    let cut : Option Difference = c.in-Replied.cut in
    let ordered = c.last-last.ensures.ordered in
    let in_range = c.requires.range in
    let brings = brings-as h.log ordered c.args.offer.prev c.as_slice.result.now h.ballot.term c.args.offer.promise c.args.offer.commit ranged.entries
    (subst (All IsEntryInRange) (sym c.as_slice.ensures) in_range.entries)
    (subst (λ (es : Path). c.args.offer.prev.index + length es ≤ TOP) (sym c.as_slice.ensures) in_range.end) c.requires.sound.term w
    (Replied reply cut) (sym c.in_ok-taken.ensures.taken ∙ c.in-Replied.is) c.in_ok-taken.ensures.after in
    let r = reached-as h.log ordered h.ballot.term c.args.offer.prev c.as_slice.result.now c.args.offer.promise c.args.offer.commit
    w c.in_ok-taken.taken c.in_ok-taken.ensures.taken c.in_ok-taken.ensures.after reply cut c.in-Replied.is in
    let base = r.base in
    let above = r.above in
    let follows_in = subst IsHolderInRange (sym (follows c)) (follower-in h ranged w reply cut brings c.args.from id) in
    let tells_in = subst IsStepBatch (sym (tells c)) (told-in h ranged w reply cut brings b told (ordered_then c) r.kept (omega (arith, base, above))) in
    let applied = c.in_ok-apply_committed-in-Replied.ensures.in_range follows_in tells_in in (
      applied.0,
      (
        subst (λ xs. IsStepBatch (record (c.apply_committed.new.batch) { sent = xs })) (sym c.in_ok-push-in-Replied.ensures.ok)
            (replied-in h ranged w reply cut brings c.apply_committed.new.batch c.args.from id applied.1),
        tt,
      ),
    )
