use Rattle.std.proofs.Common.{subst, sym}
use Rattle.std.proofs.lemmas.Result.{on_ok_weaker}
use Rattle.replica_log.specs.Window.{last_index}
use Rattle.replica_core.specs.declared.role.Role.TheVariants as kept
use Rattle.replica_core.specs.declared.role.Leading.{Leading}
use Rattle.replica_core.specs.declared.holder.Holder.{Holder}
use Rattle.replica_core.specs.Keeping.{IsSoundLeading, IsSoundRole}
use Rattle.replica_core.specs.Standing.{RoleAs}
use Rattle.replica_core.proofs.Holding.{leader-as}
use Rattle.replica_core.proofs.Sends.{append-reaches}
use Rattle.replica_core.proofs.Sounds.{within-in, led-sound, sent-sound}
use Rattle.replica_core.specs.InRange.{IsLeadingInRange, IsRoleInRange}
use Rattle.replica_core.proofs.Ranged.{role-in, sent-led-in}
use Rattle.replica_core.proofs.Calls.{both_ok}
use Rattle.replica_core.proofs.holder.Holder.send_append.Goals as goal

pub send_append-requires : goal.send_append-requires
send_append-requires c =
    let h : Holder = c.args.self.now in
    let leads = subst (IsSoundRole (last_index h.log)) c.in-Leader.is c.requires.role in
    record { next = (within-in (last_index h.log) c.in-Leader.leading.progress c.args.peer leads.progress).next }

pub returns-in-Leader-clause-model : goal.returns-in-Leader-clause-model
returns-in-Leader-clause-model c = λ call r.
    let h : Holder = c.args.self.now in
    let s = call.state in
    let m = leader-as s.limit s.first c.in-Leader.leading s.role (subst (λ q. RoleAs s.limit s.first q s.role) c.in-Leader.is r.stands.role) in
    on_ok_weaker c.send_append.result
    (λ sends. append-reaches h c.send_append.new.self c.args.batch.now c.send_append.new.batch call m.0 c.args.peer r m.1.0 sends)
    (c.send_append.ensures.model s r.stands.log m.0 (sym r.stands.term) m.1.1)

pub returns-in-Leader-clause-sound : goal.returns-in-Leader-clause-sound
returns-in-Leader-clause-sound c =
    let h : Holder = c.args.self.now in
    let l : Leading = c.in-Leader.leading in
    let leads = subst (IsSoundRole (last_index h.log)) c.in-Leader.is c.requires.role in
    on_ok_weaker c.send_append.result
    (λ after. led-sound h c.send_append.new.self c.requires
    (subst (IsSoundLeading (last_index h.log)) (sym after) (sent-sound l h.log c.args.peer leads)))
    c.send_append.ensures.after

pub returns-in-Leader-clause-in_range : goal.returns-in-Leader-clause-in_range
returns-in-Leader-clause-in_range c = λ id ranged b.
    let h : Holder = c.args.self.now in
    let l : Leading = c.in-Leader.leading in
    let leads : IsLeadingInRange l = subst IsRoleInRange c.in-Leader.is ranged.role in
    both_ok c.send_append.result
    (λ after batch. (role-in h (kept.Leader c.send_append.new.self) ranged (subst IsLeadingInRange (sym after) (sent-led-in l h.log c.args.peer leads)), batch))
    c.send_append.ensures.after (c.send_append.ensures.in_range id c.requires.term ranged.entries b)
