use Rattle.std.proofs.Common.{arith, ◌≡◌, []}
use Rattle.std.proofs.lemmas.Grind.{common_steps}
use Rattle.schedule_text.proofs.Statuses.{backup_member, expose_member, restore_member}
use Rattle.schedule_text.proofs.reply.status_response.Goals as goal

pub returns-in-Backup : goal.returns-in-Backup
returns-in-Backup c = backup_member _ c.args.response.now c.in-Backup.status c.in-Backup.is c.status_member.ensures

pub returns-then-tries-eq0 : goal.returns-then-tries-eq0
returns-then-tries-eq0 c =
    let empty : c.in-Restore.secret ≡ [] = grind (arith, common_steps) in
    restore_member _ c.args.response.now c.in-Restore.status c.in-Restore.secret c.in-Restore.tries c.in-Restore.is empty c.if-tries-eq0.true c.status_member-then-tries-eq0.ensures

pub returns-in-Expose : goal.returns-in-Expose
returns-in-Expose c = expose_member _ c.args.response.now c.in-Expose.status c.in-Expose.is c.status_member-in-Expose.ensures
