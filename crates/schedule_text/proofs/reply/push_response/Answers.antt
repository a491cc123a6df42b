use Rattle.schedule_text.proofs.Statuses.{no_field}
use Rattle.schedule_text.proofs.reply.push_response.Goals as goal

pub returns-in-Delete : goal.returns-in-Delete
returns-in-Delete c = rw (← no_field c.args.response.now c.in-Delete.is) c.in_ok-push_hex.ensures
