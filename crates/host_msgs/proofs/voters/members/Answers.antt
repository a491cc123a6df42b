use Rattle.host_msgs.proofs.Configurations.{members_many}
use Rattle.host_msgs.proofs.voters.members.Goals as goal

pub returns-in_default-short_u32s : goal.returns-in_default-short_u32s
returns-in_default-short_u32s c = members_many c.args.content.now c.in-Some.index c.in-Some.margin c.in-Some.ids.now c.in-Some.ensures c.in_default-short_u32s.ensures.none
