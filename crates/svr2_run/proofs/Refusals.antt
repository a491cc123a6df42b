-- No play of a group and no session ends as a refused trace.
use Rattle.std.proofs.Common.{◌≡◌, ◌≢◌, ◌∙◌, sym}
use Rattle.group_world.specs.declared.schedule.Played.{Played}
use Rattle.group_world.specs.declared.schedule.Played.TheVariants as played
use Rattle.replica_server.specs.declared.served.Served.{Served}
use Rattle.replica_server.specs.declared.served.Served.TheVariants as served
use Rattle.svr2_run.specs.Run.{status_played}
use Rattle.svr2_run.specs.Sessions as sessions
use Rattle.svr2_run.specs.declared.exit.Status.{Status}
use Rattle.svr2_run.specs.declared.exit.Status.TheVariants as status

pub replay_refuses : (r : Played) (s : Status) → s ≡ status_played r → s ≢ status.Refused
replay_refuses played.Done s is f = cc (sym is ∙ f)
replay_refuses played.Memory s is f = cc (sym is ∙ f)
replay_refuses (played.Schedule line cause at) s is f = cc (sym is ∙ f)
replay_refuses played.ReadFault s is f = cc (sym is ∙ f)
replay_refuses played.WriteFault s is f = cc (sym is ∙ f)
replay_refuses played.FieldFault s is f = cc (sym is ∙ f)
replay_refuses (played.Limit which) s is f = cc (sym is ∙ f)
replay_refuses (played.Frame at) s is f = cc (sym is ∙ f)

pub session_refuses : (r : Served) (s : Status) → s ≡ sessions.status_of r → s ≢ status.Refused
session_refuses served.Done s is f = cc (sym is ∙ f)
session_refuses served.Memory s is f = cc (sym is ∙ f)
session_refuses served.ReadFault s is f = cc (sym is ∙ f)
session_refuses served.WriteFault s is f = cc (sym is ∙ f)
session_refuses (served.Frame at why) s is f = cc (sym is ∙ f)
session_refuses served.Limit s is f = cc (sym is ∙ f)
