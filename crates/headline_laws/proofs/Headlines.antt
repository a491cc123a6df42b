-- The laws of runs, over the worlds of schedules.
use Rattle.std.proofs.Common.{◌≡◌, List, sym, subst, arith}
use Rattle.values.specs.declared.event.Event.{Event}
use Rattle.replica_model.specs.Path.{Link}
use Rattle.group_model.specs.Run.{World, run}
use Rattle.group_model.specs.Log.{WithinBound, NoCollision}
use Rattle.group_model.specs.Laws.{OneLog, OneLogLaws, ActsOnce}
use Rattle.group_model.specs.Reports.{ReportsFollow}
use Rattle.trace_model.specs.Claims.{ClosingTells}
use Rattle.headline_laws.specs.Printed.{HoldsAsPrinted}
use Rattle.headline_laws.specs.Reported.{ReportsFollowIn}

-- of any world that is a run's
module _ (link : Link) (w : World) (events : List Event) (is : w ≡ run link events) where
  pub laws_in : OneLog → WithinBound w → NoCollision link w → OneLogLaws w
  laws_in laws bound none =
      subst OneLogLaws (sym is) (laws link events (subst WithinBound is bound) (subst (NoCollision link) is none))

  pub reports_in : ReportsFollow → ReportsFollowIn link w
  reports_in laws =
      subst (ReportsFollowIn link) (sym is) (λ bound none c only. laws link events c bound none only)

  -- the bound as it is printed
  pub printed_in : OneLog → ClosingTells (run link events) → HoldsAsPrinted link w
  printed_in laws tells within none =
      let closing = subst ClosingTells (sym is) tells in
      (laws_in laws (closing.bound.0 within) none, closing.log)

-- where numbers rise, each acts at most once
pub acts_once : (w : World) → OneLogLaws w → ActsOnce w
acts_once w laws i k a b at_i at_k client number acts_i acts_k known before =
    let rises = laws.numbers i k a b before at_i at_k client acts_i acts_k known in omega (arith, rises, number)
