-- Where clients are driven, the enclaves stand as those of a run too.
use Rattle.std.proofs.Common.{List, [], refl}
use Rattle.record_cutting.specs.Lines.{Record}
use Rattle.replica_model.specs.Path.{Link}
use Rattle.group_model.specs.Run.{empty_world}
use Rattle.trace_model.specs.Driver.{new_driver}
use Rattle.trace_model.specs.Trace.{playing}
use Rattle.part_laws.specs.Named.{DrivenCallsAreNamed, driven_from}
use Rattle.part_laws.proofs.Played.{Stands, counted_stands, expanded_ends, of_run}
use Rattle.play_walk.proofs.Driven.{any_event, driven_keeps}

driven_stands : (link : Link) (records : List Record) → Stands link (driven_from link records).playing
driven_stands link records =
    driven_keeps link (Stands link) (λ e. Unit {0}) any_event (λ p e fine good. expanded_ends link p e good) (counted_stands link)
    (record { playing = playing empty_world; driver = new_driver 0 }) (record { group = ([], refl); stands = ([], refl) }) records

pub driven_calls_are_named : DrivenCallsAreNamed
driven_calls_are_named link records none =
    of_run link (driven_from link records).playing.group (driven_from link records).playing.stands (driven_stands link records).stands none
