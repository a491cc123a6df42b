-- Where clients are driven, what is played is a run of the events that were played.
use Rattle.std.proofs.Common.{refl}
use Rattle.record_cutting.specs.Lines.{records_of}
use Rattle.trace_model.specs.Claims.{DrivenIsARun}
use Rattle.play_walk.proofs.Driven.{any_event, driven_keeps}
use Rattle.headline_laws.proofs.Played.{IsRun, expanded_run}

pub driven_are_runs : DrivenIsARun
driven_are_runs link bytes = driven_keeps link (λ p. IsRun link p.group) (λ e. Unit {0}) any_event (λ p e fine good. expanded_run link p e good) (λ p good. good) _ refl (records_of bytes)
