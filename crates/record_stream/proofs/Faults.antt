-- Where a fault is passed on, its cause stands.
use Rattle.std.proofs.Common.{arith, refl, sym, ap, ◌∙◌, ◌≡◌, ◌≢◌, ◌≤◌, ℕ, Result, Err}
use Rattle.byte_streams.specs.Causes.{HasCauseAt}
use Rattle.byte_streams.proofs.Rises.{Rose-after}
use Rattle.record_stream.specs.Steps.{ended_by}
use Rattle.record_stream.specs.declared.player.Stop.{Stop}
use Rattle.record_stream.specs.declared.player.Stop.TheVariants as stop
use Rattle.record_stream.specs.declared.source.Ended.{Ended}
use Rattle.record_stream.specs.declared.source.Ended.TheVariants as ended

-- an error that a call gives is passed on after others that lowered no count
pub cause_passed : {T U E : Type 0} (fault e : E) (a b c : ℕ) (q : Result T E) (r : Result U E)
    → a ≤ b → q ≡ Err e → r ≡ Err e → HasCauseAt fault b c q → HasCauseAt fault a c r
cause_passed fault e a b c q r le was is h = record {
  later = let later = h.later in omega arith;
  failed = λ same. let one : e ≡ fault = cc (sym is ∙ same) in Rose-after a b c le (h.failed (was ∙ ap Err one));
}

-- a player's stop is no fault of the source
pub stop_reads : {R : Type 0} (e : Stop R) (r : Ended R) → r ≡ ended_by e → r ≢ ended.ReadFault
stop_reads (stop.Stopped why) r is e = cc (sym is ∙ e)
stop_reads stop.Memory r is e = cc (sym is ∙ e)
stop_reads stop.Failed r is e = cc (sym is ∙ e)

-- nor one of the sink
pub stop_writes : {R : Type 0} (e : Stop R) (r : Ended R) → r ≡ ended_by e → r ≢ ended.WriteFault
stop_writes (stop.Stopped why) r is e = cc (sym is ∙ e)
stop_writes stop.Memory r is e = cc (sym is ∙ e)
stop_writes stop.Failed r is e = cc (sym is ∙ e)

-- and one of its own only where what it asked failed
pub stop_fails : {R : Type 0} (e : Stop R) (r : Ended R) → r ≡ ended_by e → r ≡ ended.Failed → e ≡ stop.Failed
stop_fails (stop.Stopped why) r is e = cc (sym is ∙ e)
stop_fails stop.Memory r is e = cc (sym is ∙ e)
stop_fails stop.Failed r is e = refl
