use Rattle.std.proofs.Common.{[], refl, arith}
use Rattle.std.proofs.KnownBytes.{Consumes-nil}
use Rattle.trace_audit.proofs.Taking.{nothing_taken}
use Rattle.trace_audit.proofs.source.audit_source.Goals as goal

pub returns-in_default-clause-ends : goal.returns-in_default-clause-ends
returns-in_default-clause-ends g c =
    ([], Consumes-nil _, record { before = []; piece = []; parts = refl; short = omega arith; passed = nothing_taken; room = omega arith })
