use Rattle.std.proofs.Common.{◌≡◌, sym, ◌∙◌, arith}
use Rattle.std.proofs.lemmas.Grind.{common_steps}
use Rattle.values.specs.declared.message.Response.TheVariants.{Restore}
use Rattle.trace_audit.proofs.Written.{differ}
use Rattle.trace_audit.proofs.same.same_response.Goals as goal
use Rattle.trace_audit.proofs.same.same_response.Goals.{then-a-b, else-a-b}

pub returns-else-left-tries : goal.returns-else-left-tries
returns-else-left-tries c =
    let f = c.in-Restore-Restore in
    c.if-left-tries.false
    ∙ differ c.responses_are_read_again.ensures c.args.a.now c.args.b.now c.fits.ensures c.fits-2.ensures (λ e.
    let same : Restore f.a f.kept f.left ≡ Restore f.b f.secret f.tries = sym f.is-0 ∙ e ∙ f.is-1 in
    let status : f.a ≡ f.b = cc in
    let tries : f.left ≡ f.tries = cc in
    elim c.if-a-b.branch [ then-a-b w ↦ grind (arith, common_steps) | else-a-b w ↦ grind (arith, common_steps) ])

pub returns-in_default : goal.returns-in_default
returns-in_default c =
    differ c.responses_are_read_again.ensures c.args.a.now c.args.b.now c.fits.ensures c.fits-2.ensures
    (λ e. c.in_default.not-Backup-1 c.in_default.field-0-0 (sym e ∙ c.in_default.is-0))

pub returns-in_default-2 : goal.returns-in_default-2
returns-in_default-2 c =
    differ c.responses_are_read_again.ensures c.args.a.now c.args.b.now c.fits.ensures c.fits-2.ensures
    (λ e. c.in_default.not-Restore-1 c.in_default.field-0-0 c.in_default.field-1-0 c.in_default.field-2-0 (sym e ∙ c.in_default.is-0))

pub returns-in_default-3 : goal.returns-in_default-3
returns-in_default-3 c =
    differ c.responses_are_read_again.ensures c.args.a.now c.args.b.now c.fits.ensures c.fits-2.ensures
    (λ e. c.in_default.not-Delete-1 (sym e ∙ c.in_default.is-0))

pub returns-in_default-4 : goal.returns-in_default-4
returns-in_default-4 c =
    differ c.responses_are_read_again.ensures c.args.a.now c.args.b.now c.fits.ensures c.fits-2.ensures
    (λ e. c.in_default.not-Expose-1 c.in_default.field-0-0 (sym e ∙ c.in_default.is-0))
