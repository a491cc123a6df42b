use Rattle.std.proofs.Common.{◌∙◌, rules, tests}
use Rattle.std.proofs.lemmas.Bool.{ne_eqb}
use Rattle.std.proofs.lemmas.Iterator.{YieldsList-from_slice, YieldsList-from_zip}
use Rattle.std.proofs.lemmas.Iterator.Search.{all_from_yields_List}
use Rattle.trace_lines.specs.Kinds.{fits_field}
use Rattle.trace_lines.proofs.Counts.{fits_unequal, fits_zip}
use Rattle.trace_lines.proofs.kind.fits.Goals as goal

pub returns-then-kinds-fields : goal.returns-then-kinds-fields
returns-then-kinds-fields c =
    all_from_yields_List (λ p. fits_field p.0 p.1.now) c.all.new.self _ c.all.result c.all.ensures.ran
    (YieldsList-from_zip (YieldsList-from_slice c.args.kinds.now cc) (YieldsList-from_slice c.args.fields.now cc)) (λ x b q k. search (rules, tests))
    ∙ fits_zip c.args.kinds.now c.args.fields.now c.if-kinds-fields.true

pub returns-else-kinds-fields : goal.returns-else-kinds-fields
returns-else-kinds-fields c =
    ne_eqb _ _ c.if-kinds-fields.false
    ∙ fits_unequal c.args.kinds.now c.args.fields.now c.if-kinds-fields.false
