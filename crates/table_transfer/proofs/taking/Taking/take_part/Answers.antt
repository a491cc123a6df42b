use Rattle.std.proofs.Common.{◌≡◌, ◌+◌, rules, None, subst, sym, ap, ◌∙◌, true, cond}
use Rattle.std.specs.Prelude.{Option, Some, ◌==◌}
use Rattle.table_transfer.specs.declared.taking.TakePart.{TakePart}
use Rattle.table_transfer.specs.declared.taking.TakePart.TheVariants.{Taken, Whole, Other}
use Rattle.table_transfer.specs.TakenParts.{TakenParts, expected_point, expected_next, is_expected, with_part, table_of, taken_on, take_part}
use Rattle.table_transfer.specs.Taken.{TakesAs}
use Rattle.table_transfer.proofs.OfPath.{takes_as}
use Rattle.table_transfer.proofs.taking.Taking.take_part.Goals as goal

pub returns-then-next-parts-clause-of_path : goal.returns-then-next-parts-clause-of_path
returns-then-next-parts-clause-of_path c = λ link taking names takes is_true on.
    let now : Option TakenParts × TakePart = (None, Whole c.in_ok-table.table) in
    let goes_on = with_part c.args.self.now c.args.part.now in
    let stays : Option TakenParts × TakePart = (c.args.self.now, Other (expected_point c.args.self.now) (expected_next c.args.self.now)) in
    let takes_more : Option TakenParts × TakePart = (Some goes_on, Taken goes_on.next) in
    let yes : is_expected c.args.self.now c.args.part.now ≡ true = search rules in
    let last : (c.args.part.now.part + 1 == c.args.part.now.parts) ≡ true = search rules in
    let whole : c.in_ok-table.table ≡ table_of goes_on = search rules in
    let is : now ≡ take_part c.args.self.now c.args.part.now =
    (λ i. (None, Whole (whole i)))
    ∙ sym (ap (λ b. cond b (taken_on goes_on c.args.part.now) stays) yes ∙ ap (λ b. cond b (None, Whole (table_of goes_on)) takes_more) last) in
    subst (λ r. TakesAs link taking c.args.part.now names r.0 r.1) (sym is) (takes_as c.tables_of_paths.ensures.again link taking names c.args.part.now is_true c.args.self.now takes on)

pub returns-clause-of_path : goal.returns-clause-of_path
returns-clause-of_path c = λ link taking names takes is_true on.
    let now : Option TakenParts × TakePart = (c.keep.new.self, Taken (c.args.part.now.part + 1)) in
    let is : now ≡ take_part c.args.self.now c.args.part.now = search rules in
    subst (λ r. TakesAs link taking c.args.part.now names r.0 r.1) (sym is) (takes_as c.tables_of_paths.ensures.again link taking names c.args.part.now is_true c.args.self.now takes on)
