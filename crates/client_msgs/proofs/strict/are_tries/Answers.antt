use Rattle.std.proofs.Common.{◌≤◌, get_or, arith}
use Rattle.std.proofs.lemmas.Bool.{eqb-true, eq-eqb}
use Rattle.client_msgs.proofs.StrictLemmas.{tries_in, tries-from_2, tries-from_3}
use Rattle.client_msgs.proofs.strict.are_tries.Goals as goal

pub returns-then-field-lt2-clause-all : goal.returns-then-field-lt2-clause-all
returns-then-field-lt2-clause-all c tries are is =
    let t = tries_in tries c.args.field.now are is in
    absurd (omega (arith, c.if-field-lt2.true, t.few))

pub returns-then-field-ne24-clause-all : goal.returns-then-field-ne24-clause-all
returns-then-field-ne24-clause-all c tries are is =
    let t = tries_in tries c.args.field.now are is in
    absurd (c.if-field-ne24.true t.tag)

pub returns-then-tries-eq0-clause-all : goal.returns-then-tries-eq0-clause-all
returns-then-tries-eq0-clause-all c tries are is =
    let t = tries_in tries c.args.field.now are is in
    absurd (omega (arith, c.if-tries-eq0.true, t.byte, are.0))

pub returns-then-tries-lt128-clause-told : goal.returns-then-tries-lt128-clause-told
returns-then-tries-lt128-clause-told c holds =
    let some : 1 ≤ get_or c.args.field.now 1 0 = omega (arith, c.if-tries-eq0.false) in
    tries-from_2 c.args.field.now (eqb-true _ _ holds) c.if-field-ne24.false some c.if-tries-lt128.true

pub returns-then-tries-lt128-clause-all : goal.returns-then-tries-lt128-clause-all
returns-then-tries-lt128-clause-all c tries are is =
    let t = tries_in tries c.args.field.now are is in
    eq-eqb _ _ (t.low (omega (arith, c.if-tries-lt128.true, t.byte)))

pub returns-then-field-ne3-clause-all : goal.returns-then-field-ne3-clause-all
returns-then-field-ne3-clause-all c tries are is =
    let t = tries_in tries c.args.field.now are is in
    absurd (c.if-field-ne3.true (t.high (omega (arith, c.if-tries-lt128.false, t.byte))).0)

pub returns-clause-told : goal.returns-clause-told
returns-clause-told c holds =
    let most : get_or c.args.field.now 1 0 ≤ 255 = omega (arith, c.type_inv.field 1) in
    tries-from_3 c.args.field.now c.if-field-ne3.false c.if-field-ne24.false c.if-tries-lt128.false most (eqb-true _ _ holds)

pub returns-clause-all : goal.returns-clause-all
returns-clause-all c tries are is =
    let t = tries_in tries c.args.field.now are is in
    eq-eqb _ _ (t.high (omega (arith, c.if-tries-lt128.false, t.byte))).1
