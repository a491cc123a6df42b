use Rattle.std.proofs.Common.{sym, ◌∙◌, arith}
use Rattle.std.proofs.lemmas.List.{take_rest}
use Rattle.client_msgs.proofs.StrictLemmas.{backup-tagged, restore-tagged, expose-tagged, delete-tagged, not-canonical, tag-known}
use Rattle.client_msgs.proofs.strict.is_canonical_request.Goals as goal

pub returns-then-bytes-lt2 : goal.returns-then-bytes-lt2
returns-then-bytes-lt2 c = not-canonical c.args.bytes.now (λ request spells. omega (arith, c.if-bytes-lt2.true, spells.long))

pub returns-then-from-bytes : goal.returns-then-from-bytes
returns-then-from-bytes c = not-canonical c.args.bytes.now (λ request spells. c.if-from-bytes.true (c.from.ensures ∙ spells.len))

pub returns-in-18 : goal.returns-in-18
returns-in-18 c =
    backup-tagged c.args.bytes.now c.if-bytes-lt2.false (sym c.from.ensures ∙ c.if-from-bytes.false) c.is_backup.result _ c.in-18.is (take_rest c.args.bytes.now 2) c.is_backup.ensures.told c.is_backup.ensures.all

pub returns-in-26 : goal.returns-in-26
returns-in-26 c =
    restore-tagged c.args.bytes.now c.if-bytes-lt2.false (sym c.from.ensures ∙ c.if-from-bytes.false) c.is_restore.result _ c.in-26.is (take_rest c.args.bytes.now 2) c.is_restore.ensures.told c.is_restore.ensures.all

pub returns-in-34 : goal.returns-in-34
returns-in-34 c =
    delete-tagged c.args.bytes.now c.if-bytes-lt2.false (sym c.from.ensures ∙ c.if-from-bytes.false) c.is_empty.result _ c.in-34.is (take_rest c.args.bytes.now 2) c.is_empty.ensures

pub returns-in-42 : goal.returns-in-42
returns-in-42 c =
    expose-tagged c.args.bytes.now c.if-bytes-lt2.false (sym c.from.ensures ∙ c.if-from-bytes.false) c.is_expose.result _ c.in-42.is (take_rest c.args.bytes.now 2) c.is_expose.ensures.told c.is_expose.ensures.all

pub returns-in_default : goal.returns-in_default
returns-in_default c =
    not-canonical c.args.bytes.now (λ request spells. tag-known request c.args.bytes.now spells (λ e. omega (arith, e)) (λ e. omega (arith, e)) (λ e. omega (arith, e)) (λ e. omega (arith, e)))
