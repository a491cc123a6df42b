use Rattle.std.proofs.Common.{◌≡◌, ◌+◌, Bool, [], cond, get_or, sym, ap, ◌∙◌, arith}
use Rattle.std.specs.Prelude.{is_ok}
use Rattle.std.proofs.lemmas.List.{get_or_default}
use Rattle.values.specs.declared.entry.Hash.{Hash}
use Rattle.link_tags.specs.declared.ends.Side.TheVariants.{Host}
use Rattle.link_tags.specs.Hmac.{hmac_of}
use Rattle.link_tags.specs.Ends.{text_of}
use Rattle.link_tags.proofs.Relayed.{many, tag_at, counts}
use Rattle.link_tags.proofs.relaying.relay.Goals.{then-is_ok, else-is_ok}
use Rattle.link_tags.proofs.relaying.relay.Goals as goal

pub index-requires : goal.index-requires
index-requires c =
    let long = many hmac_of c.args.key c.args.contents.now c.in_ok-tags.tags.items c.in_ok-tags.ensures in
    let sealed = c.requires.listed c.loop-number.number-index 0 c.loop-number-test.true in
    omega (arith, long, sealed)

pub loop-number-preserved : goal.loop-number-preserved
loop-number-preserved c =
    let key = c.args.key in
    let contents = c.args.contents.now in
    let order = c.args.order.now in
    let i = c.loop-number.number-index in
    let j = get_or order i 0 in
    let passed = c.loop-number.passed in
    let content = c.as_slice.result.now in
    let tag = c.index.result.now in
    let here = c.loop-number-test.true in
    let sealed = c.requires.listed i 0 here in
    let content_is : content ≡ get_or contents j [] =
    c.as_slice.ensures ∙ c.index-contents-place.is ∙ get_or_default contents j c.index-contents-place.result [] sealed in
    let tag_is : tag.0 ≡ hmac_of key (text_of Host j content) =
    ap (λ (t : Hash). t.0) c.index.ensures
    ∙ tag_at hmac_of key contents c.in_ok-tags.tags.items c.in_ok-tags.ensures j tag sealed
    ∙ ap (λ b. hmac_of key (text_of Host j b)) (sym content_is) in
    let chosen = λ (b : Bool). cond b (passed + 1) passed in
    let adds : c.if-is_ok.passed ≡ cond (is_ok c.check.result) (passed + 1) passed =
    elim c.if-is_ok.branch [
      | then-is_ok w ↦ w.passed-is ∙ ap chosen (sym w.if-is_ok.true ∙ c.is_ok.ensures.value)
      | else-is_ok w ↦ w.passed-is ∙ ap chosen (sym w.if-is_ok.false ∙ c.is_ok.ensures.value)
    ] in
    let counted = counts hmac_of key contents order i here sealed c.loop-number.enclave content tag.0 content_is tag_is
    c.check.result c.check.new.self passed c.if-is_ok.passed c.check.ensures.right c.check.ensures.end c.check.ensures.stays adds in
    record {
      counted = counted.all ∙ c.loop-number.invariant.counted;
      few = omega (arith, counted.one, c.loop-number.invariant.few);
      heard = omega (arith, counted.heard, c.loop-number.invariant.heard);
    }
