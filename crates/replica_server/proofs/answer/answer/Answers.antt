use Rattle.std.proofs.Common.{◌≡◌, ◌+◌, ◌++◌, Err, drop, length, ap, subst, sym, ◌∙◌, arith}
use Rattle.std.specs.Int.{w32, to_be_bytes}
use Rattle.replica_server.specs.Answering.{Answers}
use Rattle.replica_server.proofs.Answered.{all_written, answer_failed, answer_long, answer_whole}
use Rattle.replica_server.proofs.answer.answer.Goals as goal

pub returns-in-Err-clause-answers : goal.returns-in-Err-clause-answers
returns-in-Err-clause-answers g c = λ names before stands by_map.
    let tagging = g.T.Tags.tagging c.args.tags.now in
    let right = sym (c.check.ensures.right c.args.number c.requires.stands) ∙ c.if-not-check.false in
    subst (λ f. Answers tagging names before c.args.content.now c.args.number c.args.tag.now c.hand.new.enclave c.hand.new.out.items (Err f)) (sym c.from.ensures)
    (answer_failed tagging names before c.args.content.now c.args.number c.args.tag.now right c.hand.new.enclave c.extend_from_slice.new.self.items c.hand.new.out.items c.hand.new.out.items c.in-Err.why
    (c.in-Err.ensures.hands tagging names before stands by_map))

pub returns-then-size-clause-answers : goal.returns-then-size-clause-answers
returns-then-size-clause-answers g c = λ names before stands by_map.
    let tagging = g.T.Tags.tagging c.args.tags.now in
    let right = sym (c.check.ensures.right c.args.number c.requires.stands) ∙ c.if-not-check.false in
    answer_long tagging names before c.args.content.now c.args.number c.args.tag.now right c.hand.new.enclave c.extend_from_slice.new.self.items c.hand.new.out.items c.hand.new.out.items c.in-Some.size
    (omega (arith, c.in_ok-extend_from_slice.ensures.len, c.clear.ensures.len)) (omega (arith, c.in-Some.ensures.0, c.in-Some.ensures.1, c.len.ensures)) c.if-size.true
    (c.in_default.ensures.hands tagging names before stands by_map)

pub returns-clause-answers : goal.returns-clause-answers
returns-clause-answers g c = λ names before stands by_map.
    let tagging = g.T.Tags.tagging c.args.tags.now in
    let right = sym (c.check.ensures.right c.args.number c.requires.stands) ∙ c.if-not-check.false in
    let tagged = c.in_ok-push_tag.ensures.tag (c.args.number + 1) (c.check.ensures.goes_on c.args.number c.requires.stands c.if-not-check.false) in
    let old = c.hand.new.out in
    let put = c.put_length.new.out in
    let header : put ≡ to_be_bytes w32 c.in-Some.size ++ drop 4 old.items = c.put_length.ensures ∙ ap (λ xs. to_be_bytes w32 c.in-Some.size ++ drop 4 xs) c.as_mut_slice.ensures.value in
    let long : length put ≡ length old.items = c.put_length.auto.out ∙ ap length c.as_mut_slice.ensures.value in
    let whole = all_written old.len put old.items long (omega (arith, long, old.ok)) in
    answer_whole tagging names before c.args.content.now c.args.number c.args.tag.now right c.hand.new.enclave c.extend_from_slice.new.self.items old.items put
    c.push_tag.new.out.items c.in-Some.size (g.T.Tags.tagging c.check.new.self)
    (omega (arith, c.in_ok-extend_from_slice.ensures.len, c.clear.ensures.len)) (omega (arith, c.in-Some.ensures.0, c.in-Some.ensures.1, c.len.ensures)) c.if-size.false
    (c.in_default.ensures.hands tagging names before stands by_map)
    header c.check.ensures.same
    (subst (λ xs. c.push_tag.new.out.items ≡ xs ++ (g.T.Tags.tagging c.check.new.self).tag_of c.args.number (drop 4 xs)) whole tagged)

pub check-requires-clause-stands : goal.check-requires-clause-stands
check-requires-clause-stands g c = (c.args.number, c.requires.stands)

pub push_tag-requires-clause-stands : goal.push_tag-requires-clause-stands
push_tag-requires-clause-stands g c = (c.args.number + 1, c.check.ensures.goes_on c.args.number c.requires.stands c.if-not-check.false)
