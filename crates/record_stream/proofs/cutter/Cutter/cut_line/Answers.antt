use Rattle.std.proofs.Common.{arith, rules, refl, sym, ap, ◌∙◌, [], length}
use Rattle.memchr.proofs.lemmas.FindLemmas.{Nowhere-more, Nowhere-then}
use Rattle.record_stream.specs.Plain.{cells}
use Rattle.record_stream.proofs.Walks.{between_rest, comma_plain, cut_last, cut_more, no_other, plain_then}
use Rattle.record_stream.proofs.cutter.Cutter.cut_line.Goals as goal

pub loop-at-preserved-in-44 : goal.loop-at-preserved-in-44
loop-at-preserved-in-44 c =
    let inv = c.loop-at.invariant in
    let piece = c.args.self.now.piece.now in
    let begin = c.args.self.now.from in
    let start = c.loop-at.start in
    let at = c.in-Some.at in
    let place = rw inv.same at c.in-Some.ensures.place in
    let nothing = Nowhere-then inv.nothing place.before in
    record {
      same = c.in-Some.ensures.same ∙ inv.same;
      low = omega (arith, inv.low, inv.high, place.low);
      high = omega (arith, c.in-Some.ensures.past);
      plain =
          rw c.in-Some.ensures.past
          (Nowhere-more (Nowhere-then inv.plain (no_other piece c.loop-at.self.from at place.before)) (comma_plain piece at c.in-44.is));
      nothing = λ k low high p. absurd (omega (arith, c.in-Some.ensures.past));
      so_far =
          rw c.in_ok-push-in-44.ensures.items
          (cut_more piece begin start at inv.low (omega (arith, inv.high, place.low)) (omega (arith, place.high)) nothing c.loop-at.fields.items _ refl inv.so_far place.high c.in-44.is);
    }

pub returns-in-10-clause-cuts : goal.returns-in-10-clause-cuts
returns-in-10-clause-cuts c =
    let inv = c.loop-at.invariant in
    let piece = c.args.self.now.piece.now in
    let begin = c.args.self.now.from in
    let at = c.in-Some.at in
    let place = rw inv.same at c.in-Some.ensures.place in
    let nothing = Nowhere-then inv.nothing place.before in (
      record {
        low = omega (arith, inv.low, inv.high, place.low);
        high = place.high;
        plain = plain_then piece begin c.loop-at.self.from at (omega (arith, place.high)) inv.plain place.before;
        feed = c.in-10.is;
      },
      c.in-Some.ensures.past,
      rw c.in_ok-push-in-10.ensures.items
          (cut_last piece begin c.loop-at.start at inv.low (omega (arith, inv.high, place.low)) (omega (arith, place.high)) nothing c.loop-at.fields.items _ refl inv.so_far),
    )

pub returns-clause-cuts : goal.returns-clause-cuts
returns-clause-cuts c =
    let inv = c.loop-at.invariant in
    let piece = c.args.self.now.piece.now in
    let begin = c.args.self.now.from in
    let none = rw inv.same at c.in_default.ensures.place in
    let within = rw inv.same at c.loop-at.self.walked.within in
    let plain = plain_then piece begin c.loop-at.self.from (length piece) (omega arith) inv.plain none in (
      rw (between_rest piece begin) at plain,
      rw c.in_ok-push.ensures.items
          (cut_last piece begin c.loop-at.start (length piece) inv.low (omega (arith, inv.high, within)) (omega arith) (Nowhere-then inv.nothing none) c.loop-at.fields.items _ refl inv.so_far
          ∙ ap (cells []) (between_rest piece begin)),
    )

pub returns-in_default-piece-clause-cuts : goal.returns-in_default-piece-clause-cuts
returns-in_default-piece-clause-cuts c =
    let inv = c.loop-at.invariant in
    let piece = c.args.self.now.piece.now in
    let begin = c.args.self.now.from in
    let at = c.in-Some.at in
    let place = rw inv.same at c.in-Some.ensures.place in (
      at,
      record {
        low = omega (arith, inv.low, inv.high, place.low);
        high = place.high;
        plain = plain_then piece begin c.loop-at.self.from at (omega (arith, place.high)) inv.plain place.before;
        other = sym c.if-not-is_plain.ensures;
        inside = search rules;
      },
    )
