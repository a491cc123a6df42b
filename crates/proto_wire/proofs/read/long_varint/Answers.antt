use Rattle.std.proofs.Common.{◌≡◌, ◌+◌, ◌-◌, ◌*◌, ◌%◌, ◌^◌, ◌<◌, drop, get_or, sym, arith}
use Rattle.std.proofs.lemmas.List.{drop_more, drop_all}
use Rattle.proto_wire.proofs.NumberLemmas.{goes_on, ends, ends_tenth, too_long, is_cut, place_of, group_fits, group_in_64}
use Rattle.proto_wire.proofs.read.long_varint.Goals as goal

pub loop-i-preserved : goal.loop-i-preserved
loop-i-preserved c =
    let i = c.loop-i.i in
    let b = get_or c.args.bytes.now i 0 in
    let lt : i < 9 = omega arith in
    let group : c.from-in-loop-i.result ≡ b - 128 = omega arith in
    let placed : (c.from-in-loop-i.result * 2 ^ (7 * i)) % 2 ^ 64 ≡ c.from-in-loop-i.result * 2 ^ (7 * i) = place_of i c.from-in-loop-i.result lt (omega arith) in
    rw placed (record {
      few = omega arith;
      low = group_fits i c.loop-i.value c.from-in-loop-i.result lt c.loop-i.invariant.low (omega arith);
      whole = rw group (goes_on c.args.at i c.loop-i.value b (drop i c.args.bytes.now) (drop (i + 1) c.args.bytes.now) _ lt (drop_more c.args.bytes.now i 0 c.loop-i-test.true) (omega arith) c.loop-i.invariant.whole);
    })

pub returns-clause-exact : goal.returns-clause-exact
returns-clause-exact c = sym (is_cut c.args.at c.loop-i.i c.loop-i.value _ _ _ _ (drop_all c.loop-i.i c.args.bytes.now c.loop-i-test.false) c.loop-i.invariant.whole)

pub overflow_add-value : goal.overflow_add-value
overflow_add-value c =
    let i = c.loop-i.i in
    let lt : i < 9 = omega arith in
    let a = c.from-in-loop-i.result in
    let small : a < 128 = omega arith in
    let placed : (a * 2 ^ (7 * i)) % 2 ^ 64 ≡ a * 2 ^ (7 * i) = place_of i a lt small in
    let below : c.loop-i.value + a * 2 ^ (7 * i) < 2 ^ 64 = group_in_64 i (c.loop-i.value + a * 2 ^ (7 * i)) lt (group_fits i c.loop-i.value a lt c.loop-i.invariant.low small) in
    rw placed (omega arith)

pub returns-then-byte-gt1-clause-exact : goal.returns-then-byte-gt1-clause-exact
returns-then-byte-gt1-clause-exact c =
    let i = c.loop-i.i in
    sym (too_long c.args.at i c.loop-i.value _ (drop i c.args.bytes.now) (drop (i + 1) c.args.bytes.now) _ c.if-i-eq9.true (drop_more c.args.bytes.now i 0 c.loop-i-test.true) c.if-byte-gt1.true c.loop-i.invariant.whole)

pub returns-then-i-eq9-clause-exact : goal.returns-then-i-eq9-clause-exact
returns-then-i-eq9-clause-exact c =
    let i = c.loop-i.i in
    let b = get_or c.args.bytes.now i 0 in
    let placed : (c.from.result * 2 ^ 63) % 2 ^ 64 ≡ b * 2 ^ 63 = omega arith in
    rw placed (sym (ends_tenth c.args.at i c.loop-i.value b (drop i c.args.bytes.now) (drop (i + 1) c.args.bytes.now) _ c.if-i-eq9.true (drop_more c.args.bytes.now i 0 c.loop-i-test.true) c.if-byte-gt1.false c.loop-i.invariant.whole))

pub returns-then-byte-lt128-clause-exact : goal.returns-then-byte-lt128-clause-exact
returns-then-byte-lt128-clause-exact c =
    let i = c.loop-i.i in
    let b = get_or c.args.bytes.now i 0 in
    let lt : i < 9 = omega arith in
    let group : c.from-in-loop-i.result ≡ b = omega arith in
    let placed : (b * 2 ^ (7 * i)) % 2 ^ 64 ≡ b * 2 ^ (7 * i) = place_of i b lt (omega arith) in
    rw (group, placed) (sym (ends c.args.at i c.loop-i.value b (drop i c.args.bytes.now) (drop (i + 1) c.args.bytes.now) _ lt (drop_more c.args.bytes.now i 0 c.loop-i-test.true) (omega arith) c.loop-i.invariant.whole))
