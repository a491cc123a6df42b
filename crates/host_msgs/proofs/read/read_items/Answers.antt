use Rattle.std.proofs.Common.{◌≡◌, ℕ, ◌<◌, length}
use Rattle.host_msgs.specs.Batches.{next_in, none_yet}
use Rattle.host_msgs.proofs.Walks.{begins, goes_on, stops, ends, next_some, next_none, next_shorter, reads_whole, reads_lost, some_left, none_left}
use Rattle.host_msgs.proofs.read.read_items.Goals as goal

pub loop-rest-init : goal.loop-rest-init
loop-rest-init c = (none_yet, c.new-reading.ensures, begins c.args.content.now)

pub loop-rest-preserved : goal.loop-rest-preserved
loop-rest-preserved c =
    let rest = c.loop-rest.rest.now in
    let some : 0 < length rest = some_left (length rest) c.is_empty.result c.is_empty.ensures c.loop-rest-test.true in
    let g = c.loop-rest.invariant.0 in
    let there = next_in g rest in
    let next = next_some (λ b. b.now) c.next.result c.in-Some.behind c.next.new.self there c.in-Some.is (c.next.ensures.next g c.loop-rest.invariant.1) in
    let short = next_shorter (λ b. b.now) c.next.result c.in-Some.behind (length rest) c.in-Some.is c.next.ensures.shorter in
    (next.0, next.2, goes_on c.args.content.now rest c.in-Some.behind.now g next.0 c.loop-rest.invariant.2 some next.1 short)

pub returns-in-None : goal.returns-in-None
returns-in-None c =
    let rest = c.loop-rest.rest.now in
    let some : 0 < length rest = some_left (length rest) c.is_empty.result c.is_empty.ensures c.loop-rest-test.true in
    let g = c.loop-rest.invariant.0 in
    stops c.args.content.now rest g c.loop-rest.invariant.2 some (next_none (λ b. b.now) c.next.result c.next.new.self (next_in g rest) c.in-None.is (c.next.ensures.next g c.loop-rest.invariant.1))

pub returns-then-reading : goal.returns-then-reading
returns-then-reading c =
    let rest = c.loop-rest.rest.now in
    let g = c.loop-rest.invariant.0 in
    reads_lost g _ (ends c.args.content.now rest g c.loop-rest.invariant.2 (none_left (length rest) c.is_empty.result c.is_empty.ensures c.loop-rest-test.false))

pub returns : goal.returns
returns c =
    let rest = c.loop-rest.rest.now in
    let g = c.loop-rest.invariant.0 in
    reads_whole c.loop-rest.reading g _ c.loop-rest.invariant.1 c.if-reading.false (ends c.args.content.now rest g c.loop-rest.invariant.2 (none_left (length rest) c.is_empty.result c.is_empty.ensures c.loop-rest-test.false))
