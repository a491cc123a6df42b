use Rattle.std.proofs.Common.{arith, ◌≡◌, length}
use Rattle.schedule_text.proofs.Hexadecimals.{decoded, next_broken, next_read}
use Rattle.schedule_text.proofs.hexadecimal.decode_each.Goals as goal

pub loop-i-init : goal.loop-i-init
loop-i-init c = record { read = λ e i least none. absurd (omega arith); broken = λ e. cc e }

pub loop-i-preserved : goal.loop-i-preserved
loop-i-preserved c =
    let inv = c.loop-i.invariant in
    let high = c.digit_value-high in
    let low = c.digit_value-low in
    record {
      read = next_read c.loop-i.whole c.args.text.now c.loop-i.out c.loop-i.i high.result low.result (omega arith) high.ensures low.ensures inv.read;
      broken = next_broken c.loop-i.whole c.args.text.now c.loop-i.i high.result low.result (omega arith) high.ensures low.ensures inv.broken;
    }

pub returns : goal.returns
returns c =
    let end : c.loop-i.i ≡ length c.loop-i.out = omega arith in
    decoded c.loop-i.whole c.args.text.now c.loop-i.out (omega arith) (rw end at c.loop-i.invariant.read) c.loop-i.invariant.broken
