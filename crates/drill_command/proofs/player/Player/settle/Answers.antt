use Rattle.std.proofs.Common.{arith, subst, ◌≡◌, ◌-◌, ◌+◌, ℕ, suc}
use Rattle.drill_command.proofs.Steps.{Left, none_left, none_next, one_delivered}
use Rattle.drill_command.proofs.player.Player.settle.Goals as goal

pub loop-init : goal.loop-init
loop-init c =
    let d = c.args.self.now in
    let most = c.args.most in
    let all : most ≡ most - 0 = omega arith in
    record {
      left = subst (λ (n : ℕ). Left d d most n) all (λ whole next is_whole keeps st. st);
      live = c.requires;
      low = omega arith;
    }

pub returns-in_default-clause-goes : goal.returns-in_default-clause-goes
returns-in_default-clause-goes c =
    let d = c.args.self.now in
    let most = c.args.most in
    let left = most - (c.loop.counter + 1) in
    let step : most - c.loop.counter ≡ suc left = omega (arith, c.loop-test.true) in
    none_next d c.loop.self most left (subst (λ (n : ℕ). Left d c.loop.self most n) step c.loop.invariant.left) c.in_default.ensures.model

pub returns-in_default-clause-live : goal.returns-in_default-clause-live
returns-in_default-clause-live c = c.loop.invariant.live

pub loop-preserved : goal.loop-preserved
loop-preserved c =
    let d = c.args.self.now in
    let most = c.args.most in
    let left = most - (c.loop.counter + 1) in
    let step : most - c.loop.counter ≡ suc left = omega (arith, c.loop-test.true) in
    record {
      left = one_delivered d c.loop.self most left (subst (λ (n : ℕ). Left d c.loop.self most n) step c.loop.invariant.left) c.play_event.new.self c.in-Some.message c.in-Some.ensures.model c.in_ok-play_event.ensures.goes;
      live = c.in_ok-play_event.ensures.live;
      low = omega (arith, c.loop-test.true);
    }

pub returns-clause-goes : goal.returns-clause-goes
returns-clause-goes c =
    let d = c.args.self.now in
    let most = c.args.most in
    let none : most - c.loop.counter ≡ 0 = omega (arith, c.loop-test.false, c.loop.invariant.low) in
    none_left d c.loop.self most (subst (λ (n : ℕ). Left d c.loop.self most n) none c.loop.invariant.left)
