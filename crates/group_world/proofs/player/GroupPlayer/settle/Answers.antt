use Rattle.std.proofs.Common.{arith, refl, sym, ap, subst, ◌∙◌, ◌≡◌, ◌-◌, ◌+◌, ◌++◌, ℕ, suc, [], Err, append-nil, append_assoc}
use Rattle.std.proofs.lemmas.Result.{err_from_is_err_and}
use Rattle.group_world.specs.Openings.{gains_none, gains_then}
use Rattle.group_world.proofs.Pieces.{Delivered, deliveries_done, deliveries_end, delivery_stops, none_delivered, one_delivered}
use Rattle.group_world.proofs.player.GroupPlayer.settle.Goals as goal

pub loop-init : goal.loop-init
loop-init g c =
    let w = c.args.self.now.world in
    let map = g.F.Field.map c.args.self.now.field in
    let most = c.args.most in
    let all : most ≡ most - 0 = omega arith in
    record {
      so_far = ([], gains_none _, [], sym (append-nil _), subst (λ (n : ℕ). Delivered most w w map map [] [] n) all (none_delivered most w map));
      can = c.requires.can;
      low = omega arith;
      records = refl;
      faults = omega arith;
    }

pub returns-in_default-clause-writes : goal.returns-in_default-clause-writes
returns-in_default-clause-writes g c =
    let (given, gained, text, grown, d) = c.loop.invariant.so_far in
    let most = c.args.most in
    let left = most - (c.loop.counter + 1) in
    let step : most - c.loop.counter ≡ suc left = omega (arith, c.loop-test.true) in
    let w = c.args.self.now.world in
    let w1 = c.loop.self.world in
    let map = g.F.Field.map c.args.self.now.field in
    let map1 = g.F.Field.map c.loop.self.field in
    (given, gained, (text, grown, deliveries_end most w w1 map map1 given text left (subst (λ (n : ℕ). Delivered most w w1 map map1 given text n) step d) c.in_default.ensures.model))

pub returns-in_err-play_event-clause-writes : goal.returns-in_err-play_event-clause-writes
returns-in_err-play_event-clause-writes g c =
    let p = err_from_is_err_and c.from_residual.result c.from_residual.ensures.1 in
    let (given, gained, text, grown, d) = c.loop.invariant.so_far in
    let (more, gains, writes) = c.play_event.ensures.writes in
    let most = c.args.most in
    let left = most - (c.loop.counter + 1) in
    let step : most - c.loop.counter ≡ suc left = omega (arith, c.loop-test.true) in
    let w = c.args.self.now.world in
    let w1 = c.loop.self.world in
    let map = g.F.Field.map c.args.self.now.field in
    let map1 = g.F.Field.map c.loop.self.field in (
      given ++ more,
      gains_then _ _ _ given more gained gains,
      delivery_stops most w w1 map map1 given text left (subst (λ (n : ℕ). Delivered most w w1 map map1 given text n) step d) c.in-Some.message c.in-Some.ensures.model c.play_event.new.self.world
          (g.F.Field.map c.play_event.new.self.field) more _ _ _ _ c.play_event.result c.from_residual.result c.in_err-play_event.was (p.1 ∙ ap Err p.2) grown writes,
    )

pub loop-preserved : goal.loop-preserved
loop-preserved g c =
    let inv = c.loop.invariant in
    let (given, gained, text, grown, d) = inv.so_far in
    let (more, gains, (t, grown_more, plays)) = c.in_ok-play_event.ensures.writes in
    let most = c.args.most in
    let left = most - (c.loop.counter + 1) in
    let step : most - c.loop.counter ≡ suc left = omega (arith, c.loop-test.true) in
    let w = c.args.self.now.world in
    let w1 = c.loop.self.world in
    let map = g.F.Field.map c.args.self.now.field in
    let map1 = g.F.Field.map c.loop.self.field in
    record {
      so_far = (
        given ++ more,
        gains_then _ _ _ given more gained gains,
        text ++ t,
        grown_more ∙ ap (λ l. l ++ t) grown ∙ append_assoc _ text t,
        one_delivered most w w1 map map1 given text left (subst (λ (n : ℕ). Delivered most w w1 map map1 given text n) step d) c.in-Some.message c.in-Some.ensures.model c.play_event.new.self.world
            (g.F.Field.map c.play_event.new.self.field) more t plays,
      );
      can = c.in_ok-play_event.ensures.can;
      low = omega (arith, c.loop-test.true);
      records = c.play_event.ensures.records ∙ inv.records;
      faults = omega (arith, inv.faults, c.play_event.ensures.cause.later);
    }

pub returns-clause-writes : goal.returns-clause-writes
returns-clause-writes g c =
    let inv = c.loop.invariant in
    let (given, gained, text, grown, d) = inv.so_far in
    let most = c.args.most in
    let none : most - c.loop.counter ≡ 0 = omega (arith, c.loop-test.false, inv.low) in
    let w = c.args.self.now.world in
    let w1 = c.loop.self.world in
    let map = g.F.Field.map c.args.self.now.field in
    let map1 = g.F.Field.map c.loop.self.field in
    (given, gained, (text, grown, deliveries_done most w w1 map map1 given text (subst (λ (n : ℕ). Delivered most w w1 map map1 given text n) none d)))
