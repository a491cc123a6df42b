use Rattle.std.proofs.Common.{arith, sym, ap, subst, ◌∙◌, ◌≡◌, ◌+◌, ◌*◌, ◌++◌, Bool, List}
use Rattle.values.specs.declared.event.Event.{Event}
use Rattle.sha2.specs.Sha256.{sha256}
use Rattle.schedule_model.specs.Drill.{drill_events}
use Rattle.schedule_model.specs.Lines.{lines_text}
use Rattle.schedule_model.specs.Written.{text_with}
use Rattle.replica_model.specs.Linked.{sha_link}
use Rattle.trace_model.specs.Claims.{drill_world}
use Rattle.trace_model.specs.Summary.{drill_played, summary}
use Rattle.trace_model.specs.Trace.{closing}
use Rattle.drill_schedule.specs.Parts.{Ahead, ahead}
use Rattle.drill_command.specs.Drilled.{AreNext, Stands, to_play}
use Rattle.drill_command.specs.Tallies.{Counts, tally_lines}
use Rattle.drill_command.proofs.Whole.{drill_begins, drill_whole, first_next, front_next, is_summary, later_next, tells_all}
use Rattle.drill_command.proofs.drill.play_drill.Goals as goal

pub loop-init : goal.loop-init
loop-init c =
    let seed = c.args.seed in
    let clients = c.args.clients in
    let d = c.new-player.result in
    let parts = c.new-parts.ensures in
    record {
      stands = subst (λ (a : Ahead). Stands d (drill_played sha_link seed clients) (to_play (ahead a))) (sym parts) (c.new-player.ensures.stands (drill_played sha_link seed clients) (to_play (drill_events seed clients)) (drill_begins seed clients));
      live = c.new-player.ensures.live;
      next = subst (λ (a : Ahead). AreNext d.world.begun (ahead a)) (sym parts) (subst (λ (b : Bool). AreNext b (drill_events seed clients)) (sym c.new-player.ensures.begun) (first_next seed clients));
      clients = ap (λ (a : Ahead). a.clients) parts;
      place = ap (λ (a : Ahead). a.next) parts;
      low = omega arith;
    }

pub play_all-requires-clause-next : goal.play_all-requires-clause-next
play_all-requires-clause-next c =
    let begun = c.loop.player.world.begun in
    let (part, grown, split) = c.in_ok-push_next.ensures.part in
    let items : c.as_slice.result.now ≡ part = c.as_slice.ensures.value ∙ grown ∙ ap (λ (l : List Event). l ++ part) c.clear.ensures.items in
    subst (AreNext begun) (sym items) (front_next begun part (ahead c.push_next.new.self) (subst (AreNext begun) split c.loop.invariant.next))

pub loop-preserved : goal.loop-preserved
loop-preserved c =
    let seed = c.args.seed in
    let clients = c.args.clients in
    let (part, grown, split) = c.in_ok-push_next.ensures.part in
    let later = c.push_next.new.self in
    let items : c.as_slice.result.now ≡ part = c.as_slice.ensures.value ∙ grown ∙ ap (λ (l : List Event). l ++ part) c.clear.ensures.items in
    let all : ahead c.loop.parts ≡ c.as_slice.result.now ++ ahead later = split ∙ ap (λ (l : List Event). l ++ ahead later) (sym items) in
    let after = c.in_ok-push_next.ensures.next in
    let inv = c.loop.invariant in
    record {
      stands = c.in_ok-play_all.ensures.plays (drill_played sha_link seed clients) (ahead later) (drill_whole c.drill_is_played.ensures c.nobody_learns.ensures seed clients c.requires.least c.requires.most)
          (subst (λ (es : List Event). Stands c.loop.player (drill_played sha_link seed clients) (to_play es)) all inv.stands);
      live = c.in_ok-play_all.ensures.live;
      next = later_next c.play_all.new.self.world.begun later (omega (arith, ap (λ (a : Ahead). a.next) after));
      clients = ap (λ (a : Ahead). a.clients) after ∙ inv.clients;
      place = ap (λ (a : Ahead). a.next) after ∙ ap (λ n. n + 1) inv.place;
      low = omega (arith, c.loop-test.true);
    }

pub returns-clause-counts : goal.returns-clause-counts
returns-clause-counts c =
    let inv = c.loop.invariant in
    tells_all c.loop.player c.args.seed c.args.clients c.loop.parts inv.clients (omega (arith, inv.place, inv.low, c.loop-test.false)) inv.stands c.close.result c.close.ensures
    (λ tally. Counts tally (drill_world sha_link c.args.seed c.args.clients)) (λ tally tells. tells.counts)

pub returns-clause-trace : goal.returns-clause-trace
returns-clause-trace c =
    let inv = c.loop.invariant in
    tells_all c.loop.player c.args.seed c.args.clients c.loop.parts inv.clients (omega (arith, inv.place, inv.low, c.loop-test.false)) inv.stands c.close.result c.close.ensures
    (λ tally. tally.trace.0 ≡ sha256 (text_with closing (drill_played sha_link c.args.seed c.args.clients))) (λ tally tells. tells.trace)

pub returns-clause-summary : goal.returns-clause-summary
returns-clause-summary c =
    let inv = c.loop.invariant in
    tells_all c.loop.player c.args.seed c.args.clients c.loop.parts inv.clients (omega (arith, inv.place, inv.low, c.loop-test.false)) inv.stands c.close.result c.close.ensures
    (λ tally. lines_text (tally_lines c.args.seed c.args.clients tally) ≡ summary sha256 sha_link c.args.seed c.args.clients) (λ tally tells. is_summary tally c.args.seed c.args.clients tells)
