use Rattle.std.proofs.Common.{sym, subst, ◌∙◌, IfSome}
use Rattle.std.specs.Prelude.{IsSome}
use Rattle.group_world.specs.Runs.{OverContents, OverEnclaves}
use Rattle.group_world.proofs.Running.{field_by, idle_runs, over_contents, over_decided, over_enclaves, over_failed, read_by, under, write_by, done_by, over_replicas}
use Rattle.group_world.proofs.schedule.play.Goals as goal

pub play_source-ended-requires-clause-live : goal.play_source-ended-requires-clause-live
play_source-ended-requires-clause-live g c = record {
  runs = idle_runs c.new.result (g.F.Field.map c.args.field) c.new.ensures.new c.requires;
  within = c.new.ensures.within;
}

pub returns-clause-trace : goal.returns-clause-trace
returns-clause-trace g c =
    subst (λ r. IfSome (g.S.Source.left c.args.source.now) (λ all. IsSome (g.F.Field.map c.args.field) → OverEnclaves all (g.S.Source.left c.play_source-ended.new.source) (g.K.Sink.taken c.args.sink.now) (g.K.Sink.taken c.play_source-ended.new.sink) r)) (sym c.played_by.ensures)
    (over_enclaves _ _ _ _ c.play_source-ended.new.player c.new.result (g.F.Field.map c.args.field) (g.F.Field.answers c.args.field) (g.F.Field.answers c.play_source-ended.new.player.field) c.new.ensures.new (λ given gained. gained) (λ fails given way taken. taken) _ _ _ _ c.play_source-ended.result c.play_source-ended.ensures.ends c.requires)

pub returns-clause-failed : goal.returns-clause-failed
returns-clause-failed g c is =
    over_failed _ _ _ _ c.play_source-ended.new.player c.new.result (g.F.Field.map c.args.field) (g.F.Field.answers c.args.field) (g.F.Field.answers c.play_source-ended.new.player.field) c.new.ensures.new (λ given gained. gained) (λ fails given way taken. taken) _ _ _ _ c.play_source-ended.result c.play_source-ended.ensures.ends c.requires
    (field_by c.play_source-ended.result (sym c.played_by.ensures ∙ is))

pub returns-clause-contents : goal.returns-clause-contents
returns-clause-contents g c =
    subst (λ r. IfSome (g.S.Source.left c.args.source.now) (λ all. OverContents (g.F.Field.answers c.args.field) (g.F.Field.answers c.play_source-ended.new.player.field) all (g.S.Source.left c.play_source-ended.new.source) (g.K.Sink.taken c.args.sink.now) (g.K.Sink.taken c.play_source-ended.new.sink) r)) (sym c.played_by.ensures)
    (over_contents _ _ _ _ c.play_source-ended.new.player c.new.result (g.F.Field.map c.args.field) (g.F.Field.answers c.args.field) (g.F.Field.answers c.play_source-ended.new.player.field) c.new.ensures.new (λ given gained. gained) (λ fails given way taken. taken) _ _ _ _ c.play_source-ended.result c.play_source-ended.ensures.ends)

pub returns-clause-read_cause : goal.returns-clause-read_cause
returns-clause-read_cause g c is = c.play_source-ended.ensures.read_cause (read_by c.play_source-ended.result (sym c.played_by.ensures ∙ is))

pub returns-clause-write_cause : goal.returns-clause-write_cause
returns-clause-write_cause g c is = c.play_source-ended.ensures.write_cause (write_by c.play_source-ended.result (sym c.played_by.ensures ∙ is))

pub returns-clause-field_cause : goal.returns-clause-field_cause
returns-clause-field_cause g c is = c.play_source-ended.ensures.own_cause (field_by c.play_source-ended.result (sym c.played_by.ensures ∙ is))

pub returns-clause-decided : goal.returns-clause-decided
returns-clause-decided g c =
    under (g.S.Source.left c.args.source.now) _ _
    (λ all h small memory reads writes asks.
    h small memory
    (λ is. reads (c.play_source-ended.ensures.read_cause (read_by c.play_source-ended.result (sym c.played_by.ensures ∙ is))))
    (λ is. writes (c.play_source-ended.ensures.write_cause (write_by c.play_source-ended.result (sym c.played_by.ensures ∙ is))))
    (λ is. asks (c.play_source-ended.ensures.own_cause (field_by c.play_source-ended.result (sym c.played_by.ensures ∙ is)))))
    (over_decided _ _ _ _ c.play_source-ended.new.player c.new.result (g.F.Field.map c.args.field) (g.F.Field.answers c.args.field) (g.F.Field.answers c.play_source-ended.new.player.field) c.new.ensures.new (λ given gained. gained) (λ fails given way taken. taken) _ _ _ _ c.play_source-ended.result c.play_source-ended.ensures.ends c.requires c.played_by.result c.played_by.ensures)

pub returns-clause-replicas : goal.returns-clause-replicas
returns-clause-replicas g c is =
    over_replicas _ _ _ _ c.play_source-ended.new.player c.new.result (g.F.Field.map c.args.field) (g.F.Field.answers c.args.field) (g.F.Field.answers c.play_source-ended.new.player.field) c.new.ensures.new (λ given gained. gained)
    (λ fails given way taken. taken) _ _ _ _ c.play_source-ended.result c.play_source-ended.ensures.ends c.requires (done_by c.play_source-ended.result (sym c.played_by.ensures ∙ is)) c.play_source-ended.new.player.world
    c.play_source-ended.new.player.records (g.F.Field.map c.play_source-ended.new.player.field) (λ way taken. taken)
