use Rattle.std.proofs.Common.{◌≡◌, ◌++◌, [], Err, None, ap, refl, subst, sym, ◌∙◌, arith}
use Rattle.std.proofs.KnownBytes.{Consumes-nil, Appends-nil, Consumes-trans, Appends-trans}
use Rattle.byte_streams.proofs.Rises.{Rose-after}
use Rattle.replica_server.specs.Turning.{Spot, SoFar, EndsSo}
use Rattle.replica_server.proofs.Told.{at_first}
use Rattle.replica_server.proofs.serve.serve.Goals as goal

pub loop-server-init : goal.loop-server-init
loop-server-init g c = record {
  so_far = ([], Consumes-nil _, [], Appends-nil _, at_first (g.T.Tags.tagging c.args.tags));
  same = refl;
  stands = c.requires.stands;
  offset = omega arith;
  few = omega arith;
  reads = omega arith;
  writes = omega arith;
}

pub loop-server-preserved : goal.loop-server-preserved
loop-server-preserved g c =
    let (read, consumed, written, gained, so_far) = c.loop-server.invariant.so_far in
    let (more, consumed_more, gained_more, appended, next) = c.in_default.ensures.turns read written so_far in
    record {
      so_far = (
        read ++ more,
        Consumes-trans _ _ _ read more consumed consumed_more,
        written ++ gained_more,
        Appends-trans _ _ _ written gained_more gained appended,
        subst (λ t. SoFar t (read ++ more) (written ++ gained_more) (record { at = c.turn.new.self.at; number = c.turn.new.self.number; enclave = c.turn.new.self.enclave })) (sym c.turn.ensures.same) next,
      );
      same = c.turn.ensures.same ∙ c.loop-server.invariant.same;
      stands = c.in_default.ensures.stands;
      offset = c.in_default.ensures.offset;
      few = omega (arith, c.in_default.ensures.number, c.loop-server-test.true);
      reads = omega (arith, c.loop-server.invariant.reads, c.turn.ensures.read_cause.later);
      writes = omega (arith, c.loop-server.invariant.writes, c.turn.ensures.write_cause.later);
    }

pub returns-in-Err-clause-ends : goal.returns-in-Err-clause-ends
returns-in-Err-clause-ends g c =
    let (read, consumed, written, gained, so_far) = c.loop-server.invariant.so_far in
    let (more, consumed_more, gained_more, appended, ends) = c.in-Err.ensures.turns read written so_far in (
      read ++ more,
      Consumes-trans _ _ _ read more consumed consumed_more,
      written ++ gained_more,
      Appends-trans _ _ _ written gained_more gained appended,
      subst (λ t. EndsSo t (read ++ more) (written ++ gained_more) (g.S.Source.left c.turn.new.source) c.in-Err.end) c.loop-server.invariant.same ends,
    )

pub returns-in-Err-clause-read_cause : goal.returns-in-Err-clause-read_cause
returns-in-Err-clause-read_cause g c e = Rose-after _ _ _ c.loop-server.invariant.reads (c.turn.ensures.read_cause.failed (c.in-Err.is ∙ ap Err e))

pub returns-in-Err-clause-write_cause : goal.returns-in-Err-clause-write_cause
returns-in-Err-clause-write_cause g c e = Rose-after _ _ _ c.loop-server.invariant.writes (c.turn.ensures.write_cause.failed (c.in-Err.is ∙ ap Err e))

pub returns-clause-ends : goal.returns-clause-ends
returns-clause-ends g c =
    let (read, consumed, written, gained, so_far) = c.loop-server.invariant.so_far in
    let (more, consumed_more, ends) = c.behind_last.ensures.ends (g.T.Tags.tagging c.loop-server.server.tags) read written
    (record { at = c.loop-server.server.at; number = c.loop-server.server.number; enclave = c.loop-server.server.enclave }) so_far (omega (arith, c.loop-server-test.false, c.loop-server.invariant.few)) in (
      read ++ more,
      Consumes-trans _ _ _ read more consumed consumed_more,
      written,
      gained,
      subst (λ t. EndsSo t (read ++ more) written (g.S.Source.left c.behind_last.new.source) c.behind_last.result) c.loop-server.invariant.same ends,
    )
