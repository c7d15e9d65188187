-- `rigid::rigid_run_matches`: a record that is passed over or takes terms leaves the rest of the run.
use Rattle.std.proofs.Common.{arith}
use Rattle.term_spec.specs.Words.{count}
use Rattle.rigid.specs.FitLaws.{left_item, left_skipped, left-takes}
use Rattle.rigid.proofs.rigid_run_matches.Goals as goal

pub loop-i-preserved-then-d-gt0 : goal.loop-i-preserved-then-d-gt0
loop-i-preserved-then-d-gt0 c = record {
  left = left_skipped c.loop-i.invariant.left c.loop-i-test.true c.get-t.ensures (omega arith) c.skip-d.ensures;
  bound = c.loop-i.invariant.bound;
  memory = c.loop-i.invariant.memory;
}

pub word-x-requires : goal.word-x-requires
unfolding count
word-x-requires c = omega (arith, c.loop-i-test.true, c.args.given.now.ready.numbered)

pub fit_record-requires-clause-rule : goal.fit_record-requires-clause-rule
fit_record-requires-clause-rule c = left_item c.loop-i.invariant.left c.loop-i-test.true c.get-t.ensures c.args.given.now.ready.rule

pub loop-i-preserved : goal.loop-i-preserved
loop-i-preserved c =
    let inv = c.loop-i.invariant in
    let goes = rw inv.bound at c.fit_record.ensures.0.1 in
    record {
      left = rw c.pass-here.ensures
          (left-takes inv.left c.loop-i-test.true c.get-t.ensures _ (omega arith) c.word-x.ensures goes c.fit_record.ensures.0.0 c.in-Takes.is c.opens-d.ensures);
      bound = rw c.pass-here.ensures inv.bound;
      memory = c.fit_record.ensures.1;
    }
