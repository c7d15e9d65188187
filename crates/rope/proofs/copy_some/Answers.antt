use Rattle.std.proofs.Common.{arith, refl, ◌∙◌}
use Rattle.rope.specs.CopiedLaws.{task_short, done_none, done_length, done_run, done_found, done_next, done_source}
use Rattle.rope.proofs.copy_some.Goals as goal

pub new-reader-requires : goal.new-reader-requires
new-reader-requires g c = task_short c.requires.1

pub loop-reader-init : goal.loop-reader-init
loop-reader-init g c =
    let made = c.new-reader.ensures in record { whole = made.0; copied = λ used asked. done_none asked made.3 made.1 }

pub copy_run-requires-clause-inside : goal.copy_run-requires-clause-inside
copy_run-requires-clause-inside g c =
    let asked = c.requires.1 in
    let so_far = c.loop-reader.invariant.copied _ asked in
    let ran = c.in-Some.ensures.run _ asked.store (so_far.along.ready c.loop-reader-test.true) in
    let found = done_found (done_run so_far ran.0.goes) c.loop-reader-test.true ran.0.begins ran.1 in
    let kept = done_source (g.S.Source.terms c.args.source) _ _ (g.met.S.Source.kept c.args.source) so_far in
    (found.inside, omega (arith, asked.there, kept.0))

pub copy_run-requires-clause-room : goal.copy_run-requires-clause-room
copy_run-requires-clause-room g c =
    let asked = c.requires.1 in
    let so_far = c.loop-reader.invariant.copied _ asked in
    let ran = c.in-Some.ensures.run _ asked.store (so_far.along.ready c.loop-reader-test.true) in
    let found = done_found (done_run so_far ran.0.goes) c.loop-reader-test.true ran.0.begins ran.1 in
    omega (arith, found.most, asked.room, done_length so_far, c.in-Some.ensures.kept.1)

pub pass-requires : goal.pass-requires
pass-requires g c =
    let asked = c.requires.1 in
    let so_far = c.loop-reader.invariant.copied _ asked in
    let ran = c.in-Some.ensures.run _ asked.store (so_far.along.ready c.loop-reader-test.true) in
    let found = done_found (done_run so_far ran.0.goes) c.loop-reader-test.true ran.0.begins ran.1 in
    let whole = c.in-Some.ensures.kept.0 ∙ c.loop-reader.invariant.whole in
    rw (whole, c.in-Some.ensures.kept.1) (found.near, found.most, found.short)

pub loop-reader-smaller : goal.loop-reader-smaller
loop-reader-smaller g c =
    let asked = c.requires.1 in
    let so_far = c.loop-reader.invariant.copied _ asked in
    let ran = c.in-Some.ensures.run _ asked.store (so_far.along.ready c.loop-reader-test.true) in
    let found = done_found (done_run so_far ran.0.goes) c.loop-reader-test.true ran.0.begins ran.1 in
    omega (arith, found.some, found.most, c.in-Some.ensures.kept.1, c.pass.ensures.kept.1, c.loop-reader-test.true)

pub loop-reader-preserved : goal.loop-reader-preserved
loop-reader-preserved g c =
    let whole = c.in-Some.ensures.kept.0 ∙ c.loop-reader.invariant.whole in
    let done = c.in-Some.ensures.kept.1 in
    record {
      whole = c.pass.ensures.kept.0 ∙ whole;
      copied = λ used asked.
          let so_far = c.loop-reader.invariant.copied used asked in
          let ran = c.in-Some.ensures.run used asked.store (so_far.along.ready c.loop-reader-test.true) in
          let kept = done_source (g.S.Source.terms c.args.source) _ _ (g.met.S.Source.kept c.args.source) so_far in
          done_next (done_run so_far ran.0.goes) c.loop-reader-test.true ran.0.begins ran.1 (g.S.Source.terms c.args.source c.loop-reader.words) kept.1
          _ (rw done refl) (rw (whole, done) at c.pass.ensures.passed) c.copy_run.ensures (rw done at c.pass.ensures.kept.1);
    }
