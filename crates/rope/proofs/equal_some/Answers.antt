-- Each turn takes both pieces down to runs, and unless these differ or are not compared, both go on by the length of the shorter run.
use Rattle.std.proofs.Common.{◌+◌, arith, ap, ◌∙◌}
use Rattle.equality.specs.WithinLaws.{tells_different, tells-equal}
use Rattle.rope.specs.PiecesLaws.{along_short}
use Rattle.rope.specs.FrontLaws.{over_store, ropes_short, ropes_store, turn, turn_lies, fronts_start, fronts_some, fronts_all, fronts_differ, fronts_more}
use Rattle.rope.proofs.equal_some.Goals as goal

pub new-a-requires : goal.new-a-requires
new-a-requires c = ropes_short (over_store c.args.store.now c.requires.1)

pub new-b-requires : goal.new-b-requires
new-b-requires c = ropes_short (over_store c.args.store.now c.requires.1)

pub loop-a-init : goal.loop-a-init
loop-a-init c =
    let a = c.new-a.ensures in
    let b = c.new-b.ensures in
    record {
      left = (ap (λ w. w.node) a.0, ap (λ w. w.len) a.0);
      right = (ap (λ w. w.node) b.0, ap (λ w. w.len) b.0, rw (a.1, b.1));
      fronts = λ used asked. rw a.1 (fronts_start _ _ _ _ _ _ _ _ asked a.3 b.3);
    }

pub returns-in_default : goal.returns-in_default
returns-in_default c used asked = rw c.to_run.ensures.kept.1 (fronts_some (c.loop-a.invariant.fronts used asked))

pub returns-in_default-to_run : goal.returns-in_default-to_run
returns-in_default-to_run c used asked = rw c.to_run.ensures.kept.1 (fronts_some (c.loop-a.invariant.fronts used asked))

pub equal_runs_within-requires : goal.equal_runs_within-requires
equal_runs_within-requires c =
    let lt = c.loop-a-test.true in
    let asked = c.requires.1 in
    let fronts = c.loop-a.invariant.fronts _ asked in
    let a = c.in-Some.ensures.run _ (ropes_store (over_store c.args.store.now asked)) (fronts.left.ready lt) in
    let b = c.in-Some-to_run.ensures.run _ (ropes_store (over_store c.args.store.now asked)) (fronts.right.ready lt) in
    (_, turn_lies (over_store c.args.store.now asked) (turn fronts lt a b c.min-k.ensures).pair)

pub returns-in-Different : goal.returns-in-Different
returns-in-Different c used asked =
    let lt = c.loop-a-test.true in
    let fronts = c.loop-a.invariant.fronts used asked in
    let a = c.in-Some.ensures.run used (ropes_store (over_store c.args.store.now asked)) (fronts.left.ready lt) in
    let b = c.in-Some-to_run.ensures.run used (ropes_store (over_store c.args.store.now asked)) (fronts.right.ready lt) in
    let here = turn fronts lt a b c.min-k.ensures in
    fronts_differ _ _ _ here.pair here.both (tells_different (c.equal_runs_within.ensures _ (turn_lies (over_store c.args.store.now asked) here.pair)) c.in-Different.is).0

pub returns-in-Spent : goal.returns-in-Spent
returns-in-Spent c used asked = rw c.to_run.ensures.kept.1 (fronts_some (c.loop-a.invariant.fronts used asked))

pub pass-requires : goal.pass-requires
pass-requires c =
    let lt = c.loop-a-test.true in
    let asked = c.requires.1 in
    let inv = c.loop-a.invariant in
    let fronts = inv.fronts _ asked in
    let a = c.in-Some.ensures.run _ (ropes_store (over_store c.args.store.now asked)) (fronts.left.ready lt) in
    let b = c.in-Some-to_run.ensures.run _ (ropes_store (over_store c.args.store.now asked)) (fronts.right.ready lt) in
    let here = turn fronts lt a b c.min-k.ensures in
    rw (c.to_run.ensures.kept.0, c.to_run.ensures.kept.1, inv.left.1) (along_short here.both.left lt, here.pair.left.most, ropes_short (over_store c.args.store.now asked))

pub pass-requires-in-loop-a : goal.pass-requires-in-loop-a
pass-requires-in-loop-a c =
    let lt = c.loop-a-test.true in
    let asked = c.requires.1 in
    let inv = c.loop-a.invariant in
    let fronts = inv.fronts _ asked in
    let a = c.in-Some.ensures.run _ (ropes_store (over_store c.args.store.now asked)) (fronts.left.ready lt) in
    let b = c.in-Some-to_run.ensures.run _ (ropes_store (over_store c.args.store.now asked)) (fronts.right.ready lt) in
    let here = turn fronts lt a b c.min-k.ensures in
    let kept = c.to_run-in-loop-a.ensures.kept in
    rw (kept.0, kept.1, inv.right.1, inv.right.2) (along_short here.both.right lt, here.pair.right.most, ropes_short (over_store c.args.store.now asked))

pub loop-a-smaller : goal.loop-a-smaller
loop-a-smaller c =
    let lt = c.loop-a-test.true in
    let asked = c.requires.1 in
    let fronts = c.loop-a.invariant.fronts _ asked in
    let a = c.in-Some.ensures.run _ (ropes_store (over_store c.args.store.now asked)) (fronts.left.ready lt) in
    let b = c.in-Some-to_run.ensures.run _ (ropes_store (over_store c.args.store.now asked)) (fronts.right.ready lt) in
    let here = turn fronts lt a b c.min-k.ensures in
    omega (arith, here.pair.left.some, here.pair.left.most, c.to_run.ensures.kept.1, c.pass.ensures.kept.1)

pub loop-a-preserved : goal.loop-a-preserved
loop-a-preserved c =
    let inv = c.loop-a.invariant in
    let kept = c.to_run.ensures.kept in
    let kept' = c.to_run-in-loop-a.ensures.kept in
    let a-done = c.pass.ensures.kept.1 ∙ ap (◌+ c.min-k.result) kept.1 in
    let b-done = c.pass-in-loop-a.ensures.kept.1 ∙ ap (◌+ c.min-k.result) (kept'.1 ∙ inv.right.2) in
    let a-whole = c.pass.ensures.kept.0 ∙ kept.0 in
    let b-whole = c.pass-in-loop-a.ensures.kept.0 ∙ kept'.0 in
    record {
      left = (ap (λ w. w.node) a-whole ∙ inv.left.0, ap (λ w. w.len) a-whole ∙ inv.left.1);
      right = (ap (λ w. w.node) b-whole ∙ inv.right.0, ap (λ w. w.len) b-whole ∙ inv.right.1, rw (a-done, b-done));
      fronts = λ used asked.
          let lt = c.loop-a-test.true in
          let fronts = inv.fronts used asked in
          let a = c.in-Some.ensures.run used (ropes_store (over_store c.args.store.now asked)) (fronts.left.ready lt) in
          let b = c.in-Some-to_run.ensures.run used (ropes_store (over_store c.args.store.now asked)) (fronts.right.ready lt) in
          let here = turn fronts lt a b c.min-k.ensures in
          let told = tells-equal (c.equal_runs_within.ensures _ (turn_lies (over_store c.args.store.now asked) here.pair)) c.in-Equal.is in
          rw a-done (fronts_more _ _ _ here.pair here.both told.0 lt here.pair.left.within here.pair.right.within
          (rw (kept.0, kept.1, inv.left.0, inv.left.1) at c.pass.ensures.passed)
          (rw (kept'.0, kept'.1, inv.right.0, inv.right.1, inv.right.2) at c.pass-in-loop-a.ensures.passed));
    }

pub returns : goal.returns
returns c used asked = fronts_all (c.loop-a.invariant.fronts used asked) (omega arith)
