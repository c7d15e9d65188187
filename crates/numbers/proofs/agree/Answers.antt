-- Each turn passes one block more.
use Rattle.std.proofs.Common.{◌*◌, arith}
use Rattle.numbers.specs.NumbersLaws.{same_more}
use Rattle.numbers.proofs.agree.Goals as goal

pub loop-block-preserved : goal.loop-block-preserved
loop-block-preserved c i h =
    let given = c.args in
    let block = c.all_same.ensures c.if-not-all_same.false in
    same_more given.numbers.now given.s given.p (c.loop-block.block * 64) 64 c.loop-block.invariant block i (omega arith)
