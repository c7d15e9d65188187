-- The numbers of the blocks passed are the same.
use Rattle.std.proofs.Common.{◌*◌}
use Rattle.numbers.specs.Numbers.{Same}
use Rattle.numbers.proofs.agree.Given as goal

abbrev pub invariant-loop-block : goal.invariant-loop-block
invariant-loop-block l = Same l.numbers l.s l.p (l.block * 64)
