-- The numbers passed are the same.
use Rattle.numbers.specs.Numbers.{Same}
use Rattle.numbers.proofs.agree_from.Given as goal

abbrev pub invariant-loop-k : goal.invariant-loop-k
invariant-loop-k l = Same l.numbers l.s l.p l.k
