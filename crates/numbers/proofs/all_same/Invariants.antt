-- The numbers passed are the same, as long as the flag is up.
use Rattle.std.proofs.Common.{◌≡◌, true}
use Rattle.numbers.specs.Numbers.{Same}
use Rattle.numbers.proofs.all_same.Given as goal

abbrev pub invariant-loop-i : goal.invariant-loop-i
invariant-loop-i l = l.same ≡ true → Same l.numbers l.s l.p l.i
