-- After i turns the next slot has the first i words of the entries, and all other words are as they were.
use Rattle.matcher.specs.EmitLaws.{Pasted}
use Rattle.matcher.proofs.emit.Given as goal

abbrev pub invariant-loop-i : goal.invariant-loop-i
invariant-loop-i l = Pasted l.initial.slots l.binds l.base l.width l.slots l.i
