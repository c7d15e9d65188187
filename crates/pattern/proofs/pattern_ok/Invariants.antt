-- What is left of the records comes to the same as all of them, under the brackets open there.
use Rattle.pattern.specs.PatternLaws.{Nesting}
use Rattle.pattern.proofs.pattern_ok.Given as goal

abbrev pub invariant-loop-i : goal.invariant-loop-i
invariant-loop-i l = Nesting l.names l.pattern l.opened.items l.i
