-- What the records from i on add to the table and to the numbers comes to the same as the whole.
use Rattle.pattern.specs.NumberLaws.{Numbered}
use Rattle.pattern.proofs.number_names.Given as goal

abbrev pub invariant-loop-i : goal.invariant-loop-i
invariant-loop-i l = Numbered l.names l.pattern l.bindings l.firsts.items l.numbers l.i
