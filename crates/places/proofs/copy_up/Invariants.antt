-- After i turns i words have been copied, and those still to be read are as they were.
use Rattle.places.specs.CopyLaws.{Copied}
use Rattle.places.proofs.copy_up.Given as goal

abbrev pub invariant-loop-i : goal.invariant-loop-i
invariant-loop-i l = Copied l.initial.places l.initial.places l.from l.to l.n l.places l.i
