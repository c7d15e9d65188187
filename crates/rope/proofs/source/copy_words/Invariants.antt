-- After i turns i words have been copied.
use Rattle.places.specs.CopyLaws.{Copied}
use Rattle.rope.proofs.source.copy_words.Given as goal

abbrev pub invariant-loop-i : goal.invariant-loop-i
invariant-loop-i l = Copied l.source l.initial.target l.from l.to l.n l.target l.i
