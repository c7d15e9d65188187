-- After i turns the first i of the n places are there.
use Rattle.std.proofs.Common.{◌≡◌}
use Rattle.std.proofs.lemmas.List.Edits.{sets}
use Rattle.term_spec.specs.ListLaws.{numbers_from}
use Rattle.places.proofs.put_run.Given as goal

abbrev pub invariant-loop-i : goal.invariant-loop-i
invariant-loop-i l = l.places ≡ sets l.initial.places l.to (numbers_from l.start l.i)
