-- Wherever the loop stands, `made` are left of the runs from i on.
use Rattle.from_runs.specs.FuseLaws.{Counted}
use Rattle.from_runs.proofs.from_runs_makes.Given as goal

abbrev pub invariant-loop-i : goal.invariant-loop-i
invariant-loop-i l = Counted l.runs l.i l.made l.next
