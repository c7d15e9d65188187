-- Wherever the loop stands, the run that is held is the first of those left from i on, and the words hold the chain of the others.
use Rattle.from_runs.specs.BuildLaws.{Going}
use Rattle.from_runs.proofs.from_runs_build.Given as goal

abbrev pub invariant-loop-i : goal.invariant-loop-i
invariant-loop-i l = Going l.fn.nodes l.used l.runs l.nodes l.i l.at l.held
