-- The way down keeps `Down`.
use Rattle.drop_front.proofs.BuildLaws.{Down}
use Rattle.drop_front.proofs.drop_front_build.Given as goal

abbrev pub invariant-loop-kept : goal.invariant-loop-kept
invariant-loop-kept l = Down l.fn.nodes l.used l.node l.count l.end l.nodes l.hi l.at l.left

abbrev pub decreases-loop-kept : goal.decreases-loop-kept
decreases-loop-kept l = l.at
