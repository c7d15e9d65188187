-- On the way down what is reserved, wrapped around what the rest of the plan makes, is the join (Down).
use Rattle.nodes.specs.NodeStore.{nodes_in}
use Rattle.join.specs.Turn.{grown}
use Rattle.join.specs.DownLaws.{Down}
use Rattle.join.proofs.join_build.Given as goal

abbrev pub invariant-loop-l : goal.invariant-loop-l
invariant-loop-l l =
    let w = l.fn.nodes in
    Down w l.used l.right l.h l.end (grown (nodes_in w l.used) l.right l.node l.len) l.nodes l.lo l.hi l.at l.n

abbrev pub decreases-loop-l : goal.decreases-loop-l
decreases-loop-l l = l.at
