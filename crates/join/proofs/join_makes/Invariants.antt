-- What is counted so far and what the rest of the plan makes is one more than the whole plan makes; each turn goes to a lower node.
use Rattle.std.specs.Prelude.{◌≡◌, ℕ, suc, ◌+◌, ◌*◌, ◌≤◌}
use Rattle.view_spec.specs.Build.{plan, plan_makes}
use Rattle.view_spec.specs.Node.{Piece}
use Rattle.nodes.specs.NodeStore.{nodes_in, AnyStore}
use Rattle.join.proofs.join_makes.Given as goal

abbrev pub invariant-loop-x : goal.invariant-loop-x
invariant-loop-x l =
    (l.made + 2 * l.at ≤ 2 * l.node + 1)
    × ((used : ℕ) → AnyStore l.nodes used → Piece (nodes_in l.nodes used) l.node l.len
    → Piece (nodes_in l.nodes used) l.at l.n × (l.made + plan_makes (plan (nodes_in l.nodes used) l.h l.at l.n) ≡ suc (plan_makes (plan (nodes_in l.nodes used) l.h l.node l.len))))

abbrev pub decreases-loop-x : goal.decreases-loop-x
decreases-loop-x l = l.at
