-- Wherever the loop stands, dropping what is left from there is dropping `count` from the node.
use Rattle.std.specs.Prelude.{◌≡◌, ℕ, ◌≤◌}
use Rattle.view_spec.specs.Node.{node_at}
use Rattle.view_spec.specs.Build.{drop_plan}
use Rattle.nodes.specs.NodeStore.{nodes_in, AnyStore, Reaches}
use Rattle.drop_front.proofs.stop_at.Given as goal

abbrev pub invariant-loop-left : goal.invariant-loop-left
invariant-loop-left l =
    (l.at ≤ l.node)
    × ((used : ℕ) → AnyStore l.nodes used → Reaches l.nodes used l.node l.count
    → (l.left ≤ (node_at (nodes_in l.nodes used) l.at).reach) × (drop_plan (nodes_in l.nodes used) l.at l.left ≡ drop_plan (nodes_in l.nodes used) l.node l.count))

abbrev pub decreases-loop-left : goal.decreases-loop-left
decreases-loop-left l = l.at
