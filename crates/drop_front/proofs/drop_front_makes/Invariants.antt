-- The nodes made so far and those that dropping the rest makes are what dropping `count` from the node makes.
use Rattle.std.specs.Prelude.{◌≡◌, ℕ, ◌+◌, ◌≤◌}
use Rattle.view_spec.specs.Node.{node_at}
use Rattle.view_spec.specs.Build.{drop_plan, drop_makes}
use Rattle.nodes.specs.NodeStore.{nodes_in, AnyStore, Reaches}
use Rattle.drop_front.proofs.drop_front_makes.Given as goal

abbrev pub invariant-loop-inside : goal.invariant-loop-inside
invariant-loop-inside l =
    (l.made + l.at ≤ l.node)
    × ((used : ℕ) → AnyStore l.nodes used → Reaches l.nodes used l.node l.count
    → (l.left ≤ (node_at (nodes_in l.nodes used) l.at).reach)
    × (l.made + drop_makes (drop_plan (nodes_in l.nodes used) l.at l.left) ≡ drop_makes (drop_plan (nodes_in l.nodes used) l.node l.count)))

abbrev pub decreases-loop-inside : goal.decreases-loop-inside
decreases-loop-inside l = l.at
