-- Wherever the loop stands, unclamping from there is unclamping from the node.
use Rattle.std.specs.Prelude.{◌≡◌, ℕ, ◌<◌, ◌≤◌}
use Rattle.view_spec.specs.Build.{unclamp}
use Rattle.nodes.specs.NodeStore.{nodes_in, AnyStore}
use Rattle.nodes.proofs.unclamp.Given as goal

abbrev pub invariant-loop-n : goal.invariant-loop-n
invariant-loop-n l =
    (l.at ≤ l.node) × ((used : ℕ) → AnyStore l.nodes used → l.node < used → unclamp (nodes_in l.nodes used) l.at l.len ≡ unclamp (nodes_in l.nodes used) l.node l.len)

abbrev pub decreases-loop-n : goal.decreases-loop-n
decreases-loop-n l = l.at
