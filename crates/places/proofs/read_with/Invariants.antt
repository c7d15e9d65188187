-- After each turn the first `done` places are there, and those that are to be read next come after them. A turn reads a term or leads to a lower
-- node: the number of a node is below the limit.
use Rattle.std.proofs.Common.{ℕ, ◌+◌, ◌-◌, ◌*◌}
use Rattle.term_spec.specs.Term.{limit}
use Rattle.nodes.specs.NodeStore.{nodes_in, NodeStore, Reaches}
use Rattle.places.specs.Places.{wanted}
use Rattle.places.specs.Ahead.{rest_of}
use Rattle.places.specs.ReadLaws.{Reading}
use Rattle.places.proofs.read_with.Given as goal

abbrev pub invariant-loop-done : goal.invariant-loop-done
invariant-loop-done l = (used terms : ℕ) → NodeStore l.nodes terms used → Reaches l.nodes used l.node (l.skip + l.n)
    → Reading terms (nodes_in l.nodes used) (wanted terms (nodes_in l.nodes used) l.node l.skip l.n) l.n l.initial.places (rest_of l.ahead) l.seen l.places l.done

abbrev pub decreases-loop-done : goal.decreases-loop-done
decreases-loop-done l = (l.n - l.done) * limit + l.ahead.at.node
