-- The terms after the first `from` are equal exactly if those after the first `done` are.
use Rattle.std.proofs.Common.{◌≡◌, List, ℕ, length}
use Rattle.nodes.specs.NodeStore.{nodes_in}
use Rattle.value.specs.Equal.{values_in}
use Rattle.places.specs.Places.{part}
use Rattle.rope.specs.Fronts.{RopesKnown, equal_from}
use Rattle.rope.proofs.equal_parts.Given as goal

abbrev pub invariant-loop-done : goal.invariant-loop-done
invariant-loop-done l = record {
  sizes : (length l.first ≡ part) × (length l.second ≡ part);
  alike : (names w : List ℕ) (over used : ℕ) → RopesKnown names w l.nodes over used l.known l.f l.g l.n
      → equal_from (values_in names w over) (nodes_in l.nodes used) l.f l.g l.n l.from
      ≡ equal_from (values_in names w over) (nodes_in l.nodes used) l.f l.g l.n l.done;
}
