-- The first n terms are equal exactly if those after the first `done` are, which are still to be read.
use Rattle.std.proofs.Common.{◌≡◌, ℕ, ◌-◌}
use Rattle.nodes.specs.NodeStore.{nodes_in}
use Rattle.value.specs.Store.{values_of}
use Rattle.places.specs.Ahead.{rest_of}
use Rattle.rope.specs.Pieces.{ShowBoth}
use Rattle.rope.specs.FrontLaws.{Fronts}
use Rattle.rope.proofs.equal_some.Given as goal

abbrev pub invariant-loop-a : goal.invariant-loop-a
invariant-loop-a l = record {
  left : (l.a.whole.node ≡ l.f) × (l.a.whole.len ≡ l.n);
  right : (l.b.whole.node ≡ l.g) × (l.b.whole.len ≡ l.n) × (l.b.done ≡ l.a.done);
  fronts : (used : ℕ) → ShowBoth l.nodes l.store.used used l.f l.g l.n
      → Fronts (values_of l.store) (nodes_in l.nodes used) l.f l.g l.n (rest_of l.a.ahead) (rest_of l.b.ahead) l.a.done;
}

abbrev pub decreases-loop-a : goal.decreases-loop-a
decreases-loop-a l = l.n - l.a.done
