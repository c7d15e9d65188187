-- Wherever the loop stands, the terms that are to be read are the first of those before it.
use Rattle.std.proofs.Common.{◌≡◌, ℕ}
use Rattle.nodes.specs.NodeStore.{nodes_in, AnyStore}
use Rattle.places.specs.Rest.{Ready, rest}
use Rattle.places.specs.Ahead.{rest_of}
use Rattle.rope.specs.Pieces.{Goes}
use Rattle.rope.proofs.reader.Reader.to_run.Given as goal

abbrev pub invariant-loop-fuel : goal.invariant-loop-fuel
invariant-loop-fuel l = record {
  whole : l.self.whole ≡ l.initial.self.whole;
  done : l.self.done ≡ l.initial.self.done;
  goes : (used : ℕ) → AnyStore l.nodes used → Ready (nodes_in l.nodes used) (rest_of l.initial.self.ahead)
      → Goes (nodes_in l.nodes used) (rest_of l.initial.self.ahead) (rest l.at.node l.at.skip l.at.left l.self.ahead.later);
}
