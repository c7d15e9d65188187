-- What the functions of this crate ask and answer: one turn of a join is a plan's first step, the rest of the plan starts at a lower node.
use Prim.{Unit}
use Rattle.std.specs.Prelude.{◌≡◌, List, ℕ, ◌+◌, ◌<◌, ◌≤◌}
use Rattle.term_spec.specs.Words.{Lies}
use Rattle.term_spec.specs.Term.{limit}
use Rattle.view_spec.specs.Node.{Node, node_layout, node_at, Piece}
use Rattle.view_spec.specs.Build.{Plan, base, single, double, plan, plan_makes, grow}
use Rattle.nodes.specs.NodeStore.{nodes_in, AnyStore}
use Rattle.join.specs.declared.Turn.{Turn}
use Rattle.join.specs.declared.Turn.TheVariants.{Base, Single, Double}

-- The plan that starts with a turn; h is the right's height.
abbrev pub turn_plan : List Node → ℕ → Turn → Plan
turn_plan ns h (Base l n) = base l n
turn_plan ns h (Single a b x n) = single a b (plan ns h x n)
turn_plan ns h (Double a b c d x n) = double a b c d (plan ns h x n)

-- What is left after a turn at `node`: the first n terms of a lower node x.
abbrev pub Rest : List Node → ℕ → Turn → Type 0
Rest ns node (Base l n) = Unit {0}
Rest ns node (Single a b x n) = (x < node) × Piece ns x n
Rest ns node (Double a b c d x n) = (x < node) × Piece ns x n

-- The first len terms of a node of some store of the words: what a function asks that does not read how many nodes are used.
pub record PieceIn (w : List ℕ) (node len : ℕ) : Type 0 where
  pub used : ℕ
  pub store : AnyStore w used
  pub piece : Piece (nodes_in w used) node len

-- The turn that the plan for len terms of `node` starts with.
pub record Turned (ns : List Node) (h node len : ℕ) (t : Turn) : Type 0 where
  pub plans : turn_plan ns h t ≡ plan ns h node len
  pub rest : Rest ns node t

-- The same in every store of the words that has those terms.
abbrev pub TurnedIn : List ℕ → ℕ → ℕ → ℕ → Turn → Type 0
TurnedIn w h node len t = (used : ℕ) → AnyStore w used → Piece (nodes_in w used) node len → Turned (nodes_in w used) h node len t

-- The plan of a join of the first len terms of `node` before node `right`.
abbrev pub plan_before : List Node → ℕ → ℕ → ℕ → Plan
plan_before ns right node len = plan ns (node_at ns right).height node len

-- The nodes after that join.
abbrev pub grown : List Node → ℕ → ℕ → ℕ → List Node
grown ns right node len = grow right (plan_before ns right node len) ns

-- There is a right, and the nodes made end at `end`, which is within limit and slice.
pub record Joins (w : List ℕ) (used right node len end : ℕ) : Type 0 where
  pub low : right < used
  pub some_node : 1 ≤ (node_at (nodes_in w used) right).kind
  pub made : end ≡ used + plan_makes (plan_before (nodes_in w used) right node len)
  pub few : end ≤ limit
  pub room : Lies node_layout w end
