-- The nodes of a lent slice: what the functions on them ask and answer.
use Rattle.std.specs.Prelude.{List, ℕ, ◌≤◌, ◌<◌}
use Rattle.term_spec.specs.Words.{Lies, decode}
use Rattle.term_spec.specs.Term.{limit}
use Rattle.view_spec.specs.Node.{Node, node_layout, node_at, GoodNodes}

-- The used nodes of a slice.
abbrev pub nodes_in : List ℕ → ℕ → List Node
nodes_in w used = decode node_layout used w

-- A store whose used nodes are there, few enough, and within their rules.
pub record NodeStore (w : List ℕ) (terms used : ℕ) : Type 0 where
  pub fits : Lies node_layout w used
  pub few : used ≤ limit
  pub good : GoodNodes terms (nodes_in w used)

-- The same over some number of terms, within the limit: what a function asks that does not read that number.
pub record AnyStore (w : List ℕ) (used : ℕ) : Type 0 where
  pub terms : ℕ
  pub few_terms : terms ≤ limit
  pub store : NodeStore w terms used

-- A node is there, and has at least len terms.
pub record Reaches (w : List ℕ) (used node len : ℕ) : Type 0 where
  pub low : node < used
  pub fits : len ≤ (node_at (nodes_in w used) node).reach

-- A node of some store of the words: what a function asks that does not read how many are used.
pub record NodeIn (w : List ℕ) (node : ℕ) : Type 0 where
  pub used : ℕ
  pub store : AnyStore w used
  pub low : node < used

-- The same with at least len terms.
pub record ReachesIn (w : List ℕ) (node len : ℕ) : Type 0 where
  pub used : ℕ
  pub store : AnyStore w used
  pub reaches : Reaches w used node len
