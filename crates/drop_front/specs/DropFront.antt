-- What the functions of this crate ask and answer: a stop as a plan, and the plan carried out.
use Rattle.std.specs.Prelude.{◌≡◌, List, ℕ, ◌+◌, ◌<◌, ◌≤◌}
use Rattle.term_spec.specs.Words.{Lies}
use Rattle.term_spec.specs.Term.{limit}
use Rattle.view_spec.specs.Node.{Node, node_layout, node_at}
use Rattle.view_spec.specs.Build.{Drop, stay, cut, under, drop_plan, drop_makes}
use Rattle.nodes.specs.NodeStore.{nodes_in, AnyStore, Reaches}
use Rattle.drop_front.specs.declared.Stop.{Stop}
use Rattle.drop_front.specs.declared.Stop.TheVariants.{Stay, Cut, Under}

-- The plan that a stop begins.
abbrev pub plan_of : List Node → Stop → Drop
plan_of ns (Stay x) = stay x
plan_of ns (Cut a b c) = cut a b c
plan_of ns (Under x k m r) = under (drop_plan ns x k) m r

-- A left that dropping goes on in is lower, and has the terms to drop.
abbrev pub Lower : List Node → ℕ → Stop → Type 0
Lower ns node (Stay x) = Unit {0}
Lower ns node (Cut a b c) = Unit {0}
Lower ns node (Under x k m r) = (x < node) × (k ≤ (node_at ns x).reach)

-- What `stop_at` answers, over the nodes of a store.
pub record Stopped (ns : List Node) (node count : ℕ) (s : Stop) : Type 0 where
  pub plan : plan_of ns s ≡ drop_plan ns node count
  pub lower : Lower ns node s

-- The same in every store of the words where the node has the terms.
abbrev pub StoppedIn : List ℕ → ℕ → ℕ → Stop → Type 0
StoppedIn w node count s = (used : ℕ) → AnyStore w used → Reaches w used node count → Stopped (nodes_in w used) node count s

-- The plan of dropping `count` terms from a node of the words.
abbrev pub plan_in : List ℕ → ℕ → ℕ → ℕ → Drop
plan_in w used node count = drop_plan (nodes_in w used) node count

-- The nodes made end at `end`, which is within limit and slice.
pub record Room (w : List ℕ) (used node count end : ℕ) : Type 0 where
  pub made : end ≡ used + drop_makes (plan_in w used node count)
  pub few : end ≤ limit
  pub room : Lies node_layout w end
