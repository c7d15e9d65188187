-- Concats that are reserved before one of their children is made, and completed afterwards, from the lowest to the highest.
use Rattle.std.specs.Prelude.{◌≡◌, List, length, drop, ℕ, suc, zero, ◌*◌, ◌-◌, ◌≤◌}
use Rattle.std.proofs.Math.Decide.{dec_lt}
use Rattle.term_spec.specs.Words.{Lies, record_at}
use Rattle.term_spec.specs.Term.{limit}
use Rattle.view_spec.specs.Node.{Node, node_layout, concat_kind, GoodNodes}
use Rattle.view_spec.specs.Build.{last, make_concat, if_dec}
use Rattle.nodes.specs.NodeStore.{nodes_in}

-- A reserved Concat: a child that is not known yet is 0.
abbrev pub reserved : ℕ → ℕ → ℕ → Node
reserved a b c = record { kind = concat_kind; a = a; b = b; c = c; height = 0; reach = 0 }

-- The child that is meant: 0, which is no Concat's child, stands for the node x.
abbrev pub child_of : ℕ → ℕ → ℕ
child_of zero x = x
child_of (suc c) x = suc c

-- One node more: the Concat reserved as n.
abbrev pub make_over : Node → ℕ → List Node → List Node
make_over n x ns = make_concat ns (child_of n.a x) n.b (child_of n.c x)

-- The nodes ns and the t that are reserved from record k on; a child that is 0 is x in the first, and in each other the node made before it.
unfoldable pub wrap : List ℕ → ℕ → ℕ → ℕ → List Node → List Node
wrap w k zero x ns = ns
wrap w k (suc t) x ns = wrap w (suc k) t (last (make_over (record_at node_layout w k) x ns)) (make_over (record_at node_layout w k) x ns)

-- The first `from` nodes of the words, and those from there to `end` completed.
abbrev pub completed : List ℕ → ℕ → ℕ → ℕ → List Node
completed w from end before = wrap w from (end - from) before (nodes_in w from)

-- The last of them; `before` if there is none.
abbrev pub last_made : ℕ → ℕ → ℕ → ℕ
last_made from end before = if_dec (dec_lt from end) (end - 1) before

-- They can be completed: what comes of it is a store of nodes within its rule.
pub record Completes (w : List ℕ) (from end before : ℕ) : Type 0 where
  pub terms : ℕ
  pub few_terms : terms ≤ limit
  pub some : 1 ≤ from
  pub le : from ≤ end
  pub few : end ≤ limit
  pub room : Lies node_layout w end
  pub good : GoodNodes terms (completed w from end before)

-- The words v are w with the nodes z as the first `end` records; what comes after is as it was.
pub record Became (w v : List ℕ) (end : ℕ) (z : List Node) : Type 0 where
  pub size : length v ≡ length w
  pub after : drop (end * node_layout.width) v ≡ drop (end * node_layout.width) w
  pub nodes : nodes_in v end ≡ z
