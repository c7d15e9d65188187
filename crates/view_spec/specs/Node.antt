-- Nodes and fields: their records, their rules, and the terms they give (01, "Records" and "View fields").
use Rattle.std.specs.Prelude.{List, [], ◌∷◌, ◌++◌, Bool, true, false, ◌&&◌, T, leb, ltb, eqb, length, get_or, take, ℕ, suc, zero, ◌+◌, ◌≤◌, ◌<◌, min, max}
use Rattle.term_spec.specs.Words.{Layout}
use Rattle.term_spec.specs.Term.{part, limit}
use Rattle.term_spec.specs.Table.{table}

-- "Node, six words: kind, a, b, c, height, reach."
pub record Node : Type 0 where
  pub kind : ℕ
  pub a : ℕ
  pub b : ℕ
  pub c : ℕ
  pub height : ℕ
  pub reach : ℕ

-- The node that six words mean.
unfoldable pub node_of : List ℕ → Node
node_of w = record { kind = get_or w 0 0; a = get_or w 1 0; b = get_or w 2 0; c = get_or w 3 0; height = get_or w 4 0; reach = get_or w 5 0 }

-- The node record's width stands here alone.
abbrev pub node_layout : Layout Node
node_layout = record { width = 6; read = node_of; words = λ n. n.kind ∷ n.a ∷ n.b ∷ n.c ∷ n.height ∷ n.reach ∷ [] }

-- The kinds of nodes: "0 Nil", "1 Cons", "2 Concat". Where a definition goes by kind, its clauses are in this order.
abbrev pub nil_kind : ℕ
nil_kind = 0

abbrev pub cons_kind : ℕ
cons_kind = 1

abbrev pub concat_kind : ℕ
concat_kind = 2

-- "A field is a node number and a length".
pub record Field : Type 0 where
  pub node : ℕ
  pub len : ℕ

-- "The empty field is node 0 with length 0."
abbrev pub empty_field : Field
empty_field = record { node = 0; len = 0 }

-- "0 Nil: all words 0"
abbrev pub nil_node : Node
nil_node = record { kind = nil_kind; a = 0; b = 0; c = 0; height = 0; reach = 0 }

-- Node i; Nil where there is none.
abbrev pub node_at : List Node → ℕ → Node
node_at ns i = get_or ns i nil_node

-- "Reach is the smaller of 65,536 and the terms below (Cons: b plus the tail's reach; Concat: b plus the right's)."
abbrev pub reach_of : List Node → ℕ → ℕ → ℕ
reach_of ns b c = min limit (b + (node_at ns c).reach)

-- "height 1 plus the taller child's"
abbrev pub height_of : List Node → ℕ → ℕ → ℕ
height_of ns a c = suc (max (node_at ns a).height (node_at ns c).height)

-- The records that are made: a Cons of the run (a, b) before tail c; a Concat of the first b terms of a before c.
abbrev pub cons_node : List Node → ℕ → ℕ → ℕ → Node
cons_node ns a b c = record { kind = cons_kind; a = a; b = b; c = c; height = 1; reach = reach_of ns b c }

-- A Concat of the first b terms of a, before c.
abbrev pub concat_node : List Node → ℕ → ℕ → ℕ → Node
concat_node ns a b c = record { kind = concat_kind; a = a; b = b; c = c; height = height_of ns a c; reach = reach_of ns b c }

-- ---- rules; `below` are the lower nodes, so a node's own number is their length ----

-- "0 Nil: all words 0, only as node 0"
unfoldable pub nil_rule : List Node → Node → Bool
nil_rule below n = eqb (length below) 0 && eqb n.a 0 && eqb n.b 0 && eqb n.c 0 && eqb n.height 0 && eqb n.reach 0

-- "1 Cons: run start a, run length b (at least 1), tail c, a lower Nil or Cons; height 1." Its run ends within the used terms.
unfoldable pub cons_rule : ℕ → List Node → Node → Bool
cons_rule used below n =
    leb 1 n.b && leb (n.a + n.b) used && ltb n.c (length below) && leb (node_at below n.c).kind 1
    && eqb n.height 1 && eqb n.reach (reach_of below n.b n.c)

-- "2 Concat: left node a, left length b, right node c, both lower and neither Nil; b from 1 to the left's reach; height 1 plus the
-- taller child's."
unfoldable pub concat_rule : List Node → Node → Bool
concat_rule below n =
    ltb n.a (length below) && ltb n.c (length below) && leb 1 (node_at below n.a).kind && leb 1 (node_at below n.c).kind
    && leb 1 n.b && leb n.b (node_at below n.a).reach
    && eqb n.height (height_of below n.a n.c) && eqb n.reach (reach_of below n.b n.c)

-- The rule of a node by its kind.
unfoldable pub node_rule_k : ℕ → ℕ → List Node → Node → Bool
node_rule_k zero used below n = nil_rule below n
node_rule_k (suc zero) used below n = cons_rule used below n
node_rule_k (suc (suc zero)) used below n = concat_rule below n
node_rule_k (suc (suc (suc k))) used below n = false

-- The rule of a node among the nodes below it.
unfoldable pub node_rule : ℕ → List Node → Node → Bool
node_rule used below n = node_rule_k n.kind used below n

-- The rule of each node among those below it.
unfoldable pub each_node : ℕ → List Node → List Node → Bool
each_node used below [] = true
each_node used below (n ∷ ns) = node_rule used below n && each_node used (below ++ (n ∷ [])) ns

-- The rule of a store of nodes over so many used terms (3 BadNode otherwise): node 0 "is always there".
unfoldable pub nodes_rule : ℕ → List Node → Bool
nodes_rule used ns = leb 1 (length ns) && each_node used [] ns

-- A store of nodes within its rule.
abbrev pub GoodNodes : ℕ → List Node → Type 0
GoodNodes used ns = T (nodes_rule used ns)

-- "the length at most the node's reach" (4 BadField otherwise).
unfoldable pub field_rule : List Node → Field → Bool
field_rule ns f = ltb f.node (length ns) && leb f.len (node_at ns f.node).reach

-- The first len terms, at least one, of node i, none missing.
pub record Piece (ns : List Node) (i len : ℕ) : Type 0 where
  pub below : i < length ns
  pub some_node : 1 ≤ (node_at ns i).kind
  pub some_len : 1 ≤ len
  pub within : len ≤ (node_at ns i).reach

-- ---- meaning, over a list xs that has an entry for each term ----

-- "a Cons gives its run, then its tail; a Concat gives the first b terms of its left, then its right"
unfoldable pub meaning_k : {X : Type 0} → ℕ → Node → List X → List (List X) → List X
meaning_k zero n xs below = []
meaning_k (suc zero) n xs below = part xs (record { start = n.a; len = n.b }) ++ get_or below n.c []
meaning_k (suc (suc k)) n xs below = take n.b (get_or below n.a []) ++ get_or below n.c []

-- The terms that a node gives, from those that the lower ones give.
unfoldable pub meaning_of : {X : Type 0} → List X → Node → List (List X) → List X
meaning_of xs n below = meaning_k n.kind n xs below

-- The terms that each node of a store gives.
abbrev pub meanings : {X : Type 0} → List X → List Node → List (List X)
meanings xs ns = table (meaning_of xs) ns []

-- The terms that node i gives.
abbrev pub meaning : {X : Type 0} → List X → List Node → ℕ → List X
meaning xs ns i = get_or (meanings xs ns) i []

-- "a field gives the first length terms"
abbrev pub holds : {X : Type 0} → List X → List Node → Field → List X
holds xs ns f = take f.len (meaning xs ns f.node)
