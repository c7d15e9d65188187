-- The calls that build fields, on a list of nodes: from_runs, join, take, rest, range (01, "View fields"). New nodes go to the end,
-- in the order in which the Rust makes them.
use Rattle.std.specs.Prelude.{List, [], ◌∷◌, ◌++◌, length, get_or, ℕ, suc, zero, ◌+◌, ◌-◌}
use Rattle.std.proofs.Math.Decide.{ℕ_discrete, dec_lt, dec_le}
use Rattle.term_spec.specs.Term.{Run, part}
use Rattle.term_spec.specs.Table.{table}
use Rattle.view_spec.specs.Node.{Node, Field, node_at, cons_node, concat_node}

-- The nodes after a call, and the field it answers.
pub record Built : Type 0 where
  pub nodes : List Node
  pub field : Field

-- The number of the node made last.
abbrev pub last : List Node → ℕ
last ns = length ns - 1

-- One more node, a Cons.
abbrev pub make_cons : List Node → ℕ → ℕ → ℕ → List Node
make_cons ns a b c = ns ++ (cons_node ns a b c ∷ [])

-- One more node, a Concat (the Rust's make_concat).
abbrev pub make_concat : List Node → ℕ → ℕ → ℕ → List Node
make_concat ns a b c = ns ++ (concat_node ns a b c ∷ [])

-- One of two, by a decision.
unfoldable pub if_dec : {P A : Type 0} → Dec P → A → A → A
if_dec (yes h) x y = x
if_dec (no h) x y = y

-- ---- from_runs: "skips empty runs and fuses neighbours when the first ends where the second starts; one Cons per run left, made from
-- the last run to the first" ----

-- A run before a list, fused with its first run or not.
unfoldable pub fuse_head : {P : Type 0} → Dec P → Run → Run → List Run → List Run
fuse_head (yes h) r q qs = record { start = r.start; len = r.len + q.len } ∷ qs
fuse_head (no h) r q qs = r ∷ (q ∷ qs)

-- "fuses neighbours when the first ends where the second starts"
unfoldable pub fuse_onto : Run → List Run → List Run
fuse_onto r [] = r ∷ []
fuse_onto r (q ∷ qs) = fuse_head (ℕ_discrete (r.start + r.len) q.start) r q qs

-- "skips empty runs", from the last run to the first, so that a fused run may fuse again.
unfoldable pub fuse : List Run → List Run
fuse [] = []
fuse (r ∷ rs) = if_dec (ℕ_discrete r.len 0) (fuse rs) (fuse_onto r (fuse rs))

-- The first Cons of the runs' chain, which is the last made; node 0 if there is none.
unfoldable pub chain_head : List Run → List Node → ℕ
chain_head [] ns = 0
chain_head (r ∷ rs) ns = last ns

-- "one Cons per run left, made from the last run to the first"
unfoldable pub chain : List Run → List Node → List Node
chain [] ns = ns
chain (r ∷ rs) ns = make_cons (chain rs ns) r.start r.len (chain_head rs (chain rs ns))

-- The terms of runs together.
unfoldable pub total : List Run → ℕ
total [] = 0
total (r ∷ rs) = r.len + total rs

-- The terms of runs, in order.
unfoldable pub parts : {X : Type 0} → List X → List Run → List X
parts xs [] = []
parts xs (r ∷ rs) = part xs r ++ parts xs rs

-- `from_runs`.
unfoldable pub spec_from_runs : List Run → List Node → Built
spec_from_runs rs ns = record { nodes = chain (fuse rs) ns; field = record { node = chain_head (fuse rs) (chain (fuse rs) ns); len = total rs } }

-- ---- unclamp: down the left while the length fits in it; the entry of each node takes a length to a node ----

-- The entry of a node by its kind: a Concat whose left holds the length goes on in its left.
unfoldable pub unclamp_k : ℕ → Node → List (ℕ → ℕ) → ℕ → ℕ
unclamp_k zero n below len = length below
unclamp_k (suc zero) n below len = length below
unclamp_k (suc (suc k)) n below len = if_dec (dec_le len n.b) (get_or below n.a (λ z. 0) len) (length below)

-- The entry of a node.
unfoldable pub unclamp_of : Node → List (ℕ → ℕ) → ℕ → ℕ
unclamp_of n below len = unclamp_k n.kind n below len

-- The Rust's unclamp, for len terms of node i.
unfoldable pub unclamp : List Node → ℕ → ℕ → ℕ
unclamp ns i len = get_or (table unclamp_of ns []) i (λ z. 0) len

-- ---- join: decided as a plan, from the top of the left down, then carried out. The Rust's own recursion is in RustJoin. ----

-- base: a Concat of the first len terms of a node, and the right. single: a's first b terms before what the rest of the plan makes.
-- double: a head of a's first b terms and c, then the first b + d terms of that head before what the rest of the plan makes.
pub data Plan : Type 0 where
  base : ℕ → ℕ → Plan
  single : ℕ → ℕ → Plan → Plan
  double : ℕ → ℕ → ℕ → ℕ → Plan → Plan

-- The turn at node n, number i, that a taller inner right asks: m is that inner right unclamped, `inner` the terms wanted of it.
unfoldable pub second_k : ℕ → Node → Node → ℕ → ℕ → ℕ → List (ℕ → Plan) → Plan
second_k zero m n i len inner below = base i len
second_k (suc zero) m n i len inner below = base i len
second_k (suc (suc k)) m n i len inner below =
    if_dec (dec_lt m.b inner) (double n.a n.b m.a m.b (get_or below m.c (base 0) (inner - m.b))) (base i len)

-- The plan for len terms of node n; h is the height of the unclamped right, ns all the nodes. "the left is rotated only when its height
-- exceeds the right's plus 1 and its length exceeds its own left length"
unfoldable pub plan_k : ℕ → Node → List Node → ℕ → List (ℕ → Plan) → ℕ → Plan
plan_k zero n ns h below len = base (length below) len
plan_k (suc zero) n ns h below len = base (length below) len
plan_k (suc (suc k)) n ns h below len =
    if_dec (dec_le len n.b) (get_or below n.a (base 0) len)
    (if_dec (dec_lt (suc h) n.height)
    (if_dec (dec_le (node_at ns n.c).height (node_at ns n.a).height)
    (single n.a n.b (get_or below n.c (base 0) (len - n.b)))
    (second_k (node_at ns (unclamp ns n.c (len - n.b))).kind (node_at ns (unclamp ns n.c (len - n.b))) n (length below) len (len - n.b) below))
    (base (length below) len))

-- The entry of a node.
unfoldable pub plan_of : List Node → ℕ → Node → List (ℕ → Plan) → ℕ → Plan
plan_of ns h n below len = plan_k n.kind n ns h below len

-- The plan for len terms of node i.
unfoldable pub plan : List Node → ℕ → ℕ → ℕ → Plan
plan ns h i len = get_or (table (plan_of ns h) ns []) i (base 0) len

-- The nodes after the plan, before the right node r; the last of them is the join.
unfoldable pub grow : ℕ → Plan → List Node → List Node
grow r (base l len) ns = make_concat ns l len r
grow r (single a b p) ns = make_concat (grow r p ns) a b (last (grow r p ns))
grow r (double a b c d p) ns = make_concat (grow r p (make_concat ns a b c)) (length ns) (b + d) (last (grow r p (make_concat ns a b c)))

-- How many nodes a plan makes (02: 2.8).
unfoldable pub plan_makes : Plan → ℕ
plan_makes (base l len) = 1
plan_makes (single a b p) = suc (plan_makes p)
plan_makes (double a b c d p) = suc (suc (plan_makes p))

-- The right operand, unclamped, and the plan of a join of two fields that are not empty.
abbrev pub join_right : Field → List Node → ℕ
join_right g ns = unclamp ns g.node g.len

-- The plan of a join of two fields that are not empty.
abbrev pub join_plan : Field → Field → List Node → Plan
join_plan f g ns = plan ns (node_at ns (join_right g ns)).height f.node f.len

-- "an empty operand returns the other; both are unclamped"
unfoldable pub join_by : {P Q : Type 0} → Dec P → Dec Q → Field → Field → List Node → Built
join_by (yes h) d f g ns = record { nodes = ns; field = record { node = g.node; len = f.len + g.len } }
join_by (no h) (yes k) f g ns = record { nodes = ns; field = record { node = f.node; len = f.len + g.len } }
join_by (no h) (no k) f g ns = record {
  nodes = grow (join_right g ns) (join_plan f g ns) ns;
  field = record { node = last (grow (join_right g ns) (join_plan f g ns) ns); len = f.len + g.len };
}

-- `join`.
unfoldable pub join : Field → Field → List Node → Built
join f g ns = join_by (ℕ_discrete f.len 0) (ℕ_discrete g.len 0) f g ns

-- ---- drop_front: "every shortened Cons makes one node" ----

-- stay: the node is there. cut: a Cons of the run (a, b) before tail c. under: the first m terms of what the inner one leaves before r.
pub data Drop : Type 0 where
  stay : ℕ → Drop
  cut : ℕ → ℕ → ℕ → Drop
  under : Drop → ℕ → ℕ → Drop

-- The entry of a node by its kind: where k terms, at least one, end.
unfoldable pub drop_k : ℕ → Node → List (ℕ → Drop) → ℕ → Drop
drop_k zero n below k = stay (length below)
drop_k (suc zero) n below k = if_dec (dec_lt k n.b) (cut (n.a + k) (n.b - k) n.c) (get_or below n.c stay (k - n.b))
drop_k (suc (suc j)) n below k = if_dec (dec_lt k n.b) (under (get_or below n.a stay k) (n.b - k) n.c) (get_or below n.c stay (k - n.b))

-- The entry of a node; nothing dropped leaves it as it is.
unfoldable pub drop_of : Node → List (ℕ → Drop) → ℕ → Drop
drop_of n below zero = stay (length below)
drop_of n below (suc k) = drop_k n.kind n below (suc k)

-- The Rust's drop_front of k terms of node i, decided.
unfoldable pub drop_plan : List Node → ℕ → ℕ → Drop
drop_plan ns i k = get_or (table drop_of ns []) i stay k

-- How many nodes it makes.
unfoldable pub drop_makes : Drop → ℕ
drop_makes (stay x) = 0
drop_makes (cut a b c) = 1
drop_makes (under p m r) = suc (drop_makes p)

-- The node that it leads to, and the nodes after it.
unfoldable pub drop_node : Drop → List Node → ℕ
drop_node (stay x) ns = x
drop_node (cut a b c) ns = length ns
drop_node (under p m r) ns = length ns + drop_makes p

-- The nodes after it.
unfoldable pub shrink : Drop → List Node → List Node
shrink (stay x) ns = ns
shrink (cut a b c) ns = make_cons ns a b c
shrink (under p m r) ns = make_concat (shrink p ns) (drop_node p ns) m r

-- "`take` keeps the node and lowers the length."
unfoldable pub take_field : Field → ℕ → Field
take_field f n = record { node = f.node; len = n }

-- "`rest` is `drop_front` by the count, the length lowered by it"
unfoldable pub rest : Field → ℕ → List Node → Built
rest f k ns = record { nodes = shrink (drop_plan ns f.node k) ns; field = record { node = drop_node (drop_plan ns f.node k) ns; len = f.len - k } }

-- "`range` is `rest`, then `take`."
unfoldable pub range : Field → ℕ → ℕ → List Node → Built
range f k n ns = record { nodes = (rest f k ns).nodes; field = take_field (rest f k ns).field n }
