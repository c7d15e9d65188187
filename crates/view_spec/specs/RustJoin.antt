-- The Rust's join and unclamp (value.rs, `fn join`, `fn unclamp`), statement by statement, over nodes that are numbered as they are made.
-- Loop and recursion are bounded by numbers, which RustJoinLaws shows to suffice.
use Rattle.std.specs.Prelude.{List, length, ℕ, suc, zero, ◌+◌, ◌-◌}
use Rattle.std.proofs.Math.Decide.{ℕ_discrete, dec_lt, dec_le}
use Rattle.view_spec.specs.Node.{Node, node_at}
use Rattle.view_spec.specs.Build.{make_concat, if_dec}

-- unclamp's loop from one node on: the nodes, the node, the length. The node that it hands back.
abbrev pub UnclampLoop : Type 0
UnclampLoop = List Node → ℕ → ℕ → ℕ

-- One round, by the kind of the node: a node that is no Concat ends the loop, and so does a Concat whose left is shorter than the length;
-- else the next round is at its left.
unfoldable pub rust_round : ℕ → UnclampLoop → UnclampLoop
rust_round zero loop ns i len = i
rust_round (suc zero) loop ns i len = i
rust_round (suc (suc k)) loop ns i len = if_dec (dec_lt (node_at ns i).b len) i (loop ns (node_at ns i).a len)

-- At most so many rounds.
unfoldable pub rust_rounds : ℕ → UnclampLoop
rust_rounds zero ns i len = i
rust_rounds (suc f) ns i len = rust_round (node_at ns i).kind (rust_rounds f) ns i len

-- unclamp. A left is lower than its Concat, so there are at most as many rounds as nodes up to i.
unfoldable pub rust_unclamp : UnclampLoop
rust_unclamp ns i len = rust_rounds (suc i) ns i len

-- The nodes, and the node handed back.
abbrev pub Joined : Type 0
Joined = List Node × ℕ

-- make_concat: one node more, and its number.
unfoldable pub rust_concat : List Node → ℕ → ℕ → ℕ → Joined
rust_concat ns l n r = (make_concat ns l n r, length ns)

-- The Concat of a's first b terms before the node that the recursion handed back.
unfoldable pub rust_outer : ℕ → ℕ → Joined → Joined
rust_outer a b t = rust_concat t.0 a b t.1

-- The recursive call: nodes, left node and length, right node and length.
abbrev pub Recursion : Type 0
Recursion = List Node → ℕ → ℕ → ℕ → ℕ → Joined

-- Asked where inner_right is the taller child; m is inner_right unclamped. It turns twice when m is a Concat and the terms wanted of m
-- go past m's own left: the head is made first, then the recursion on m's right, then the Concat of both. Else the plain Concat.
unfoldable pub rust_double : ℕ → Recursion → List Node → ℕ → ℕ → ℕ → ℕ → ℕ → Joined
rust_double zero rec ns l m n r k = rust_concat ns l n r
rust_double (suc zero) rec ns l m n r k = rust_concat ns l n r
rust_double (suc (suc j)) rec ns l m n r k =
    if_dec (dec_lt (node_at ns m).b (n - (node_at ns l).b))
    (rust_outer (length ns) ((node_at ns l).b + (node_at ns m).b)
    (rec (make_concat ns (node_at ns l).a (node_at ns l).b (node_at ns m).a) (node_at ns m).c (n - (node_at ns l).b - (node_at ns m).b) r k))
    (rust_concat ns l n r)

-- A left that is no Concat, or gives no more than its own left, is not turned. Else one turn serves when inner_left is at least as tall
-- as inner_right: the recursion on inner_right, then the Concat of inner_left before it.
unfoldable pub rust_single : ℕ → Recursion → List Node → ℕ → ℕ → ℕ → ℕ → Joined
rust_single zero rec ns l n r k = rust_concat ns l n r
rust_single (suc zero) rec ns l n r k = rust_concat ns l n r
rust_single (suc (suc j)) rec ns l n r k =
    if_dec (dec_lt (node_at ns l).b n)
    (if_dec (dec_le (node_at ns (node_at ns l).c).height (node_at ns (node_at ns l).a).height)
    (rust_outer (node_at ns l).a (node_at ns l).b (rec ns (node_at ns l).c (n - (node_at ns l).b) r k))
    (rust_double (node_at ns (rust_unclamp ns (node_at ns l).c (n - (node_at ns l).b))).kind rec ns l
    (rust_unclamp ns (node_at ns l).c (n - (node_at ns l).b)) n r k))
    (rust_concat ns l n r)

-- Whether a turn is tried at all: the left is more than one taller than the right, both unclamped.
unfoldable pub rust_turn : Recursion → List Node → ℕ → ℕ → ℕ → ℕ → Joined
rust_turn rec ns l n r k = if_dec (dec_lt (suc (node_at ns r).height) (node_at ns l).height) (rust_single (node_at ns l).kind rec ns l n r k) (rust_concat ns l n r)

-- An empty operand gives the other; else both are unclamped, and the left is perhaps turned.
unfoldable pub rust_join : ℕ → Recursion
rust_join zero ns l n r k = (ns, l)
rust_join (suc f) ns l n r k =
    if_dec (ℕ_discrete n 0) (ns, r) (if_dec (ℕ_discrete k 0) (ns, l) (rust_turn (rust_join f) ns (rust_unclamp ns l n) n (rust_unclamp ns r k) k))
