-- The Rust's drop_front (value.rs, `fn drop_front`), statement by statement, over nodes that are numbered as they are made. It bounds
-- its loop and its recursion by a number, which RustDropLaws shows to suffice.
use Rattle.std.specs.Prelude.{List, length, ℕ, suc, zero, ◌+◌, ◌-◌}
use Rattle.std.proofs.Math.Decide.{ℕ_discrete, dec_lt}
use Rattle.view_spec.specs.Node.{Node, node_at}
use Rattle.view_spec.specs.Build.{make_cons, make_concat, if_dec}

-- The nodes, the node handed back, and how many terms were dropped.
abbrev pub Rested : Type 0
Rested = List Node × ℕ × ℕ

-- The loop from one node on: the nodes, the node, the terms left to drop, those dropped so far. drop_front starts it with none.
abbrev pub DropLoop : Type 0
DropLoop = List Node → ℕ → ℕ → ℕ → Rested

-- After the drop inside a left: the right alone where Nil is left of the left, else a Concat that keeps what remains of the left length.
-- The terms that the inner drop dropped count as dropped.
unfoldable pub rust_under : ℕ → ℕ → ℕ → Rested → Rested
rust_under left_len right dropped t =
    if_dec (ℕ_discrete (node_at t.0 t.1).kind 0) (t.0, right, dropped + t.2)
    (make_concat t.0 t.1 (left_len - t.2) right, length t.0, dropped + t.2)

-- One round, by the kind of the node; Nil ends the loop, and so does a round after which no term is left to drop.
unfoldable pub rust_match : ℕ → DropLoop → DropLoop
rust_match zero loop ns i left dropped = (ns, i, dropped)
rust_match (suc zero) loop ns i left dropped =
    if_dec (dec_lt left (node_at ns i).b)
    (make_cons ns ((node_at ns i).a + left) ((node_at ns i).b - left) (node_at ns i).c, length ns, dropped + left)
    (loop ns (node_at ns i).c (left - (node_at ns i).b) (dropped + (node_at ns i).b))
rust_match (suc (suc k)) loop ns i left dropped =
    if_dec (dec_lt left (node_at ns i).b)
    (rust_under (node_at ns i).b (node_at ns i).c dropped (loop ns (node_at ns i).a left 0))
    (loop ns (node_at ns i).c (left - (node_at ns i).b) (dropped + (node_at ns i).b))

-- Whether there is a further round: only while terms are left to drop.
unfoldable pub rust_drop : ℕ → DropLoop
rust_drop zero ns i left dropped = (ns, i, dropped)
rust_drop (suc f) ns i left dropped = if_dec (ℕ_discrete left 0) (ns, i, dropped) (rust_match (node_at ns i).kind (rust_drop f) ns i left dropped)
