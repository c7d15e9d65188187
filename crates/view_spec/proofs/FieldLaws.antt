-- What the calls that build fields do: the store stays good and only grows, and the field answered is good and holds the terms meant.
use Rattle.std.specs.Prelude.{◌≡◌, List, [], ◌++◌, T, length, take, drop, ℕ, ◌+◌, ◌-◌, ◌≤◌, ◌<◌}
use Rattle.std.proofs.Common.{ap, ap₂, sym, ◌∙◌, append-nil, length-append, length-drop, take-take, take_all, arith}
use Rattle.std.proofs.Math.Decide.{ℕ_discrete}
use Rattle.term_spec.proofs.ListLaws.{take-right, drop-take}
use Rattle.term_spec.specs.Term.{Run, runs_rule, limit}
use Rattle.view_spec.specs.Node.{Node, Field, node_at, nodes_rule, field_rule, meaning, holds, Piece}
use Rattle.view_spec.specs.Build.{Built, fuse, chain, chain_head, total, parts, spec_from_runs, join_right, join_plan, join_by, join, drop_plan, drop_node, shrink, take_field, rest, range}
use Rattle.view_spec.proofs.NodeLaws.{node_some, reach_is, field_facts, facts_field, field_fits, holds-length}
use Rattle.view_spec.proofs.ChainLaws.{fuse-fine, fuse-parts, parts-length, chain_made}
use Rattle.view_spec.proofs.PlanLaws.{unclamped}
use Rattle.view_spec.proofs.JoinLaws.{planned, grow_made}
use Rattle.view_spec.proofs.DropLaws.{dropped, shrink_made}

-- Of a call over the terms xs and the nodes ns: what it leaves is good, grown from ns, and its field holds l.
pub record Builds {X : Type 0} (xs : List X) (ns : List Node) (b : Built) (l : List X) : Type 0 where
  pub good : T (nodes_rule (length xs) b.nodes)
  pub grown : (new : List Node) × (b.nodes ≡ ns ++ new)
  pub field : T (field_rule b.nodes b.field)
  pub shows : holds xs b.nodes b.field ≡ l

-- A field on a node that means l.
field_of : {X : Type 0} (xs : List X) (ms : List Node) (i n : ℕ) (l : List X) → T (nodes_rule (length xs) ms) → i < length ms → meaning xs ms i ≡ l
    → n ≤ length l → n ≤ limit → T (field_rule ms (record { node = i; len = n }))
field_of xs ms i n l g lt e h k = facts_field ms (record { node = i; len = n }) lt (omega (arith, reach_is xs ms g i lt, ap length e))

-- A field that is not empty: its node, no Nil, has its terms.
pub field_piece : {X : Type 0} (xs : List X) (ns : List Node) (f : Field) → T (nodes_rule (length xs) ns) → T (field_rule ns f) → 1 ≤ f.len
    → Piece ns f.node f.len
field_piece xs ns f g h le = let (x, y) = field_facts ns f h in
    record { below = x; some_node = node_some (length xs) ns f.node g x (omega arith); some_len = le; within = y }

-- "`take` keeps the node and lowers the length."
pub take-field : {X : Type 0} (xs : List X) (f : Field) (n : ℕ) (ns : List Node) → T (field_rule ns f) → n ≤ f.len
    → T (field_rule ns (take_field f n)) × (holds xs ns (take_field f n) ≡ take n (holds xs ns f))
unfolding take_field
take-field xs f n ns h le = let (x, y) = field_facts ns f h in
    (facts_field ns (record { node = f.node; len = n }) x (omega arith), sym (take-take n f.len (meaning xs ns f.node) le))

pub builds_runs : {X : Type 0} (xs : List X) (rs : List Run) (ns : List Node) → T (nodes_rule (length xs) ns) → T (runs_rule (length xs) rs) → total rs ≤ limit
    → Builds xs ns (spec_from_runs rs ns) (parts xs rs)
unfolding spec_from_runs
builds_runs xs rs ns g a t =
    let c = chain_made xs (fuse rs) ns g (fuse-fine (length xs) rs a) in
    let e = c.shows ∙ fuse-parts xs rs in
    let n = parts-length xs rs a in
    record {
      good = c.good;
      grown = c.grown;
      field = field_of xs (chain (fuse rs) ns) (chain_head (fuse rs) (chain (fuse rs) ns)) (total rs) (parts xs rs) c.good c.below e (omega arith) t;
      shows = ap (take (total rs)) e ∙ take_all (total rs) (parts xs rs) (omega arith);
    }

by_lengths : {X : Type 0} (xs : List X) (f g : Field) (d : Dec (f.len ≡ 0)) (d' : Dec (g.len ≡ 0)) (ns : List Node) → T (nodes_rule (length xs) ns)
    → T (field_rule ns f) → T (field_rule ns g) → f.len + g.len ≤ limit → Builds xs ns (join_by d d' f g ns) (holds xs ns f ++ holds xs ns g)
unfolding join_by
by_lengths xs f g (yes e) d' ns gn hf hg le =
    let n : f.len + g.len ≡ g.len = omega arith in
    let (x, y) = field_facts ns g hg in
    record {
      good = gn;
      grown = ([], sym (append-nil ns));
      field = facts_field ns (record { node = g.node; len = f.len + g.len }) x (omega arith);
      shows = ap₂ (λ a b. take a (meaning xs ns f.node) ++ take b (meaning xs ns g.node)) (sym e) n;
    }
by_lengths xs f g (no e) (yes e') ns gn hf hg le =
    let n : f.len + g.len ≡ f.len = omega arith in
    let (x, y) = field_facts ns f hf in
    record {
      good = gn;
      grown = ([], sym (append-nil ns));
      field = facts_field ns (record { node = f.node; len = f.len + g.len }) x (omega arith);
      shows = ap (λ a. take a (meaning xs ns f.node)) n ∙ sym (append-nil (holds xs ns f)) ∙ ap (λ b. holds xs ns f ++ take b (meaning xs ns g.node)) (sym e');
    }
by_lengths xs f g (no e) (no e') ns gn hf hg le =
    let pg = field_piece xs ns g gn hg (omega arith) in
    let u = unclamped xs ns gn g.node g.len pg.below pg.some_node pg.within in
    let rl : join_right g ns < length ns = omega (arith, u.lower, pg.below) in
    let q = planned xs ns gn (node_at ns (join_right g ns)).height f.node f.len (field_piece xs ns f gn hf (omega arith)) in
    let m = grow_made xs (join_right g ns) (join_plan f g ns) ns gn q.fits rl u.some_node in
    let fl = (field_fits xs ns f gn hf).0 in
    let hl = holds-length xs ns f gn hf in
    let ml = reach_is xs ns gn (join_right g ns) rl in
    let z = m.shows ∙ ap (◌++ meaning xs ns (join_right g ns)) q.shows in
    let n : f.len + g.len - f.len ≡ g.len = omega arith in
    record {
      good = m.good;
      grown = m.grown;
      field = field_of xs _ _ (f.len + g.len) (holds xs ns f ++ meaning xs ns (join_right g ns)) m.good m.below z (rw length-append (omega (arith, u.within))) le;
      shows = ap (take (f.len + g.len)) z
          ∙ take-right (f.len + g.len) f.len (meaning xs ns f.node) (meaning xs ns (join_right g ns)) (omega arith) fl
          ∙ ap (holds xs ns f ++◌) (ap (λ y. take y (meaning xs ns (join_right g ns))) n ∙ u.shows);
    }

pub builds_join : {X : Type 0} (xs : List X) (f g : Field) (ns : List Node) → T (nodes_rule (length xs) ns) → T (field_rule ns f) → T (field_rule ns g)
    → f.len + g.len ≤ limit → Builds xs ns (join f g ns) (holds xs ns f ++ holds xs ns g)
unfolding join
builds_join xs f g ns gn hf hg le = by_lengths xs f g (ℕ_discrete f.len 0) (ℕ_discrete g.len 0) ns gn hf hg le

pub builds_rest : {X : Type 0} (xs : List X) (f : Field) (k : ℕ) (ns : List Node) → T (nodes_rule (length xs) ns) → T (field_rule ns f) → k ≤ f.len
    → Builds xs ns (rest f k ns) (drop k (holds xs ns f))
unfolding rest
builds_rest xs f k ns g h le =
    let (x, y) = field_facts ns f h in
    let (fl, fc) = field_fits xs ns f g h in
    let d = dropped xs ns g f.node k x (omega arith) in
    let s = shrink_made xs (drop_plan ns f.node k) ns g d.lasts in
    let z = s.shows ∙ d.shows in
    record {
      good = s.good;
      grown = s.grown;
      field = field_of xs (shrink (drop_plan ns f.node k) ns) (drop_node (drop_plan ns f.node k) ns) (f.len - k) (drop k (meaning xs ns f.node))
          s.good s.below z (rw length-drop (omega arith)) (omega arith);
      shows = ap (take (f.len - k)) z ∙ sym (drop-take k f.len (meaning xs ns f.node));
    }

-- "`range` is `rest`, then `take`."
pub builds_range : {X : Type 0} (xs : List X) (f : Field) (k n : ℕ) (ns : List Node) → T (nodes_rule (length xs) ns) → T (field_rule ns f) → k + n ≤ f.len
    → Builds xs ns (range f k n ns) (take n (drop k (holds xs ns f)))
unfolding range rest
builds_range xs f k n ns g h le =
    let b = builds_rest xs f k ns g h (omega arith) in
    let (t, e) = take-field xs (rest f k ns).field n (rest f k ns).nodes b.field (omega arith) in
    record { good = b.good; grown = b.grown; field = t; shows = e ∙ ap (take n) b.shows }
