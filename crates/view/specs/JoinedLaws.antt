-- Laws of `joined`: what a join leaves, by its operands.
use Rattle.std.specs.Prelude.{◌≡◌, List, [], true, false, leb, length, drop, ℕ, ◌+◌, ◌-◌, ◌/◌, ◌<◌, ◌≤◌, min}
use Rattle.std.proofs.Math.Path.{refl, ap}
use Rattle.std.proofs.Common.{sym, ◌∙◌, arith}
use borrow.Author.Tests.{le-leb}
use Rattle.std.proofs.Math.Seq.{drop-length}
use Rattle.term_spec.specs.Refusal.{nodes_full}
use Rattle.term_spec.specs.Term.{limit}
use Rattle.term_spec.specs.Words.{Lies, record_at, count, write}
use Rattle.term_spec.proofs.WordsLaws.{decode-length, write_none}
use Rattle.view_spec.specs.Node.{Node, Field, node_layout, node_at, Piece}
use Rattle.view_spec.proofs.NodeLaws.{node_lays, node_some}
use Rattle.view_spec.specs.Build.{Built, last, unclamp, plan, plan_makes, join_by, join}
use Rattle.view_spec.proofs.JoinLaws.{grow-length}
use Rattle.view_spec.proofs.PlanLaws.{unclamped}
use Rattle.calls_spec.specs.Store.{capacity}
use Rattle.calls_spec.specs.Step.{built, refused}
use Rattle.nodes.specs.NodeStore.{nodes_in, NodeStore, AnyStore, Reaches}
use Rattle.nodes.specs.RuleLaws.{below_at}
use Rattle.nodes.specs.MakeLaws.{any, good-any}
use Rattle.join.specs.Turn.{plan_before, grown, Joins}
use Rattle.view.specs.Check.{grown_if, grown_by}
use Rattle.view.specs.GrowLaws.{grown-full, grown_done}

module _ (w : List ℕ) {terms : ℕ} (used : ℕ) (s : NodeStore w terms used) where
  no_new : drop used (nodes_in w used) ≡ []
  no_new = ap (λ n. drop n (nodes_in w used)) (sym (decode-length node_layout used w)) ∙ drop-length (nodes_in w used)

  room-now : leb (used + 0) (capacity node_layout w) ≡ true
  unfolding capacity count
  room-now = le-leb (used + 0) (min (length w / node_layout.width) limit) (omega (arith, s.fits, s.few))

  -- a field and no new node
  pub same_nodes : (h : Field) → (built h, w, used) ≡ grown_by w used (record { nodes = nodes_in w used; field = h })
  unfolding grown_by grown_if
  same_nodes h = rw (no_new, room-now, no_new, write_none node_layout node_lays w used) (ap (λ n. (built h, w, n)) (omega arith))

  module _ (f g : Field) where
    by_left : (d : Dec (f.len ≡ 0)) (d' : Dec (g.len ≡ 0)) → f.len ≡ 0 → (built g, w, used) ≡ grown_by w used (join_by d d' f g (nodes_in w used))
    unfolding join_by
    by_left (yes h) d' z = ap (λ n. (built (record { node = g.node; len = n }), w, used)) (omega arith) ∙ same_nodes (record { node = g.node; len = f.len + g.len })
    by_left (no h) d' z = absurd (h z)

    pub join_left_empty : f.len ≡ 0 → (built g, w, used) ≡ grown_by w used (join f g (nodes_in w used))
    unfolding join
    join_left_empty z = by_left _ _ z

    by_right : (d : Dec (f.len ≡ 0)) (d' : Dec (g.len ≡ 0)) → (f.len ≡ 0 → ⊥) → g.len ≡ 0 → (built f, w, used) ≡ grown_by w used (join_by d d' f g (nodes_in w used))
    unfolding join_by
    by_right (yes h) d' k z = absurd (k h)
    by_right (no h) (yes j) k z = ap (λ n. (built (record { node = f.node; len = n }), w, used)) (omega arith) ∙ same_nodes (record { node = f.node; len = f.len + g.len })
    by_right (no h) (no j) k z = absurd (j z)

    pub join_right_empty : (f.len ≡ 0 → ⊥) → g.len ≡ 0 → (built f, w, used) ≡ grown_by w used (join f g (nodes_in w used))
    unfolding join
    join_right_empty k z = by_right _ _ k z

-- A field that is not empty is a piece of its node.
pub field_piece : (w : List ℕ) (used : ℕ) → AnyStore w used → (i len : ℕ) → Reaches w used i len → (len ≡ 0 → ⊥) → Piece (nodes_in w used) i len
field_piece w used s i len r k =
    let l = decode-length node_layout used w in
    let b : i < length (nodes_in w used) = omega (arith, l, r.low) in
    let o : 1 ≤ len = omega arith in
    record { below = b; some_node = node_some s.terms (nodes_in w used) i s.store.good b (omega (arith, r.fits)); some_len = o; within = r.fits }

-- The right, unclamped, is a lower node that is no Nil.
pub right_piece : (w : List ℕ) (used : ℕ) → AnyStore w used → {i len r : ℕ} → Piece (nodes_in w used) i len → r ≡ unclamp (nodes_in w used) i len
    → (r < used) × (1 ≤ (node_at (nodes_in w used) r).kind)
right_piece w used s {i} {len} {r} p e =
    let u = unclamped (any s.terms) (nodes_in w used) (good-any s.terms (nodes_in w used) s.store.good) i len p.below p.some_node p.within in
    let l = decode-length node_layout used w in
    (omega (arith, e, u.lower, p.below, l), rw e u.some_node)

-- The height of a node that was read.
pub height_at : (w : List ℕ) (used r : ℕ) {n : Node} → n ≡ record_at node_layout w r → r < used → n.height ≡ (node_at (nodes_in w used) r).height
height_at w used r e h = ap (λ n. n.height) (below_at w used r e h)

-- ---- the nodes of a join of two fields that are not empty ----

-- The nodes after the join of f and g, r being the right unclamped, and its field.
abbrev both_built : List Node → ℕ → Field → Field → Built
both_built ns r f g = record {
  nodes = grown ns r f.node f.len;
  field = record { node = last (grown ns r f.node f.len); len = f.len + g.len };
}

module _ (w : List ℕ) (used : ℕ) (f g : Field) (ff : f.len ≡ 0 → ⊥) (gg : g.len ≡ 0 → ⊥) {r m h : ℕ} (re : r ≡ unclamp (nodes_in w used) g.node g.len)
    (he : h ≡ (node_at (nodes_in w used) r).height) (me : m ≡ plan_makes (plan (nodes_in w used) h f.node f.len)) where
  by_both : (d : Dec (f.len ≡ 0)) (d' : Dec (g.len ≡ 0))
      → join_by d d' f g (nodes_in w used) ≡ both_built (nodes_in w used) r f g
  unfolding join_by
  by_both (yes a) d' = absurd (ff a)
  by_both (no a) (yes b) = absurd (gg b)
  by_both (no a) (no b) = rw re refl

  joins : join f g (nodes_in w used) ≡ both_built (nodes_in w used) r f g
  unfolding join
  joins = by_both _ _

  pub made_before : m ≡ plan_makes (plan_before (nodes_in w used) r f.node f.len)
  made_before = me ∙ ap (λ x. plan_makes (plan (nodes_in w used) x f.node f.len)) he

  -- What join_build asks of the right and the room.
  pub joins_fit : (r < used) × (1 ≤ (node_at (nodes_in w used) r).kind) → (used + m ≤ limit) × Lies node_layout w (used + m) → Joins w used r f.node f.len (used + m)
  joins_fit (low, some) (few, room) = record { low = low; some_node = some; made = ap (λ z. used + z) made_before; few = few; room = room }

  join-length : length (grown (nodes_in w used) r f.node f.len) ≡ used + m
  join-length = grow-length r (plan_before (nodes_in w used) r f.node f.len) (nodes_in w used) ∙ rw (decode-length, ← made_before) refl

  pub joined-full : leb (used + m) (capacity node_layout w) ≡ false → (refused nodes_full, w, used) ≡ grown_by w used (join f g (nodes_in w used))
  joined-full e = rw joins (grown-full w used _ m join-length e)

  pub joined_done : leb (used + m) (capacity node_layout w) ≡ true → {j : Field} {v : List ℕ} → j ≡ record { node = used + m - 1; len = f.len + g.len }
      → v ≡ write node_layout w used (drop used (grown (nodes_in w used) r f.node f.len))
      → (built j, v, used + m) ≡ grown_by w used (join f g (nodes_in w used))
  joined_done e p q =
      rw joins (grown_done w used _ m join-length e (p ∙ ap (λ x. record { node = x - 1; len = f.len + g.len }) (sym join-length)) q)
