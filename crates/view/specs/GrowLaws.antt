-- Laws of growth: the room for new nodes, and what a call that builds leaves.
use Rattle.std.specs.Prelude.{◌≡◌, List, Bool, true, false, length, drop}
use Rattle.std.proofs.Math.Path.{refl, ap, sym}
use Rattle.std.proofs.Common.{◌∙◌, length-drop}
use borrow.Author.Tests.{leb-true, le-leb, lt-leb}
use Rattle.std.proofs.Math.Dec.{leb}
use Prim.Native.Nat.{ℕ, ◌+◌, ◌-◌, ◌/◌, ◌<◌, ◌≤◌, min}
use Rattle.std.proofs.Math.Decide.{dec_le}
use native.Mathlib.Omega.{arith}
use Rattle.term_spec.specs.Refusal.{nodes_full}
use Rattle.term_spec.specs.Term.{limit}
use Rattle.term_spec.specs.Words.{Lies, count, write}
use Rattle.term_spec.proofs.WordsLaws.{decode-length}
use Rattle.view_spec.specs.Node.{Node, Field, node_layout}
use Rattle.view_spec.specs.Build.{Built, drop_plan, drop_makes, drop_node, shrink, take_field, rest, range}
use Rattle.view_spec.proofs.DropLaws.{shrink-length}
use Rattle.calls_spec.specs.Store.{capacity}
use Rattle.calls_spec.specs.Step.{Answer, built, refused, Effect, quiet, making, effect_of}
use Rattle.nodes.specs.NodeStore.{nodes_in}
use Rattle.view.specs.Check.{grown_if, grown_by}

-- ---- room ----

module _ (w : List ℕ) (used made : ℕ) where
  pub room-limit : used ≤ limit → limit - used < made → false ≡ leb (used + made) (capacity node_layout w)
  unfolding capacity
  room-limit u h = sym (lt-leb (used + made) (min (count node_layout w) limit) (omega arith))

  pub room_slice : Lies node_layout w used → used ≤ limit → made ≤ limit - used → leb made (length w / node_layout.width - used) ≡ leb (used + made) (capacity node_layout w)
  unfolding capacity count
  room_slice f u h = elim (dec_le made (length w / node_layout.width - used)) [
    | yes k ↦ le-leb made (length w / node_layout.width - used) k ∙ sym (le-leb (used + made) (min (length w / node_layout.width) limit) (omega arith))
    | no k ↦ lt-leb made (length w / node_layout.width - used) (omega arith) ∙ sym (lt-leb (used + made) (min (length w / node_layout.width) limit) (omega arith))
  ]

  pub room_fits : leb (used + made) (capacity node_layout w) ≡ true → (used + made ≤ limit) × Lies node_layout w (used + made)
  unfolding capacity count
  room_fits e = let h : used + made ≤ min (length w / node_layout.width) limit = leb-true _ _ e in (omega arith, omega arith)

-- ---- growth ----

module _ (w : List ℕ) (used : ℕ) (b : Built) (made : ℕ) (ln : length b.nodes ≡ used + made) where
  new-nodes : length (drop used b.nodes) ≡ made
  new-nodes = rw (length-drop, ln) (omega arith)

  pub grown-full : leb (used + made) (capacity node_layout w) ≡ false → (refused nodes_full, w, used) ≡ grown_by w used b
  unfolding grown_by grown_if
  grown-full e = rw (new-nodes, e) refl

  pub grown_done : leb (used + made) (capacity node_layout w) ≡ true → {g : Field} {v : List ℕ} → g ≡ b.field → v ≡ write node_layout w used (drop used b.nodes)
      → (built g, v, used + made) ≡ grown_by w used b
  unfolding grown_by grown_if
  grown_done e p q = rw (p, q, ← new-nodes, ap (λ m. leb (used + m) (capacity node_layout w)) new-nodes ∙ e) refl

pub count-after : (used : ℕ) {m x : ℕ} → m ≡ x → used + m ≡ used + x
count-after used e = ap (λ z. used + z) e

-- the nodes after rest
pub rest-length : (w : List ℕ) (used : ℕ) (f : Field) (k : ℕ) {m : ℕ} → m ≡ drop_makes (drop_plan (nodes_in w used) f.node k)
    → length (rest f k (nodes_in w used)).nodes ≡ used + m
unfolding rest
rest-length w used f k e = shrink-length (drop_plan (nodes_in w used) f.node k) (nodes_in w used) ∙ rw (decode-length, ← e) refl

pub rest-grown : (w : List ℕ) (used : ℕ) (f : Field) (k : ℕ) {m : ℕ} → m ≡ drop_makes (drop_plan (nodes_in w used) f.node k) → leb (used + m) (capacity node_layout w) ≡ true
    → {h : Field} {i : ℕ} {v : List ℕ} → h ≡ record { node = i; len = f.len - k } → i ≡ drop_node (drop_plan (nodes_in w used) f.node k) (nodes_in w used)
    → v ≡ write node_layout w used (drop used (shrink (drop_plan (nodes_in w used) f.node k) (nodes_in w used)))
    → (built h, v, used + m) ≡ grown_by w used (rest f k (nodes_in w used))
unfolding rest
rest-grown w used f k {m} e h z p q =
    grown_done w used (rest f k (nodes_in w used)) m (rest-length w used f k e) h (z ∙ ap (λ i. record { node = i; len = f.len - k }) p) q

-- ---- range: rest, then take ----

-- An answer with its field, if it has one, clamped.
unfoldable pub clamp_by : ℕ → Effect → Answer → Answer
clamp_by n quiet a = a
clamp_by n (making f) a = built (take_field f n)

-- By what it says of fields.
abbrev pub clamp_answer : ℕ → Answer → Answer
clamp_answer n a = clamp_by n (effect_of a) a

range_if : (b : Bool) (w : List ℕ) (used : ℕ) (f : Field) (k n : ℕ) (ns : List Node)
    → (clamp_answer n (grown_if b w used (rest f k ns)).0, (grown_if b w used (rest f k ns)).1, (grown_if b w used (rest f k ns)).2) ≡ grown_if b w used (range f k n ns)
unfolding clamp_by effect_of grown_if range
range_if true w used f k n ns = refl
range_if false w used f k n ns = refl

pub range-grown : (w : List ℕ) (used : ℕ) (f : Field) (k n : ℕ) (ns : List Node) {a : Answer} {v : List ℕ} {u : ℕ}
    → (a, v, u) ≡ grown_by w used (rest f k ns) → (clamp_answer n a, v, u) ≡ grown_by w used (range f k n ns)
unfolding grown_by range
range-grown w used f k n ns p = ap (λ t. (clamp_answer n t.0, t.1, t.2)) p ∙ range_if _ w used f k n ns

-- The field that rest answers has what is left of the terms.
rest_len : (b : Bool) (w : List ℕ) (used : ℕ) (f : Field) (k : ℕ) (ns : List Node) {g : Field} → built g ≡ (grown_if b w used (rest f k ns)).0 → g.len ≡ f.len - k
unfolding grown_if rest
rest_len true w used f k ns {g} e = let q : g ≡ record { node = drop_node (drop_plan ns f.node k) ns; len = f.len - k } = cc in ap (λ h. h.len) q
rest_len false w used f k ns e = let z : ◌≡◌ {A = ℕ} 0 1 = cc in absurd (omega arith)

pub range_built : (w : List ℕ) (used : ℕ) (f : Field) (k n : ℕ) (ns : List Node) {g h : Field} {a : Answer} {v : List ℕ} {u : ℕ} → (a, v, u) ≡ grown_by w used (rest f k ns)
    → a ≡ built g → k + n ≤ f.len → h ≡ take_field g (min g.len n) → (built h, v, u) ≡ grown_by w used (range f k n ns)
unfolding clamp_by effect_of grown_by
range_built w used f k n ns {g} {h} {a} {v} {u} p q le r =
    let l = rest_len _ w used f k ns (sym q ∙ ap (λ t. t.0) p) in
    let m : min g.len n ≡ n = omega arith in
    rw (r, m) (ap (λ x. (clamp_answer n x, v, u)) (sym q) ∙ range-grown w used f k n ns p)

pub range-full : (w : List ℕ) (used : ℕ) (f : Field) (k n : ℕ) (ns : List Node) {m : ℕ} {a : Answer} {v : List ℕ} {u : ℕ} → (a, v, u) ≡ grown_by w used (rest f k ns)
    → a ≡ refused m → (refused m, v, u) ≡ grown_by w used (range f k n ns)
unfolding clamp_by effect_of
range-full w used f k n ns {m} {a} {v} {u} p q = ap (λ x. (clamp_answer n x, v, u)) (sym q) ∙ range-grown w used f k n ns p
