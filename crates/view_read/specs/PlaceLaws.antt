-- Laws of flatten and settling: the place of a field by its node, and what the two leave, by the place and the room there is.
use Rattle.std.specs.Prelude.{◌≡◌, List, ◌++◌, length, take, drop, ℕ, ◌+◌, ◌/◌, ◌<◌, ◌≤◌, min}
use Rattle.std.proofs.Math.Path.{refl, ap, sym}
use Rattle.std.proofs.Common.{◌∙◌, take-append-drop}
use Rattle.std.proofs.Math.Option.{none}
use borrow.Author.Tests.{le-leb, lt-leb, eq-eqb, ne_eqb}
use Rattle.std.proofs.Math.Dec.{leb}
use native.Mathlib.Omega.{arith}
use Rattle.term_spec.specs.Words.{Lies, decode, records, record_at, count, whole, write}
use Rattle.term_spec.proofs.WordsLaws.{term_lays, decode-length, decode-part, write_none}
use Rattle.term_spec.specs.Term.{term_layout, Run, no_run, limit}
use Rattle.term_spec.specs.Refusal.{terms_full, work_short}
use Rattle.view_spec.specs.Node.{Node, Field, node_layout, cons_kind, empty_field, node_at, field_rule, holds}
use Rattle.view_spec.proofs.NodeLaws.{facts_field, holds-length, holds_more}
use Rattle.view_spec.specs.Read.{stored, scattered, place, copy_at, copy, settled_at, settled_run}
use Rattle.calls_spec.specs.Store.{Store, terms, nodes, capacity}
use Rattle.calls_spec.specs.Step.{Answer, refused, in_store, in_work, call_flatten, ask, given, flat_answer, flat_work, fits, changed, deed, input, room, accept, refuse, step}
use Rattle.nodes.specs.NodeStore.{nodes_in, NodeStore}
use Rattle.nodes.specs.RuleLaws.{below_at}
use Rattle.view.specs.Check.{numbered, checked}
use Rattle.view.specs.StepLaws.{ordered, one_field, input-refused, input-passed, step-refused, step-full, step_done, Usable, usable}
use Rattle.rope.specs.Pieces.{Below}
use Rattle.view_read.specs.Read.{leaves_work, settled_if, settled_by}

-- ---- the place, by the field's node ----

module _ (w : List ℕ) (used : ℕ) (f : Field) where
  pub place_empty : f.len ≡ 0 → stored no_run ≡ place (nodes_in w used) f
  unfolding place
  place_empty h = rw (place, eq-eqb f.len 0 h) refl

  module _ {n : Node} (e : n ≡ record_at node_layout w f.node) (low : f.node < used) (more : f.len ≡ 0 → ⊥) where
    there : n ≡ node_at (nodes_in w used) f.node
    there = below_at w used f.node e low

    pub place_other : (n.kind ≡ cons_kind → ⊥) → scattered ≡ place (nodes_in w used) f
    unfolding place
    place_other h = rw (place, ne_eqb f.len 0 more, ← there, ne_eqb n.kind 1 h) refl

    pub place_longer : n.kind ≡ cons_kind → (n.c ≡ 0 → ⊥) → scattered ≡ place (nodes_in w used) f
    unfolding place
    place_longer h k = rw (place, ne_eqb f.len 0 more, ← there, eq-eqb n.kind 1 h, ne_eqb n.c 0 k) refl

    pub place-one : n.kind ≡ cons_kind → n.c ≡ 0 → stored (record { start = n.a; len = f.len }) ≡ place (nodes_in w used) f
    unfolding place
    place-one h k = rw (place, ne_eqb f.len 0 more, ← there, eq-eqb n.kind 1 h, eq-eqb n.c 0 k, ← there) refl

-- ---- the length of a copy ----

pub copy-length : (w : List ℕ) (used : ℕ) (v : List ℕ) (m : ℕ) (f : Field) → NodeStore v used m → f.node < m → f.len ≤ (node_at (nodes_in v m) f.node).reach
    → length (holds (decode term_layout used w) (nodes_in v m) f) ≡ f.len
copy-length w used v m f st low within =
    holds-length (decode term_layout used w) (nodes_in v m) f (rw decode-length st.good) (facts_field (nodes_in v m) f (rw decode-length low) within)

-- All terms of a slice, where the nodes are over its first ones only.
pub all-terms : (w : List ℕ) (used : ℕ) (v : List ℕ) (m : ℕ) (f : Field) → Lies term_layout w used → NodeStore v used m
    → holds (records term_layout w) (nodes_in v m) f ≡ holds (decode term_layout used w) (nodes_in v m) f
unfolding records count
all-terms w used v m f there st =
    let all = decode term_layout (length w / term_layout.width) w in
    let first : take used all ≡ decode term_layout used w = decode-part term_layout (length w / term_layout.width) 0 used w (omega arith) in
    ap (λ ts. holds ts (nodes_in v m) f) (sym (take-append-drop used all) ∙ ap (◌++ drop used all) first)
    ∙ holds_more (decode term_layout used w) (drop used all) (nodes_in v m) f (rw decode-length st.good)

-- The nodes of a usable field are over the terms of the slice.
pub below-terms : {s : Store} {f : Field} → Usable s f → Below s.term_words s.node_words s.nodes_used
below-terms {s} u = record { store = record { terms = s.terms_used; few_terms = u.terms; store = u.store }; there = u.values.fits }

-- ---- flatten: one law for each exit ----

module _ (s : Store) (f : Field) (w : List ℕ) {n : ℕ} (e : n ≡ numbered (checked s (whole term_layout w) f empty_field)) where
  one-asked : n ≡ numbered (ordered s (whole term_layout w) (field_rule (nodes s) f) none)
  one-asked = e ∙ ap numbered (one_field s (whole term_layout w) f)

  pub flatten_refused : (n ≡ 0 → ⊥) → leaves_work (refused n) s w ≡ step s (call_flatten f w)
  unfolding deed given leaves_work refuse
  flatten_refused h = sym (step-refused s (call_flatten f w) (input-refused s (call_flatten f w) (whole term_layout w) (field_rule (nodes s) f) none refl refl one-asked h))

  module _ (z : n ≡ 0) where
    nothing_asked : input s (call_flatten f w) ≡ none
    unfolding deed given
    nothing_asked = input-passed s (call_flatten f w) (whole term_layout w) (field_rule (nodes s) f) none refl refl one-asked z

    pub flatten_stored : {r : Run} → stored r ≡ place (nodes_in s.node_words s.nodes_used) f → leaves_work (in_store r) s w ≡ step s (call_flatten f w)
    unfolding nodes deed room fits accept changed flat_answer flat_work copy_at ask leaves_work
    flatten_stored p = sym (step_done s (call_flatten f w) nothing_asked (rw (← p, le-leb 0 (count term_layout w) (omega arith)) refl) ∙ rw (← p) refl)

    module _ (p : scattered ≡ place (nodes_in s.node_words s.nodes_used) f) where
      copied : length (copy (terms s) (nodes s) f) ≡ f.len
      unfolding nodes terms copy_at
      copied = let u = usable s (whole term_layout w) f e z in rw (← p) (copy-length s.term_words s.terms_used s.node_words s.nodes_used f u.store u.low u.within)

      pub flatten_short : length w / term_layout.width < f.len → leaves_work (refused work_short) s w ≡ step s (call_flatten f w)
      unfolding deed given room fits ask leaves_work refuse count
      flatten_short h = sym (step-full s (call_flatten f w) nothing_asked (rw (copied, lt-leb f.len (length w / term_layout.width) h) refl))

      pub flatten_done : f.len ≤ length w / term_layout.width → {v : List ℕ} → v ≡ write term_layout w 0 (holds (records term_layout s.term_words) (nodes_in s.node_words s.nodes_used) f)
          → leaves_work (in_work f.len) s v ≡ step s (call_flatten f w)
      unfolding nodes terms deed room fits accept changed flat_answer flat_work copy_at ask leaves_work count
      flatten_done h q =
          let u = usable s (whole term_layout w) f e z in
          let same = all-terms s.term_words s.terms_used s.node_words s.nodes_used f u.values.fits u.store in
          sym (step_done s (call_flatten f w) nothing_asked (rw (copied, le-leb f.len (length w / term_layout.width) h) refl)
          ∙ rw (← p, flat_answer, flat_work, ← p, q, same) refl)

-- ---- settling: one law for each exit ----

module _ (w : List ℕ) (used : ℕ) (v : List ℕ) (m : ℕ) (f : Field) where
  -- What settling leaves.
  abbrev settled : Answer × List ℕ × ℕ
  settled = settled_by w used (copy (decode term_layout used w) (nodes_in v m) f) (settled_run (decode term_layout used w) (nodes_in v m) f)

  pub settle_stored : {r : Run} → Lies term_layout w used → used ≤ limit → stored r ≡ place (nodes_in v m) f → (in_store r, w, used) ≡ settled
  unfolding settled_by settled_if copy_at settled_at capacity count
  settle_stored h k p =
      let z : used + 0 ≡ used = omega arith in
      rw (← p, le-leb (used + 0) (min (length w / term_layout.width) limit) (omega arith), write_none term_layout term_lays w used, z) refl

  module _ (st : NodeStore v used m) (low : f.node < m) (within : f.len ≤ (node_at (nodes_in v m) f.node).reach) (p : scattered ≡ place (nodes_in v m) f) where
    pub settle_full : min (length w / term_layout.width) limit < used + f.len → (refused terms_full, w, used) ≡ settled
    unfolding settled_by settled_if copy_at settled_at capacity count
    settle_full h = rw (← p, copy-length w used v m f st low within, lt-leb (used + f.len) (min (length w / term_layout.width) limit) h) refl

    pub settle_done : used + f.len ≤ min (length w / term_layout.width) limit → {x : List ℕ} → x ≡ write term_layout w used (holds (decode term_layout used w) (nodes_in v m) f)
        → (in_store (record { start = used; len = f.len }), x, used + f.len) ≡ settled
    unfolding settled_by settled_if copy_at settled_at capacity count
    settle_done h q =
        let ln = copy-length w used v m f st low within in
        rw (← p, q, decode-length, ap (λ m. leb (used + m) (min (length w / term_layout.width) limit)) ln ∙ le-leb (used + f.len) (min (length w / term_layout.width) limit) h, settled_if, ln) refl
