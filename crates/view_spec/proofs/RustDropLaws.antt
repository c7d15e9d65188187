-- The Rust's drop_front makes the nodes of `rest`, hands back its node, and drops as many terms as asked.
use Rattle.std.specs.Prelude.{◌≡◌, List, T}
use Rattle.std.proofs.Math.Path.{refl, ap}
use Rattle.std.proofs.Common.{sym, ◌∙◌, inl, inr, length-drop}
use Rattle.std.proofs.Math.ListN.{length}
use Prim.Native.Nat.{ℕ, suc, zero, ◌+◌, ◌-◌, ◌≤◌, ◌<◌}
use Rattle.std.proofs.Math.Decide.{ℕ_discrete, dec_lt}
use native.Mathlib.Omega.{arith}
use Rattle.view_spec.specs.Node.{Node, Field, node_at, nodes_rule, field_rule, meaning, GoodNodes}
use Rattle.view_spec.specs.Build.{Drop, drop_plan, drop_node, shrink, stay, under, rest}
use Rattle.view_spec.specs.RustDrop.{Rested, rust_under, rust_match, rust_drop}
use Rattle.view_spec.proofs.NodeLaws.{ConcatAt, NodeAt, node_at_lem, node_some, meaning_nil, reach_is, cons-length, concat-length, field_facts, field_fits}
use Rattle.view_spec.proofs.PlanLaws.{if_yes, if_no, if_both, left-fits}
use Rattle.view_spec.proofs.DropLaws.{drop_zero, drop-cons, drop-concat, dropped, shrink_made, shrink-length}

-- The nodes that a plan makes, its node, and n.
unfoldable drop_done : List Node → ℕ → Drop → Rested
drop_done ns n p = (shrink p ns, drop_node p ns, n)

module _ {X : Type 0} (xs : List X) (ns : List Node) (g : GoodNodes (length xs) ns) where
  -- What is left of a left that has more terms is no Nil.
  left_some : (i k : ℕ) → i < length ns → k < length (meaning xs ns i) → 1 ≤ (node_at (shrink (drop_plan ns i k) ns) (drop_node (drop_plan ns i k) ns)).kind
  left_some i k lt h =
      let d = dropped xs ns g i k lt (omega arith) in
      let s = shrink_made xs (drop_plan ns i k) ns g d.lasts in
      let l = ap length (s.shows ∙ d.shows) ∙ length-drop k (meaning xs ns i) in
      node_some (length xs) (shrink (drop_plan ns i k) ns) (drop_node (drop_plan ns i k) ns) s.good s.below
      (omega (arith, reach_is xs (shrink (drop_plan ns i k) ns) s.good (drop_node (drop_plan ns i k) ns) s.below))

  under_done : (b c d k : ℕ) (p : Drop) → 1 ≤ (node_at (shrink p ns) (drop_node p ns)).kind → rust_under b c d (drop_done ns k p) ≡ drop_done ns (d + k) (under p (b - k) c)
  unfolding rust_under drop_done shrink drop_node
  under_done b c d k p h =
      if_no (ℕ_discrete (node_at (shrink p ns) (drop_node p ns)).kind 0) _ _ (λ e. omega arith)
      ∙ ap (λ z. (shrink (under p (b - k) c) ns, z, d + k)) (shrink-length p ns)

  abbrev Agrees : ℕ → Type 0
  Agrees f = (i k d : ℕ) → i < f → i < length ns → k ≤ length (meaning xs ns i) → rust_drop f ns i k d ≡ drop_done ns (d + k) (drop_plan ns i k)

  -- A bound above the node's number suffices.
  loop_done : (f : ℕ) → Agrees f
  unfolding rust_drop rust_match drop_done shrink drop_node
  loop_done zero i k d h lt fit = absurd (omega arith)
  loop_done (suc f) i zero d h lt fit =
      let e : d ≡ d + zero = omega arith in
      if_yes (ℕ_discrete zero 0) _ _ refl ∙ ap (λ z. drop_done ns z (stay i)) e ∙ ap (drop_done ns (d + zero)) (sym (drop_zero ns i lt))
  loop_done (suc f) i (suc k) d h lt fit =
      if_no (ℕ_discrete (suc k) 0) _ _ (λ e. omega arith) ∙ go (loop_done f) (node_at_lem (length xs) ns i g lt)
    where
      -- Past the whole run or left, on the tail or right.
      past : Agrees f → (node_at ns i).c < i → (node_at ns i).b ≤ suc k → length (meaning xs ns i) ≡ (node_at ns i).b + length (meaning xs ns (node_at ns i).c)
          → rust_drop f ns (node_at ns i).c (suc k - (node_at ns i).b) (d + (node_at ns i).b)
          ≡ drop_done ns (d + suc k) (drop_plan ns (node_at ns i).c (suc k - (node_at ns i).b))
      past rec low le l =
          let e : d + (node_at ns i).b + (suc k - (node_at ns i).b) ≡ d + suc k = omega arith in
          rec (node_at ns i).c (suc k - (node_at ns i).b) (d + (node_at ns i).b) (omega arith) (omega arith) (omega arith)
          ∙ ap (λ z. drop_done ns z (drop_plan ns (node_at ns i).c (suc k - (node_at ns i).b))) e

      -- Within the left.
      within : Agrees f → (m : ConcatAt ns i) → suc k < (node_at ns i).b
          → rust_under (node_at ns i).b (node_at ns i).c d (rust_drop f ns (node_at ns i).a (suc k) 0)
          ≡ drop_done ns (d + suc k) (under (drop_plan ns (node_at ns i).a (suc k)) ((node_at ns i).b - suc k) (node_at ns i).c)
      within rec m y =
          let q = left-fits xs ns g i lt m in
          let e : 0 + suc k ≡ suc k = omega arith in
          ap (rust_under (node_at ns i).b (node_at ns i).c d)
          (rec (node_at ns i).a (suc k) 0 (omega arith) (omega arith) (omega arith) ∙ ap (λ z. drop_done ns z (drop_plan ns (node_at ns i).a (suc k))) e)
          ∙ under_done (node_at ns i).b (node_at ns i).c d (suc k) (drop_plan ns (node_at ns i).a (suc k))
          (left_some (node_at ns i).a (suc k) (omega arith) (omega arith))

      go : Agrees f → NodeAt (length xs) ns i
          → rust_match (node_at ns i).kind (rust_drop f) ns i (suc k) d ≡ drop_done ns (d + suc k) (drop_plan ns i (suc k))
      go rec (inl m) = absurd (omega (arith, ap length (meaning_nil xs ns i lt m.kind0)))
      go rec (inr (inl m)) =
          rw m.kind1 (if_both (drop_done ns (d + suc k)) (dec_lt (suc k) (node_at ns i).b) _ _ _ _ (λ y. refl)
          (λ y. past rec m.tail_low (omega arith) (cons-length xs ns i lt m)))
          ∙ ap (drop_done ns (d + suc k)) (sym (drop-cons (length xs) ns i (suc k) lt m (omega arith)))
      go rec (inr (inr m)) =
          rw m.kind2 (if_both (drop_done ns (d + suc k)) (dec_lt (suc k) (node_at ns i).b) _ _ _ _ (λ y. within rec m y)
          (λ y. past rec m.right_low (omega arith) (concat-length xs ns i lt m (left-fits xs ns g i lt m))))
          ∙ ap (drop_done ns (d + suc k)) (sym (drop-concat ns i (suc k) lt m (omega arith)))

-- The call: the nodes, the node and the count dropped, by which the field's length is lowered.
pub rust_rest : {X : Type 0} (xs : List X) (f : Field) (k : ℕ) (ns : List Node) → T (nodes_rule (length xs) ns) → T (field_rule ns f) → k ≤ f.len
    → rust_drop (suc f.node) ns f.node k 0 ≡ ((rest f k ns).nodes, (rest f k ns).field.node, k)
unfolding rest drop_done
rust_rest xs f k ns g h le =
    let e : 0 + k ≡ k = omega arith in
    loop_done xs ns g (suc f.node) f.node k 0 (omega arith) (field_facts ns f h).0 (omega (arith, (field_fits xs ns f g h).0))
    ∙ ap (λ z. drop_done ns z (drop_plan ns f.node k)) e
