-- What the calls that read fields say: a place in the store shows the field's terms; equality and starts_with go by canonical forms.
use Rattle.std.specs.Prelude.{◌≡◌, Bool, ◌&&◌, ◌↔◌, take, drop}
use Rattle.std.proofs.Math.Path.{refl, ap, sym}
use Rattle.std.proofs.Common.{◌∙◌, subst, inl, inr, eqb→eq, take-append-drop, take_at}
use mathlib.Core.List.{List, [], ◌++◌}
use Rattle.std.proofs.Math.Bool.{true, false}
use Rattle.std.proofs.Math.Dec.{T, eqb}
use Rattle.std.proofs.Math.ListN.{length, length-drop}
use Rattle.std.proofs.lemmas.List.{length-map}
use Prim.Native.Nat.{◌≤◌, ◌<◌, min}
use native.Mathlib.Omega.{arith}
use Rattle.term_spec.proofs.BoolLaws.{both_of, true-T}
use Rattle.term_spec.proofs.ListLaws.{take_left}
use Rattle.term_spec.proofs.TermLaws.{facts_run}
use Rattle.term_spec.specs.Term.{Run, no_run, part, run_rule, limit}
use Rattle.term_spec.specs.Value.{Value, canon, forms, sames?, is_yes}
use Rattle.view_spec.specs.Node.{Node, Field, node_at, nodes_rule, field_rule, meaning, holds}
use Rattle.view_spec.specs.Read.{Place, stored, scattered, place, equal_terms, starts_with}
use Rattle.view_spec.proofs.NodeLaws.{NodeAt, node_at_lem, nil_first, nodes_there, meaning_nil, meaning-cons, reach_is, field_facts}

-- ---- a place in the store shows the field's terms ----

module _ {X : Type 0} (xs : List X) (ns : List Node) (f : Field) where
  unfoldable Shown : Place → Type 0
  Shown (stored r) = (part xs r ≡ holds xs ns f) × T (run_rule (length xs) r)
  Shown scattered = Unit {0}

  -- One Cons with Nil tail: the field's terms are the first of its run.
  one-run : T (nodes_rule (length xs) ns) → T (field_rule ns f) → (node_at ns f.node).kind ≡ 1 → (node_at ns f.node).c ≡ 0
      → Shown (stored (record { start = (node_at ns f.node).a; len = f.len }))
  unfolding Shown
  one-run g h k z = let (x, y) = field_facts ns f h in go x y (node_at_lem (length xs) ns f.node g x)
    where
      go : f.node < length ns → f.len ≤ (node_at ns f.node).reach → NodeAt (length xs) ns f.node
          → (take f.len (drop (node_at ns f.node).a xs) ≡ holds xs ns f) × T (run_rule (length xs) (record { start = (node_at ns f.node).a; len = f.len }))
      go x y (inl m) = absurd (omega arith)
      go x y (inr (inr m)) = absurd (omega arith)
      go x y (inr (inl m)) =
          let e : meaning xs ns (node_at ns f.node).c ≡ [] =
          ap (meaning xs ns) z ∙ meaning_nil xs ns 0 (nodes_there (length xs) ns g) (nil_first (length xs) ns g) in
          let r0 : (node_at ns (node_at ns f.node).c).reach ≡ 0 =
          reach_is xs ns g (node_at ns f.node).c (omega arith) ∙ ap (λ l. min limit (length l)) e ∙ omega arith in
          let lb : f.len ≤ (node_at ns f.node).b = omega arith in
          let q : (node_at ns f.node).b ≤ length (drop (node_at ns f.node).a xs) = rw length-drop (omega arith) in (
            sym (ap (take f.len) (meaning-cons xs ns f.node x m)
                ∙ take_left f.len (node_at ns f.node).b (drop (node_at ns f.node).a xs) (meaning xs ns (node_at ns f.node).c) lb q),
            facts_run (length xs) (record { start = (node_at ns f.node).a; len = f.len }) (omega arith),
          )

  shown : T (nodes_rule (length xs) ns) → T (field_rule ns f) → Shown (place ns f)
  unfolding place Shown
  shown g h = by_length (eqb f.len 0) refl
    where
      by_node : (b : Bool) → eqb (node_at ns f.node).kind 1 && eqb (node_at ns f.node).c 0 ≡ b
          → Shown (elim b [ true ↦ stored (record { start = (node_at ns f.node).a; len = f.len }) | false ↦ scattered ])
      by_node false e = tt
      by_node true e =
          let (x, y) = both_of (eqb (node_at ns f.node).kind 1) (eqb (node_at ns f.node).c 0) (true-T _ e) in
          one-run g h (eqb→eq _ _ x) (eqb→eq _ _ y)

      by_length : (b : Bool) → eqb f.len 0 ≡ b
          → Shown (elim b [
            | true ↦ stored no_run
            | false ↦ elim (eqb (node_at ns f.node).kind 1 && eqb (node_at ns f.node).c 0)
                [ true ↦ stored (record { start = (node_at ns f.node).a; len = f.len }) | false ↦ scattered ]
          ])
      by_length false e = by_node (eqb (node_at ns f.node).kind 1 && eqb (node_at ns f.node).c 0) refl
      by_length true e =
          let z : f.len ≡ 0 = eqb→eq _ _ (true-T _ e) in
          (ap (λ n. take n (meaning xs ns f.node)) (sym z), facts_run (length xs) no_run (omega arith))

pub place-shows : {X : Type 0} (xs : List X) (ns : List Node) (f : Field) (r : Run) → T (nodes_rule (length xs) ns) → T (field_rule ns f) → place ns f ≡ stored r
    → (part xs r ≡ holds xs ns f) × T (run_rule (length xs) r)
unfolding Shown
place-shows xs ns f r g h e = subst (Shown xs ns f) e (shown xs ns f g h)

-- ---- comparing lists of terms ----

is_yes_lem : {P : Type 0} (d : Dec P) → (is_yes d ≡ true) ↔ P
unfolding is_yes
is_yes_lem (yes h) = (λ e. h, λ p. refl)
is_yes_lem (no h) = (λ e. absurd (true-T false e), λ p. absurd (h p))

pub equal-terms : (x y : List Value) → (equal_terms x y ≡ true) ↔ (forms x ≡ forms y)
unfolding equal_terms
equal-terms x y = is_yes_lem (sames? (forms x) (forms y))

pub starts-with : (x y : List Value) → (starts_with x y ≡ true) ↔ ((rest : List Value) × (forms x ≡ forms y ++ rest))
unfolding starts_with
starts-with x y =
    let d = is_yes_lem (sames? (take (length y) (forms x)) (forms y)) in (
      (λ e. (drop (length y) (forms x), sym (take-append-drop (length y) (forms x)) ∙ ap (◌++ drop (length y) (forms x)) (d.0 e))),
      (λ (rest, e). d.1 (ap (take (length y)) e ∙ take_at (forms y) rest (length y) (length-map y canon))),
    )
