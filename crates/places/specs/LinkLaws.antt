-- Laws of a node as a first part and what comes after it: a Cons's run and its tail, a Concat's left and its right.
use Rattle.std.specs.Prelude.{◌≡◌, List, ◌++◌, T, length, take, drop, ℕ, ◌-◌, ◌≤◌, ◌<◌}
use Rattle.std.proofs.Common.{ap, sym, ◌∙◌, length-drop, arith}
use Rattle.term_spec.proofs.ListLaws.{take_left, drop-left, drop-right}
use Rattle.view_spec.specs.Node.{Node, node_at, meaning, nodes_rule}
use Rattle.view_spec.proofs.NodeLaws.{ConsAt, ConcatAt, meaning-cons, meaning-concat}
use Rattle.view_spec.proofs.PlanLaws.{left-fits}

-- The terms of node i from its term k on.
abbrev pub onward : {X : Type 0} → List X → List Node → ℕ → ℕ → List X
onward xs ns i k = drop k (meaning xs ns i)

-- A beginning of what is left of a cut beginning.
take_inner : {X : Type 0} (m k b : ℕ) (A C : List X) → m ≤ b - k → k ≤ b → b ≤ length A → take m (drop k (take b A ++ C)) ≡ take m (drop k A)
take_inner m k b A C h q f =
    ap (take m) (drop-left k b A C q f) ∙ take_left m (b - k) (drop k A) C h (rw length-drop (omega arith))

-- A node that gives the first b terms of A, then its tail or right.
pub record Link {X : Type 0} (xs : List X) (ns : List Node) (i : ℕ) (A : List X) : Type 0 where
  pub fits : (node_at ns i).b ≤ length A
  pub shows : meaning xs ns i ≡ take (node_at ns i).b A ++ meaning xs ns (node_at ns i).c

module _ {X : Type 0} (xs : List X) (ns : List Node) (good : T (nodes_rule (length xs) ns)) where
  pub cons_link : (i : ℕ) → i < length ns → ConsAt (length xs) ns i → Link xs ns i (drop (node_at ns i).a xs)
  cons_link i lt m = record { fits = rw length-drop (omega arith); shows = meaning-cons xs ns i lt m }

  pub concat_link : (i : ℕ) → i < length ns → ConcatAt ns i → Link xs ns i (meaning xs ns (node_at ns i).a)
  concat_link i lt m = record { fits = left-fits xs ns good i lt m; shows = meaning-concat xs ns i lt m }

module _ {X : Type 0} (xs : List X) (ns : List Node) (i k : ℕ) (A : List X) (l : Link xs ns i A) where
  -- the part is used up
  pub link_on : (node_at ns i).b ≤ k → onward xs ns (node_at ns i).c (k - (node_at ns i).b) ≡ onward xs ns i k
  link_on q = sym (ap (drop k) l.shows ∙ drop-right k (node_at ns i).b A (meaning xs ns (node_at ns i).c) q l.fits)

  -- it is not
  pub link_in : (m : ℕ) → k < (node_at ns i).b → m ≤ (node_at ns i).b - k → take m (onward xs ns i k) ≡ take m (drop k A)
  link_in m q h = ap (λ z. take m (drop k z)) l.shows ∙ take_inner m k (node_at ns i).b A (meaning xs ns (node_at ns i).c) h (omega arith) l.fits
