-- Laws of a store's rules for the code that decides them: a rule that cannot hold is false, and one whose other parts hold is its last test.
use Rattle.std.specs.Prelude.{◌≡◌, List, ◌∷◌, Bool, true, false, ◌&&◌, T, leb, ltb, eqb, get_or}
use Rattle.std.proofs.Math.Path.{refl, ap, sym}
use Rattle.std.proofs.Common.{◌∙◌, inl, inr, add-one}
use borrow.Author.Tests.{lt-ltb, le-leb, lt-leb, eq-eqb, ne_eqb}
use Rattle.std.proofs.Math.ListN.{length, drop}
use Rattle.std.proofs.Math.Seq.{drop-cons, drop-length}
use Prim.Native.Nat.{ℕ, suc, zero, ◌+◌, ◌<◌, ◌≤◌, min, max}
use Rattle.std.proofs.Math.Decide.{ℕ_discrete}
use native.Mathlib.Omega.{arith}
use Rattle.term_spec.specs.Term.{limit}
use Rattle.term_spec.specs.Words.{decode, record_at}
use Rattle.term_spec.proofs.WordsLaws.{decode-at, decode-length, decode-snoc}
use Rattle.view_spec.specs.Node.{Node, nil_node, node_layout, node_at, nil_rule, cons_rule, concat_rule, node_rule_k, node_rule, each_node, nodes_rule, field_rule}
use Rattle.view_spec.proofs.NodeLaws.{NilFacts, ConsFacts, ConcatFacts, NodeFacts, node_facts}
use Rattle.std.proofs.lemmas.Bool.Decides.{nat_tests}
use Rattle.std.specs.Bool.{MatchBool}
use Rattle.std.specs.List.{range_with_len, AllWithin, HoldsAt}
use Rattle.std.proofs.lemmas.List.FromFn.{length-range_with_len, get_or-range_with_len}
use Rattle.nodes.specs.NodeStore.{nodes_in}

-- A test that cannot hold.
refused : (b : Bool) → (T b → ⊥) → false ≡ b
refused true n = absurd (n tt)
refused false n = refl

-- Node j of those below i, read from the words.
pub below_at : (w : List ℕ) (i j : ℕ) {n : Node} → n ≡ record_at node_layout w j → j < i → n ≡ node_at (nodes_in w i) j
below_at w i j e h = e ∙ sym (decode-at node_layout i j w nil_node h)

-- ---- a node by its kind. The rule of one kind does not look at the kind: it is that of the node with the kind put in. ----

-- The node with kind k.
abbrev kinded : ℕ → Node → Node
kinded k n = record { kind = k; a = n.a; b = n.b; c = n.c; height = n.height; reach = n.reach }

module _ (below : List Node) (n : Node) where
  pub nil_refused : (NilFacts (length below) (kinded 0 n) → ⊥) → false ≡ nil_rule below n
  unfolding nil_rule node_rule node_rule_k
  nil_refused never = refused _ (λ t. go (node_facts 0 below (kinded 0 n) t))
    where
      go : NodeFacts 0 below (length below) (kinded 0 n) → ⊥
      go (inl f) = never f
      go (inr (inl f)) = omega arith
      go (inr (inr f)) = omega arith

  pub nil_last : length below ≡ 0 → n.a ≡ 0 → n.b ≡ 0 → n.c ≡ 0 → n.height ≡ 0 → eqb n.reach 0 ≡ nil_rule below n
  unfolding nil_rule
  nil_last l p q r s = simp (eq-eqb _ _ l, eq-eqb _ _ p, eq-eqb _ _ q, eq-eqb _ _ r, eq-eqb _ _ s)

module _ (w : List ℕ) (i : ℕ) (n : Node) where
  pub cons-refused : (used : ℕ) → (ConsFacts used (nodes_in w i) i (kinded 1 n) → ⊥) → false ≡ cons_rule used (nodes_in w i) n
  unfolding cons_rule node_rule node_rule_k
  cons-refused used never = refused _ (λ t. go (rw decode-length at (node_facts used (nodes_in w i) (kinded 1 n) t)))
    where
      go : NodeFacts used (nodes_in w i) i (kinded 1 n) → ⊥
      go (inl f) = omega arith
      go (inr (inl f)) = never f
      go (inr (inr f)) = omega arith

  pub cons-last : (used : ℕ) {t : Node} {b : Bool} → 1 ≤ n.b → n.a + n.b ≤ used → n.c < i → t ≡ node_at (nodes_in w i) n.c → t.kind ≤ 1 → n.height ≡ 1
      → b ≡ eqb n.reach (min limit (n.b + t.reach)) → b ≡ cons_rule used (nodes_in w i) n
  unfolding cons_rule
  cons-last used p q r e k h z = rw (decode-length, ← e, le-leb _ _ p, le-leb _ _ q, lt-ltb _ _ r, le-leb _ _ k, eq-eqb _ _ h) z

  pub concat-refused : (ConcatFacts (nodes_in w i) i (kinded 2 n) → ⊥) → false ≡ concat_rule (nodes_in w i) n
  unfolding concat_rule node_rule node_rule_k
  concat-refused never = refused _ (λ t. go (rw decode-length at (node_facts 0 (nodes_in w i) (kinded 2 n) t)))
    where
      go : NodeFacts 0 (nodes_in w i) i (kinded 2 n) → ⊥
      go (inl f) = omega arith
      go (inr (inl f)) = omega arith
      go (inr (inr f)) = never f

  pub concat-last : {l r : Node} {b : Bool} → n.a < i → n.c < i → l ≡ node_at (nodes_in w i) n.a → r ≡ node_at (nodes_in w i) n.c → 1 ≤ l.kind → 1 ≤ r.kind
      → 1 ≤ n.b → n.b ≤ l.reach → n.height ≡ suc (max l.height r.height) → b ≡ eqb n.reach (min limit (n.b + r.reach))
      → b ≡ concat_rule (nodes_in w i) n
  unfolding concat_rule
  concat-last p q d e k m s t h z =
      rw (decode-length, ← d, ← e, lt-ltb _ _ p, lt-ltb _ _ q, le-leb _ _ k, le-leb _ _ m, le-leb _ _ s, le-leb _ _ t, eq-eqb _ _ h) z

-- ---- a node's rule, where the nodes that it names are read from the words ----

module _ (w : List ℕ) (i : ℕ) (n : Node) where
  pub cons_read : (used : ℕ) {t : Node} → n.c < i → t ≡ record_at node_layout w n.c
      → cons_rule used (nodes_in w i) n
      ≡ leb 1 n.b && leb (n.a + n.b) used && ltb n.c i && leb t.kind 1 && eqb n.height 1 && eqb n.reach (min limit (n.b + t.reach))
  unfolding cons_rule
  cons_read used q e = rw (decode-length, ← below_at w i n.c e q) refl

  pub cons_refused : (used : ℕ) → (1 ≤ n.b → n.a + n.b ≤ used → n.c < i → ⊥) → false ≡ cons_rule used (nodes_in w i) n
  unfolding cons_rule
  cons_refused used never = rw decode-length (grind (arith, nat_tests))

  pub concat_read : {l r : Node} → n.a < i → n.c < i → l ≡ record_at node_layout w n.a → r ≡ record_at node_layout w n.c
      → concat_rule (nodes_in w i) n
      ≡ ltb n.a i && ltb n.c i && leb 1 l.kind && leb 1 r.kind && leb 1 n.b && leb n.b l.reach
      && eqb n.height (suc (max l.height r.height)) && eqb n.reach (min limit (n.b + r.reach))
  unfolding concat_rule
  concat_read p q d e = rw (decode-length, ← below_at w i n.a d p, ← below_at w i n.c e q) refl

  pub concat_refused : (n.a < i → n.c < i → ⊥) → false ≡ concat_rule (nodes_in w i) n
  unfolding concat_rule
  concat_refused never = rw decode-length (grind (arith, nat_tests))

module _ (used : ℕ) (below : List Node) (n : Node) where
  pub node_nil : n.kind ≡ 0 → nil_rule below n ≡ node_rule used below n
  unfolding node_rule node_rule_k
  node_nil e = rw e refl

  pub node_nil_low : n.kind ≡ 0 → length below ≡ 0
      → eqb n.kind 0 && (eqb n.a 0 && (eqb n.b 0 && (eqb n.c 0 && (eqb n.height 0 && eqb n.reach 0)))) ≡ node_rule used below n
  unfolding node_rule node_rule_k nil_rule
  node_nil_low e l = rw e (grind (arith, nat_tests))

  pub node_nil_high : n.kind ≡ 0 → (length below ≡ 0 → ⊥) → false ≡ node_rule used below n
  unfolding node_rule node_rule_k nil_rule
  node_nil_high e l = rw e (grind (arith, nat_tests))

  pub node-cons : n.kind ≡ 1 → cons_rule used below n ≡ node_rule used below n
  unfolding node_rule node_rule_k
  node-cons e = rw e refl

  pub node-concat : n.kind ≡ 2 → concat_rule below n ≡ node_rule used below n
  unfolding node_rule node_rule_k
  node-concat e = rw e refl

  others : (k : ℕ) → 2 < k → node_rule_k k used below n ≡ false
  unfolding node_rule_k
  others zero h = absurd (omega arith)
  others (suc zero) h = absurd (omega arith)
  others (suc (suc zero)) h = absurd (omega arith)
  others (suc (suc (suc k))) h = refl

  pub node_none : 2 < n.kind → false ≡ node_rule used below n
  unfolding node_rule
  node_none h = sym (others n.kind h)

  -- what is neither a Cons nor a Concat
  module _ (cons : n.kind ≡ 1 → ⊥) (concat : n.kind ≡ 2 → ⊥) where
    pub node_other_low : length below ≡ 0
        → eqb n.kind 0 && (eqb n.a 0 && (eqb n.b 0 && (eqb n.c 0 && (eqb n.height 0 && eqb n.reach 0)))) ≡ node_rule used below n
    node_other_low l = go (ℕ_discrete n.kind 0)
      where
        go : Dec (n.kind ≡ 0) → eqb n.kind 0 && (eqb n.a 0 && (eqb n.b 0 && (eqb n.c 0 && (eqb n.height 0 && eqb n.reach 0)))) ≡ node_rule used below n
        go (yes e) = node_nil_low e l
        go (no z) = ap (◌&& (eqb n.a 0 && (eqb n.b 0 && (eqb n.c 0 && (eqb n.height 0 && eqb n.reach 0))))) (ne_eqb n.kind 0 z) ∙ node_none (omega arith)

    pub node_other_high : (length below ≡ 0 → ⊥) → false ≡ node_rule used below n
    node_other_high l = go (ℕ_discrete n.kind 0)
      where
        go : Dec (n.kind ≡ 0) → false ≡ node_rule used below n
        go (yes e) = node_nil_high e l
        go (no z) = node_none (omega arith)

-- ---- the nodes of a store, from node i on ----

and_false : (a b : Bool) → b ≡ false → a && b ≡ false
and_false true b e = e
and_false false b e = refl

-- The rule of the nodes from i on, those below them passed.
unfoldable pub rest_rule : List ℕ → ℕ → ℕ → ℕ → Bool
rest_rule w terms used i = each_node terms (nodes_in w i) (drop i (nodes_in w used))

module _ (w : List ℕ) (terms used : ℕ) where
  pub nodes_empty : used < 1 → false ≡ nodes_rule terms (nodes_in w used)
  unfolding nodes_rule
  nodes_empty h = simp (decode-length, lt-leb _ _ h)

  pub rest_all : 1 ≤ used → nodes_rule terms (nodes_in w used) ≡ rest_rule w terms used 0
  unfolding nodes_rule rest_rule decode
  rest_all h = rw (decode-length, le-leb _ _ h) refl

  pub rest_more : (i : ℕ) {b : Bool} → i < used → node_rule terms (nodes_in w i) (record_at node_layout w i) ≡ b
      → rest_rule w terms used i ≡ b && rest_rule w terms used (i + 1)
  unfolding rest_rule each_node
  rest_more i h e =
      let ns = nodes_in w used in
      let d : drop i ns ≡ record_at node_layout w i ∷ drop (suc i) ns =
      drop-cons ns i nil_node (omega (arith, decode-length node_layout used w)) ∙ ap (◌∷ drop (suc i) ns) (decode-at node_layout used i w nil_node h) in
      rw (add-one, d, each_node, e, ← decode-snoc node_layout i w) refl

  pub rest_none : rest_rule w terms used used ≡ true
  unfolding rest_rule each_node
  rest_none =
      let ns = nodes_in w used in
      let e : length ns ≡ used = decode-length node_layout used w in
      ap (each_node terms ns) (ap (λ n. drop n ns) (sym e) ∙ drop-length ns)

  -- What the nodes' rules decide, one by one.
  abbrev pub Passes : Bool → ℕ → Type 0
  Passes b k = node_rule terms (nodes_in w k) (record_at node_layout w k) ≡ b

  each_true : (n i : ℕ) → i + n ≡ used → ((k : ℕ) → k < used → Passes true k) → rest_rule w terms used i ≡ true
  each_true zero i e h = let z : i ≡ used = omega arith in ap (rest_rule w terms used) z ∙ rest_none
  each_true (suc n) i e h = rest_more i (omega arith) (h i (omega arith)) ∙ each_true n (i + 1) (omega arith) h

  one_false : (n i k : ℕ) → i + n ≡ k → k < used → Passes false k → rest_rule w terms used i ≡ false
  one_false zero i k e lt h = let z : i ≡ k = omega arith in rest_more i {b = false} (omega arith) (rw z h)
  one_false (suc n) i k e lt h = rest_more i (omega arith) refl ∙ and_false _ _ (one_false n (i + 1) k (omega arith) lt h)

  pub all_passed : 1 ≤ used → ((k : ℕ) → k < used → Passes true k) → true ≡ nodes_rule terms (nodes_in w used)
  all_passed some h = sym (rest_all some ∙ each_true used 0 (omega arith) h)

  pub one_failed : (k : ℕ) → k < used → Passes false k → false ≡ nodes_rule terms (nodes_in w used)
  one_failed k lt h = sym (rest_all (omega arith) ∙ one_false k 0 k (omega arith) lt h)

  placed : (k : ℕ) → k < used → get_or (range_with_len 0 used) k 0 ≡ k
  placed k lt = get_or-range_with_len 0 used k 0 lt ∙ omega arith

  -- What a test of each of them in turn comes to.
  pub each_tested : (r : Bool) → 1 ≤ used
      → MatchBool r (AllWithin (Passes true) (range_with_len 0 used) 0 (length (range_with_len 0 used)))
      ((k : ℕ) × (k < length (range_with_len 0 used)) × HoldsAt (Passes false) (range_with_len 0 used) k)
      → r ≡ nodes_rule terms (nodes_in w used)
  each_tested true some h = all_passed some (λ k lt. let e = placed k lt in rw e at (h k 0 (omega arith) (rw length-range_with_len lt)))
  each_tested false some (k, lt, h) =
      let l : k < used = rw length-range_with_len at lt in
      let e = placed k l in
      one_failed k l (rw e at (h 0))

-- ---- a field ----

module _ (w : List ℕ) (used node len : ℕ) where
  pub field_out : used ≤ node → false ≡ field_rule (nodes_in w used) (record { node = node; len = len })
  unfolding field_rule
  field_out h = simp (decode-length, lt-leb (suc node) used (omega arith))

  pub field_in : {n : Node} → node < used → n ≡ record_at node_layout w node → leb len n.reach ≡ field_rule (nodes_in w used) (record { node = node; len = len })
  unfolding field_rule
  field_in h e = rw (decode-length, lt-ltb _ _ h, ← below_at w used node e h) refl
