-- Laws of nodes: their rules as facts, what a node means, that its reach is the number of its terms up to the limit, and nodes added.
use Rattle.std.specs.Prelude.{◌≡◌, refl, List, [], ◌∷◌, ◌++◌, Bool, ◌&&◌, ◌⊎◌, ◌↔◌, T, leb, ltb, eqb, length, get_or, take, drop, ℕ, suc, zero, ◌+◌, ◌≤◌, ◌<◌, min}
use Rattle.std.proofs.Common.{ap, ap₂, sym, ◌∙◌, subst, append_assoc, append-nil, inl, inr, leb→le, le→leb, ltb→lt, lt→ltb, eqb→eq, length-append, get_or-take, length-take-le, arith}
use Rattle.std.proofs.Math.ListN.{get_or-append}
use Rattle.std.proofs.Math.Seq.{get_or-append_seam, append_snoc}
use Rattle.std.proofs.lemmas.List.{get_or_at}
use Rattle.term_spec.proofs.BoolLaws.{both_of, and_of, eq→eqb}
use Rattle.term_spec.proofs.ListLaws.{part_length, part-kept}
use Rattle.term_spec.specs.Table.{table}
use Rattle.term_spec.proofs.TableLaws.{table-append, table-length, table_at, table_kept}
use Rattle.term_spec.specs.Term.{limit}
use Rattle.term_spec.proofs.WordsLaws.{Lays}
use Rattle.view_spec.specs.Node.{node_of, node_layout, Node, Field, nil_node, node_at, reach_of, height_of, cons_node, concat_node, GoodNodes}
use Rattle.view_spec.specs.Node.{nil_rule, cons_rule, concat_rule, node_rule_k, node_rule, each_node, nodes_rule, field_rule, meaning_k, meaning_of, meanings, meaning, holds}
use Rattle.view_spec.specs.Build.{make_cons, make_concat}

-- A node's words are as many as its width, and mean the node.
pub node_lays : Lays node_layout
unfolding node_of
node_lays = record { some_words = omega arith; sized = λ r. refl; reads = λ r. refl }

-- ---- the rules as facts. A node's number is i, and its children are looked up in ns. ----

pub record NilFacts (i : ℕ) (n : Node) : Type 0 where
  pub first : i ≡ 0
  pub kind0 : n.kind ≡ 0
  pub a0 : n.a ≡ 0
  pub b0 : n.b ≡ 0
  pub c0 : n.c ≡ 0
  pub height0 : n.height ≡ 0
  pub reach0 : n.reach ≡ 0

pub record ConsFacts (used : ℕ) (ns : List Node) (i : ℕ) (n : Node) : Type 0 where
  pub kind1 : n.kind ≡ 1
  pub some_terms : 1 ≤ n.b
  pub inside-terms : n.a + n.b ≤ used
  pub tail_low : n.c < i
  pub tail_kind : (node_at ns n.c).kind ≤ 1
  pub height1 : n.height ≡ 1
  pub reach1 : n.reach ≡ reach_of ns n.b n.c

pub record ConcatFacts (ns : List Node) (i : ℕ) (n : Node) : Type 0 where
  pub kind2 : n.kind ≡ 2
  pub left_low : n.a < i
  pub right_low : n.c < i
  pub left_some : 1 ≤ (node_at ns n.a).kind
  pub right_some : 1 ≤ (node_at ns n.c).kind
  pub some_left : 1 ≤ n.b
  pub left_reach : n.b ≤ (node_at ns n.a).reach
  pub height2 : n.height ≡ height_of ns n.a n.c
  pub reach2 : n.reach ≡ reach_of ns n.b n.c

abbrev pub NodeFacts : ℕ → List Node → ℕ → Node → Type 0
NodeFacts used ns i n = NilFacts i n ⊎ (ConsFacts used ns i n ⊎ ConcatFacts ns i n)

-- A node of the store ns, its children in the whole store.
abbrev pub ConsAt : ℕ → List Node → ℕ → Type 0
ConsAt used ns i = ConsFacts used ns i (node_at ns i)

abbrev pub ConcatAt : List Node → ℕ → Type 0
ConcatAt ns i = ConcatFacts ns i (node_at ns i)

abbrev pub NodeAt : ℕ → List Node → ℕ → Type 0
NodeAt used ns i = NodeFacts used ns i (node_at ns i)

six_tests : (a b c d e f : Bool) → T (a && b && c && d && e && f) ↔ (T a × T b × T c × T d × T e × T f)
six_tests a b c d e f = (
  (λ h.
      let (h4, x5) = both_of (a && b && c && d && e) f h in
      let (h3, x4) = both_of (a && b && c && d) e h4 in
      let (h2, x3) = both_of (a && b && c) d h3 in
      let (h1, x2) = both_of (a && b) c h2 in
      let (x0, x1) = both_of a b h1 in
      (x0, x1, x2, x3, x4, x5)),
  (λ (x0, x1, x2, x3, x4, x5).
      and_of (a && b && c && d && e) f (and_of (a && b && c && d) e (and_of (a && b && c) d (and_of (a && b) c (and_of a b x0 x1) x2) x3) x4) x5),
)

eight_tests : (a b c d e f g k : Bool) → T (a && b && c && d && e && f && g && k) ↔ (T a × T b × T c × T d × T e × T f × T g × T k)
eight_tests a b c d e f g k = (
  (λ h.
      let (h6, x7) = both_of (a && b && c && d && e && f && g) k h in
      let (h5, x6) = both_of (a && b && c && d && e && f) g h6 in
      let (x0, x1, x2, x3, x4, x5) = (six_tests a b c d e f).0 h5 in
      (x0, x1, x2, x3, x4, x5, x6, x7)),
  (λ (x0, x1, x2, x3, x4, x5, x6, x7).
      and_of (a && b && c && d && e && f && g) k (and_of (a && b && c && d && e && f) g ((six_tests a b c d e f).1 (x0, x1, x2, x3, x4, x5)) x6) x7),
)

nil_facts : (below : List Node) (n : Node) → n.kind ≡ 0 → T (nil_rule below n) ↔ NilFacts (length below) n
unfolding nil_rule
nil_facts below n k =
    let t = six_tests (eqb (length below) 0) (eqb n.a 0) (eqb n.b 0) (eqb n.c 0) (eqb n.height 0) (eqb n.reach 0) in (
      (λ h. let (x0, x1, x2, x3, x4, x5) = t.0 h in
          record { first = eqb→eq _ _ x0; kind0 = k; a0 = eqb→eq _ _ x1; b0 = eqb→eq _ _ x2; c0 = eqb→eq _ _ x3; height0 = eqb→eq _ _ x4; reach0 = eqb→eq _ _ x5 }),
      (λ r. t.1 (eq→eqb _ _ r.first, eq→eqb _ _ r.a0, eq→eqb _ _ r.b0, eq→eqb _ _ r.c0, eq→eqb _ _ r.height0, eq→eqb _ _ r.reach0)),
    )

cons_facts : (used : ℕ) (below : List Node) (n : Node) → n.kind ≡ 1 → T (cons_rule used below n) ↔ ConsFacts used below (length below) n
unfolding cons_rule
cons_facts used below n k =
    let t = six_tests (leb 1 n.b) (leb (n.a + n.b) used) (ltb n.c (length below)) (leb (node_at below n.c).kind 1)
    (eqb n.height 1) (eqb n.reach (reach_of below n.b n.c)) in (
      (λ h. let (x0, x1, x2, x3, x4, x5) = t.0 h in
          record {
            kind1 = k;
            some_terms = leb→le _ _ x0;
            inside-terms = leb→le _ _ x1;
            tail_low = ltb→lt _ _ x2;
            tail_kind = leb→le _ _ x3;
            height1 = eqb→eq _ _ x4;
            reach1 = eqb→eq _ _ x5;
          }),
      (λ r. t.1 (
        le→leb _ _ r.some_terms,
        le→leb _ _ r.inside-terms,
        lt→ltb _ _ r.tail_low,
        le→leb _ _ r.tail_kind,
        eq→eqb _ _ r.height1,
        eq→eqb _ _ r.reach1,
      )),
    )

concat_facts : (below : List Node) (n : Node) → n.kind ≡ 2 → T (concat_rule below n) ↔ ConcatFacts below (length below) n
unfolding concat_rule
concat_facts below n k =
    let t = eight_tests (ltb n.a (length below)) (ltb n.c (length below)) (leb 1 (node_at below n.a).kind) (leb 1 (node_at below n.c).kind)
    (leb 1 n.b) (leb n.b (node_at below n.a).reach) (eqb n.height (height_of below n.a n.c)) (eqb n.reach (reach_of below n.b n.c)) in (
      (λ h. let (x0, x1, x2, x3, x4, x5, x6, x7) = t.0 h in
          record {
            kind2 = k;
            left_low = ltb→lt _ _ x0;
            right_low = ltb→lt _ _ x1;
            left_some = leb→le _ _ x2;
            right_some = leb→le _ _ x3;
            some_left = leb→le _ _ x4;
            left_reach = leb→le _ _ x5;
            height2 = eqb→eq _ _ x6;
            reach2 = eqb→eq _ _ x7;
          }),
      (λ r. t.1 (
        lt→ltb _ _ r.left_low,
        lt→ltb _ _ r.right_low,
        le→leb _ _ r.left_some,
        le→leb _ _ r.right_some,
        le→leb _ _ r.some_left,
        le→leb _ _ r.left_reach,
        eq→eqb _ _ r.height2,
        eq→eqb _ _ r.reach2,
      )),
    )

pub node_facts : (used : ℕ) (below : List Node) (n : Node) → T (node_rule used below n) → NodeFacts used below (length below) n
unfolding node_rule node_rule_k
node_facts used below n h = go n.kind refl h
  where
    go : (k : ℕ) → n.kind ≡ k → T (node_rule_k k used below n) → NodeFacts used below (length below) n
    go zero e t = inl ((nil_facts below n e).0 t)
    go (suc zero) e t = inr (inl ((cons_facts used below n e).0 t))
    go (suc (suc zero)) e t = inr (inr ((concat_facts below n e).0 t))
    go (suc (suc (suc k))) e t = absurd t

pub node-rule : (used : ℕ) (below : List Node) (n : Node) → NodeFacts used below (length below) n → T (node_rule used below n)
unfolding node_rule node_rule_k
node-rule used below n (inl x) = subst (λ k. T (node_rule_k k used below n)) (sym x.kind0) ((nil_facts below n x.kind0).1 x)
node-rule used below n (inr (inl x)) = subst (λ k. T (node_rule_k k used below n)) (sym x.kind1) ((cons_facts used below n x.kind1).1 x)
node-rule used below n (inr (inr x)) = subst (λ k. T (node_rule_k k used below n)) (sym x.kind2) ((concat_facts below n x.kind2).1 x)

-- ---- stores ----

each_facts : (used : ℕ) (below : List Node) (n : Node) (ns : List Node) → T (each_node used below (n ∷ ns))
    → T (node_rule used below n) × T (each_node used (below ++ (n ∷ [])) ns)
unfolding each_node
each_facts used below n ns h = both_of (node_rule used below n) (each_node used (below ++ (n ∷ [])) ns) h

each-cons : (used : ℕ) (below : List Node) (n : Node) (ns : List Node) → T (node_rule used below n) → T (each_node used (below ++ (n ∷ [])) ns)
    → T (each_node used below (n ∷ ns))
unfolding each_node
each-cons used below n ns h k = and_of (node_rule used below n) (each_node used (below ++ (n ∷ [])) ns) h k

each_append : (used : ℕ) (below ns ms : List Node) → T (each_node used below ns) → T (each_node used (below ++ ns) ms) → T (each_node used below (ns ++ ms))
each_append used below [] ms h k = rw append-nil at k
each_append used below (n ∷ ns) ms h k =
    let (x, y) = each_facts used below n ns h in each-cons used below n (ns ++ ms) x (each_append used (below ++ (n ∷ [])) ns ms y (rw append_snoc k))

each_at : (used : ℕ) (below ns : List Node) (i : ℕ) → T (each_node used below ns) → i < length ns → T (node_rule used (below ++ take i ns) (node_at ns i))
each_at used below [] i h lt = absurd (omega arith)
each_at used below (n ∷ ns) zero h lt = rw append-nil (each_facts used below n ns h).0
each_at used below (n ∷ ns) (suc i) h lt = rw (← append_snoc below n (take i ns)) (each_at used (below ++ (n ∷ [])) ns i (each_facts used below n ns h).1 (omega arith))

nodes-each : (used : ℕ) (ns : List Node) → GoodNodes used ns → (1 ≤ length ns) × T (each_node used [] ns)
unfolding nodes_rule
nodes-each used ns g = let (x, y) = both_of (leb 1 (length ns)) (each_node used [] ns) g in (leb→le _ _ x, y)

pub nodes_there : (used : ℕ) (ns : List Node) → GoodNodes used ns → 1 ≤ length ns
nodes_there used ns g = (nodes-each used ns g).0

each-nodes : (used : ℕ) (ns : List Node) → 1 ≤ length ns → T (each_node used [] ns) → GoodNodes used ns
unfolding nodes_rule
each-nodes used ns h k = and_of (leb 1 (length ns)) (each_node used [] ns) (le→leb _ _ h) k

-- Nodes added at the end change nothing below.
pub node_kept : (ns new : List Node) (i : ℕ) → i < length ns → node_at (ns ++ new) i ≡ node_at ns i
node_kept ns new i lt = get_or-append ns new nil_node i lt

pub node-new : (ns : List Node) (n : Node) → node_at (ns ++ (n ∷ [])) (length ns) ≡ n
node-new ns n = get_or-append_seam ns n [] nil_node

-- What is known of a node of a good store, with its children in the whole store: all later proofs split on it.
pub node_at_lem : (used : ℕ) (ns : List Node) (i : ℕ) → GoodNodes used ns → i < length ns → NodeAt used ns i
node_at_lem used ns i g lt = go (node_facts used (take i ns) (node_at ns i) (each_at used [] ns i (nodes-each used ns g).1 lt))
  where
    tl : length (take i ns) ≡ i
    tl = length-take-le i ns (omega arith)

    go : NodeFacts used (take i ns) (length (take i ns)) (node_at ns i) → NodeAt used ns i
    go (inl n) = inl (rw tl at n)
    go (inr (inl n)) =
        let l : (node_at ns i).c < i = omega (arith, tl) in
        let e = get_or-take i ns (node_at ns i).c nil_node l in
        inr (inl (record {
          kind1 = n.kind1;
          some_terms = n.some_terms;
          inside-terms = n.inside-terms;
          tail_low = l;
          tail_kind = rw e at n.tail_kind;
          height1 = n.height1;
          reach1 = rw e at n.reach1;
        }))
    go (inr (inr n)) =
        let l : (node_at ns i).a < i = omega (arith, tl) in
        let r : (node_at ns i).c < i = omega (arith, tl) in
        let e = get_or-take i ns (node_at ns i).a nil_node l in
        let q = get_or-take i ns (node_at ns i).c nil_node r in
        inr (inr (record {
          kind2 = n.kind2;
          left_low = l;
          right_low = r;
          left_some = rw e at n.left_some;
          right_some = rw q at n.right_some;
          some_left = n.some_left;
          left_reach = rw e at n.left_reach;
          height2 = rw (e, q) at n.height2;
          reach2 = rw q at n.reach2;
        }))

pub nil_first : (used : ℕ) (ns : List Node) → GoodNodes used ns → (node_at ns 0).kind ≡ 0
nil_first used ns g = go (node_at_lem used ns 0 g (nodes_there used ns g))
  where
    go : NodeAt used ns 0 → (node_at ns 0).kind ≡ 0
    go (inl n) = n.kind0
    go (inr (inl n)) = absurd (omega arith)
    go (inr (inr n)) = absurd (omega arith)

-- A node that has terms is no Nil.
pub node_some : (used : ℕ) (ns : List Node) (i : ℕ) → GoodNodes used ns → i < length ns → 1 ≤ (node_at ns i).reach → 1 ≤ (node_at ns i).kind
node_some used ns i g lt h = go (node_at_lem used ns i g lt)
  where
    go : NodeAt used ns i → 1 ≤ (node_at ns i).kind
    go (inl m) = absurd (omega arith)
    go (inr (inl m)) = omega arith
    go (inr (inr m)) = omega arith

-- ---- what a node means ----

pub meanings-length : {X : Type 0} (xs : List X) (ns : List Node) → length (meanings xs ns) ≡ length ns
meanings-length xs ns = omega (arith, table-length (meaning_of xs) ns [])

pub meaning-kept : {X : Type 0} (xs : List X) (ns new : List Node) (i : ℕ) → i < length ns → meaning xs (ns ++ new) i ≡ meaning xs ns i
meaning-kept xs ns new i lt = let (more, e) = table_kept (meaning_of xs) ns new in
    ap (λ z. get_or z i []) e ∙ get_or-append (meanings xs ns) more [] i (omega (arith, meanings-length xs ns))

meaning-new : {X : Type 0} (xs : List X) (ns : List Node) (n : Node) → meaning xs (ns ++ (n ∷ [])) (length ns) ≡ meaning_of xs n (meanings xs ns)
unfolding table
meaning-new xs ns n = ap (λ z. get_or z (length ns) []) (table-append (meaning_of xs) ns (n ∷ []) [])
    ∙ get_or_at (meanings xs ns) (meaning_of xs n (meanings xs ns)) [] [] (length ns) (meanings-length xs ns)

meaning-at : {X : Type 0} (xs : List X) (ns : List Node) (i : ℕ) → i < length ns → meaning xs ns i ≡ meaning_of xs (node_at ns i) (take i (meanings xs ns))
meaning-at xs ns i lt = table_at (meaning_of xs) ns [] i i nil_node [] lt (omega arith)

of_kind : {X : Type 0} (xs : List X) (n : Node) (below : List (List X)) {k : ℕ} → n.kind ≡ k → meaning_of xs n below ≡ meaning_k k n xs below
unfolding meaning_of
of_kind xs n below e = ap (λ k. meaning_k k n xs below) e

pub meaning_nil : {X : Type 0} (xs : List X) (ns : List Node) (i : ℕ) → i < length ns → (node_at ns i).kind ≡ 0 → meaning xs ns i ≡ []
unfolding meaning_k
meaning_nil xs ns i lt e = meaning-at xs ns i lt ∙ of_kind xs (node_at ns i) (take i (meanings xs ns)) e

pub meaning-cons : {X : Type 0} (xs : List X) (ns : List Node) (i : ℕ) → i < length ns → ConsAt (length xs) ns i
    → meaning xs ns i ≡ take (node_at ns i).b (drop (node_at ns i).a xs) ++ meaning xs ns (node_at ns i).c
unfolding meaning_k
meaning-cons xs ns i lt n = meaning-at xs ns i lt ∙ of_kind xs (node_at ns i) (take i (meanings xs ns)) n.kind1
    ∙ ap (take (node_at ns i).b (drop (node_at ns i).a xs) ++◌) (get_or-take i (meanings xs ns) (node_at ns i).c [] n.tail_low)

pub meaning-concat : {X : Type 0} (xs : List X) (ns : List Node) (i : ℕ) → i < length ns → ConcatAt ns i
    → meaning xs ns i ≡ take (node_at ns i).b (meaning xs ns (node_at ns i).a) ++ meaning xs ns (node_at ns i).c
unfolding meaning_k
meaning-concat xs ns i lt n = meaning-at xs ns i lt ∙ of_kind xs (node_at ns i) (take i (meanings xs ns)) n.kind2
    ∙ ap₂ (λ u v. take (node_at ns i).b u ++ v) (get_or-take i (meanings xs ns) (node_at ns i).a [] n.left_low)
    (get_or-take i (meanings xs ns) (node_at ns i).c [] n.right_low)

-- ---- reach is the number of terms, up to the limit ----

pub head_length : {X : Type 0} (b : ℕ) (A C : List X) → b ≤ length A → length (take b A ++ C) ≡ b + length C
head_length b A C h = rw (length-append, length-take-le b A h) refl

pub cons-length : {X : Type 0} (xs : List X) (ns : List Node) (i : ℕ) → i < length ns → ConsAt (length xs) ns i
    → length (meaning xs ns i) ≡ (node_at ns i).b + length (meaning xs ns (node_at ns i).c)
cons-length xs ns i lt m = rw (meaning-cons xs ns i lt m, length-append, part_length xs (node_at ns i).a (node_at ns i).b m.inside-terms) refl

pub concat-length : {X : Type 0} (xs : List X) (ns : List Node) (i : ℕ) → i < length ns → ConcatAt ns i → (node_at ns i).b ≤ length (meaning xs ns (node_at ns i).a)
    → length (meaning xs ns i) ≡ (node_at ns i).b + length (meaning xs ns (node_at ns i).c)
concat-length xs ns i lt m h = ap length (meaning-concat xs ns i lt m)
    ∙ head_length (node_at ns i).b (meaning xs ns (node_at ns i).a) (meaning xs ns (node_at ns i).c) h

module _ {X : Type 0} (xs : List X) (ns : List Node) (g : GoodNodes (length xs) ns) where
  reach_upto : (n i : ℕ) → i < n → i < length ns → (node_at ns i).reach ≡ min limit (length (meaning xs ns i))
  reach_upto zero i h lt = absurd (omega arith)
  reach_upto (suc n) i h lt = go (λ j. reach_upto n j) (node_at_lem (length xs) ns i g lt)
    where
      go : ((j : ℕ) → j < n → j < length ns → (node_at ns j).reach ≡ min limit (length (meaning xs ns j))) → NodeAt (length xs) ns i
          → (node_at ns i).reach ≡ min limit (length (meaning xs ns i))
      go rec (inl m) = rw (meaning_nil xs ns i lt m.kind0) (omega arith)
      go rec (inr (inl m)) =
          let ih = rec (node_at ns i).c (omega arith) (omega arith) in
          rw (cons-length xs ns i lt m) (omega arith)
      go rec (inr (inr m)) =
          let ih = rec (node_at ns i).c (omega arith) (omega arith) in
          let il = rec (node_at ns i).a (omega arith) (omega arith) in
          rw (concat-length xs ns i lt m (omega arith)) (omega arith)

  pub reach_is : (i : ℕ) → i < length ns → (node_at ns i).reach ≡ min limit (length (meaning xs ns i))
  reach_is i lt = reach_upto (suc i) i (omega arith) lt

  pub reach_limit : (i : ℕ) → i < length ns → (node_at ns i).reach ≤ limit
  reach_limit i lt = omega (arith, reach_is i lt)

-- ---- one node more ----

-- The store ms is ns and more; its node i is no Nil and means l.
pub record Made {X : Type 0} (xs : List X) (ns ms : List Node) (i : ℕ) (l : List X) : Type 0 where
  pub good : GoodNodes (length xs) ms
  pub grown : (new : List Node) × (ms ≡ ns ++ new)
  pub below : i < length ms
  pub some_node : 1 ≤ (node_at ms i).kind
  pub shows : meaning xs ms i ≡ l

pub trans_grown : (ns ms ks : List Node) → (new : List Node) × (ms ≡ ns ++ new) → (new : List Node) × (ks ≡ ms ++ new) → (new : List Node) × (ks ≡ ns ++ new)
trans_grown ns ms ks (a, e) (b, q) = (a ++ b, q ∙ ap (◌++ b) e ∙ append_assoc ns a b)

nodes-snoc : (used : ℕ) (ns : List Node) (n : Node) → GoodNodes used ns → NodeFacts used ns (length ns) n → GoodNodes used (ns ++ (n ∷ []))
unfolding each_node
nodes-snoc used ns n g ok =
    let (h, k) = nodes-each used ns g in
    each-nodes used (ns ++ (n ∷ [])) (rw length-append (omega arith)) (each_append used [] ns (n ∷ []) k (each-cons used ns n [] (node-rule used ns n ok) tt))

pub made_cons : {X : Type 0} (xs : List X) (ns : List Node) (a b c : ℕ)
    → GoodNodes (length xs) ns → 1 ≤ b → a + b ≤ length xs → c < length ns → (node_at ns c).kind ≤ 1
    → Made xs ns (make_cons ns a b c) (length ns) (take b (drop a xs) ++ meaning xs ns c)
unfolding meaning_of meaning_k
made_cons xs ns a b c g h1 h2 h3 h4 = record {
  good = nodes-snoc (length xs) ns (cons_node ns a b c) g
      (inr (inl (record { kind1 = refl; some_terms = h1; inside-terms = h2; tail_low = h3; tail_kind = h4; height1 = refl; reach1 = refl })));
  grown = (cons_node ns a b c ∷ [], refl);
  below = rw length-append (omega arith);
  some_node = rw (node-new ns (cons_node ns a b c)) (omega arith);
  shows = meaning-new xs ns (cons_node ns a b c);
}

pub made_concat : {X : Type 0} (xs : List X) (ns : List Node) (a b c : ℕ) → GoodNodes (length xs) ns → a < length ns → c < length ns
    → 1 ≤ (node_at ns a).kind → 1 ≤ (node_at ns c).kind → 1 ≤ b → b ≤ (node_at ns a).reach
    → Made xs ns (make_concat ns a b c) (length ns) (take b (meaning xs ns a) ++ meaning xs ns c)
unfolding meaning_of meaning_k
made_concat xs ns a b c g h1 h2 h3 h4 h5 h6 = record {
  good = nodes-snoc (length xs) ns (concat_node ns a b c) g
      (inr (inr (record {
        kind2 = refl;
        left_low = h1;
        right_low = h2;
        left_some = h3;
        right_some = h4;
        some_left = h5;
        left_reach = h6;
        height2 = refl;
        reach2 = refl;
      })));
  grown = (concat_node ns a b c ∷ [], refl);
  below = rw length-append (omega arith);
  some_node = rw (node-new ns (concat_node ns a b c)) (omega arith);
  shows = meaning-new xs ns (concat_node ns a b c);
}

-- ---- fields ----

pub field_facts : (ns : List Node) (f : Field) → T (field_rule ns f) → (f.node < length ns) × (f.len ≤ (node_at ns f.node).reach)
unfolding field_rule
field_facts ns f h = let (x, y) = both_of (ltb f.node (length ns)) (leb f.len (node_at ns f.node).reach) h in (ltb→lt _ _ x, leb→le _ _ y)

pub facts_field : (ns : List Node) (f : Field) → f.node < length ns → f.len ≤ (node_at ns f.node).reach → T (field_rule ns f)
unfolding field_rule
facts_field ns f h k = and_of (ltb f.node (length ns)) (leb f.len (node_at ns f.node).reach) (lt→ltb _ _ h) (le→leb _ _ k)

pub field-kept : (ns new : List Node) (f : Field) → T (field_rule ns f) → T (field_rule (ns ++ new) f)
field-kept ns new f h = let (x, y) = field_facts ns f h in
    facts_field (ns ++ new) f (rw length-append (omega arith)) (rw (node_kept ns new f.node x) y)

pub holds_kept : {X : Type 0} (xs : List X) (ns new : List Node) (f : Field) → T (field_rule ns f) → holds xs (ns ++ new) f ≡ holds xs ns f
holds_kept xs ns new f h = ap (take f.len) (meaning-kept xs ns new f.node (field_facts ns f h).0)

-- The node has the field's terms, and so many.
pub field_fits : {X : Type 0} (xs : List X) (ns : List Node) (f : Field) → GoodNodes (length xs) ns → T (field_rule ns f)
    → (f.len ≤ length (meaning xs ns f.node)) × (f.len ≤ limit)
field_fits xs ns f g h = let (x, y) = field_facts ns f h in let e = reach_is xs ns g f.node x in (omega arith, omega arith)

pub holds-length : {X : Type 0} (xs : List X) (ns : List Node) (f : Field) → T (nodes_rule (length xs) ns) → T (field_rule ns f) → length (holds xs ns f) ≡ f.len
holds-length xs ns f g h = length-take-le f.len (meaning xs ns f.node) (field_fits xs ns f g h).0

-- ---- more terms change nothing below ----

each_more : (u v : ℕ) (below ns : List Node) → u ≤ v → T (each_node u below ns) → T (each_node v below ns)
unfolding each_node
each_more u v below [] h k = tt
each_more u v below (n ∷ ns) h k =
    let (x, y) = each_facts u below n ns k in
    each-cons v below n ns (node-rule v below n (go (node_facts u below n x))) (each_more u v (below ++ (n ∷ [])) ns h y)
  where
    go : NodeFacts u below (length below) n → NodeFacts v below (length below) n
    go (inl x) = inl x
    go (inr (inl x)) = inr (inl (record {
      kind1 = x.kind1;
      some_terms = x.some_terms;
      inside-terms = omega (arith, x.inside-terms);
      tail_low = x.tail_low;
      tail_kind = x.tail_kind;
      height1 = x.height1;
      reach1 = x.reach1;
    }))
    go (inr (inr x)) = inr (inr x)

pub nodes-more : (u v : ℕ) (ns : List Node) → u ≤ v → T (nodes_rule u ns) → T (nodes_rule v ns)
nodes-more u v ns h g = let (x, y) = nodes-each u ns g in each-nodes v ns x (each_more u v [] ns h y)

of_more : {X : Type 0} (xs ys : List X) (below : List Node) (n : Node) (m : List (List X)) → NodeFacts (length xs) below (length below) n
    → meaning_of (xs ++ ys) n m ≡ meaning_of xs n m
unfolding meaning_k
of_more xs ys below n m (inl x) = of_kind (xs ++ ys) n m x.kind0 ∙ sym (of_kind xs n m x.kind0)
of_more xs ys below n m (inr (inl x)) =
    of_kind (xs ++ ys) n m x.kind1 ∙ ap (◌++ get_or m n.c []) (part-kept xs ys n.a n.b x.inside-terms) ∙ sym (of_kind xs n m x.kind1)
of_more xs ys below n m (inr (inr x)) = of_kind (xs ++ ys) n m x.kind2 ∙ sym (of_kind xs n m x.kind2)

meanings-more : {X : Type 0} (xs ys : List X) (below ns : List Node) (m : List (List X)) → T (each_node (length xs) below ns)
    → table (meaning_of (xs ++ ys)) ns m ≡ table (meaning_of xs) ns m
unfolding table
meanings-more xs ys below [] m k = refl
meanings-more xs ys below (n ∷ ns) m k =
    let (x, y) = each_facts (length xs) below n ns k in
    ap (λ z. table (meaning_of (xs ++ ys)) ns (m ++ (z ∷ []))) (of_more xs ys below n m (node_facts (length xs) below n x))
    ∙ meanings-more xs ys (below ++ (n ∷ [])) ns (m ++ (meaning_of xs n m ∷ [])) y

pub holds_more : {X : Type 0} (xs ys : List X) (ns : List Node) (f : Field) → T (nodes_rule (length xs) ns) → holds (xs ++ ys) ns f ≡ holds xs ns f
holds_more xs ys ns f g = ap (λ z. take f.len (get_or z f.node [])) (meanings-more xs ys [] ns [] (nodes-each (length xs) ns g).1)
