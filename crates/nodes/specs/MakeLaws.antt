-- Laws of a valid store for the code that adds nodes to it and goes down its left sides.
use Rattle.std.specs.Prelude.{◌≡◌, refl, List, [], ◌∷◌, length, replicate, ℕ, suc, zero, ◌+◌, ◌<◌, ◌≤◌, min, max}
use Rattle.std.proofs.Common.{◌∙◌, inl, inr, arith}
use Rattle.std.proofs.lemmas.List.{length-replicate}
use Rattle.std.proofs.Math.Decide.{ℕ_discrete, dec_le}
use Rattle.term_spec.specs.Words.{record_at, write}
use Rattle.term_spec.specs.Term.{limit}
use Rattle.term_spec.proofs.WordsLaws.{decode-length}
use Rattle.view_spec.specs.Node.{Node, node_layout, cons_kind, concat_kind, node_at, cons_node, concat_node, GoodNodes}
use Rattle.view_spec.proofs.NodeLaws.{NodeAt, ConcatAt, node_at_lem}
use Rattle.view_spec.specs.Build.{unclamp}
use Rattle.view_spec.proofs.PlanLaws.{left_len, if_yes, if_no, unclamp_leaf, unclamp-concat}
use Rattle.nodes.specs.NodeStore.{nodes_in, NodeStore}
use Rattle.nodes.specs.RuleLaws.{below_at}

-- A list that has an entry for each term: laws over terms are used for their number only.
abbrev pub any : ℕ → List ℕ
any terms = replicate terms 0

pub good-any : (terms : ℕ) (ns : List Node) → GoodNodes terms ns → GoodNodes (length (any terms)) ns
good-any terms ns g = rw length-replicate g

module _ (terms : ℕ) (ns : List Node) (g : GoodNodes terms ns) (i : ℕ) (lt : i < length ns) where
  -- A Concat, where the code tests the kind.
  pub concat-at : (node_at ns i).kind ≡ concat_kind → ConcatAt ns i
  concat-at k = go (node_at_lem terms ns i g lt)
    where
      go : NodeAt terms ns i → ConcatAt ns i
      go (inl f) = absurd (omega arith)
      go (inr (inl f)) = absurd (omega arith)
      go (inr (inr f)) = f

  -- No Concat.
  pub leaf_at : ((node_at ns i).kind ≡ concat_kind → ⊥) → (node_at ns i).kind ≤ cons_kind
  leaf_at k = go (node_at_lem terms ns i g lt)
    where
      go : NodeAt terms ns i → (node_at ns i).kind ≤ cons_kind
      go (inl f) = omega arith
      go (inr (inl f)) = omega arith
      go (inr (inr f)) = absurd (k f.kind2)

-- A node's height is at most its number: its children are lower.
height_low : (terms : ℕ) (ns : List Node) → GoodNodes terms ns → (m i : ℕ) → i < m → i < length ns → (node_at ns i).height ≤ i
height_low terms ns g zero i h lt = absurd (omega arith)
height_low terms ns g (suc m) i h lt = go (height_low terms ns g m) (node_at_lem terms ns i g lt)
  where
    go : ((j : ℕ) → j < m → j < length ns → (node_at ns j).height ≤ j) → NodeAt terms ns i → (node_at ns i).height ≤ i
    go rec (inl f) = omega arith
    go rec (inr (inl f)) = omega arith
    go rec (inr (inr f)) =
        omega (arith, rec (node_at ns i).a (omega arith) (omega arith), rec (node_at ns i).c (omega arith) (omega arith))

-- A node's reach is at most the limit.
reach_low : (terms : ℕ) (ns : List Node) (i : ℕ) → NodeAt terms ns i → (node_at ns i).reach ≤ limit
reach_low terms ns i (inl f) = omega arith
reach_low terms ns i (inr (inl f)) = omega arith
reach_low terms ns i (inr (inr f)) = omega arith

-- What is known of node i of a valid store, read from the words.
pub record Known (w : List ℕ) (used i : ℕ) (n : Node) : Type 0 where
  pub same : n ≡ node_at (nodes_in w used) i
  pub height : n.height ≤ i
  pub reach : n.reach ≤ limit

module _ (w : List ℕ) (terms used : ℕ) (s : NodeStore w terms used) where
  inside : (i : ℕ) → i < used → i < length (nodes_in w used)
  inside i h = rw decode-length h

  facts : (i : ℕ) → i < used → NodeAt terms (nodes_in w used) i
  facts i h = node_at_lem terms (nodes_in w used) i s.good (inside i h)

  pub known : (i : ℕ) {n : Node} → i < used → n ≡ record_at node_layout w i → Known w used i n
  known i h e =
      let q = below_at w used i e h in
      record {
        same = q;
        height = rw q (height_low terms (nodes_in w used) s.good (suc i) i (omega arith) (inside i h));
        reach = rw q (reach_low terms (nodes_in w used) i (facts i h));
      }

  -- ---- unclamp ----

  module _ (i len : ℕ) {n : Node} (h : i < used) (e : n ≡ record_at node_layout w i) where
    -- no Concat
    pub unclamp_here : (n.kind ≡ concat_kind → ⊥) → unclamp (nodes_in w used) i len ≡ i
    unclamp_here k = unclamp_leaf (nodes_in w used) i len (inside i h) (leaf_at terms (nodes_in w used) s.good i (inside i h) (rw (below_at w used i e h) at k))

    -- a Concat whose left is too short
    pub unclamp-short : n.kind ≡ concat_kind → n.b < len → unclamp (nodes_in w used) i len ≡ i
    unclamp-short k b =
        let q = below_at w used i e h in
        unclamp-concat (nodes_in w used) i len (inside i h) (concat-at terms (nodes_in w used) s.good i (inside i h) (rw q at k))
        ∙ if_no (dec_le len (left_len (nodes_in w used) i)) _ _ (λ z. omega (arith, rw q at b))

    -- no Concat, or one whose left is too short: neither goes on
    pub unclamp_stop : (n.kind ≡ concat_kind → n.b < len) → unclamp (nodes_in w used) i len ≡ i
    unclamp_stop short = go (ℕ_discrete n.kind concat_kind)
      where
        q : n ≡ node_at (nodes_in w used) i
        q = below_at w used i e h

        go : Dec (n.kind ≡ concat_kind) → unclamp (nodes_in w used) i len ≡ i
        go (yes k) =
            unclamp-concat (nodes_in w used) i len (inside i h) (concat-at terms (nodes_in w used) s.good i (inside i h) (rw q at k))
            ∙ if_no (dec_le len (left_len (nodes_in w used) i)) _ _ (λ z. omega (arith, rw q at (short k)))
        go (no k) = unclamp_leaf (nodes_in w used) i len (inside i h) (leaf_at terms (nodes_in w used) s.good i (inside i h) (rw q at k))

    -- a Concat whose left is long enough: it is lower, and decides
    pub unclamp-left : n.kind ≡ concat_kind → len ≤ n.b → (n.a < i) × (unclamp (nodes_in w used) i len ≡ unclamp (nodes_in w used) n.a len)
    unclamp-left k b =
        let q = below_at w used i e h in
        let f = concat-at terms (nodes_in w used) s.good i (inside i h) (rw q at k) in
        rw q (f.left_low, unclamp-concat (nodes_in w used) i len (inside i h) f ∙ if_yes (dec_le len (left_len (nodes_in w used) i)) _ _ (rw q at b))

-- ---- one node more ----

module _ (w : List ℕ) (used a b c : ℕ) {v : List ℕ} where
  pub cons_made : {t : Node} {z : ℕ} → Known w used c t → z ≡ min limit (b + t.reach)
      → v ≡ write node_layout w used (record { kind = cons_kind; a = a; b = b; c = c; height = 1; reach = z } ∷ [])
      → v ≡ write node_layout w used (cons_node (nodes_in w used) a b c ∷ [])
  cons_made k e q = q ∙ rw (e, k.same) refl

  pub concat_made : {l r : Node} {h z : ℕ} → Known w used a l → Known w used c r → h ≡ max l.height r.height → z ≡ min limit (b + r.reach)
      → v ≡ write node_layout w used (record { kind = concat_kind; a = a; b = b; c = c; height = 1 + h; reach = z } ∷ [])
      → v ≡ write node_layout w used (concat_node (nodes_in w used) a b c ∷ [])
  concat_made {h = h} k m d e q = let s : 1 + h ≡ suc h = omega arith in q ∙ rw (s, d, e, k.same, m.same) refl
