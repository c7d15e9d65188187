-- The turn at an unclamped node is the first step of its plan, by the tests that the code makes.
use Rattle.std.specs.Prelude.{◌≡◌, refl, List, length, ℕ, suc, zero, ◌-◌, ◌<◌, ◌≤◌}
use Rattle.std.proofs.Math.Path.{ap}
use Rattle.std.proofs.Common.{sym, ◌∙◌, arith}
use Prim.{tt}
use Rattle.std.proofs.Math.Decide.{dec_le, dec_lt}
use Rattle.term_spec.specs.Words.{record_at}
use Rattle.term_spec.proofs.WordsLaws.{decode-length}
use Rattle.view_spec.specs.Node.{Node, node_layout, concat_kind, node_at, GoodNodes, Piece}
use Rattle.view_spec.proofs.NodeLaws.{ConcatAt}
use Rattle.view_spec.specs.Build.{if_dec, base, single, double, unclamp, plan, plan_makes}
use Rattle.view_spec.proofs.PlanLaws.{left, left_len, right, inner_right, if_yes, if_no, unclamp_induct, unclamped, unclamp_over, inner_low, plan_leaf, plan-concat, second_turn}
use Rattle.nodes.specs.NodeStore.{nodes_in, AnyStore}
use Rattle.nodes.specs.RuleLaws.{below_at}
use Rattle.nodes.specs.MakeLaws.{any, good-any, concat-at, leaf_at}
use Rattle.join.specs.Turn.{Turned}
use Rattle.join.specs.declared.Turn.{Turn}
use Rattle.join.specs.declared.Turn.TheVariants.{Base, Single, Double}

second_leaf : (k : ℕ) (ns : List Node) (h i j len : ℕ) → k ≤ 1 → second_turn k ns h i j len ≡ base i len
unfolding second_turn
second_leaf zero ns h i j len q = refl
second_leaf (suc zero) ns h i j len q = refl
second_leaf (suc (suc k)) ns h i j len q = absurd (omega arith)

second_concat : (k : ℕ) (ns : List Node) (h i j len : ℕ) → k ≡ 2 → left_len ns j < len - left_len ns i
    → second_turn k ns h i j len ≡ double (left ns i) (left_len ns i) (left ns j) (left_len ns j) (plan ns h (right ns j) (len - left_len ns i - left_len ns j))
unfolding second_turn
second_concat k ns h i j len e q = rw e (if_yes (dec_lt (left_len ns j) (len - left_len ns i)) _ _ q)

module _ (terms : ℕ) (ns : List Node) (g : GoodNodes terms ns) where
  module _ (h : ℕ) where
    -- An unclamped node has the plan of the node it was reached from.
    plan_down : (i len : ℕ) → i < length ns → len ≤ (node_at ns i).reach → plan ns h (unclamp ns i len) len ≡ plan ns h i len
    plan_down i len = unclamp_induct terms ns len (λ i j. len ≤ (node_at ns i).reach → plan ns h j len ≡ plan ns h i len) g
        (λ i lt k w. refl) (λ i lt m k w. refl)
        (λ i j lt m k rec w. rec (omega arith)
        ∙ sym (plan-concat terms ns h i len g lt m (inner_low (any terms) ns (good-any terms ns g) i len lt m w) ∙ if_yes (dec_le len (left_len ns i)) _ _ k)) i

    -- What unclamping a piece leads to.
    pub record Top (node len x : ℕ) : Type 0 where
      pub lower : x ≤ node
      pub piece : Piece ns x len
      pub same : plan ns h x len ≡ plan ns h node len
      pub over : 2 ≤ (node_at ns x).kind → left_len ns x < len

    pub top : (node len : ℕ) → Piece ns node len → Top node len (unclamp ns node len)
    top node len p =
        let u = unclamped (any terms) ns (good-any terms ns g) node len p.below p.some_node p.within in
        record {
          lower = u.lower;
          piece = record { below = omega (arith, u.lower, p.below); some_node = u.some_node; some_len = p.some_len; within = u.within };
          same = plan_down node len p.below p.within;
          over = unclamp_over (any terms) ns (good-any terms ns g) node len p.below;
        }

    module _ {node len x : ℕ} (t : Top node len x) where
      turned_leaf : ((node_at ns x).kind ≡ 2 → ⊥) → Turned ns h node len (Base x len)
      turned_leaf k = record { plans = sym (plan_leaf ns h x len t.piece.below (leaf_at terms ns g x t.piece.below k)) ∙ t.same; rest = tt }

      module _ (m : ConcatAt ns x) where
        inner_piece : Piece ns (right ns x) (len - left_len ns x)
        inner_piece =
            let v = t.over (omega (arith, m.kind2)) in
            record {
              below = omega (arith, m.right_low, t.piece.below);
              some_node = m.right_some;
              some_len = omega arith;
              within = omega (arith, t.piece.within, m.reach2);
            }

        -- the plan at x, past the test of its left
        past : plan ns h node len ≡
            if_dec (dec_lt (suc h) (node_at ns x).height)
            (if_dec (dec_le (node_at ns (right ns x)).height (node_at ns (left ns x)).height)
            (single (left ns x) (left_len ns x) (plan ns h (right ns x) (len - left_len ns x)))
            (second_turn (node_at ns (inner_right ns x len)).kind ns h x (inner_right ns x len) len))
            (base x len)
        past = sym t.same
            ∙ plan-concat terms ns h x len g t.piece.below m (inner_low (any terms) ns (good-any terms ns g) x len t.piece.below m t.piece.within)
            ∙ if_no (dec_le len (left_len ns x)) _ _ (λ z. omega (arith, t.over (omega (arith, m.kind2))))

        turned_low : (node_at ns x).height ≤ suc h → Turned ns h node len (Base x len)
        turned_low q = record { plans = sym (past ∙ if_no (dec_lt (suc h) (node_at ns x).height) _ _ (λ z. omega arith)); rest = tt }

        module _ (q : suc h < (node_at ns x).height) where
          turned_single : (node_at ns (right ns x)).height ≤ (node_at ns (left ns x)).height
              → Turned ns h node len (Single (left ns x) (left_len ns x) (right ns x) (len - left_len ns x))
          turned_single z = record {
            plans = sym (past ∙ if_yes (dec_lt (suc h) (node_at ns x).height) _ _ q
                ∙ if_yes (dec_le (node_at ns (right ns x)).height (node_at ns (left ns x)).height) _ _ z);
            rest = (omega (arith, m.right_low, t.lower), inner_piece);
          }

          module _ (z : (node_at ns (left ns x)).height < (node_at ns (right ns x)).height) where
            second : plan ns h node len ≡ second_turn (node_at ns (inner_right ns x len)).kind ns h x (inner_right ns x len) len
            second = past ∙ if_yes (dec_lt (suc h) (node_at ns x).height) _ _ q
                ∙ if_no (dec_le (node_at ns (right ns x)).height (node_at ns (left ns x)).height) _ _ (λ y. omega arith)

            inner : Top (right ns x) (len - left_len ns x) (inner_right ns x len)
            inner = top (right ns x) (len - left_len ns x) inner_piece

            turned_inner_leaf : ((node_at ns (inner_right ns x len)).kind ≡ 2 → ⊥) → Turned ns h node len (Base x len)
            turned_inner_leaf k = record { plans = sym (second ∙ second_leaf _ ns h x (inner_right ns x len) len (leaf_at terms ns g (inner_right ns x len) inner.piece.below k)); rest = tt }

            turned_double : (k : ConcatAt ns (inner_right ns x len)) → left_len ns (inner_right ns x len) < len - left_len ns x
                → Turned ns h node len (Double (left ns x) (left_len ns x) (left ns (inner_right ns x len)) (left_len ns (inner_right ns x len))
                (right ns (inner_right ns x len)) (len - left_len ns x - left_len ns (inner_right ns x len)))
            turned_double k y =
                let i = inner in
                record {
                  plans = sym (second ∙ second_concat _ ns h x (inner_right ns x len) len k.kind2 y);
                  rest = (
                    omega (arith, k.right_low, i.lower, m.right_low, t.lower),
                    record {
                      below = omega (arith, k.right_low, i.piece.below);
                      some_node = k.right_some;
                      some_len = omega arith;
                      within = omega (arith, i.piece.within, k.reach2);
                    },
                  );
                }

-- What the code knows of a Concat n that it read at x, the first len terms of which are wanted.
pub record AtConcat (x len : ℕ) (n : Node) : Type 0 where
  pub left_low : n.a < x
  pub right_low : n.c < x
  pub tall : 1 ≤ n.height
  pub over : n.b < len

module _ (w : List ℕ) (used h node len : ℕ) (s : AnyStore w used) (p : Piece (nodes_in w used) node len) {x : ℕ} {n : Node}
    (ux : x ≡ unclamp (nodes_in w used) node len) (en : n ≡ record_at node_layout w x) where
  at_top : Top s.terms (nodes_in w used) s.store.good h node len x
  at_top = rw ux (top s.terms (nodes_in w used) s.store.good h node len p)

  inside : (i : ℕ) → i < length (nodes_in w used) → i < used
  inside i lt = rw decode-length at lt

  read : n ≡ node_at (nodes_in w used) x
  read = below_at w used x en (inside x at_top.piece.below)

  concat : n.kind ≡ concat_kind → ConcatAt (nodes_in w used) x
  concat k = concat-at s.terms (nodes_in w used) s.store.good x at_top.piece.below (rw read at k)

  pub there : x < used
  there = inside x at_top.piece.below

  pub at-concat : n.kind ≡ concat_kind → AtConcat x len n
  at-concat k =
      let m = concat k in
      rw read (record { left_low = m.left_low; right_low = m.right_low; tall = omega (arith, m.height2); over = at_top.over (omega (arith, m.kind2)) })

  pub turn_leaf : (n.kind ≡ concat_kind → ⊥) → Turned (nodes_in w used) h node len (Base x len)
  turn_leaf k = turned_leaf s.terms (nodes_in w used) s.store.good h at_top (rw read at k)

  module _ (k : n.kind ≡ concat_kind) where
    pub turn_low : n.height - 1 ≤ h → Turned (nodes_in w used) h node len (Base x len)
    turn_low q = turned_low s.terms (nodes_in w used) s.store.good h at_top (concat k) (let z = rw read at q in omega arith)

    pub right_piece : Piece (nodes_in w used) n.c (len - n.b)
    right_piece = rw read (inner_piece s.terms (nodes_in w used) s.store.good h at_top (concat k))

    module _ {l r : Node} (q : h < n.height - 1) (el : l ≡ record_at node_layout w n.a) (er : r ≡ record_at node_layout w n.c) where
      taller : suc h < (node_at (nodes_in w used) x).height
      taller = let z = rw read at q in omega arith

      left_is : l ≡ node_at (nodes_in w used) (left (nodes_in w used) x)
      left_is = below_at w used n.a el (omega (arith, (at-concat k).left_low, there)) ∙ ap (λ z. node_at (nodes_in w used) z.a) read

      right_is : r ≡ node_at (nodes_in w used) (right (nodes_in w used) x)
      right_is = below_at w used n.c er (omega (arith, (at-concat k).right_low, there)) ∙ ap (λ z. node_at (nodes_in w used) z.c) read

      pub turn_single : r.height ≤ l.height → Turned (nodes_in w used) h node len (Single n.a n.b n.c (len - n.b))
      turn_single z = rw read (turned_single s.terms (nodes_in w used) s.store.good h at_top (concat k) taller (rw (left_is, right_is) at z))

      module _ {y : ℕ} {m : Node} (z : l.height < r.height) (uy : y ≡ unclamp (nodes_in w used) n.c (len - n.b)) (em : m ≡ record_at node_layout w y) where
        right_taller : (node_at (nodes_in w used) (left (nodes_in w used) x)).height < (node_at (nodes_in w used) (right (nodes_in w used) x)).height
        right_taller = rw (left_is, right_is) at z

        inner_is : y ≡ inner_right (nodes_in w used) x len
        inner_is = uy ∙ ap (λ z. unclamp (nodes_in w used) z.c (len - z.b)) read

        inner_top : Top s.terms (nodes_in w used) s.store.good h (right (nodes_in w used) x) (len - left_len (nodes_in w used) x) (inner_right (nodes_in w used) x len)
        inner_top = inner s.terms (nodes_in w used) s.store.good h at_top (concat k) taller right_taller

        middle_is : m ≡ node_at (nodes_in w used) (inner_right (nodes_in w used) x len)
        middle_is = below_at w used y em (rw inner_is (inside (inner_right (nodes_in w used) x len) inner_top.piece.below)) ∙ ap (node_at (nodes_in w used)) inner_is

        pub turn_inner_leaf : (m.kind ≡ concat_kind → ⊥) → Turned (nodes_in w used) h node len (Base x len)
        turn_inner_leaf d = turned_inner_leaf s.terms (nodes_in w used) s.store.good h at_top (concat k) taller right_taller (rw middle_is at d)

        pub turn_double : m.kind ≡ concat_kind → Turned (nodes_in w used) h node len (Double n.a n.b m.a m.b m.c (len - n.b - m.b))
        turn_double d =
            let c = concat-at s.terms (nodes_in w used) s.store.good (inner_right (nodes_in w used) x len) inner_top.piece.below (rw middle_is at d) in
            rw (middle_is, read) (turned_double s.terms (nodes_in w used) s.store.good h at_top (concat k) taller right_taller c (inner_top.over (omega (arith, c.kind2))))

pub piece_in : (w : List ℕ) (used : ℕ) {i len : ℕ} → Piece (nodes_in w used) i len → i < used
piece_in w used p = let z = p.below in rw decode-length at z

-- ---- what a loop goes on with ----

module _ {ns : List Node} {h node len : ℕ} {t : Turn} (d : Turned ns h node len t) where
  pub makes_base : {l n : ℕ} → t ≡ Base l n → plan_makes (plan ns h node len) ≡ 1
  unfolding plan_makes
  makes_base e = let q = rw e at d.plans in ap plan_makes (sym q)

  pub makes_single : {a b x n : ℕ} → t ≡ Single a b x n → plan_makes (plan ns h node len) ≡ suc (plan_makes (plan ns h x n))
  unfolding plan_makes
  makes_single e = let q = rw e at d.plans in ap plan_makes (sym q)

  pub makes_double : {a b c f x n : ℕ} → t ≡ Double a b c f x n → plan_makes (plan ns h node len) ≡ suc (suc (plan_makes (plan ns h x n)))
  unfolding plan_makes
  makes_double e = let q = rw e at d.plans in ap plan_makes (sym q)

  pub rest_single : {a b x n : ℕ} → t ≡ Single a b x n → (x < node) × Piece ns x n
  rest_single e = rw e at d.rest

  pub rest_double : {a b c f x n : ℕ} → t ≡ Double a b c f x n → (x < node) × Piece ns x n
  rest_double e = rw e at d.rest
