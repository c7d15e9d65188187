-- The Rust's join makes the nodes of the plan: its recursion, over nodes that grow as it makes them, agrees with the plan, which is
-- decided on the nodes as they were before.
use Rattle.std.specs.Prelude.{◌≡◌, refl, T, get_or}
use Rattle.std.proofs.Math.Path.{ap, ap₂}
use Rattle.std.proofs.Common.{sym, ◌∙◌, inl, inr, length-append}
use mathlib.Core.List.{List, [], ◌∷◌, ◌++◌}
use Rattle.std.proofs.Math.ListN.{length, get_or-append}
use Prim.Native.Nat.{ℕ, suc, zero, ◌+◌, ◌-◌, ◌≤◌, ◌<◌}
use Rattle.std.proofs.Math.Decide.{ℕ_discrete, dec_le, dec_lt}
use native.Mathlib.Omega.{arith}
use Rattle.term_spec.specs.Table.{table}
use Rattle.term_spec.proofs.TableLaws.{table_kept, table-length}
use Rattle.view_spec.specs.Node.{Node, Field, node_at, concat_node, nodes_rule, field_rule, GoodNodes, Piece}
use Rattle.view_spec.specs.Build.{last, make_concat, if_dec, unclamp_of, unclamp, Plan, base, single, double, plan, grow, join_by, join}
use Rattle.view_spec.specs.RustJoin.{Joined, rust_round, rust_rounds, rust_unclamp, rust_concat, rust_outer, rust_double, rust_single, rust_turn, rust_join}
use Rattle.view_spec.proofs.NodeLaws.{ConcatAt, NodeAt, node_at_lem, node_kept, made_concat}
use Rattle.view_spec.proofs.ChainLaws.{last_snoc}
use Rattle.view_spec.proofs.PlanLaws.{left, left_len, right, inner_right, if_yes, if_no, if_both}
use Rattle.view_spec.proofs.PlanLaws.{unclamp_leaf, unclamp-concat, unclamp_induct, Unclamped, unclamped, unclamp_over, unclamp_twice, inner_low, plan_leaf, plan-concat, second_turn}
use Rattle.view_spec.proofs.JoinLaws.{piece_kept}
use Rattle.view_spec.proofs.FieldLaws.{field_piece}

-- The nodes that a plan makes, and the node that is the join.
unfoldable pub plan_done : List Node → ℕ → Plan → Joined
plan_done ns r p = (grow r p ns, last (grow r p ns))

-- ---- unclamp ----

round_leaf : (k f : ℕ) (ns : List Node) (i len : ℕ) → k ≤ 1 → rust_round k (rust_rounds f) ns i len ≡ i
unfolding rust_round
round_leaf zero f ns i len h = refl
round_leaf (suc zero) f ns i len h = refl
round_leaf (suc (suc k)) f ns i len h = absurd (omega arith)

-- A bound above the node's number suffices.
rounds_same : (used : ℕ) (ns : List Node) (len : ℕ) → GoodNodes used ns → (f i : ℕ) → i < f → i < length ns → rust_rounds f ns i len ≡ unclamp ns i len
unfolding rust_rounds rust_round
rounds_same used ns len g zero i h lt = absurd (omega arith)
rounds_same used ns len g (suc f) i h lt = go (rounds_same used ns len g f) (node_at_lem used ns i g lt)
  where
    leaf : (node_at ns i).kind ≤ 1 → rust_round (node_at ns i).kind (rust_rounds f) ns i len ≡ unclamp ns i len
    leaf k = round_leaf (node_at ns i).kind f ns i len k ∙ sym (unclamp_leaf ns i len lt k)

    go : ((j : ℕ) → j < f → j < length ns → rust_rounds f ns j len ≡ unclamp ns j len) → NodeAt used ns i
        → rust_round (node_at ns i).kind (rust_rounds f) ns i len ≡ unclamp ns i len
    go rec (inl m) = leaf (omega arith)
    go rec (inr (inl m)) = leaf (omega arith)
    go rec (inr (inr m)) =
        rw m.kind2 (if_both (λ z. unclamp ns i len) (dec_lt (left_len ns i) len) _ _ i i
        (λ y. sym (unclamp-concat ns i len lt m ∙ if_no (dec_le len (left_len ns i)) _ _ (λ z. omega arith)))
        (λ y. rec (left ns i) (omega arith) (omega arith)
        ∙ sym (unclamp-concat ns i len lt m ∙ if_yes (dec_le len (left_len ns i)) _ _ (omega arith))))

-- The Rust's unclamp is Build's.
pub rust_unclamp_lem : (used : ℕ) (ns : List Node) (i len : ℕ) → GoodNodes used ns → i < length ns → rust_unclamp ns i len ≡ unclamp ns i len
unfolding rust_unclamp
rust_unclamp_lem used ns i len g lt = rounds_same used ns len g (suc i) i (omega arith) lt

-- ---- unclamp and plan over more nodes ----

unclamp-kept : (ns new : List Node) (i len : ℕ) → i < length ns → unclamp (ns ++ new) i len ≡ unclamp ns i len
unfolding unclamp
unclamp-kept ns new i len lt = let (more, e) = table_kept unclamp_of ns new in
    ap (λ z. get_or {A = ℕ → ℕ} z i (λ y. 0) len) e
    ∙ ap (λ g. g len) (get_or-append (table unclamp_of ns []) more (λ y. 0) i (omega (arith, table-length unclamp_of ns [])))

concat-kept : (ns new : List Node) (i : ℕ) → i < length ns → ConcatAt ns i → ConcatAt (ns ++ new) i
concat-kept ns new i lt m =
    let e = node_kept ns new i lt in
    let ea : node_at (ns ++ new) (left ns i) ≡ node_at ns (left ns i) = node_kept ns new (left ns i) (omega arith) in
    let ec : node_at (ns ++ new) (right ns i) ≡ node_at ns (right ns i) = node_kept ns new (right ns i) (omega arith) in
    record {
      kind2 = rw e m.kind2;
      left_low = rw e m.left_low;
      right_low = rw e m.right_low;
      left_some = rw (e, ea) m.left_some;
      right_some = rw (e, ec) m.right_some;
      some_left = rw e m.some_left;
      left_reach = rw (e, ea) m.left_reach;
      height2 = rw (e, ea, ec) m.height2;
      reach2 = rw (e, ec) m.reach2;
    }

second_kept : (k : ℕ) (ns new : List Node) (h i j len : ℕ) → i < length ns → j < length ns
    → (2 ≤ k → left_len ns j < len - left_len ns i
    → plan (ns ++ new) h (right ns j) (len - left_len ns i - left_len ns j) ≡ plan ns h (right ns j) (len - left_len ns i - left_len ns j))
    → second_turn k (ns ++ new) h i j len ≡ second_turn k ns h i j len
unfolding second_turn
second_kept zero ns new h i j len li lj f = refl
second_kept (suc zero) ns new h i j len li lj f = refl
second_kept (suc (suc k)) ns new h i j len li lj f = rw (node_kept ns new i li, node_kept ns new j lj, left, left_len, right)
    (if_both (λ p. p) (dec_lt (left_len ns j) (len - left_len ns i)) _ _ _ _
    (λ y. ap (double (left ns i) (left_len ns i) (left ns j) (left_len ns j)) (f (omega arith) y)) (λ y. refl))

branches_kept : {P Q R : Type 0} (d1 : Dec P) (d2 : Dec Q) (d3 : Dec R) (a b i len : ℕ) (pa pa' ps ps' pl pl' : Plan) → (P → pa ≡ pa') → ps ≡ ps' → pl ≡ pl'
    → if_dec d1 pa (if_dec d2 (if_dec d3 (single a b ps) pl) (base i len)) ≡ if_dec d1 pa' (if_dec d2 (if_dec d3 (single a b ps') pl') (base i len))
branches_kept d1 d2 d3 a b i len pa pa' ps ps' pl pl' e q r =
    if_both (λ p. p) d1 _ _ _ _ e (λ y. ap₂ (λ s l. if_dec d2 (if_dec d3 (single a b s) l) (base i len)) q r)

module _ {X : Type 0} (xs : List X) where
  abbrev Good : List Node → Type 0
  Good ns = GoodNodes (length xs) ns

  -- An unclamped node has the plan of the node it was reached from.
  plan_down : (ns : List Node) (h i len : ℕ) → Good ns → i < length ns → len ≤ (node_at ns i).reach → plan ns h (unclamp ns i len) len ≡ plan ns h i len
  plan_down ns h i len g = unclamp_induct (length xs) ns len (λ i j. len ≤ (node_at ns i).reach → plan ns h j len ≡ plan ns h i len) g
      (λ i lt k w. refl) (λ i lt m k w. refl)
      (λ i j lt m k rec w. rec (omega arith)
      ∙ sym (plan-concat (length xs) ns h i len g lt m (inner_low xs ns g i len lt m w) ∙ if_yes (dec_le len (left_len ns i)) _ _ k)) i

  kept-upto : (ns new : List Node) (h n i len : ℕ) → Good ns → Good (ns ++ new) → i < n → i < length ns → len ≤ (node_at ns i).reach
      → plan (ns ++ new) h i len ≡ plan ns h i len
  kept-upto ns new h zero i len g g' q lt w = absurd (omega arith)
  kept-upto ns new h (suc n) i len g g' q lt w = go (λ j l a b c. kept-upto ns new h n j l g g' a b c) (node_at_lem (length xs) ns i g lt)
    where
      up : i < length (ns ++ new)
      up = rw length-append (omega arith)

      leaf : (node_at ns i).kind ≤ 1 → plan (ns ++ new) h i len ≡ plan ns h i len
      leaf k = plan_leaf (ns ++ new) h i len up (rw (node_kept ns new i lt) k) ∙ sym (plan_leaf ns h i len lt k)

      go : ((j l : ℕ) → j < n → j < length ns → l ≤ (node_at ns j).reach → plan (ns ++ new) h j l ≡ plan ns h j l) → NodeAt (length xs) ns i
          → plan (ns ++ new) h i len ≡ plan ns h i len
      go rec (inl m) = leaf (omega arith)
      go rec (inr (inl m)) = leaf (omega arith)
      go rec (inr (inr m)) =
          let e = node_kept ns new i lt in
          let ea : node_at (ns ++ new) (left ns i) ≡ node_at ns (left ns i) = node_kept ns new (left ns i) (omega arith) in
          let ec : node_at (ns ++ new) (right ns i) ≡ node_at ns (right ns i) = node_kept ns new (right ns i) (omega arith) in
          let il = inner_low xs ns g i len lt m w in
          let u = unclamped xs ns g (right ns i) (len - left_len ns i) (omega arith) m.right_some (omega arith) in
          let uk = unclamp-kept ns new (right ns i) (len - left_len ns i) (omega arith) in
          let jk = node_kept ns new (inner_right ns i len) (omega arith) in
          plan-concat (length xs) (ns ++ new) h i len g' up (concat-kept ns new i lt m) (rw (e, left, left_len, right, uk) il)
          ∙ rw (e, ea, ec, left, left_len, right, uk, jk)
          (branches_kept (dec_le len (left_len ns i)) (dec_lt (suc h) (node_at ns i).height) (dec_le (node_at ns (right ns i)).height (node_at ns (left ns i)).height)
          _ _ i len _ _ _ _ _ _ (λ y. rec (left ns i) len (omega arith) (omega arith) (omega arith))
          (rec (right ns i) (len - left_len ns i) (omega arith) (omega arith) (omega arith))
          (second_kept _ ns new h i (inner_right ns i len) len lt (omega arith)
          (λ k y. deeper rec (inner_right ns i len) il k y (node_at_lem (length xs) ns (inner_right ns i len) g (omega arith)) u)))
          ∙ sym (plan-concat (length xs) ns h i len g lt m il)
        where
          deeper : ((j l : ℕ) → j < n → j < length ns → l ≤ (node_at ns j).reach → plan (ns ++ new) h j l ≡ plan ns h j l) → (j : ℕ) → j < i
              → 2 ≤ (node_at ns j).kind → left_len ns j < len - left_len ns i → NodeAt (length xs) ns j → Unclamped xs ns (right ns i) (len - left_len ns i) j
              → plan (ns ++ new) h (right ns j) (len - left_len ns i - left_len ns j) ≡ plan ns h (right ns j) (len - left_len ns i - left_len ns j)
          deeper rec j jl k y (inl o) u = absurd (omega arith)
          deeper rec j jl k y (inr (inl o)) u = absurd (omega arith)
          deeper rec j jl k y (inr (inr o)) u = rec (right ns j) (len - left_len ns i - left_len ns j) (omega arith) (omega arith) (omega arith)

  pub plan-kept : (ns new : List Node) (h i len : ℕ) → Good ns → Good (ns ++ new) → i < length ns → len ≤ (node_at ns i).reach
      → plan (ns ++ new) h i len ≡ plan ns h i len
  plan-kept ns new h i len g g' lt w = kept-upto ns new h (suc i) i len g g' (omega arith) lt w

  plan_above : (ns new : List Node) (r i len : ℕ) → Good ns → Good (ns ++ new) → r < length ns → i < length ns → len ≤ (node_at ns i).reach
      → plan (ns ++ new) (node_at (ns ++ new) r).height i len ≡ plan ns (node_at ns r).height i len
  plan_above ns new r i len g g' lr lt w = rw (node_kept ns new r lr) (plan-kept ns new (node_at ns r).height i len g g' lt w)

  -- ---- the recursion and the plan make the same ----
  abbrev Agrees : ℕ → Type 0
  Agrees f = (ns : List Node) (l n r k : ℕ) → Good ns → l < f → Piece ns l n → Piece ns r k
      → rust_join f ns l n r k ≡ plan_done ns (unclamp ns r k) (plan ns (node_at ns (unclamp ns r k)).height l n)

  base_done : (ns : List Node) (l n r : ℕ) → rust_concat ns l n r ≡ plan_done ns r (base l n)
  unfolding rust_concat plan_done grow
  base_done ns l n r = ap (λ z. (make_concat ns l n r, z)) (sym (last_snoc ns (concat_node ns l n r)))

  single_done : (ns : List Node) (a b r : ℕ) (p : Plan) → rust_outer a b (plan_done ns r p) ≡ plan_done ns r (single a b p)
  unfolding rust_outer rust_concat plan_done grow
  single_done ns a b r p = base_done (grow r p ns) a b (last (grow r p ns))

  double_done : (ns : List Node) (a b c d r : ℕ) (p : Plan) → rust_outer (length ns) (b + d) (plan_done (make_concat ns a b c) r p)
      ≡ plan_done ns r (double a b c d p)
  unfolding rust_outer rust_concat plan_done grow
  double_done ns a b c d r p = base_done (grow r p (make_concat ns a b c)) (length ns) (b + d) (last (grow r p (make_concat ns a b c)))

  -- A call on an unclamped right.
  rec_same : (f : ℕ) → Agrees f → (ns : List Node) (l n r k : ℕ) → Good ns → l < f → Piece ns l n → Piece ns r k → unclamp ns r k ≡ r
      → rust_join f ns l n r k ≡ plan_done ns r (plan ns (node_at ns r).height l n)
  rec_same f eq ns l n r k g lt pl pr u = eq ns l n r k g lt pl pr ∙ ap (λ z. plan_done ns z (plan ns (node_at ns z).height l n)) u

  double_same : (f : ℕ) → Agrees f → (ns : List Node) (l m n r k : ℕ) → Good ns → l < suc f → Piece ns l n → Piece ns r k → unclamp ns r k ≡ r
      → ConcatAt ns l → left_len ns l < n → Unclamped xs ns (right ns l) (n - left_len ns l) m → NodeAt (length xs) ns m
      → rust_double (node_at ns m).kind (rust_join f) ns l m n r k ≡ plan_done ns r (second_turn (node_at ns m).kind ns (node_at ns r).height l m n)
  unfolding rust_double second_turn
  double_same f eq ns l m n r k g lt pl pr u cl bl um (inl o) = rw o.kind0 (base_done ns l n r)
  double_same f eq ns l m n r k g lt pl pr u cl bl um (inr (inl o)) = rw o.kind1 (base_done ns l n r)
  double_same f eq ns l m n r k g lt pl pr u cl bl um (inr (inr o)) = rw o.kind2
      (if_both (plan_done ns r) (dec_lt (left_len ns m) (n - left_len ns l)) _ _ _ _ (λ y. down y) (λ y. base_done ns l n r))
    where
      down : left_len ns m < n - left_len ns l
          → rust_outer (length ns) (left_len ns l + left_len ns m)
          (rust_join f (make_concat ns (left ns l) (left_len ns l) (left ns m)) (right ns m) (n - left_len ns l - left_len ns m) r k)
          ≡ plan_done ns r (double (left ns l) (left_len ns l) (left ns m) (left_len ns m) (plan ns (node_at ns r).height (right ns m) (n - left_len ns l - left_len ns m)))
      down y =
          let ll = pl.below in
          let ms = make_concat ns (left ns l) (left_len ns l) (left ns m) in
          let head = made_concat xs ns (left ns l) (left_len ns l) (left ns m) g (omega arith) (omega arith)
          cl.left_some o.left_some cl.some_left cl.left_reach in
          let new = concat_node ns (left ns l) (left_len ns l) (left ns m) ∷ [] in
          let q : Piece ns (right ns m) (n - left_len ns l - left_len ns m) =
          record { below = omega arith; some_node = o.right_some; some_len = omega arith; within = omega arith } in
          let u' = unclamp-kept ns new r k pr.below ∙ u in
          ap (rust_outer (length ns) (left_len ns l + left_len ns m))
          (rec_same f eq ms (right ns m) (n - left_len ns l - left_len ns m) r k head.good (omega arith)
          (piece_kept ns new q) (piece_kept ns new pr) u'
          ∙ ap (plan_done ms r) (plan_above ns new r (right ns m) (n - left_len ns l - left_len ns m) g head.good pr.below q.below q.within))
          ∙ double_done ns (left ns l) (left_len ns l) (left ns m) (left_len ns m) r _

  -- Both operands unclamped.
  turn-same : (f : ℕ) → Agrees f → (ns : List Node) (l n r k : ℕ) → Good ns → l < suc f → Piece ns l n → Piece ns r k → unclamp ns r k ≡ r
      → (2 ≤ (node_at ns l).kind → left_len ns l < n)
      → NodeAt (length xs) ns l → rust_turn (rust_join f) ns l n r k ≡ plan_done ns r (plan ns (node_at ns r).height l n)
  unfolding rust_turn rust_single
  turn-same f eq ns l n r k g lt pl pr u ex (inl o) = absurd (omega (arith, pl.some_node))
  turn-same f eq ns l n r k g lt pl pr u ex (inr (inl o)) =
      rw o.kind1 (if_both (λ z. rust_concat ns l n r) (dec_lt (suc (node_at ns r).height) (node_at ns l).height) _ _ l l (λ y. refl) (λ y. refl))
      ∙ base_done ns l n r ∙ ap (plan_done ns r) (sym (plan_leaf ns (node_at ns r).height l n pl.below (omega arith)))
  turn-same f eq ns l n r k g lt pl pr u ex (inr (inr o)) =
      rw o.kind2 (if_both (plan_done ns r) (dec_lt (suc (node_at ns r).height) (node_at ns l).height) _ _ _ _
      (λ y. if_yes (dec_lt (left_len ns l) n) _ _ bl
      ∙ if_both (plan_done ns r) (dec_le (node_at ns (right ns l)).height (node_at ns (left ns l)).height) _ _ _ _ (λ z. one) (λ z. two))
      (λ y. base_done ns l n r))
      ∙ ap (plan_done ns r) (sym (plan-concat (length xs) ns (node_at ns r).height l n g pl.below o (inner_low xs ns g l n pl.below o pl.within)
      ∙ if_no (dec_le n (left_len ns l)) _ _ (λ y. omega (arith, bl))))
    where
      bl : left_len ns l < n
      bl = ex (omega (arith, o.kind2))

      q : Piece ns (right ns l) (n - left_len ns l)
      q = record {
        below = omega (arith, pl.below, o.right_low);
        some_node = o.right_some;
        some_len = omega (arith, bl);
        within = omega (arith, pl.within, o.reach2);
      }

      one : rust_outer (left ns l) (left_len ns l) (rust_join f ns (right ns l) (n - left_len ns l) r k)
          ≡ plan_done ns r (single (left ns l) (left_len ns l) (plan ns (node_at ns r).height (right ns l) (n - left_len ns l)))
      one = ap (rust_outer (left ns l) (left_len ns l)) (rec_same f eq ns (right ns l) (n - left_len ns l) r k g (omega (arith, o.right_low)) q pr u)
          ∙ single_done ns (left ns l) (left_len ns l) r _

      um : Unclamped xs ns (right ns l) (n - left_len ns l) (inner_right ns l n)
      um = unclamped xs ns g (right ns l) (n - left_len ns l) q.below q.some_node q.within

      two : rust_double (node_at ns (rust_unclamp ns (right ns l) (n - left_len ns l))).kind (rust_join f) ns l (rust_unclamp ns (right ns l) (n - left_len ns l)) n r k
          ≡ plan_done ns r (second_turn (node_at ns (inner_right ns l n)).kind ns (node_at ns r).height l (inner_right ns l n) n)
      two = ap (λ m. rust_double (node_at ns m).kind (rust_join f) ns l m n r k) (rust_unclamp_lem (length xs) ns (right ns l) (n - left_len ns l) g q.below)
          ∙ double_same f eq ns l (inner_right ns l n) n r k g lt pl pr u o bl um
          (node_at_lem (length xs) ns (inner_right ns l n) g (omega (arith, um.lower, q.below)))

  -- A bound above the left node's number suffices.
  pub rust_plan : (f : ℕ) → Agrees f
  unfolding rust_join
  rust_plan zero ns l n r k g lt pl pr = absurd (omega arith)
  rust_plan (suc f) ns l n r k g lt pl pr =
      let ul = unclamped xs ns g l n pl.below pl.some_node pl.within in
      let ur = unclamped xs ns g r k pr.below pr.some_node pr.within in
      let ll : unclamp ns l n < length ns = omega (arith, ul.lower, pl.below) in
      let rl : unclamp ns r k < length ns = omega (arith, ur.lower, pr.below) in
      if_no (ℕ_discrete n 0) _ _ (λ e. omega (arith, pl.some_len)) ∙ if_no (ℕ_discrete k 0) _ _ (λ e. omega (arith, pr.some_len))
      ∙ ap₂ (λ x y. rust_turn (rust_join f) ns x n y k) (rust_unclamp_lem (length xs) ns l n g pl.below) (rust_unclamp_lem (length xs) ns r k g pr.below)
      ∙ turn-same f (rust_plan f) ns (unclamp ns l n) n (unclamp ns r k) k g (omega (arith, ul.lower))
      (record { below = ll; some_node = ul.some_node; some_len = pl.some_len; within = ul.within })
      (record { below = rl; some_node = ur.some_node; some_len = pr.some_len; within = ur.within })
      (unclamp_twice xs ns g r k pr.below) (λ y. unclamp_over xs ns g l n pl.below y) (node_at_lem (length xs) ns (unclamp ns l n) g ll)
      ∙ ap (plan_done ns (unclamp ns r k)) (plan_down ns (node_at ns (unclamp ns r k)).height l n g pl.below pl.within)

  -- The call as a whole, empty operands included.
  pub rust_join_lem : (f g : Field) (ns : List Node) → T (nodes_rule (length xs) ns) → T (field_rule ns f) → T (field_rule ns g)
      → rust_join (suc f.node) ns f.node f.len g.node g.len ≡ ((join f g ns).nodes, (join f g ns).field.node)
  unfolding rust_join join join_by if_dec plan_done
  rust_join_lem f g ns gn hf hg = by (ℕ_discrete f.len 0) (ℕ_discrete g.len 0)
    where
      turn : Joined
      turn = rust_turn (rust_join f.node) ns (rust_unclamp ns f.node f.len) f.len (rust_unclamp ns g.node g.len) g.len

      by : (d : Dec (f.len ≡ 0)) (d' : Dec (g.len ≡ 0))
          → if_dec d (ns, g.node) (if_dec d' (ns, f.node) turn) ≡ ((join_by d d' f g ns).nodes, (join_by d d' f g ns).field.node)
      by (yes e) d' = refl
      by (no e) (yes e') = refl
      by (no e) (no e') =
          sym (if_no (ℕ_discrete f.len 0) (ns, g.node) (if_dec (ℕ_discrete g.len 0) (ns, f.node) turn) e ∙ if_no (ℕ_discrete g.len 0) (ns, f.node) turn e')
          ∙ rust_plan (suc f.node) ns f.node f.len g.node g.len gn (omega arith)
          (field_piece xs ns f gn hf (omega arith)) (field_piece xs ns g gn hg (omega arith))
