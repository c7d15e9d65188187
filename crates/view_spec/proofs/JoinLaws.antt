-- Laws of join: the plan is worth the left field's terms, and the nodes it makes are good and mean both fields' terms.
use Rattle.std.specs.Prelude.{◌≡◌, List, [], ◌∷◌, ◌++◌, take, ℕ, suc, zero, ◌+◌, ◌-◌, ◌≤◌, ◌<◌}
use Rattle.std.proofs.Math.Path.{refl, ap, sym}
use Rattle.std.proofs.Common.{ap₂, ◌∙◌, append_assoc, append-nil, inl, inr, length-append}
use Rattle.std.proofs.Math.ListN.{length}
use Rattle.std.proofs.Math.Decide.{dec_le, dec_lt}
use native.Mathlib.Omega.{arith}
use Rattle.term_spec.proofs.ListLaws.{take_left, take-right}
use Rattle.term_spec.specs.Term.{limit}
use Rattle.view_spec.specs.Node.{Node, node_at, concat_node, meaning, GoodNodes, Piece}
use Rattle.view_spec.specs.Build.{last, make_concat, if_dec, Plan, base, single, double, plan, grow, plan_makes}
use Rattle.view_spec.proofs.NodeLaws.{ConcatAt, NodeAt, node_at_lem, node_kept, meaning-kept, meaning-concat, reach_is, reach_limit, head_length, Made, made_concat, trans_grown}
use Rattle.view_spec.proofs.ChainLaws.{last_snoc}
use Rattle.view_spec.proofs.PlanLaws.{left, left_len, right, inner_right, Unclamped, left-fits, unclamped, plan_leaf, plan-concat, second_turn}

-- ---- what a plan needs of the store, and the terms it is worth ----

unfoldable pub Fits : List Node → Plan → Type 0
Fits ns (base l len) = Piece ns l len
Fits ns (single a b p) = Piece ns a b × Fits ns p
Fits ns (double a b c d p) = Piece ns a b × Piece ns c d × (b + d ≤ limit) × Fits ns p

unfoldable pub worth : {X : Type 0} → List X → List Node → Plan → List X
worth xs ns (base l len) = take len (meaning xs ns l)
worth xs ns (single a b p) = take b (meaning xs ns a) ++ worth xs ns p
worth xs ns (double a b c d p) = take b (meaning xs ns a) ++ (take d (meaning xs ns c) ++ worth xs ns p)

pub piece_kept : (ns ms : List Node) {i len : ℕ} → Piece ns i len → Piece (ns ++ ms) i len
piece_kept ns ms {i} {len} p =
    let e = node_kept ns ms i p.below in
    record { below = rw length-append (omega arith); some_node = rw e p.some_node; some_len = p.some_len; within = rw e p.within }

pub fits_kept : (ns ms : List Node) (p : Plan) → Fits ns p → Fits (ns ++ ms) p
unfolding Fits
fits_kept ns ms (base l len) f = piece_kept ns ms f
fits_kept ns ms (single a b p) f = (piece_kept ns ms f.0, fits_kept ns ms p f.1)
fits_kept ns ms (double a b c d p) f = (piece_kept ns ms f.0, piece_kept ns ms f.1, f.2, fits_kept ns ms p f.3)

pub worth-kept : {X : Type 0} (xs : List X) (ns ms : List Node) (p : Plan) → Fits ns p → worth xs (ns ++ ms) p ≡ worth xs ns p
unfolding Fits worth
worth-kept xs ns ms (base l len) f = ap (take len) (meaning-kept xs ns ms l f.below)
worth-kept xs ns ms (single a b p) f = ap₂ (λ u v. take b u ++ v) (meaning-kept xs ns ms a f.0.below) (worth-kept xs ns ms p f.1)
worth-kept xs ns ms (double a b c d p) f = ap₂ ◌++◌ (ap (take b) (meaning-kept xs ns ms a f.0.below))
    (ap₂ (λ u v. take d u ++ v) (meaning-kept xs ns ms c f.1.below) (worth-kept xs ns ms p f.3))

-- ---- the plan fits, and is worth the field ----
module _ {X : Type 0} (xs : List X) (ns : List Node) (g : GoodNodes (length xs) ns) (h : ℕ) where
  pub record Planned (i len : ℕ) (p : Plan) : Type 0 where
    pub fits : Fits ns p
    pub shows : worth xs ns p ≡ take len (meaning xs ns i)

  abbrev Below : ℕ → Type 0
  Below n = (j l : ℕ) → j < n → Piece ns j l → Planned j l (plan ns h j l)

  base_planned : (i len : ℕ) → Piece ns i len → Planned i len (base i len)
  unfolding Fits worth
  base_planned i len p = record { fits = p; shows = refl }

  double_planned : (n i j len : ℕ) (m : ConcatAt ns i) (k : ConcatAt ns j) → i < suc n → Piece ns i len → left_len ns i < len
      → Unclamped xs ns (right ns i) (len - left_len ns i) j → Below n
      → (d : Dec (left_len ns j < len - left_len ns i))
      → Planned i len (if_dec d (double (left ns i) (left_len ns i) (left ns j) (left_len ns j) (plan ns h (right ns j) (len - left_len ns i - left_len ns j)))
      (base i len))
  unfolding if_dec Fits worth
  double_planned n i j len m k lt p q u rec (no d) = base_planned i len p
  double_planned n i j len m k lt p q u rec (yes d) =
      let il = p.below in
      let jl : j < length ns = omega arith in
      let r : Piece ns (right ns j) (len - left_len ns i - left_len ns j) =
      record { below = omega arith; some_node = k.right_some; some_len = omega arith; within = omega arith } in
      let ih = rec (right ns j) (len - left_len ns i - left_len ns j) (omega arith) r in
      record {
        fits = (
          record { below = omega arith; some_node = m.left_some; some_len = m.some_left; within = m.left_reach },
          record { below = omega arith; some_node = k.left_some; some_len = k.some_left; within = k.left_reach },
          omega (arith, reach_limit xs ns g i il),
          ih.fits,
        );
        shows = ap (take (left_len ns i) (meaning xs ns (left ns i)) ++◌)
            (ap (take (left_len ns j) (meaning xs ns (left ns j)) ++◌) ih.shows
            ∙ sym (take-right (len - left_len ns i) (left_len ns j) (meaning xs ns (left ns j)) (meaning xs ns (right ns j)) (omega arith) (left-fits xs ns g j jl k))
            ∙ ap (take (len - left_len ns i)) (sym (meaning-concat xs ns j jl k))
            ∙ u.shows)
            ∙ sym (take-right len (left_len ns i) (meaning xs ns (left ns i)) (meaning xs ns (right ns i)) (omega arith) (left-fits xs ns g i il m))
            ∙ ap (take len) (sym (meaning-concat xs ns i il m));
      }

  second_planned : (n i j len : ℕ) (m : ConcatAt ns i) → i < suc n → Piece ns i len → left_len ns i < len
      → Unclamped xs ns (right ns i) (len - left_len ns i) j → Below n
      → NodeAt (length xs) ns j → Planned i len (second_turn (node_at ns j).kind ns h i j len)
  unfolding second_turn
  second_planned n i j len m lt p q u rec (inl k) = rw k.kind0 (base_planned i len p)
  second_planned n i j len m lt p q u rec (inr (inl k)) = rw k.kind1 (base_planned i len p)
  second_planned n i j len m lt p q u rec (inr (inr k)) = rw k.kind2 (double_planned n i j len m k lt p q u rec (dec_lt (left_len ns j) (len - left_len ns i)))

  turn_planned : (n i j len : ℕ) (m : ConcatAt ns i) → i < suc n → Piece ns i len → left_len ns i < len
      → Unclamped xs ns (right ns i) (len - left_len ns i) j → Below n
      → {P Q : Type 0} (d : Dec P) (d' : Dec Q)
      → Planned i len (if_dec d (if_dec d' (single (left ns i) (left_len ns i) (plan ns h (right ns i) (len - left_len ns i)))
      (second_turn (node_at ns j).kind ns h i j len)) (base i len))
  unfolding if_dec Fits worth
  turn_planned n i j len m lt p q u rec (no d) d' = base_planned i len p
  turn_planned n i j len m lt p q u rec (yes d) (no d') = second_planned n i j len m lt p q u rec (node_at_lem (length xs) ns j g (omega (arith, p.below)))
  turn_planned n i j len m lt p q u rec (yes d) (yes d') =
      let il = p.below in
      let r : Piece ns (right ns i) (len - left_len ns i) = record { below = omega arith; some_node = m.right_some; some_len = omega arith; within = omega arith } in
      let ih = rec (right ns i) (len - left_len ns i) (omega arith) r in
      record {
        fits = (record { below = omega arith; some_node = m.left_some; some_len = m.some_left; within = m.left_reach }, ih.fits);
        shows = ap (take (left_len ns i) (meaning xs ns (left ns i)) ++◌) ih.shows
            ∙ sym (take-right len (left_len ns i) (meaning xs ns (left ns i)) (meaning xs ns (right ns i)) (omega arith) (left-fits xs ns g i il m))
            ∙ ap (take len) (sym (meaning-concat xs ns i il m));
      }

  left_planned : (n i len : ℕ) (m : ConcatAt ns i) → i < suc n → Piece ns i len → Below n
      → (d : Dec (len ≤ left_len ns i)) (x : Plan) → (left_len ns i < len → Planned i len x)
      → Planned i len (if_dec d (plan ns h (left ns i) len) x)
  unfolding if_dec
  left_planned n i len m lt p rec (no d) x f = f (omega arith)
  left_planned n i len m lt p rec (yes d) x f =
      let ih = rec (left ns i) len (omega arith) (record { below = omega (arith, p.below); some_node = m.left_some; some_len = p.some_len; within = omega arith }) in
      record {
        fits = ih.fits;
        shows = ih.shows ∙ sym (ap (take len) (meaning-concat xs ns i p.below m)
            ∙ take_left len (left_len ns i) (meaning xs ns (left ns i)) (meaning xs ns (right ns i)) d (left-fits xs ns g i p.below m));
      }

  plan-upto : (n i len : ℕ) → i < n → Piece ns i len → Planned i len (plan ns h i len)
  plan-upto zero i len lt p = absurd (omega arith)
  plan-upto (suc n) i len lt p = go (λ j l. plan-upto n j l) (node_at_lem (length xs) ns i g p.below)
    where
      go : Below n → NodeAt (length xs) ns i → Planned i len (plan ns h i len)
      go rec (inl m) = absurd (omega arith)
      go rec (inr (inl m)) = rw (plan_leaf ns h i len p.below (omega arith)) (base_planned i len p)
      go rec (inr (inr m)) =
          let u = unclamped xs ns g (right ns i) (len - left_len ns i) (omega (arith, p.below)) m.right_some (omega arith) in
          rw (plan-concat (length xs) ns h i len g p.below m (omega arith))
          (left_planned n i len m lt p rec (dec_le len (left_len ns i)) _ (λ q.
          turn_planned n i (inner_right ns i len) len m lt p q u rec (dec_lt (suc h) (node_at ns i).height)
          (dec_le (node_at ns (right ns i)).height (node_at ns (left ns i)).height)))

  pub planned : (i len : ℕ) → Piece ns i len → Planned i len (plan ns h i len)
  planned i len p = plan-upto (suc i) i len (omega arith) p

-- ---- the nodes made ----

pub grow-length : (r : ℕ) (p : Plan) (ns : List Node) → length (grow r p ns) ≡ length ns + plan_makes p
unfolding grow plan_makes
grow-length r (base l len) ns = rw length-append (omega arith)
grow-length r (single a b p) ns = rw (length-append, grow-length r p ns) (omega arith)
grow-length r (double a b c d p) ns = rw (length-append, grow-length r p (make_concat ns a b c), length-append) (omega arith)

piece_grown : {ns ms : List Node} {i len : ℕ} → (new : List Node) × (ms ≡ ns ++ new) → Piece ns i len → Piece ms i len
piece_grown {ns} {ms} (new, e) p = rw e (piece_kept ns new p)

meaning-grown : {X : Type 0} (xs : List X) {ns ms : List Node} {i len : ℕ} → (new : List Node) × (ms ≡ ns ++ new) → Piece ns i len
    → meaning xs ms i ≡ meaning xs ns i
meaning-grown xs {ns} {ms} {i} (new, e) p = rw e (meaning-kept xs ns new i p.below)

-- One more Concat over a store made so far.
outer_made : {X : Type 0} (xs : List X) (ns ms : List Node) (a b i : ℕ) (l : List X) → Made xs ns ms i l → Piece ms a b
    → Made xs ns (make_concat ms a b i) (last (make_concat ms a b i)) (take b (meaning xs ms a) ++ l)
outer_made xs ns ms a b i l m p =
    let c = made_concat xs ms a b i m.good p.below m.below p.some_node m.some_node p.some_len p.within in
    let e = last_snoc ms (concat_node ms a b i) in
    record {
      good = c.good;
      grown = trans_grown ns ms (make_concat ms a b i) m.grown c.grown;
      below = rw e c.below;
      some_node = rw e c.some_node;
      shows = ap (meaning xs (make_concat ms a b i)) e ∙ c.shows ∙ ap (take b (meaning xs ms a) ++◌) m.shows;
    }

made_as : {X : Type 0} {xs : List X} {ns ms : List Node} {i : ℕ} {l k : List X} → Made xs ns ms i l → l ≡ k → Made xs ns ms i k
made_as m e = record { good = m.good; grown = m.grown; below = m.below; some_node = m.some_node; shows = m.shows ∙ e }

head_take : {X : Type 0} (b d : ℕ) (A C : List X) → b ≤ length A → take (b + d) (take b A ++ C) ≡ take b A ++ take d C
head_take b d A C h = let e : b + d - b ≡ d = omega arith in take-right (b + d) b A C (omega arith) h ∙ ap (λ z. take b A ++ take z C) e

pub grow_made : {X : Type 0} (xs : List X) (r : ℕ) (p : Plan) (ns : List Node) → GoodNodes (length xs) ns → Fits ns p → r < length ns → 1 ≤ (node_at ns r).kind
    → Made xs ns (grow r p ns) (last (grow r p ns)) (worth xs ns p ++ meaning xs ns r)
unfolding grow Fits worth
grow_made xs r (base l len) ns g f lt k =
    outer_made xs ns ns l len r (meaning xs ns r) (record { good = g; grown = ([], sym (append-nil ns)); below = lt; some_node = k; shows = refl }) f
grow_made xs r (single a b p) ns g f lt k =
    let m = grow_made xs r p ns g f.1 lt k in
    made_as (outer_made xs ns (grow r p ns) a b (last (grow r p ns)) _ m (piece_grown m.grown f.0))
    (ap (λ z. take b z ++ (worth xs ns p ++ meaning xs ns r)) (meaning-grown xs m.grown f.0)
    ∙ sym (append_assoc (take b (meaning xs ns a)) (worth xs ns p) (meaning xs ns r)))
grow_made xs r (double a b c d p) ns g f lt k =
    let pa = f.0 in
    let pc = f.1 in
    let head = made_concat xs ns a b c g pa.below pc.below pa.some_node pc.some_node pa.some_len pa.within in
    let new = concat_node ns a b c ∷ [] in
    let up : length (make_concat ns a b c) ≡ suc (length ns) = length-append ns new ∙ omega arith in
    let m = grow_made xs r p (make_concat ns a b c) head.good (fits_kept ns new p f.3) (omega arith) (rw (node_kept ns new r lt) k) in
    let la : b ≤ length (meaning xs ns a) = omega (arith, reach_is xs ns g a pa.below, pa.within) in
    let ra = reach_is xs (make_concat ns a b c) head.good (length ns) head.below in
    let ln : length (meaning xs (make_concat ns a b c) (length ns)) ≡ b + length (meaning xs ns c) =
    ap length head.shows ∙ head_length b (meaning xs ns a) (meaning xs ns c) la in
    let ph : Piece (make_concat ns a b c) (length ns) (b + d) =
    record {
      below = head.below;
      some_node = head.some_node;
      some_len = omega (arith, pa.some_len);
      within = omega (arith, f.2, pc.within, reach_is xs ns g c pc.below);
    } in
    let o = outer_made xs (make_concat ns a b c) (grow r p (make_concat ns a b c)) (length ns) (b + d) (last (grow r p (make_concat ns a b c))) _ m
    (piece_grown m.grown ph) in
    record {
      good = o.good;
      grown = trans_grown ns (make_concat ns a b c) _ head.grown o.grown;
      below = o.below;
      some_node = o.some_node;
      shows = o.shows ∙ ap₂ ◌++◌ (ap (take (b + d)) (meaning-grown xs m.grown ph ∙ head.shows) ∙ head_take b d (meaning xs ns a) (meaning xs ns c) la)
          (ap₂ ◌++◌ (worth-kept xs ns new p f.3) (meaning-kept xs ns new r lt))
          ∙ append_assoc (take b (meaning xs ns a)) (take d (meaning xs ns c)) (worth xs ns p ++ meaning xs ns r)
          ∙ ap (take b (meaning xs ns a) ++◌) (sym (append_assoc (take d (meaning xs ns c)) (worth xs ns p) (meaning xs ns r)))
          ∙ sym (append_assoc (take b (meaning xs ns a)) (take d (meaning xs ns c) ++ worth xs ns p) (meaning xs ns r));
    }
