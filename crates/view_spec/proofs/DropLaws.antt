-- Laws of drop_front: its equations, that its plan leaves a field's later terms, and that the nodes it makes are good and mean them.
use Rattle.std.specs.Prelude.{◌≡◌, List, [], ◌++◌, get_or, drop}
use Rattle.std.proofs.Math.Path.{refl, ap, sym}
use Rattle.std.proofs.Common.{ap₂, ◌∙◌, append-nil, inl, inr, length-append, drop-drop, get_or-take, arith}
use Rattle.std.proofs.Math.ListN.{length, take, length-drop}
use Prim.Native.Nat.{ℕ, suc, zero, ◌+◌, ◌-◌, ◌≤◌, ◌<◌}
use Rattle.std.proofs.Math.Decide.{dec_lt}
use Rattle.term_spec.proofs.ListLaws.{drop-left, drop-right}
use Rattle.term_spec.specs.Table.{table}
use Rattle.term_spec.proofs.TableLaws.{table_at, table_below}
use Rattle.term_spec.specs.Term.{limit}
use Rattle.view_spec.specs.Node.{Node, nil_node, node_at, meaning, GoodNodes}
use Rattle.view_spec.specs.Build.{make_concat, if_dec, Drop, stay, cut, under, drop_k, drop_of, drop_plan, drop_makes, drop_node, shrink}
use Rattle.view_spec.proofs.NodeLaws.{ConsAt, ConcatAt, NodeAt, node_at_lem, node_kept, node_some, meaning_nil, meaning-cons, meaning-concat, meaning-kept}
use Rattle.view_spec.proofs.NodeLaws.{reach_is, reach_limit, cons-length, concat-length, made_cons, made_concat, trans_grown}
use Rattle.view_spec.proofs.PlanLaws.{left-fits}

-- ---- the plan's equations, as the Rust recurses ----

drop_at : (ns : List Node) (i k : ℕ) → i < length ns → drop_plan ns i k ≡ drop_of (node_at ns i) (take i (table drop_of ns [])) k
unfolding drop_plan
drop_at ns i k lt = ap (λ f. f k) (table_at drop_of ns [] i i nil_node stay lt (omega arith))

pub drop_zero : (ns : List Node) (i : ℕ) → i < length ns → drop_plan ns i 0 ≡ stay i
unfolding drop_of
drop_zero ns i lt = drop_at ns i 0 lt ∙ ap stay (table_below drop_of ns i (omega arith))

cons-step : (n : Node) (below : List (ℕ → Drop)) (k : ℕ) → 1 ≤ k → n.kind ≡ 1
    → drop_of n below k ≡ if_dec (dec_lt k n.b) (cut (n.a + k) (n.b - k) n.c) (get_or below n.c stay (k - n.b))
unfolding drop_of drop_k
cons-step n below zero h e = absurd (omega arith)
cons-step n below (suc k) h e = rw e refl

concat-step : (n : Node) (below : List (ℕ → Drop)) (k : ℕ) → 1 ≤ k → n.kind ≡ 2
    → drop_of n below k ≡ if_dec (dec_lt k n.b) (under (get_or below n.a stay k) (n.b - k) n.c) (get_or below n.c stay (k - n.b))
unfolding drop_of drop_k
concat-step n below zero h e = absurd (omega arith)
concat-step n below (suc k) h e = rw e refl

pub drop-cons : (used : ℕ) (ns : List Node) (i k : ℕ) → i < length ns → ConsAt used ns i → 1 ≤ k
    → drop_plan ns i k ≡ if_dec (dec_lt k (node_at ns i).b) (cut ((node_at ns i).a + k) ((node_at ns i).b - k) (node_at ns i).c)
    (drop_plan ns (node_at ns i).c (k - (node_at ns i).b))
unfolding drop_plan
drop-cons used ns i k lt m h = drop_at ns i k lt ∙ cons-step (node_at ns i) (take i (table drop_of ns [])) k h m.kind1
    ∙ ap (λ f. if_dec (dec_lt k (node_at ns i).b) (cut ((node_at ns i).a + k) ((node_at ns i).b - k) (node_at ns i).c) (f (k - (node_at ns i).b)))
    (get_or-take i (table drop_of ns []) (node_at ns i).c stay m.tail_low)

pub drop-concat : (ns : List Node) (i k : ℕ) → i < length ns → ConcatAt ns i → 1 ≤ k
    → drop_plan ns i k ≡ if_dec (dec_lt k (node_at ns i).b) (under (drop_plan ns (node_at ns i).a k) ((node_at ns i).b - k) (node_at ns i).c)
    (drop_plan ns (node_at ns i).c (k - (node_at ns i).b))
unfolding drop_plan
drop-concat ns i k lt m h = drop_at ns i k lt ∙ concat-step (node_at ns i) (take i (table drop_of ns [])) k h m.kind2
    ∙ ap₂ (λ f f'. if_dec (dec_lt k (node_at ns i).b) (under (f k) ((node_at ns i).b - k) (node_at ns i).c) (f' (k - (node_at ns i).b)))
    (get_or-take i (table drop_of ns []) (node_at ns i).a stay m.left_low)
    (get_or-take i (table drop_of ns []) (node_at ns i).c stay m.right_low)

-- ---- the terms a plan leaves, and what it needs of the store ----

unfoldable pub leaves : {X : Type 0} → List X → List Node → Drop → List X
leaves xs ns (stay x) = meaning xs ns x
leaves xs ns (cut a b c) = take b (drop a xs) ++ meaning xs ns c
leaves xs ns (under p m r) = take m (leaves xs ns p) ++ meaning xs ns r

pub record Cuts (used : ℕ) (ns : List Node) (a b c : ℕ) : Type 0 where
  pub some_terms : 1 ≤ b
  pub inside-terms : a + b ≤ used
  pub tail_low : c < length ns
  pub tail_kind : (node_at ns c).kind ≤ 1

pub record Under {X : Type 0} (xs : List X) (ns : List Node) (p : Drop) (m r : ℕ) : Type 0 where
  pub some_terms : 1 ≤ m
  pub within : m ≤ length (leaves xs ns p)
  pub limited : m ≤ limit
  pub right_low : r < length ns
  pub right_some : 1 ≤ (node_at ns r).kind

unfoldable pub Lasts : {X : Type 0} → List X → List Node → Drop → Type 0
Lasts xs ns (stay x) = x < length ns
Lasts xs ns (cut a b c) = Cuts (length xs) ns a b c
Lasts xs ns (under p m r) = Under xs ns p m r × Lasts xs ns p

module _ {X : Type 0} (xs : List X) (ns : List Node) (g : GoodNodes (length xs) ns) where
  pub record Dropped (i k : ℕ) (p : Drop) : Type 0 where
    pub lasts : Lasts xs ns p
    pub shows : leaves xs ns p ≡ drop k (meaning xs ns i)

  abbrev Below : ℕ → Type 0
  Below n = (j l : ℕ) → j < n → j < length ns → l ≤ length (meaning xs ns j) → Dropped j l (drop_plan ns j l)

  cons_dropped : (n i k : ℕ) → i < suc n → i < length ns → k ≤ length (meaning xs ns i) → 1 ≤ k → Below n → (m : ConsAt (length xs) ns i)
      → (d : Dec (k < (node_at ns i).b))
      → Dropped i k (if_dec d (cut ((node_at ns i).a + k) ((node_at ns i).b - k) (node_at ns i).c) (drop_plan ns (node_at ns i).c (k - (node_at ns i).b)))
  unfolding if_dec Lasts leaves
  cons_dropped n i k h lt fit pos rec m (yes d) =
      let q : (node_at ns i).b ≤ length (drop (node_at ns i).a xs) = rw length-drop (omega arith) in
      record {
        lasts = record { some_terms = omega arith; inside-terms = omega arith; tail_low = omega arith; tail_kind = m.tail_kind };
        shows = sym (ap (drop k) (meaning-cons xs ns i lt m)
            ∙ drop-left k (node_at ns i).b (drop (node_at ns i).a xs) (meaning xs ns (node_at ns i).c) (omega arith) q
            ∙ ap (λ z. take ((node_at ns i).b - k) z ++ meaning xs ns (node_at ns i).c) (drop-drop k (node_at ns i).a xs));
      }
  cons_dropped n i k h lt fit pos rec m (no d) =
      let q : (node_at ns i).b ≤ length (drop (node_at ns i).a xs) = rw length-drop (omega arith) in
      let l = cons-length xs ns i lt m in
      let ih = rec (node_at ns i).c (k - (node_at ns i).b) (omega arith) (omega arith) (omega arith) in
      record {
        lasts = ih.lasts;
        shows = ih.shows ∙ sym (ap (drop k) (meaning-cons xs ns i lt m)
            ∙ drop-right k (node_at ns i).b (drop (node_at ns i).a xs) (meaning xs ns (node_at ns i).c) (omega arith) q);
      }

  concat_dropped : (n i k : ℕ) → i < suc n → i < length ns → k ≤ length (meaning xs ns i) → 1 ≤ k → Below n → (m : ConcatAt ns i)
      → (d : Dec (k < (node_at ns i).b))
      → Dropped i k (if_dec d (under (drop_plan ns (node_at ns i).a k) ((node_at ns i).b - k) (node_at ns i).c) (drop_plan ns (node_at ns i).c (k - (node_at ns i).b)))
  unfolding if_dec Lasts leaves
  concat_dropped n i k h lt fit pos rec m (yes d) =
      let q = left-fits xs ns g i lt m in
      let ih = rec (node_at ns i).a k (omega arith) (omega arith) (omega arith) in
      record {
        lasts = (
          record {
            some_terms = omega arith;
            within = rw (ih.shows, length-drop) (omega arith);
            limited = omega (arith, reach_limit xs ns g (node_at ns i).a (omega arith));
            right_low = omega arith;
            right_some = m.right_some;
          },
          ih.lasts,
        );
        shows = ap (λ z. take ((node_at ns i).b - k) z ++ meaning xs ns (node_at ns i).c) ih.shows
            ∙ sym (ap (drop k) (meaning-concat xs ns i lt m)
            ∙ drop-left k (node_at ns i).b (meaning xs ns (node_at ns i).a) (meaning xs ns (node_at ns i).c) (omega arith) q);
      }
  concat_dropped n i k h lt fit pos rec m (no d) =
      let q = left-fits xs ns g i lt m in
      let l = concat-length xs ns i lt m q in
      let ih = rec (node_at ns i).c (k - (node_at ns i).b) (omega arith) (omega arith) (omega arith) in
      record {
        lasts = ih.lasts;
        shows = ih.shows ∙ sym (ap (drop k) (meaning-concat xs ns i lt m)
            ∙ drop-right k (node_at ns i).b (meaning xs ns (node_at ns i).a) (meaning xs ns (node_at ns i).c) (omega arith) q);
      }

  drop-upto : (n i k : ℕ) → i < n → i < length ns → k ≤ length (meaning xs ns i) → Dropped i k (drop_plan ns i k)
  unfolding Lasts leaves
  drop-upto zero i k h lt fit = absurd (omega arith)
  drop-upto (suc n) i zero h lt fit = rw (drop_zero ns i lt) (record { lasts = lt; shows = refl })
  drop-upto (suc n) i (suc k) h lt fit = go (λ j l. drop-upto n j l) (node_at_lem (length xs) ns i g lt)
    where
      go : Below n → NodeAt (length xs) ns i → Dropped i (suc k) (drop_plan ns i (suc k))
      go rec (inl m) = absurd (omega (arith, ap length (meaning_nil xs ns i lt m.kind0)))
      go rec (inr (inl m)) = rw (drop-cons (length xs) ns i (suc k) lt m (omega arith))
          (cons_dropped n i (suc k) h lt fit (omega arith) rec m (dec_lt (suc k) (node_at ns i).b))
      go rec (inr (inr m)) = rw (drop-concat ns i (suc k) lt m (omega arith))
          (concat_dropped n i (suc k) h lt fit (omega arith) rec m (dec_lt (suc k) (node_at ns i).b))

  pub dropped : (i k : ℕ) → i < length ns → k ≤ length (meaning xs ns i) → Dropped i k (drop_plan ns i k)
  dropped i k lt fit = drop-upto (suc i) i k (omega arith) lt fit

-- ---- the nodes made ----

pub shrink-length : (p : Drop) (ns : List Node) → length (shrink p ns) ≡ length ns + drop_makes p
unfolding shrink drop_makes
shrink-length (stay x) ns = omega arith
shrink-length (cut a b c) ns = rw length-append (omega arith)
shrink-length (under p m r) ns = rw (length-append, shrink-length p ns) (omega arith)

-- The store ms is ns and more; its node i means l.
pub record Shrunk {X : Type 0} (xs : List X) (ns ms : List Node) (i : ℕ) (l : List X) : Type 0 where
  pub good : GoodNodes (length xs) ms
  pub grown : (new : List Node) × (ms ≡ ns ++ new)
  pub below : i < length ms
  pub shows : meaning xs ms i ≡ l

pub shrink_made : {X : Type 0} (xs : List X) (p : Drop) (ns : List Node) → GoodNodes (length xs) ns → Lasts xs ns p
    → Shrunk xs ns (shrink p ns) (drop_node p ns) (leaves xs ns p)
unfolding shrink drop_node Lasts leaves
shrink_made xs (stay x) ns g f = record { good = g; grown = ([], sym (append-nil ns)); below = f; shows = refl }
shrink_made xs (cut a b c) ns g f =
    let m = made_cons xs ns a b c g f.some_terms f.inside-terms f.tail_low f.tail_kind in
    record { good = m.good; grown = m.grown; below = m.below; shows = m.shows }
shrink_made {X} xs (under p m r) ns g f = go f.0 (shrink_made xs p ns g f.1)
  where
    go : Under xs ns p m r → Shrunk xs ns (shrink p ns) (drop_node p ns) (leaves xs ns p)
        → Shrunk xs ns (make_concat (shrink p ns) (drop_node p ns) m r) (length ns + drop_makes p) (take m (leaves xs ns p) ++ meaning xs ns r)
    go u s =
        let (new, e) = s.grown in
        let l = ap length s.shows in
        let rl : r < length (shrink p ns) = rw (e, length-append) (omega (arith, u.right_low)) in
        let rk : node_at (shrink p ns) r ≡ node_at ns r = ap (λ z. node_at z r) e ∙ node_kept ns new r u.right_low in
        let rm : meaning xs (shrink p ns) r ≡ meaning xs ns r = ap (λ z. meaning xs z r) e ∙ meaning-kept xs ns new r u.right_low in
        let h : m ≤ (node_at (shrink p ns) (drop_node p ns)).reach =
        omega (arith, u.within, u.limited, reach_is xs (shrink p ns) s.good (drop_node p ns) s.below) in
        let k = node_some (length xs) (shrink p ns) (drop_node p ns) s.good s.below (omega (arith, u.some_terms)) in
        let c = made_concat xs (shrink p ns) (drop_node p ns) m r s.good s.below rl k (rw rk u.right_some) u.some_terms h in
        let q = shrink-length p ns in
        record {
          good = c.good;
          grown = trans_grown ns (shrink p ns) (make_concat (shrink p ns) (drop_node p ns) m r) s.grown c.grown;
          below = rw (← q) c.below;
          shows = ap (meaning xs (make_concat (shrink p ns) (drop_node p ns) m r)) (sym q) ∙ c.shows ∙ ap₂ (λ x y. take m x ++ y) s.shows rm;
        }
