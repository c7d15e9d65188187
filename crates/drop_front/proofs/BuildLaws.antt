-- Laws of the way down and the way up: the rest of a plan within the outer Concats reserved for it is the plan, and completing them makes its nodes.
use Rattle.std.specs.Prelude.{◌≡◌, length, drop}
use Rattle.std.proofs.Math.Path.{refl, ap, ap₂, sym}
use Rattle.std.proofs.Common.{◌∙◌, length-append}
use mathlib.Core.List.{List, [], ◌∷◌, ◌++◌}
use Rattle.std.proofs.Math.ListN.{length-replicate}
use Prim.Native.Nat.{ℕ, suc, zero, ◌+◌, ◌-◌, ◌*◌, ◌^◌, ◌≤◌, ◌<◌}
use Rattle.std.proofs.Math.Decide.{dec_lt}
use native.Mathlib.Omega.{arith}
use Rattle.term_spec.specs.Term.{limit}
use Rattle.term_spec.specs.Words.{Lies, record_at, write}
use Rattle.term_spec.proofs.WordsLaws.{decode-length}
use Rattle.view_spec.specs.Node.{Node, node_layout, node_at, cons_node, GoodNodes}
use Rattle.view_spec.proofs.NodeLaws.{nodes_there, nil_first, reach_is}
use Rattle.view_spec.proofs.ChainLaws.{last_snoc}
use Rattle.view_spec.specs.Build.{last, make_concat, Drop, stay, cut, under, drop_plan, drop_makes, drop_node, shrink}
use Rattle.view_spec.proofs.DropLaws.{Cuts, Under as UnderOk, Lasts, dropped, shrink-length, shrink_made}
use Rattle.nodes.specs.NodeStore.{nodes_in, AnyStore, Reaches}
use Rattle.nodes.specs.Complete.{reserved, make_over, wrap as nodeWrap, completed, last_made, Completes, Became}
use Rattle.nodes.specs.MakeLaws.{any, good-any}
use Rattle.nodes.specs.WriteLaws.{put-length, put-below, put-upto, put_here, put_above, put_later, later, same_at, written}
use Rattle.nodes.specs.CompleteLaws.{child_open, child_known, last_next, last_none}
use Rattle.drop_front.specs.declared.Stop.{Stop}
use Rattle.drop_front.specs.declared.Stop.TheVariants.{Stay, Cut, Under}
use Rattle.drop_front.specs.DropFront.{Stopped, StoppedIn, plan_in, Room}
use Rattle.drop_front.specs.StopLaws.{stop_as, makes_stay, makes_cut, makes_under}

-- ---- a plan within the outer Concats in the words ----

-- The plan p within the t outer Concats from k on, the innermost first.
unfoldable pub wrap : List ℕ → ℕ → ℕ → Drop → Drop
wrap v k zero p = p
wrap v k (suc t) p = wrap v (k + 1) t (under p (record_at node_layout v k).b (record_at node_layout v k).c)

-- It hangs on the words from record k on alone.
wrap-same : (v w : List ℕ) (k t : ℕ) (p : Drop) → drop (k * node_layout.width) v ≡ drop (k * node_layout.width) w → wrap v k t p ≡ wrap w k t p
unfolding wrap
wrap-same v w k zero p e = refl
wrap-same v w k (suc t) p e =
    ap (λ n. wrap v (k + 1) t (under p n.b n.c)) (same_at v w k e)
    ∙ wrap-same v w (k + 1) t (under p (record_at node_layout w k).b (record_at node_layout w k).c) (later v w k (k + 1) (omega arith) e)

-- An outer Concat put before them.
wrap-put : (v : List ℕ) (j k t : ℕ) (p : Drop) (m r : ℕ) → Lies node_layout v (j + 1) → j + 1 ≡ k
    → wrap (write node_layout v j (reserved 0 m r ∷ [])) j (suc t) p ≡ wrap v k t (under p m r)
unfolding wrap
wrap-put v j k t p m r h e =
    let u = write node_layout v j (reserved 0 m r ∷ []) in
    ap (λ n. wrap u (j + 1) t (under p n.b n.c)) (put_here v j (reserved 0 m r) h)
    ∙ wrap-same u v (j + 1) t (under p m r) (put_above v j (reserved 0 m r) h (j + 1) (omega arith))
    ∙ ap (λ i. wrap v i t (under p m r)) e

wrap-lasts : {X : Type 0} (xs : List X) (ns : List Node) (v : List ℕ) (k t : ℕ) (p : Drop) → Lasts xs ns (wrap v k t p) → Lasts xs ns p
unfolding wrap Lasts
wrap-lasts xs ns v k zero p h = h
wrap-lasts xs ns v k (suc t) p h = (wrap-lasts xs ns v (k + 1) t (under p (record_at node_layout v k).b (record_at node_layout v k).c) h).1

-- ---- completing the outer Concats makes the nodes of the plan ----

-- The left of each record from k to `end` is not known yet.
abbrev Open : List ℕ → ℕ → ℕ → Type 0
Open v k end = (j : ℕ) → k ≤ j → j < end → (record_at node_layout v j).a ≡ 0

-- An outer Concat is put before them.
open-put : (v : List ℕ) (i end m r : ℕ) → Lies node_layout v (i + 1) → Open v (i + 1) end → Open (write node_layout v i (reserved 0 m r ∷ [])) i end
open-put v i end m r h o j q z = go (dec_lt i j)
  where
    go : Dec (i < j) → (record_at node_layout (write node_layout v i (reserved 0 m r ∷ [])) j).a ≡ 0
    go (yes y) = ap (λ (n : Node). n.a) (put_later v i (reserved 0 m r) h j y) ∙ o j (omega arith) z
    go (no y) = let e : j ≡ i = omega arith in rw e (ap (λ (n : Node). n.a) (put_here v i (reserved 0 m r) h))

module _ {X : Type 0} (xs : List X) (ns : List Node) (g : GoodNodes (length xs) ns) (v : List ℕ) where
  -- the next outer Concat, over p
  over : (k : ℕ) (p : Drop) → UnderOk xs ns p (record_at node_layout v k).b (record_at node_layout v k).c → (record_at node_layout v k).a ≡ 0
      → make_over (record_at node_layout v k) (drop_node p ns) (shrink p ns)
      ≡ shrink (under p (record_at node_layout v k).b (record_at node_layout v k).c) ns
  unfolding shrink
  over k p u z =
      let n = record_at node_layout v k in
      let r = child_known n.c (drop_node p ns) (λ e. omega (arith, nil_first (length xs) ns g, ap (λ i. (node_at ns i).kind) e, u.right_some)) in
      ap₂ (λ a c. make_concat (shrink p ns) a n.b c) (sym (child_open n.a (drop_node p ns) z)) (sym r)

  under_node : (k : ℕ) (p : Drop) → last (shrink (under p (record_at node_layout v k).b (record_at node_layout v k).c) ns)
      ≡ drop_node (under p (record_at node_layout v k).b (record_at node_layout v k).c) ns
  unfolding shrink drop_node
  under_node k p = last_snoc (shrink p ns) _ ∙ shrink-length p ns

  wrap-nodes : (k t : ℕ) (p : Drop) → Lasts xs ns (wrap v k t p) → Open v k (k + t)
      → nodeWrap v k t (drop_node p ns) (shrink p ns) ≡ shrink (wrap v k t p) ns
  unfolding wrap nodeWrap Lasts
  wrap-nodes k zero p l o = refl
  wrap-nodes k (suc t) p l o =
      let q = under p (record_at node_layout v k).b (record_at node_layout v k).c in
      let s : k + 1 ≡ suc k = omega arith in
      ap (λ ms. nodeWrap v (suc k) t (last ms) ms) (over k p (wrap-lasts xs ns v (k + 1) t q l).0 (o k (omega arith) (omega arith)))
      ∙ ap (λ x. nodeWrap v (suc k) t x (shrink q ns)) (under_node k p)
      ∙ ap (λ i. nodeWrap v i t (drop_node q ns) (shrink q ns)) (sym s)
      ∙ wrap-nodes (k + 1) t q l (λ j h i. o j (omega arith) (omega arith))

  wrap-node : (k t : ℕ) (p : Drop) → length (shrink p ns) ≡ k → last_made k (k + t) (drop_node p ns) ≡ drop_node (wrap v k t p) ns
  unfolding wrap shrink drop_node
  wrap-node k zero p e = last_none k (k + zero) (drop_node p ns) (omega arith)
  wrap-node k (suc t) p e =
      let q = under p (record_at node_layout v k).b (record_at node_layout v k).c in
      let i : k ≡ drop_node q ns = sym e ∙ shrink-length p ns in
      let s : k + suc t ≡ k + 1 + t = omega arith in
      sym (last_next k (k + suc t) (drop_node p ns) (omega arith)) ∙ ap₂ (λ end x. last_made (k + 1) end x) s i
      ∙ wrap-node (k + 1) t q (length-append (shrink p ns) _ ∙ omega arith)

-- ---- the way down ----

-- What the way down keeps: the words are those at entry but for the outer Concats from hi on, and within them the rest of the plan is the plan.
pub record Down (w : List ℕ) (used node count end : ℕ) (v : List ℕ) (hi at left : ℕ) : Type 0 where
  pub below : nodes_in v used ≡ nodes_in w used
  pub above : drop (end * node_layout.width) v ≡ drop (end * node_layout.width) w
  pub size : length v ≡ length w
  pub reaches : Reaches w used at left
  pub made : hi ≡ used + drop_makes (plan_in w used at left)
  pub within : hi ≤ end
  pub lefts : Open v hi end
  pub all : wrap v hi (end - hi) (plan_in w used at left) ≡ plan_in w used node count

-- The bottom, where x is the node before the outer Concats: they can be completed, and that ends as the code promises.
pub record Bottom (w : List ℕ) (used node count end : ℕ) (v : List ℕ) (hi x : ℕ) : Type 0 where
  pub asks : Completes v hi end x
  pub size : {u : List ℕ} {ms : List Node} → Became v u end ms → length u ≡ length w
  pub ends : {z : ℕ} {u : List ℕ} → (z ≡ last_made hi end x) × Became v u end (completed v hi end x)
      → (z ≡ drop_node (plan_in w used node count) (nodes_in w used))
      × (u ≡ write node_layout w used (drop used (shrink (plan_in w used node count) (nodes_in w used))))

-- At a cut the Cons can be made, and then it is the bottom.
pub record AtCut (w : List ℕ) (used node count end : ℕ) (v : List ℕ) (hi a b c : ℕ) : Type 0 where
  pub room : Lies node_layout v (used + 1)
  pub start : a < 2 ^ 32
  pub some_terms : b ≤ limit
  pub tail_low : c < used
  pub next : {u : List ℕ} → u ≡ write node_layout v used (cons_node (nodes_in v used) a b c ∷ []) → Bottom w used node count end u hi used

-- Inside a left an outer Concat can be reserved, and then the way goes on.
pub record AtUnder (w : List ℕ) (used node count end : ℕ) (v : List ℕ) (hi at x k m r : ℕ) : Type 0 where
  pub some_left : 1 ≤ hi
  pub room : Lies node_layout v (hi - 1 + 1)
  pub size : m ≤ limit
  pub right : r ≤ limit
  pub lower : x < at
  pub next : {u : List ℕ} → u ≡ write node_layout v (hi - 1) (reserved 0 m r ∷ []) → Down w used node count end u (hi - 1) x k

module _ (w : List ℕ) (used node count end : ℕ) (s : AnyStore w used) (asked : Reaches w used node count) (o : Room w used node count end) where
  abbrev ns : List Node
  ns = nodes_in w used

  abbrev xs : List ℕ
  xs = any s.terms

  good : GoodNodes (length xs) ns
  good = good-any s.terms ns s.store.good

  lasts : (i k : ℕ) → Reaches w used i k → Lasts xs ns (drop_plan ns i k)
  lasts i k d =
      let l : i < length ns = rw decode-length d.low in
      (dropped xs ns good i k l (omega (arith, reach_is xs ns good i l, d.fits))).lasts

  pub down_start : Down w used node count end w end node count
  unfolding wrap
  down_start = let z : end - end ≡ 0 = omega arith in record {
    below = refl;
    above = refl;
    size = refl;
    reaches = asked;
    made = o.made;
    within = omega arith;
    lefts = λ j h i. absurd (omega arith);
    all = rw z refl;
  }

  module _ (v : List ℕ) (hi x : ℕ) (p : Drop) (nodes : nodes_in v hi ≡ shrink p ns) (is : x ≡ drop_node p ns)
      (all : wrap v hi (end - hi) p ≡ drop_plan ns node count) (lefts : Open v hi end)
      (within : hi ≤ end) (above : drop (end * node_layout.width) v ≡ drop (end * node_layout.width) w) (size : length v ≡ length w) where
    top : hi + (end - hi) ≡ end
    top = omega arith

    made : completed v hi end x ≡ shrink (drop_plan ns node count) ns
    made =
        let l : Lasts xs ns (wrap v hi (end - hi) p) = rw all (lasts node count asked) in
        ap₂ (nodeWrap v hi (end - hi)) is nodes
        ∙ wrap-nodes xs ns good v hi (end - hi) p l (λ j h i. lefts j h (omega (arith, top)))
        ∙ ap (λ q. shrink q ns) all

    node_made : last_made hi end x ≡ drop_node (drop_plan ns node count) ns
    node_made =
        let e = ap length (sym nodes) ∙ decode-length node_layout hi v in
        ap₂ (λ i y. last_made hi i y) (sym top) is ∙ wrap-node xs ns good v hi (end - hi) p e ∙ ap (λ q. drop_node q ns) all

    bottom : Bottom w used node count end v hi x
    bottom =
        let m = shrink_made xs (drop_plan ns node count) ns good (lasts node count asked) in
        let g = m.grown in
        let n : length (shrink (drop_plan ns node count) ns) ≡ end =
        omega (arith, shrink-length (drop_plan ns node count) ns, o.made, decode-length node_layout used w) in
        let l = ap length (sym nodes) ∙ decode-length node_layout hi v in
        record {
          asks = record {
            terms = s.terms;
            few_terms = s.few_terms;
            some = omega (arith, l, shrink-length p ns, decode-length node_layout used w, nodes_there s.terms ns s.store.good);
            le = within;
            few = o.few;
            room = omega (arith, size, o.room);
            good = rw (made, ← length-replicate {A = ℕ} s.terms 0) m.good;
          };
          size = λ b. b.size ∙ size;
          ends = λ (e, b). (
            e ∙ node_made,
            written w _ used end (shrink (drop_plan ns node count) ns) g.0 g.1 n s.store.fits (omega (arith, b.size, size, o.room))
                (b.nodes ∙ made) (b.after ∙ above),
          );
        }

  module _ (v : List ℕ) (hi at left : ℕ) (d : Down w used node count end v hi at left) where
    pub down_store : AnyStore v used
    down_store = record {
      terms = s.terms;
      few_terms = s.few_terms;
      store = record { fits = omega (arith, d.size, s.store.fits); few = s.store.few; good = rw d.below s.store.good };
    }

    pub down_reaches : Reaches v used at left
    down_reaches = record { low = d.reaches.low; fits = rw d.below d.reaches.fits }

    -- the stop that was found, over the nodes at entry
    stopped : {x y : Stop} → x ≡ y → StoppedIn v at left x → Stopped ns at left y
    stopped e stop = rw d.below at (stop_as (nodes_in v used) at left e (stop used down_store down_reaches))

    pub at_stay : (x : ℕ) {stop : Stop} → stop ≡ Stay x → StoppedIn v at left stop → Bottom w used node count end v hi x
    unfolding shrink drop_node
    at_stay x same stop =
        let t : Stopped ns at left (Stay x) = stopped same stop in
        let e : hi ≡ used = omega (arith, d.made, makes_stay ns at left t) in
        bottom v hi x (stay x) (rw e d.below) refl (rw t.plan d.all) d.lefts d.within d.above d.size

    pub at_cut : (a b c : ℕ) {stop : Stop} → stop ≡ Cut a b c → StoppedIn v at left stop → AtCut w used node count end v hi a b c
    unfolding shrink drop_node Lasts
    at_cut a b c same stop =
        let t : Stopped ns at left (Cut a b c) = stopped same stop in
        let h : hi ≡ used + 1 = omega (arith, d.made, makes_cut ns at left t) in
        let k : Cuts (length xs) ns a b c = rw (← t.plan) at (lasts at left d.reaches) in
        let room : Lies node_layout v (used + 1) = omega (arith, h, d.within, d.size, o.room) in
        let n = cons_node (nodes_in v used) a b c in
        let l = length-replicate {A = ℕ} s.terms 0 in
        let j = decode-length node_layout used w in
        record {
          room = room;
          start = omega (arith, k.inside-terms, s.few_terms);
          some_terms = omega (arith, k.inside-terms, s.few_terms);
          tail_low = omega (arith, k.tail_low);
          next = λ {u} e. rw e (bottom (write node_layout v used (n ∷ [])) hi used (cut a b c)
              (ap (nodes_in (write node_layout v used (n ∷ []))) h ∙ put-upto v used n room ∙ ap (λ z. z ++ (cons_node z a b c ∷ [])) d.below)
              (sym j)
              (wrap-same (write node_layout v used (n ∷ [])) v hi (end - hi) (cut a b c) (put_above v used n room hi (omega arith)) ∙ rw t.plan d.all)
              (λ i q z. ap (λ (y : Node). y.a) (put_later v used n room i (omega arith)) ∙ d.lefts i q z)
              d.within
              (put_above v used n room end (omega (arith, d.within)) ∙ d.above)
              (put-length v used n room ∙ d.size));
        }

    pub at_under : (x k m r : ℕ) {stop : Stop} → stop ≡ Under x k m r → StoppedIn v at left stop → AtUnder w used node count end v hi at x k m r
    unfolding Lasts
    at_under x k m r same stop =
        let t : Stopped ns at left (Under x k m r) = stopped same stop in
        let g = makes_under ns at left t in
        let q : UnderOk xs ns (drop_plan ns x k) m r × Lasts xs ns (drop_plan ns x k) = rw (← t.plan) at (lasts at left d.reaches) in
        let room : Lies node_layout v (hi - 1 + 1) = omega (arith, d.made, g, d.within, d.size, o.room) in
        let n = reserved 0 m r in
        let u : List ℕ = write node_layout v (hi - 1) (n ∷ []) in
        let z : end - (hi - 1) ≡ suc (end - hi) = omega (arith, d.made, g, d.within) in
        let y : hi - 1 + 1 ≡ hi = omega (arith, d.made, g) in
        let c : wrap u (hi - 1) (suc (end - hi)) (drop_plan ns x k) ≡ drop_plan ns node count =
        wrap-put v (hi - 1) hi (end - hi) (drop_plan ns x k) m r room y ∙ rw t.plan d.all in
        record {
          some_left = omega (arith, d.made, g);
          room = room;
          size = q.0.limited;
          right = omega (arith, q.0.right_low, decode-length node_layout used w, s.store.few);
          lower = t.lower.0;
          next = λ e. rw e (record {
            below = put-below v (hi - 1) n room used (omega (arith, d.made, g)) ∙ d.below;
            above = put_above v (hi - 1) n room end (omega (arith, d.within, y)) ∙ d.above;
            size = put-length v (hi - 1) n room ∙ d.size;
            reaches = record { low = omega (arith, t.lower.0, d.reaches.low); fits = t.lower.1 };
            made = omega (arith, d.made, g);
            within = omega (arith, d.within);
            lefts = open-put v (hi - 1) end m r room (rw y d.lefts);
            all = rw z c;
          });
        }
