-- Laws of reserved Concats: the first nodes of a good store are good, so each of them can be made in its turn; and the way up: what is
-- completed so far, wrapped in what is left, is the whole.
use Rattle.std.specs.Prelude.{◌≡◌, List, [], ◌∷◌, ◌++◌, T, leb, length, drop}
use Rattle.std.proofs.Math.Path.{refl, ap, sym}
use Rattle.std.proofs.Common.{◌∙◌, append-nil, le→leb, length-append}
use Prim.Native.Nat.{ℕ, suc, zero, ◌+◌, ◌*◌, ◌-◌, ◌≤◌, ◌<◌}
use Rattle.std.proofs.Math.Decide.{dec_lt}
use native.Mathlib.Omega.{arith}
use Rattle.term_spec.proofs.BoolLaws.{both_of, and_of}
use Rattle.term_spec.specs.Term.{limit}
use Rattle.term_spec.specs.Words.{Lies, record_at, write}
use Rattle.term_spec.proofs.WordsLaws.{decode-length}
use Rattle.view_spec.specs.Node.{Node, node_layout, node_at, concat_node, node_rule, each_node, nodes_rule, GoodNodes}
use Rattle.view_spec.proofs.NodeLaws.{nil_first, node-new, trans_grown, reach_limit}
use Rattle.view_spec.proofs.ChainLaws.{last_snoc}
use Rattle.view_spec.proofs.PlanLaws.{if_yes, if_no}
use Rattle.view_spec.specs.Build.{last, make_concat, if_dec}
use Rattle.nodes.specs.NodeStore.{nodes_in, AnyStore}
use Rattle.nodes.specs.Complete.{child_of, make_over, wrap, completed, last_made, Completes, Became}
use Rattle.nodes.specs.MakeLaws.{any, good-any, concat-at}
use Rattle.nodes.specs.WriteLaws.{put-length, put-upto, put_above, put_later}

-- ---- a reserved child ----

pub child_open : (c x : ℕ) → c ≡ 0 → x ≡ child_of c x
child_open zero x e = refl
child_open (suc c) x e = absurd (omega arith)

pub child_known : (c x : ℕ) → (c ≡ 0 → ⊥) → c ≡ child_of c x
child_known zero x e = absurd (e refl)
child_known (suc c) x e = refl

-- ---- a store's first nodes ----

-- ms is ns and more
abbrev pub Grows : List Node → List Node → Type 0
Grows ns ms = (new : List Node) × (ms ≡ ns ++ new)

each-front : (terms : ℕ) (below ns new : List Node) → T (each_node terms below (ns ++ new)) → T (each_node terms below ns)
unfolding each_node
each-front terms below [] new g = tt
each-front terms below (n ∷ ns) new g =
    let (x, y) = both_of (node_rule terms below n) (each_node terms (below ++ (n ∷ [])) (ns ++ new)) g in
    and_of (node_rule terms below n) (each_node terms (below ++ (n ∷ [])) ns) x (each-front terms (below ++ (n ∷ [])) ns new y)

good-front : (terms : ℕ) (ns ms : List Node) → Grows ns ms → 1 ≤ length ns → GoodNodes terms ms → GoodNodes terms ns
unfolding nodes_rule
good-front terms ns ms (new, e) h g =
    let q = rw e at g in
    let (x, y) = both_of (leb 1 (length (ns ++ new))) (each_node terms [] (ns ++ new)) q in
    and_of (leb 1 (length ns)) (each_node terms [] ns) (le→leb _ _ h) (each-front terms [] ns new y)

pub snoc-grows : (ns : List Node) (n : Node) → Grows ns (ns ++ (n ∷ []))
snoc-grows ns n = (n ∷ [], refl)

pub wrap-grows : (w : List ℕ) (k t x : ℕ) (ns z : List Node) → wrap w k t x ns ≡ z → Grows ns z
unfolding wrap
wrap-grows w k zero x ns z e = ([], sym e ∙ sym (append-nil ns))
wrap-grows w k (suc t) x ns z e = trans_grown ns (make_concat ns _ _ _) z (snoc-grows ns _) (wrap-grows w (suc k) t _ (make_concat ns _ _ _) z e)

-- the records from k on decide
pub wrap-same : (w v : List ℕ) (k t x : ℕ) (ns : List Node) → ((j : ℕ) → k ≤ j → record_at node_layout v j ≡ record_at node_layout w j)
    → wrap v k t x ns ≡ wrap w k t x ns
unfolding wrap
wrap-same w v k zero x ns f = refl
wrap-same w v k (suc t) x ns f =
    wrap-same w v (suc k) t _ _ (λ j h. f j (omega arith))
    ∙ ap (λ (z : Node). wrap w (suc k) t (last (make_over z x ns)) (make_over z x ns)) (f k (omega arith))

-- What is known of a Concat made last in a good store.
pub record MadeLast (terms : ℕ) (ns : List Node) (a b c : ℕ) : Type 0 where
  pub good : GoodNodes terms ns
  pub left : a < length ns
  pub some_left : 1 ≤ a
  pub size : b ≤ limit
  pub right : c < length ns

pub made_last : (terms : ℕ) (ns z : List Node) (a b c : ℕ) → GoodNodes terms z → Grows (make_concat ns a b c) z → 1 ≤ length ns → MadeLast terms ns a b c
made_last terms ns z a b c g e some =
    let ms = make_concat ns a b c in
    let lm : length ms ≡ suc (length ns) = length-append ns (concat_node ns a b c ∷ []) ∙ omega arith in
    let gm = good-front terms ms z e (omega arith) g in
    let new = node-new ns (concat_node ns a b c) in
    let f = concat-at terms ms gm (length ns) (omega arith) (ap (λ (n : Node). n.kind) new) in
    let la : a < length ns = rw new at f.left_low in
    let lc : c < length ns = rw new at f.right_low in
    let lb : b ≤ (node_at ms a).reach = rw new at f.left_reach in
    let some_node : 1 ≤ (node_at ms a).kind = rw new at f.left_some in
    record {
      good = good-front terms ns ms (snoc-grows ns (concat_node ns a b c)) some gm;
      left = la;
      some_left = no_nil terms ms gm a some_node;
      size = omega (arith, reach_limit (any terms) ms (good-any terms ms gm) a (omega arith));
      right = lc;
    }
  where
    no_nil : (terms : ℕ) (ms : List Node) → GoodNodes terms ms → (i : ℕ) → 1 ≤ (node_at ms i).kind → 1 ≤ i
    no_nil terms ms g zero h = absurd (omega (arith, nil_first terms ms g))
    no_nil terms ms g (suc i) h = omega arith

-- What make_concat asks.
pub record Ready (w : List ℕ) (used a b c : ℕ) : Type 0 where
  pub store : AnyStore w used
  pub room : Lies node_layout w (used + 1)
  pub left : a < used
  pub size : b ≤ limit
  pub right : c < used

-- It is met where the store that is made is good.
pub ready : (w : List ℕ) (terms used a b c : ℕ) (z : List Node) → terms ≤ limit → GoodNodes terms z → Grows (make_concat (nodes_in w used) a b c) z
    → 1 ≤ used → used < limit → Lies node_layout w (used + 1) → Ready w used a b c
ready w terms used a b c z few_terms g e some few room =
    let l : length (nodes_in w used) ≡ used = decode-length node_layout used w in
    let m = made_last terms (nodes_in w used) z a b c g e (omega arith) in
    record {
      store = record { terms = terms; few_terms = few_terms; store = record { fits = omega arith; few = omega arith; good = m.good } };
      room = room;
      left = omega (arith, m.left);
      size = m.size;
      right = omega (arith, m.right);
    }

-- ---- the last one ----

pub last_next : (k end x : ℕ) → k < end → last_made (k + 1) end k ≡ last_made k end x
last_next k end x h = go (dec_lt (k + 1) end) ∙ sym (if_yes (dec_lt k end) (end - 1) x h)
  where
    go : Dec (k + 1 < end) → if_dec (dec_lt (k + 1) end) (end - 1) k ≡ end - 1
    go (yes y) = if_yes (dec_lt (k + 1) end) (end - 1) k y
    go (no y) = if_no (dec_lt (k + 1) end) (end - 1) k y ∙ omega arith

pub last_none : (k end x : ℕ) → end ≤ k → last_made k end x ≡ x
last_none k end x h = if_no (dec_lt k end) (end - 1) x (λ y. omega arith)

-- ---- the way up ----

-- What completing keeps: the nodes below k, wrapped in the records from k on, are z, and y is the last of z.
pub record Up (w : List ℕ) (end y : ℕ) (z : List Node) (v : List ℕ) (k x : ℕ) : Type 0 where
  pub terms : ℕ
  pub few_terms : terms ≤ limit
  pub some : 1 ≤ k
  pub le : k ≤ end
  pub few : end ≤ limit
  pub room : Lies node_layout v end
  pub good : GoodNodes terms z
  pub size : length v ≡ length w
  pub after : drop (end * node_layout.width) v ≡ drop (end * node_layout.width) w
  pub nodes : completed v k end x ≡ z
  pub node : last_made k end x ≡ y

pub up_start : (w : List ℕ) (from end before : ℕ) → Completes w from end before
    → Up w end (last_made from end before) (completed w from end before) w from before
up_start w from end before c = record {
  terms = c.terms;
  few_terms = c.few_terms;
  some = c.some;
  le = c.le;
  few = c.few;
  room = c.room;
  good = c.good;
  size = refl;
  after = refl;
  nodes = refl;
  node = refl;
}

module _ {w : List ℕ} {end y : ℕ} {z : List Node} {v : List ℕ} {k x : ℕ} (u : Up w end y z v k x) where
  pub up_end : end ≤ k → (x ≡ y) × Became w v end z
  unfolding wrap
  up_end h =
      let e : k ≡ end = omega (arith, u.le) in
      let o : end - k ≡ 0 = omega arith in (
        sym (last_none k end x h) ∙ u.node,
        record { size = u.size; after = u.after; nodes = ap (nodes_in v) (sym e) ∙ ap (λ t. wrap v k t x (nodes_in v k)) (sym o) ∙ u.nodes },
      )

  module _ (h : k < end) {n : Node} (en : n ≡ record_at node_layout v k) {a c : ℕ} (ea : a ≡ child_of n.a x) (ec : c ≡ child_of n.c x) where
    -- the nodes with this one
    abbrev more : List Node
    more = make_concat (nodes_in v k) a n.b c

    one_more : wrap v (suc k) (end - suc k) (last more) more ≡ z
    unfolding wrap
    one_more =
        let e : end - k ≡ suc (end - suc k) = omega arith in
        let is : more ≡ make_over n x (nodes_in v k) = rw (ea, ec) refl in
        ap (λ ms. wrap v (suc k) (end - suc k) (last ms) ms) (is ∙ ap (λ (r : Node). make_over r x (nodes_in v k)) en)
        ∙ ap (λ t. wrap v k t x (nodes_in v k)) (sym e) ∙ u.nodes

    pub up_ready : Ready v k a n.b c
    up_ready = ready v u.terms k a n.b c z u.few_terms u.good (wrap-grows v (suc k) (end - suc k) _ more z one_more) u.some
        (omega (arith, u.few)) (omega (arith, u.room))

    pub up_next : {v1 : List ℕ} → v1 ≡ write node_layout v k (concat_node (nodes_in v k) a n.b c ∷ []) → Up w end y z v1 (k + 1) k
    up_next e =
        let fits : Lies node_layout v (k + 1) = omega (arith, u.room) in
        let made = concat_node (nodes_in v k) a n.b c in
        let l = put-length v k made fits in
        let s : k + 1 ≡ suc k = omega arith in
        let is : last more ≡ k = last_snoc (nodes_in v k) made ∙ decode-length node_layout k v in
        rw e (record {
          terms = u.terms;
          few_terms = u.few_terms;
          some = omega arith;
          le = omega arith;
          few = u.few;
          room = omega (arith, u.room);
          good = u.good;
          size = l ∙ u.size;
          after = put_above v k made fits end h ∙ u.after;
          nodes = ap (wrap (write node_layout v k (made ∷ [])) (k + 1) (end - (k + 1)) k) (put-upto v k made fits)
              ∙ wrap-same v (write node_layout v k (made ∷ [])) (k + 1) (end - (k + 1)) k _ (λ j q. put_later v k made fits j (omega arith))
              ∙ ap (λ i. wrap v i (end - i) k more) s
              ∙ ap (λ i. wrap v (suc k) (end - suc k) i more) (sym is) ∙ one_more;
          node = last_next k end x h ∙ u.node;
        })
