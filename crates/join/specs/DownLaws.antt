-- The way down of a join: what is reserved so far, wrapped around what the rest of the plan makes, is the whole join.
use Rattle.std.specs.Prelude.{◌≡◌, refl, List, [], ◌∷◌, length, drop, ℕ, suc, ◌+◌, ◌*◌, ◌-◌, ◌≤◌, ◌<◌}
use Rattle.std.proofs.Math.Path.{ap}
use Rattle.std.proofs.Common.{sym, ◌∙◌, arith}
use Rattle.std.proofs.lemmas.List.{length-replicate}
use Rattle.term_spec.specs.Term.{limit}
use Rattle.term_spec.specs.Words.{Lies, record_at, write}
use Rattle.term_spec.proofs.WordsLaws.{decode-length}
use Rattle.view_spec.specs.Node.{Node, node_layout, node_at, concat_node, GoodNodes, Piece}
use Rattle.view_spec.proofs.NodeLaws.{nodes_there, trans_grown}
use Rattle.view_spec.proofs.ChainLaws.{last_snoc}
use Rattle.view_spec.specs.Build.{Plan, base, single, double, last, make_concat, plan, plan_makes, grow}
use Rattle.view_spec.proofs.JoinLaws.{planned, grow-length, grow_made}
use Rattle.nodes.specs.NodeStore.{nodes_in, NodeStore, AnyStore}
use Rattle.nodes.specs.Complete.{reserved, child_of, make_over, wrap, completed, Completes, Became}
use Rattle.nodes.specs.RuleLaws.{below_at}
use Rattle.nodes.specs.MakeLaws.{any, good-any}
use Rattle.nodes.specs.WriteLaws.{put-length, put-upto, put-below, put_here, put_above, put_later, written}
use Rattle.nodes.specs.CompleteLaws.{child_known, Grows, snoc-grows, wrap-grows, wrap-same, made_last, Ready, ready}
use Rattle.join.specs.Turn.{Turned, TurnedIn, grown, Joins}
use Rattle.join.specs.TurnLaws.{makes_base, makes_single, makes_double, rest_single, rest_double}
use Rattle.join.specs.declared.Turn.{Turn}
use Rattle.join.specs.declared.Turn.TheVariants.{Base, Single, Double}

-- The nodes ns, and the t outer Concats from record k on over the last of them.
abbrev wrapped : List ℕ → ℕ → ℕ → List Node → List Node
wrapped v k t ns = wrap v k t (last ns) ns

grow-grows : (r : ℕ) (p : Plan) (ns : List Node) → Grows ns (grow r p ns)
unfolding grow
grow-grows r (base l len) ns = snoc-grows ns _
grow-grows r (single a b p) ns = trans_grown ns (grow r p ns) _ (grow-grows r p ns) (snoc-grows (grow r p ns) _)
grow-grows r (double a b c d p) ns =
    trans_grown ns (make_concat ns a b c) _ (snoc-grows ns _)
    (trans_grown (make_concat ns a b c) (grow r p (make_concat ns a b c)) _ (grow-grows r p (make_concat ns a b c)) (snoc-grows (grow r p (make_concat ns a b c)) _))

-- The words v are w below `used` and after `end`.
pub record Kept (w : List ℕ) (terms used end : ℕ) (v : List ℕ) : Type 0 where
  pub store : NodeStore v terms used
  pub front : nodes_in v used ≡ nodes_in w used
  pub size : length v ≡ length w
  pub after : drop (end * node_layout.width) v ≡ drop (end * node_layout.width) w

kept_put : (w : List ℕ) (terms used end : ℕ) (v : List ℕ) (i : ℕ) (n : Node) → used ≤ i → i < end → Lies node_layout v (i + 1) → Kept w terms used end v
    → Kept w terms used end (write node_layout v i (n ∷ []))
kept_put w terms used end v i n lo hi fits k =
    let same = put-below v i n fits used lo in
    let l = put-length v i n fits in
    record {
      store = record { fits = omega (arith, k.store.fits); few = k.store.few; good = rw same k.store.good };
      front = same ∙ k.front;
      size = l ∙ k.size;
      after = put_above v i n fits end hi ∙ k.after;
    }

-- An outer record reserved just below the others stands for the Concat that it will be.
reserved_stands : (v : List ℕ) (lo hi end right a b : ℕ) (p : Plan) {z : List Node} → lo < hi → hi ≤ end → Lies node_layout v hi → 1 ≤ a
    → wrapped v hi (end - hi) (make_concat (grow right p (nodes_in v lo)) a b (last (grow right p (nodes_in v lo)))) ≡ z
    → let x = write node_layout v (hi - 1) (reserved a b 0 ∷ []) in wrapped x (hi - 1) (end - (hi - 1)) (grow right p (nodes_in x lo)) ≡ z
unfolding wrap
reserved_stands v lo hi end right a b p lh he fits some e =
    let f : Lies node_layout v (hi - 1 + 1) = omega arith in
    let t : end - (hi - 1) ≡ suc (end - hi) = omega arith in
    let s : suc (hi - 1) ≡ hi = omega arith in
    let x : List ℕ = write node_layout v (hi - 1) (reserved a b 0 ∷ []) in
    let g : List Node = grow right p (nodes_in v lo) in
    let i : a ≡ child_of a (last g) = child_known a (last g) (λ z. omega arith) in
    ap (λ ns. wrapped x (hi - 1) (end - (hi - 1)) (grow right p ns)) (put-below v (hi - 1) (reserved a b 0) f lo (omega arith))
    ∙ ap (λ k. wrapped x (hi - 1) k g) t
    ∙ ap (λ (n : Node). wrapped x (suc (hi - 1)) (end - hi) (make_over n (last g) g)) (put_here v (hi - 1) (reserved a b 0) f)
    ∙ ap (λ k. wrapped x (suc (hi - 1)) (end - hi) (make_concat g k b (last g))) (sym i)
    ∙ wrap-same v x (suc (hi - 1)) (end - hi) _ _ (λ j q. put_later v (hi - 1) (reserved a b 0) f j (omega arith))
    ∙ ap (λ k. wrapped v k (end - hi) (make_concat g a b (last g))) s
    ∙ e

-- The invariant: z are the nodes after the join, v the words so far.
pub record Down (w : List ℕ) (used right h end : ℕ) (z : List Node) (v : List ℕ) (lo hi at n : ℕ) : Type 0 where
  pub terms : ℕ
  pub few_terms : terms ≤ limit
  pub kept : Kept w terms used end v
  pub piece : Piece (nodes_in w used) at n
  pub some : 1 ≤ used
  pub low : used ≤ lo
  pub high : hi ≡ lo + plan_makes (plan (nodes_in w used) h at n)
  pub le : hi ≤ end
  pub few : end ≤ limit
  pub room : Lies node_layout w end
  pub fits : Lies node_layout w used
  pub good : GoodNodes terms z
  pub grows : Grows (nodes_in w used) z
  pub count : length z ≡ end
  pub nodes : wrapped v hi (end - hi) (grow right (plan (nodes_in w used) h at n) (nodes_in v lo)) ≡ z

-- At the start, with the right's height as the code reads it.
pub down_start : (w : List ℕ) (used right node len end : ℕ) {r : Node} → r ≡ record_at node_layout w right → AnyStore w used
    → Piece (nodes_in w used) node len → Joins w used right node len end
    → Down w used right r.height end (grown (nodes_in w used) right node len) w used end node len
unfolding wrap
down_start w used right node len end e s p j =
    let ns = nodes_in w used in
    let h = (node_at ns right).height in
    let l : length ns ≡ used = decode-length node_layout used w in
    let g = good-any s.terms ns s.store.good in
    let m = grow_made (any s.terms) right (plan ns h node len) ns g (planned (any s.terms) ns g h node len p).fits (omega (arith, j.low)) j.some_node in
    let o : end - end ≡ 0 = omega arith in
    rw (below_at w used right e j.low) (record {
      terms = s.terms;
      few_terms = s.few_terms;
      kept = record { store = s.store; front = refl; size = refl; after = refl };
      piece = p;
      some = omega (arith, nodes_there s.terms ns s.store.good);
      low = omega arith;
      high = j.made;
      le = omega arith;
      few = j.few;
      room = j.room;
      fits = s.store.fits;
      good = rw length-replicate at m.good;
      grows = m.grown;
      count = grow-length right (plan ns h node len) ns ∙ omega (arith, j.made);
      nodes = rw o refl;
    })

-- The store so far, for the turn.
pub down_store : {w : List ℕ} {used right h end : ℕ} {z : List Node} {v : List ℕ} {lo hi at n : ℕ} → Down w used right h end z v lo hi at n → AnyStore v used
down_store d = record { terms = d.terms; few_terms = d.few_terms; store = d.kept.store }

-- ---- one turn ----

-- What `complete` asks and leaves, after the base is made.
pub record Closes (w : List ℕ) (used lo hi end : ℕ) (z : List Node) (v : List ℕ) : Type 0 where
  pub asks : Completes v hi end lo
  pub size : length v ≡ length w
  pub done : (x : List ℕ) → Became v x end (completed v hi end lo) → x ≡ write node_layout w used (drop used z)

-- What reserving an outer Concat asks.
pub record Outers (hi at x a b : ℕ) (v : List ℕ) : Type 0 where
  pub some : 1 ≤ hi
  pub room : Lies node_layout v (hi - 1 + 1)
  pub left : a ≤ limit
  pub some_left : 1 ≤ a
  pub size : b ≤ limit
  pub lower : x < at

module _ {w : List ℕ} {used right h end : ℕ} {z : List Node} {v : List ℕ} {lo hi at n : ℕ} (d : Down w used right h end z v lo hi at n)
    {t : Turn} (tn : TurnedIn v h at n t) where
  turned : Turned (nodes_in w used) h at n t
  turned = rw d.kept.front at (tn used (down_store d) (rw d.kept.front d.piece))

  -- an outer Concat over the rest of the plan, in words u whose nodes below k are made
  module _ (u : List ℕ) (k a b x m : ℕ) (keeps : Kept w d.terms used end u) (from : used ≤ k) (up : hi ≡ suc (k + plan_makes (plan (nodes_in w used) h x m)))
      (rest : (x < at) × Piece (nodes_in w used) x m)
      (is : wrapped u hi (end - hi) (make_concat (grow right (plan (nodes_in w used) h x m) (nodes_in u k)) a b (last (grow right (plan (nodes_in w used) h x m) (nodes_in u k)))) ≡ z) where
    outer_asks : Outers hi at x a b u
    outer_asks =
        let g : List Node = grow right (plan (nodes_in w used) h x m) (nodes_in u k) in
        let l : length g ≡ k + plan_makes (plan (nodes_in w used) h x m) = grow-length right (plan (nodes_in w used) h x m) (nodes_in u k) ∙ omega (arith, decode-length node_layout k u) in
        let made = made_last d.terms g z a b (last g) d.good (wrap-grows u hi (end - hi) _ _ z is) (omega (arith, d.some)) in
        record {
          some = omega arith;
          room = omega (arith, d.le, d.room, keeps.size);
          left = omega (arith, made.left, d.le, d.few);
          some_left = made.some_left;
          size = made.size;
          lower = rest.0;
        }

    outer_next : {y : List ℕ} → y ≡ write node_layout u (hi - 1) (reserved a b 0 ∷ []) → Down w used right h end z y k (hi - 1) x m
    outer_next e =
        let o = outer_asks in
        rw e (record {
          terms = d.terms;
          few_terms = d.few_terms;
          kept = kept_put w d.terms used end u (hi - 1) (reserved a b 0) (omega arith) (omega (arith, d.le)) o.room keeps;
          piece = rest.1;
          some = d.some;
          low = from;
          high = omega arith;
          le = omega (arith, d.le);
          few = d.few;
          room = d.room;
          fits = d.fits;
          good = d.good;
          grows = d.grows;
          count = d.count;
          nodes = reserved_stands u k hi end right a b (plan (nodes_in w used) h x m) (omega arith) d.le (omega (arith, d.le, d.room, keeps.size)) o.some_left is;
        })

  -- the base
  module _ {l m : ℕ} (e : t ≡ Base l m) where
    base_nodes : wrapped v hi (end - hi) (make_concat (nodes_in v lo) l m right) ≡ z
    unfolding grow
    base_nodes =
        let q : base l m ≡ plan (nodes_in w used) h at n = rw e at turned.plans in
        ap (λ p. wrapped v hi (end - hi) (grow right p (nodes_in v lo))) q ∙ d.nodes

    base_high : hi ≡ lo + 1
    base_high = d.high ∙ ap (lo +◌) (makes_base turned e)

    base_room : Lies node_layout v (lo + 1)
    base_room = let q = base_high in omega (arith, d.le, d.room, d.kept.size)

    pub base_ready : Ready v lo l m right
    base_ready =
        let q = base_high in
        ready v d.terms lo l m right z d.few_terms d.good (wrap-grows v hi (end - hi) _ _ z base_nodes) (omega (arith, d.some, d.low)) (omega (arith, d.le, d.few)) base_room

    base_put : completed (write node_layout v lo (concat_node (nodes_in v lo) l m right ∷ [])) hi end lo ≡ z
    base_put =
        let made = concat_node (nodes_in v lo) l m right in
        let x : List ℕ = write node_layout v lo (made ∷ []) in
        let is : last (make_concat (nodes_in v lo) l m right) ≡ lo = last_snoc (nodes_in v lo) made ∙ decode-length node_layout lo v in
        ap (λ k. wrap x hi (end - hi) lo (nodes_in x k)) base_high
        ∙ ap (wrap x hi (end - hi) lo) (put-upto v lo made base_room)
        ∙ wrap-same v x hi (end - hi) lo _ (λ j q. put_later v lo made base_room j (omega (arith, base_high)))
        ∙ ap (λ i. wrap v hi (end - hi) i (make_concat (nodes_in v lo) l m right)) (sym is)
        ∙ base_nodes

    pub base_next : {x : List ℕ} → x ≡ write node_layout v lo (concat_node (nodes_in v lo) l m right ∷ []) → Closes w used lo hi end z x
    base_next ex =
        let made = concat_node (nodes_in v lo) l m right in
        let k = kept_put w d.terms used end v lo made d.low (omega (arith, base_high, d.le)) base_room d.kept in
        let g = d.grows in
        rw ex (record {
          asks = record {
            terms = d.terms;
            few_terms = d.few_terms;
            some = omega (arith, d.some, d.low, base_high);
            le = d.le;
            few = d.few;
            room = omega (arith, k.size, d.room);
            good = rw base_put d.good;
          };
          size = k.size;
          done = λ y b. written w y used end z g.0 g.1 d.count d.fits (omega (arith, b.size, k.size, d.room)) (b.nodes ∙ base_put) (b.after ∙ k.after);
        })

  -- a single turn
  module _ {a b x m : ℕ} (e : t ≡ Single a b x m) where
    single_nodes : wrapped v hi (end - hi) (make_concat (grow right (plan (nodes_in w used) h x m) (nodes_in v lo)) a b (last (grow right (plan (nodes_in w used) h x m) (nodes_in v lo)))) ≡ z
    unfolding grow
    single_nodes =
        let q : single a b (plan (nodes_in w used) h x m) ≡ plan (nodes_in w used) h at n = rw e at turned.plans in
        ap (λ p. wrapped v hi (end - hi) (grow right p (nodes_in v lo))) q ∙ d.nodes

    single_high : hi ≡ suc (lo + plan_makes (plan (nodes_in w used) h x m))
    single_high = d.high ∙ omega (arith, makes_single turned e)

    pub single_asks : Outers hi at x a b v
    single_asks = outer_asks v lo a b x m d.kept d.low single_high (rest_single turned e) single_nodes

    pub single_next : {y : List ℕ} → y ≡ write node_layout v (hi - 1) (reserved a b 0 ∷ []) → Down w used right h end z y lo (hi - 1) x m
    single_next = outer_next v lo a b x m d.kept d.low single_high (rest_single turned e) single_nodes

  -- a double turn: its head, then as a single one
  module _ {a b c f x m : ℕ} (e : t ≡ Double a b c f x m) where
    double_nodes : wrapped v hi (end - hi) (make_concat (grow right (plan (nodes_in w used) h x m) (make_concat (nodes_in v lo) a b c)) (length (nodes_in v lo)) (b + f)
        (last (grow right (plan (nodes_in w used) h x m) (make_concat (nodes_in v lo) a b c)))) ≡ z
    unfolding grow
    double_nodes =
        let q : double a b c f (plan (nodes_in w used) h x m) ≡ plan (nodes_in w used) h at n = rw e at turned.plans in
        ap (λ p. wrapped v hi (end - hi) (grow right p (nodes_in v lo))) q ∙ d.nodes

    double_high : hi ≡ suc (lo + 1 + plan_makes (plan (nodes_in w used) h x m))
    double_high = d.high ∙ omega (arith, makes_double turned e)

    double_room : Lies node_layout v (lo + 1)
    double_room = omega (arith, double_high, d.le, d.room, d.kept.size)

    pub double_ready : Ready v lo a b c
    double_ready =
        let head = make_concat (nodes_in v lo) a b c in
        let g = grow right (plan (nodes_in w used) h x m) head in
        ready v d.terms lo a b c z d.few_terms d.good
        (trans_grown head g z (grow-grows right (plan (nodes_in w used) h x m) head)
        (trans_grown g _ z (snoc-grows g _) (wrap-grows v hi (end - hi) _ _ z double_nodes)))
        (omega (arith, d.some, d.low)) (omega (arith, double_high, d.le, d.few)) double_room

    module _ {u : List ℕ} (eu : u ≡ write node_layout v lo (concat_node (nodes_in v lo) a b c ∷ [])) where
      head_kept : Kept w d.terms used end u
      head_kept = rw eu (kept_put w d.terms used end v lo (concat_node (nodes_in v lo) a b c) d.low (omega (arith, double_high, d.le)) double_room d.kept)

      head_nodes : nodes_in u (lo + 1) ≡ make_concat (nodes_in v lo) a b c
      head_nodes = rw eu (put-upto v lo (concat_node (nodes_in v lo) a b c) double_room)

      double_is : wrapped u hi (end - hi) (make_concat (grow right (plan (nodes_in w used) h x m) (nodes_in u (lo + 1))) lo (b + f)
          (last (grow right (plan (nodes_in w used) h x m) (nodes_in u (lo + 1))))) ≡ z
      double_is =
          let p : Plan = plan (nodes_in w used) h x m in
          ap (λ ns. wrapped u hi (end - hi) (make_concat (grow right p ns) lo (b + f) (last (grow right p ns)))) head_nodes
          ∙ wrap-same v u hi (end - hi) _ _ (λ j q. rw eu (put_later v lo (concat_node (nodes_in v lo) a b c) double_room j (omega (arith, double_high))))
          ∙ ap (λ k. wrapped v hi (end - hi) (make_concat (grow right p (make_concat (nodes_in v lo) a b c)) k (b + f) (last (grow right p (make_concat (nodes_in v lo) a b c)))))
          (sym (decode-length node_layout lo v))
          ∙ double_nodes

      pub double_asks : Outers hi at x lo (b + f) u
      double_asks = outer_asks u (lo + 1) lo (b + f) x m head_kept (omega (arith, d.low)) double_high (rest_double turned e) double_is

      pub double_next : {y : List ℕ} → y ≡ write node_layout u (hi - 1) (reserved lo (b + f) 0 ∷ []) → Down w used right h end z y (lo + 1) (hi - 1) x m
      double_next = outer_next u (lo + 1) lo (b + f) x m head_kept (omega (arith, d.low)) double_high (rest_double turned e) double_is
