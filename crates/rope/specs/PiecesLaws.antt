-- Laws of what is still to be read of a rope, as the code reads it: down to the next run, and run by run.
use Rattle.std.specs.Prelude.{◌≡◌, List, [], ◌∷◌, ◌++◌, T, length, take, drop}
use Rattle.std.proofs.Math.Path.{refl}
use Rattle.std.proofs.Common.{ap, sym, ◌∙◌, append_assoc, append-nil, inl, inr, length-take-le, arith}
use Prim.Native.Nat.{ℕ, ◌+◌, ◌-◌, ◌≤◌, ◌<◌, min}
use Rattle.term_spec.proofs.ListLaws.{All, drop-take, part-below}
use Rattle.term_spec.specs.Term.{Run, part, limit}
use Rattle.term_spec.specs.Words.{record_at}
use Rattle.term_spec.proofs.WordsLaws.{decode-length}
use Rattle.view_spec.specs.Node.{Node, Field, node_layout, cons_kind, node_at, meaning, nodes_rule}
use Rattle.view_spec.proofs.NodeLaws.{ConcatAt, node_at_lem}
use Rattle.nodes.specs.NodeStore.{nodes_in, AnyStore}
use Rattle.nodes.specs.RuleLaws.{below_at}
use Rattle.places.specs.Rest.{Rest, rest, field, gives, remain, Ready, passed}
use Rattle.places.specs.RestLaws.{reach_length, step_on, step_in, step_split, cons-at, ready_short, ready_on, ready_concat, ready_in, ready_split}
use Rattle.places.specs.RestLaws.{Comes, Passed, comes_most, comes_run, comes_passed}
use Rattle.rope.specs.Pieces.{Starts, Goes, Front, ToRunIn, RunIn, front}

-- A beginning of a beginning.
starts_more : {X : Type 0} (a b c : List X) → Starts a b → Starts b c → Starts a c
starts_more a b c (x, p) (y, q) = (x ++ y, sym (append_assoc a x y) ∙ ap (◌++ y) p ∙ q)

starts-same : {X : Type 0} (a b c : List X) → a ≡ b → Starts b c → Starts a c
starts-same a b c p (y, q) = (y, ap (◌++ y) p ∙ q)

-- The fields that wait are left out.
pub goes_cut : {ns : List Node} {s : Rest} {i k m : ℕ} {fs later : List Field} → Goes ns s (rest i k m fs) → later ≡ [] → Goes ns s (rest i k m later)
unfolding All gives
goes_cut {ns} {i = i} {k} {m} {fs} g e = rw e (record {
  ready = record { low = g.ready.low; some = g.ready.some; reached = g.ready.reached; later = tt };
  same = λ o xs l.
      let A = take m (drop k (meaning xs ns i)) in
      starts_more (A ++ []) (A ++ gives xs ns fs) _ (gives xs ns fs, ap (◌++ gives xs ns fs) (append-nil A)) (g.same o xs l);
})

-- ---- steps of the code: node i is read from the words ----

module _ (w : List ℕ) (used : ℕ) (st : AnyStore w used) {s : Rest} {i k m : ℕ} {fs : List Field} (g : Goes (nodes_in w used) s (rest i k m fs))
    {n : Node} (e : n ≡ record_at node_layout w i) where
  abbrev ns : List Node
  ns = nodes_in w used

  good : T (nodes_rule st.terms ns)
  good = st.store.good

  is : n ≡ node_at ns i
  is = below_at w used i e (rw decode-length at g.ready.low)

  pub goes_here : (i < used) × (1 ≤ m) × (k + m ≤ limit)
  goes_here = (rw decode-length at g.ready.low, g.ready.some, ready_short st.terms ns good g.ready)

  pub goes_on : n.b ≤ k → Goes ns s (rest n.c (k - n.b) m fs)
  goes_on q = rw is (record {
    ready = ready_on st.terms ns good g.ready (rw is at q);
    same = λ o xs l. starts-same _ _ _
        (step_on xs ns l i k m fs g.ready.low (omega (arith, g.ready.reached, g.ready.some)) (rw is at q)) (g.same o xs l);
  })

  module _ (p : n.kind ≡ cons_kind → ⊥) (q : k < n.b) where
    concat : ConcatAt ns i
    concat = ready_concat st.terms ns good g.ready (rw is at p)

    -- the words fit
    pub goes_small : (n.a < i) × (n.c < limit)
    goes_small = rw is (concat.left_low, omega (arith, concat.right_low, goes_here.0, st.store.few))

    pub goes_in : m ≤ n.b - k → Goes ns s (rest n.a k m fs)
    goes_in h = rw is (record {
      ready = ready_in st.terms ns good g.ready concat (rw is at q) (rw is at h);
      same = λ o xs l. starts-same _ _ _ (step_in xs ns l i k m fs g.ready.low concat (rw is at q) (rw is at h)) (g.same o xs l);
    })

    pub goes_split : n.b - k < m → {later : List Field} → later ≡ field n.c (m - (n.b - k)) ∷ fs → Goes ns s (rest n.a k (n.b - k) later)
    goes_split h v = rw (v, is) (record {
      ready = ready_split st.terms ns good g.ready concat (rw is at q) (rw is at h);
      same = λ o xs l. starts-same _ _ _ (step_split xs ns l i k m fs g.ready.low concat (rw is at q) (rw is at h)) (g.same o xs l);
    })

  pub goes-front : n.kind ≡ cons_kind → k < n.b → Front ns i k
  goes-front p q = record { cons = rw is at p; inner = rw is at q }

-- The run is read from the words.
module _ (w : List ℕ) (used i k : ℕ) (low : i < used) {n : Node} (e : n ≡ record_at node_layout w i) where
  front_is : n ≡ node_at (nodes_in w used) i
  front_is = below_at w used i e low

  pub front_read : (m : ℕ) {l : ℕ} → l ≡ min m (n.b - k) → record { start = n.a + k; len = l } ≡ front (nodes_in w used) i k m
  unfolding front
  front_read m z = rw (z, front_is) refl

  pub front_fits : AnyStore w used → Front (nodes_in w used) i k → (n.a + n.b ≤ limit) × (k < n.b)
  front_fits st v =
      let z = cons-at st.terms (nodes_in w used) i v.cons (node_at_lem st.terms (nodes_in w used) i st.store.good (rw decode-length low)) in
      rw front_is (omega (arith, z.inside-terms, st.few_terms), v.inner)

-- The run that comes next, whichever it is: the piece goes on down to it.
pub to_run_in : {w : List ℕ} {s t : Rest} {r : Run} → RunIn w s t r → ToRunIn w s t
to_run_in next used store ready = (next used store ready).0

-- ---- reading ----

-- The first `done` of the first n terms of node f are read, and those that are to be read next come after them.
pub record Along {X : Type 0} (xs : List X) (ns : List Node) (f n done : ℕ) (r : Rest) : Type 0 where
  pub good : T (nodes_rule (length xs) ns)
  pub low : f < length ns
  pub reached : n ≤ (node_at ns f).reach
  pub most : done ≤ n
  pub ready : done < n → Ready ns r
  pub same : Starts (remain xs ns r) (drop done (take n (meaning xs ns f)))

-- Reading goes on from f itself.
pub along_again : {X : Type 0} (xs : List X) (ns : List Node) (f n done m : ℕ) → T (nodes_rule (length xs) ns) → f < length ns
    → n ≤ (node_at ns f).reach → done ≤ n → m ≡ n - done → Along xs ns f n done (rest f done m [])
unfolding gives All
along_again xs ns f n done m g lt h k e = record {
  good = g;
  low = lt;
  reached = h;
  most = k;
  ready = λ z. record { low = lt; some = omega arith; reached = omega (arith, h); later = tt };
  same = ([], append-nil _ ∙ append-nil _ ∙ ap (λ j. take j (drop done (meaning xs ns f))) e ∙ sym (drop-take done n (meaning xs ns f)));
}

-- What the code needs of a run that is read next, from a piece with so many terms left.
pub record Next {X : Type 0} (xs : List X) (ns : List Node) (f n done left : ℕ) (u : Run) : Type 0 where
  pub some : 1 ≤ u.len
  pub within : u.len ≤ left
  pub most : done + u.len ≤ n
  pub inside : u.start + u.len ≤ length xs
  pub shows : part xs u ≡ take u.len (drop done (meaning xs ns f))

module _ {X : Type 0} {xs : List X} {ns : List Node} {f n done : ℕ} {r : Rest} (w : Along xs ns f n done r) where
  pub along_long : n ≤ length (meaning xs ns f)
  along_long = omega (arith, reach_length xs ns w.good f w.low, w.reached)

  -- the piece is taken down to a run
  pub along_run : {s : Rest} → Ready ns s → Starts (remain xs ns s) (remain xs ns r) → Along xs ns f n done s
  along_run {s} v e =
      record {
        good = w.good;
        low = w.low;
        reached = w.reached;
        most = w.most;
        ready = λ z. v;
        same = starts_more (remain xs ns s) (remain xs ns r) _ e w.same;
      }

  module _ (lt : done < n) where
    -- the first n terms of the node are read as far as `done`
    comes : Comes xs ns (take n (meaning xs ns f)) w.same.0 done r
    comes = record { good = w.good; ready = w.ready lt; same = w.same.1 }

    along_left : done + r.left ≤ n
    along_left = omega (arith, comes_most comes, length-take-le n (meaning xs ns f) along_long)

    pub along_short : r.skip + r.left ≤ limit
    along_short = ready_short (length xs) ns w.good (w.ready lt)

    -- The first k terms of its run.
    pub along_next : Front ns r.node r.skip → {u : Run} → u ≡ front ns r.node r.skip r.left → (k : ℕ) → 1 ≤ k → k ≤ u.len
        → Next xs ns f n done r.left (record { start = u.start; len = k })
    unfolding front
    along_next v e k h q =
        let z = cons-at (length xs) ns r.node v.cons (node_at_lem (length xs) ns r.node w.good (w.ready lt).low) in
        let b = (node_at ns r.node).b in
        let eq : k ≤ min r.left (b - r.skip) = rw e at q in
        rw e (record {
          some = h;
          within = omega arith;
          most = omega (arith, along_left);
          inside = omega (arith, z.inside-terms, v.inner);
          shows = comes_run comes z k v.inner (omega arith) (omega arith) ∙ part-below (meaning xs ns f) done k n (omega (arith, along_left));
        })

    pub front_some : Front ns r.node r.skip → {u : Run} → u ≡ front ns r.node r.skip r.left → 1 ≤ u.len
    unfolding front
    front_some v e = rw e (omega (arith, v.inner, (w.ready lt).some))

    -- k terms of the piece are read
    pub along_on : (k : ℕ) → k ≤ r.left → {s : Rest} → s ≡ passed r k (rest f (done + k) (n - (done + k)) []) → Along xs ns f n (done + k) s
    along_on k h e = rw e (go (comes_passed comes k h again))
      where
        again : Rest
        again = rest f (done + k) (n - (done + k)) []

        go : Passed comes k h again (passed r k again) → Along xs ns f n (done + k) (passed r k again)
        go (inl c) = record {
          good = w.good;
          low = w.low;
          reached = w.reached;
          most = omega (arith, along_left);
          ready = λ z. c.ready;
          same = (w.same.0, c.same);
        }
        go (inr (q, l)) = rw q (along_again xs ns f n (done + k) (n - (done + k)) w.good w.low w.reached (omega (arith, along_left)) refl)
