-- Laws of what is still to be read of a rope: each step down its nodes keeps its terms, and reading some of them drops those.
use Rattle.std.specs.Prelude.{◌≡◌, ◌⊎◌, T, length, get_or, set, drop, ℕ, suc, zero, ◌+◌, ◌*◌, ◌-◌, ◌≤◌, ◌<◌}
use Rattle.std.proofs.Math.Path.{refl, ap, sym}
use Rattle.std.proofs.Common.{◌∙◌, length-set, length-append, drop-drop, get_or-set_same, get_or-set_other, length-take-le, add-one}
use mathlib.Core.List.{List, [], ◌∷◌, ◌++◌, append_assoc}
use Rattle.std.proofs.Math.Logic.{inl, inr}
use Rattle.std.proofs.Math.ListN.{take, length-drop}
use Rattle.std.proofs.Math.Decide.{dec_lt}
use native.Mathlib.Omega.{arith}
use Rattle.term_spec.proofs.ListLaws.{All, take_left, take-right, drop-left, drop-right}
use Rattle.term_spec.specs.Term.{limit}
use Rattle.view_spec.specs.Node.{Node, Field, cons_kind, node_at, meaning, holds, nodes_rule}
use Rattle.view_spec.proofs.NodeLaws.{NodeAt, ConsAt, ConcatAt, node_at_lem, reach_is, head_length}
use Rattle.view_spec.proofs.PlanLaws.{left-fits, if_yes, if_no}
use Rattle.places.specs.LinkLaws.{onward, cons_link, concat_link, link_on, link_in}
use Rattle.places.specs.Rest.{Rest, rest, field, waiting, gives, remain, Waits, Ready, popped, passed, entered}

-- ---- the stack ----

-- No field waits.
pub none_wait : (w : List ℕ) → waiting w 0 ≡ []
unfolding waiting
none_wait w = refl

pub waiting-length : (w : List ℕ) (d : ℕ) → length (waiting w d) ≡ d
unfolding waiting
waiting-length w zero = refl
waiting-length w (suc d) = ap suc (waiting-length w d)

-- Words that are set past the fields leave them.
waiting-below : (w : List ℕ) (d i x : ℕ) → d * 2 ≤ i → waiting (set w i x) d ≡ waiting w d
unfolding waiting
waiting-below w zero i x h = refl
waiting-below w (suc d) i x h =
    rw (get_or-set_other w i (d * 2) x 0 (λ e. omega arith), get_or-set_other w i (d * 2 + 1) x 0 (λ e. omega arith), waiting-below w d i x (omega arith)) refl

-- One field more.
pub pushed : (w v u : List ℕ) (d x y : ℕ) → d * 2 + 1 < length w → v ≡ set w (d * 2) x → u ≡ set v (d * 2 + 1) y → waiting u (d + 1) ≡ field x y ∷ waiting w d
unfolding waiting
pushed w v u d x y h p q =
    let l : d * 2 + 1 < length (set w (d * 2) x) = rw length-set h in
    let e = get_or-set_other (set w (d * 2) x) (d * 2 + 1) (d * 2) y 0 (λ z. omega arith) ∙ get_or-set_same w (d * 2) x 0 (omega arith) in
    let f = get_or-set_same (set w (d * 2) x) (d * 2 + 1) y 0 l in
    rw (q, p, add-one d, e, f, waiting-below (set w (d * 2) x) d (d * 2 + 1) y (omega arith), waiting-below w d (d * 2) x (omega arith)) refl

-- The last field.
pub last_waits : (w : List ℕ) (d : ℕ) {x y : ℕ} → (d ≡ 0 → ⊥) → x ≡ get_or w ((d - 1) * 2) 0 → y ≡ get_or w ((d - 1) * 2 + 1) 0
    → waiting w d ≡ field x y ∷ waiting w (d - 1)
unfolding waiting
last_waits w d h p q =
    let e : d ≡ suc (d - 1) = omega arith in
    ap (waiting w) e ∙ rw (p, q) refl

-- ---- a piece of which k terms are read: some are left; none, and no field waits; none, and the last field is next ----

pub passed_within : (r : Rest) (k : ℕ) (again : Rest) → k < r.left → rest r.node (r.skip + k) (r.left - k) r.later ≡ passed r k again
unfolding passed
passed_within r k again h = sym (if_yes (dec_lt k r.left) _ _ h)

pub passed_alone : (r : Rest) (k : ℕ) (again : Rest) → r.left ≤ k → r.later ≡ [] → again ≡ passed r k again
unfolding passed popped
passed_alone r k again h e = sym (if_no (dec_lt k r.left) _ _ (λ z. omega arith) ∙ ap (λ fs. popped fs again) e)

pub passed_later : (r : Rest) (k : ℕ) (again : Rest) → r.left ≤ k → {x y : ℕ} {later : List Field} → r.later ≡ field x y ∷ later
    → rest x 0 y later ≡ passed r k again
unfolding passed popped
passed_later r k again h e = sym (if_no (dec_lt k r.left) _ _ (λ z. omega arith) ∙ ap (λ fs. popped fs again) e)

-- the piece is `left` terms of node j after its first s, and d fields wait
module _ (w : List ℕ) (j s left d k : ℕ) (h : left ≤ k) where
  pub passed-last : (i n m : ℕ) → d ≡ 0 → rest i n m (waiting w 0) ≡ passed (rest j s left (waiting w d)) k (rest i n m [])
  unfolding passed popped waiting
  passed-last i n m e = sym (if_no (dec_lt k left) _ _ (λ z. omega arith) ∙ ap (λ q. popped (waiting w q) (rest i n m [])) e)

  pub passed_next : (again : Rest) {x y : ℕ} → (d ≡ 0 → ⊥) → x ≡ get_or w ((d - 1) * 2) 0 → y ≡ get_or w ((d - 1) * 2 + 1) 0
      → rest x 0 y (waiting w (d - 1)) ≡ passed (rest j s left (waiting w d)) k again
  unfolding passed popped
  passed_next again z e q = sym (if_no (dec_lt k left) _ _ (λ z. omega arith) ∙ ap (λ fs. popped fs again) (last_waits w d z e q))

-- ---- a piece that is taken into the left of its node n ----

module _ (r : Rest) (n : Node) where
  pub entered_within : r.left ≤ n.b - r.skip → rest n.a r.skip r.left r.later ≡ entered r n
  unfolding entered
  entered_within h = sym (if_no (dec_lt (n.b - r.skip) r.left) _ _ (λ z. omega arith))

  pub entered_split : n.b - r.skip < r.left → {later : List Field} → later ≡ field n.c (r.left - (n.b - r.skip)) ∷ r.later
      → rest n.a r.skip (n.b - r.skip) later ≡ entered r n
  unfolding entered
  entered_split h e = rw e (sym (if_yes (dec_lt (n.b - r.skip) r.left) _ _ h))

  -- either way it is in the left
  pub entered-node : (entered r n).node ≡ n.a
  unfolding entered
  entered-node = go (dec_lt (n.b - r.skip) r.left)
    where
      go : Dec (n.b - r.skip < r.left) → (entered r n).node ≡ n.a
      go (yes h) = rw (if_yes (dec_lt (n.b - r.skip) r.left) _ _ h) refl
      go (no h) = rw (if_no (dec_lt (n.b - r.skip) r.left) _ _ h) refl

-- ---- steps: the terms ----

module _ {X : Type 0} (xs : List X) (ns : List Node) (good : T (nodes_rule (length xs) ns)) where
  -- a node gives at least as many terms as it reaches
  pub reach_length : (i : ℕ) → i < length ns → (node_at ns i).reach ≤ length (meaning xs ns i)
  reach_length i lt = omega (arith, reach_is xs ns good i lt)

  module _ (i k m : ℕ) (fs : List Field) (lt : i < length ns) where
    -- the first part is used up
    pub step_on : 1 ≤ (node_at ns i).reach → (node_at ns i).b ≤ k
        → remain xs ns (rest (node_at ns i).c (k - (node_at ns i).b) m fs) ≡ remain xs ns (rest i k m fs)
    step_on h q = ap (λ l. take m l ++ gives xs ns fs) (go (node_at_lem (length xs) ns i good lt))
      where
        go : NodeAt (length xs) ns i → onward xs ns (node_at ns i).c (k - (node_at ns i).b) ≡ onward xs ns i k
        go (inl z) = absurd (omega (arith, z.reach0))
        go (inr (inl z)) = link_on xs ns i k _ (cons_link xs ns good i lt z) q
        go (inr (inr z)) = link_on xs ns i k _ (concat_link xs ns good i lt z) q

    module _ (z : ConcatAt ns i) (q : k < (node_at ns i).b) where
      -- the piece lies in the left
      pub step_in : m ≤ (node_at ns i).b - k → remain xs ns (rest (node_at ns i).a k m fs) ≡ remain xs ns (rest i k m fs)
      step_in h = ap (◌++ gives xs ns fs) (sym (link_in xs ns i k _ (concat_link xs ns good i lt z) m q h))

      -- it goes on in the right
      pub step_split : (node_at ns i).b - k < m
          → remain xs ns (rest (node_at ns i).a k ((node_at ns i).b - k) (field (node_at ns i).c (m - ((node_at ns i).b - k)) ∷ fs))
          ≡ remain xs ns (rest i k m fs)
      unfolding gives
      step_split h =
          let A = meaning xs ns (node_at ns i).a in
          let C = meaning xs ns (node_at ns i).c in
          let b = (node_at ns i).b in
          let l = left-fits xs ns good i lt z in
          sym (ap (λ y. take m (drop k y) ++ gives xs ns fs) (concat_link xs ns good i lt z).shows
          ∙ ap (λ y. take m y ++ gives xs ns fs) (drop-left k b A C (omega arith) l)
          ∙ ap (◌++ gives xs ns fs) (take-right m (b - k) (drop k A) C (omega arith) (rw length-drop (omega arith)))
          ∙ append_assoc (take (b - k) (drop k A)) (take (m - (b - k)) C) (gives xs ns fs))

-- ---- steps: what is ready stays so ----

-- A Cons is one by its kind.
pub cons-at : (terms : ℕ) (ns : List Node) (i : ℕ) → (node_at ns i).kind ≡ cons_kind → NodeAt terms ns i → ConsAt terms ns i
cons-at terms ns i p (inl m) = absurd (omega (arith, m.kind0))
cons-at terms ns i p (inr (inl m)) = m
cons-at terms ns i p (inr (inr m)) = absurd (omega (arith, m.kind2))

module _ (terms : ℕ) (ns : List Node) (good : T (nodes_rule terms ns)) {i k m : ℕ} {fs : List Field} (ready : Ready ns (rest i k m fs)) where
  facts : NodeAt terms ns i
  facts = node_at_lem terms ns i good ready.low

  pub ready_short : k + m ≤ limit
  ready_short = go facts
    where
      go : NodeAt terms ns i → k + m ≤ limit
      go (inl z) = omega (arith, z.reach0, ready.reached)
      go (inr (inl z)) = omega (arith, z.reach1, ready.reached)
      go (inr (inr z)) = omega (arith, z.reach2, ready.reached)

  -- the part is used up: the tail or right is lower
  pub ready_low : (node_at ns i).b ≤ k → (node_at ns i).c < i
  ready_low q = go facts
    where
      go : NodeAt terms ns i → (node_at ns i).c < i
      go (inl z) = absurd (omega (arith, z.reach0, ready.reached, ready.some))
      go (inr (inl z)) = z.tail_low
      go (inr (inr z)) = z.right_low

  on_reached : (node_at ns i).b ≤ k → k - (node_at ns i).b + m ≤ (node_at ns (node_at ns i).c).reach
  on_reached q = go facts
    where
      go : NodeAt terms ns i → k - (node_at ns i).b + m ≤ (node_at ns (node_at ns i).c).reach
      go (inl z) = absurd (omega (arith, z.reach0, ready.reached, ready.some))
      go (inr (inl z)) = omega (arith, z.reach1, ready.reached)
      go (inr (inr z)) = omega (arith, z.reach2, ready.reached)

  pub ready_on : (node_at ns i).b ≤ k → Ready ns (rest (node_at ns i).c (k - (node_at ns i).b) m fs)
  ready_on q = record { low = omega (arith, ready_low q, ready.low); some = ready.some; reached = on_reached q; later = ready.later }

  -- a node that has a term to read and is no Cons
  pub ready_concat : ((node_at ns i).kind ≡ cons_kind → ⊥) → ConcatAt ns i
  ready_concat p = go facts
    where
      go : NodeAt terms ns i → ConcatAt ns i
      go (inl z) = absurd (omega (arith, z.reach0, ready.reached, ready.some))
      go (inr (inl z)) = absurd (p z.kind1)
      go (inr (inr z)) = z

  module _ (z : ConcatAt ns i) (q : k < (node_at ns i).b) where
    pub ready_in : m ≤ (node_at ns i).b - k → Ready ns (rest (node_at ns i).a k m fs)
    ready_in h = record {
      low = omega (arith, z.left_low, ready.low);
      some = ready.some;
      reached = omega (arith, z.left_reach);
      later = ready.later;
    }

    pub ready_split : (node_at ns i).b - k < m
        → Ready ns (rest (node_at ns i).a k ((node_at ns i).b - k) (field (node_at ns i).c (m - ((node_at ns i).b - k)) ∷ fs))
    unfolding All
    ready_split h = record {
      low = omega (arith, z.left_low, ready.low);
      some = omega arith;
      reached = omega (arith, z.left_reach);
      later = (
        record {
          low = omega (arith, z.right_low, ready.low);
          some = omega arith;
          reached = omega (arith, z.reach2, ready.reached);
        },
        ready.later,
      );
    }

-- ---- reading a list ----

-- A list is read as far as `done`: what the piece and the fields give comes next in it, and then y.
pub record Comes {X : Type 0} (xs : List X) (ns : List Node) (W y : List X) (done : ℕ) (r : Rest) : Type 0 where
  pub good : T (nodes_rule (length xs) ns)
  pub ready : Ready ns r
  pub same : remain xs ns r ++ y ≡ drop done W

-- The fields that wait have at least a term each.
gives_some : {X : Type 0} (xs : List X) (ns : List Node) → T (nodes_rule (length xs) ns) → (fs : List Field) → All (Waits ns) fs
    → length fs ≤ length (gives xs ns fs)
unfolding All gives
gives_some xs ns good [] a = omega arith
gives_some xs ns good (f ∷ fs) (a, b) =
    let l = length-take-le f.len (meaning xs ns f.node) (omega (arith, a.reached, reach_length xs ns good f.node a.low)) in
    rw (length-append (holds xs ns f) (gives xs ns fs)) (omega (arith, l, a.some, gives_some xs ns good fs b))

module _ {X : Type 0} {xs : List X} {ns : List Node} {W y : List X} {done : ℕ} {r : Rest} (c : Comes xs ns W y done r) where
  -- the terms of the piece's node from its place on
  abbrev ahead : List X
  ahead = onward xs ns r.node r.skip

  piece_fits : r.left ≤ length ahead
  piece_fits = rw length-drop (omega (arith, reach_length xs ns c.good r.node c.ready.low, c.ready.reached))

  -- what is left of the list begins with the piece
  whole : take r.left ahead ++ (gives xs ns r.later ++ y) ≡ drop done W
  whole = sym (append_assoc (take r.left ahead) (gives xs ns r.later) y) ∙ c.same

  -- a term for each field that waits besides those of the piece
  pub comes_most : done + (r.left + length r.later) ≤ length W
  comes_most =
      omega (
        arith,
        ap length whole,
        length-drop done W,
        head_length r.left ahead (gives xs ns r.later ++ y) piece_fits,
        length-append (gives xs ns r.later) y,
        gives_some xs ns c.good r.later c.ready.later,
        c.ready.some,
      )

  -- the first k terms of the piece are the next k of the list
  pub comes_part : (k : ℕ) → k ≤ r.left → take k ahead ≡ take k (drop done W)
  comes_part k h = sym (take_left k r.left ahead (gives xs ns r.later ++ y) h piece_fits) ∙ ap (take k) whole

  -- the first k terms of the run that it begins with
  pub comes_run : ConsAt (length xs) ns r.node → (k : ℕ) → r.skip < (node_at ns r.node).b → k ≤ r.left → k ≤ (node_at ns r.node).b - r.skip
      → take k (drop ((node_at ns r.node).a + r.skip) xs) ≡ take k (drop done W)
  comes_run z k q h l =
      ap (take k) (sym (drop-drop r.skip (node_at ns r.node).a xs))
      ∙ sym (link_in xs ns r.node r.skip _ (cons_link xs ns c.good r.node c.ready.low z) k q l)
      ∙ comes_part k h

  module _ (k : ℕ) (h : k ≤ r.left) where
    -- k terms of the piece are read: the terms after it
    used_up : (k < r.left → ⊥) → gives xs ns r.later ++ y ≡ drop (done + k) W
    used_up q =
        let z : k - r.left ≡ 0 = omega arith in
        sym (ap (λ j. drop j (gives xs ns r.later ++ y)) z)
        ∙ sym (drop-right k r.left ahead (gives xs ns r.later ++ y) (omega arith) piece_fits)
        ∙ ap (drop k) whole
        ∙ drop-drop k done W

    within : k < r.left → Comes xs ns W y (done + k) (rest r.node (r.skip + k) (r.left - k) r.later)
    within q = record {
      good = c.good;
      ready = record { low = c.ready.low; some = omega arith; reached = omega (arith, c.ready.reached); later = c.ready.later };
      same =
          ap (λ l. (take (r.left - k) l ++ gives xs ns r.later) ++ y) (sym (drop-drop k r.skip (meaning xs ns r.node)))
          ∙ append_assoc (take (r.left - k) (drop k ahead)) (gives xs ns r.later) y
          ∙ sym (drop-left k r.left ahead (gives xs ns r.later ++ y) h piece_fits)
          ∙ ap (drop k) whole
          ∙ drop-drop k done W;
    }

    -- There is more to read, or the piece was the last, and what is given takes its place.
    abbrev pub Passed : Rest → Rest → Type 0
    Passed again s = Comes xs ns W y (done + k) s ⊎ ((s ≡ again) × (y ≡ drop (done + k) W))

    after : (fs : List Field) (again : Rest) → All (Waits ns) fs → gives xs ns fs ++ y ≡ drop (done + k) W → Passed again (popped fs again)
    unfolding popped gives All
    after [] again a e = inr (refl, e)
    after (p ∷ fs) again (a, b) e =
        inl (record { good = c.good; ready = record { low = a.low; some = a.some; reached = omega (arith, a.reached); later = b }; same = e })

    pub comes_passed : (again : Rest) → Passed again (passed r k again)
    unfolding passed
    comes_passed again = go (dec_lt k r.left)
      where
        go : Dec (k < r.left) → Passed again (passed r k again)
        go (yes q) = inl (rw (if_yes (dec_lt k r.left) _ _ q) (within q))
        go (no q) = rw (if_no (dec_lt k r.left) _ _ q) (after r.later again c.ready.later (used_up q))

module _ {X : Type 0} {xs : List X} {ns : List Node} {W y : List X} {done i k m : ℕ} {fs : List Field} (c : Comes xs ns W y done (rest i k m fs)) where
  -- the first part of the node is used up
  pub comes_on : (node_at ns i).b ≤ k → Comes xs ns W y done (rest (node_at ns i).c (k - (node_at ns i).b) m fs)
  comes_on q = record {
    good = c.good;
    ready = ready_on (length xs) ns c.good c.ready q;
    same = ap (◌++ y) (step_on xs ns c.good i k m fs c.ready.low (omega (arith, c.ready.reached, c.ready.some)) q) ∙ c.same;
  }

  -- the piece is taken into the left of a Concat
  pub comes_entered : ConcatAt ns i → k < (node_at ns i).b → Comes xs ns W y done (entered (rest i k m fs) (node_at ns i))
  unfolding entered
  comes_entered z q = go (dec_lt ((node_at ns i).b - k) m)
    where
      go : Dec ((node_at ns i).b - k < m) → Comes xs ns W y done (entered (rest i k m fs) (node_at ns i))
      go (yes h) = rw (if_yes (dec_lt ((node_at ns i).b - k) m) _ _ h) (record {
        good = c.good;
        ready = ready_split (length xs) ns c.good c.ready z q h;
        same = ap (◌++ y) (step_split xs ns c.good i k m fs c.ready.low z q h) ∙ c.same;
      })
      go (no h) =
          let l : m ≤ (node_at ns i).b - k = omega arith in
          rw (if_no (dec_lt ((node_at ns i).b - k) m) _ _ h) (record {
            good = c.good;
            ready = ready_in (length xs) ns c.good c.ready z q l;
            same = ap (◌++ y) (step_in xs ns c.good i k m fs c.ready.low z q l) ∙ c.same;
          })
