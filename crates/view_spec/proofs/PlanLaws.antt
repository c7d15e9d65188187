-- Laws of unclamp and of a join's plan: their equations in the whole store, and that unclamping keeps a field's terms.
use Rattle.std.specs.Prelude.{◌≡◌, refl, List, [], length, get_or, take, ℕ, suc, zero, ◌-◌, ◌≤◌, ◌<◌}
use Rattle.std.proofs.Common.{ap, ap₂, sym, ◌∙◌, inl, inr, get_or-take, arith}
use Rattle.std.proofs.Math.Decide.{dec_le, dec_lt}
use Rattle.term_spec.proofs.ListLaws.{take_left}
use Rattle.term_spec.specs.Table.{table}
use Rattle.term_spec.proofs.TableLaws.{table_at, table_below}
use Rattle.view_spec.specs.Node.{Node, nil_node, node_at, meaning, GoodNodes}
use Rattle.view_spec.specs.Build.{if_dec, unclamp_k, unclamp_of, unclamp, Plan, base, single, double, second_k, plan_k, plan_of, plan}
use Rattle.view_spec.proofs.NodeLaws.{ConcatAt, NodeAt, node_at_lem, meaning-concat, reach_is}

-- A Concat's left, the terms of it that are meant, and its right.
abbrev pub left : List Node → ℕ → ℕ
left ns i = (node_at ns i).a

abbrev pub left_len : List Node → ℕ → ℕ
left_len ns i = (node_at ns i).b

abbrev pub right : List Node → ℕ → ℕ
right ns i = (node_at ns i).c

-- Its right unclamped, where len terms of the Concat are meant.
abbrev pub inner_right : List Node → ℕ → ℕ → ℕ
inner_right ns i len = unclamp ns (right ns i) (len - left_len ns i)

-- ---- cases of a decision ----

pub if_yes : {P A : Type 0} (d : Dec P) (x y : A) → P → if_dec d x y ≡ x
unfolding if_dec
if_yes (yes p) x y n = refl
if_yes (no q) x y n = absurd (q n)

pub if_no : {P A : Type 0} (d : Dec P) (x y : A) → (P → ⊥) → if_dec d x y ≡ y
unfolding if_dec
if_no (yes p) x y n = absurd (n p)
if_no (no q) x y n = refl

pub if_both : {P A B : Type 0} (h : A → B) (d : Dec P) (x y : B) (u v : A) → (P → x ≡ h u) → ((P → ⊥) → y ≡ h v) → if_dec d x y ≡ h (if_dec d u v)
unfolding if_dec
if_both h (yes p) x y u v f g = f p
if_both h (no q) x y u v f g = g q

-- ---- unclamp: its equations, and that the field stays ----
unclamp-at : (ns : List Node) (i len : ℕ) → i < length ns → unclamp ns i len ≡ unclamp_of (node_at ns i) (take i (table unclamp_of ns [])) len
unfolding unclamp
unclamp-at ns i len lt = ap (λ f. f len) (table_at unclamp_of ns [] i i nil_node (λ z. 0) lt (omega arith))

unclamp_k_leaf : (k : ℕ) (n : Node) (below : List (ℕ → ℕ)) (len : ℕ) → k ≤ 1 → unclamp_k k n below len ≡ length below
unfolding unclamp_k
unclamp_k_leaf zero n below len h = refl
unclamp_k_leaf (suc zero) n below len h = refl
unclamp_k_leaf (suc (suc k)) n below len h = absurd (omega arith)

pub unclamp_leaf : (ns : List Node) (i len : ℕ) → i < length ns → (node_at ns i).kind ≤ 1 → unclamp ns i len ≡ i
unfolding unclamp_of
unclamp_leaf ns i len lt h = unclamp-at ns i len lt ∙ unclamp_k_leaf (node_at ns i).kind (node_at ns i) (take i (table unclamp_of ns [])) len h
    ∙ table_below unclamp_of ns i (omega arith)

unclamp-step : (n : Node) (below : List (ℕ → ℕ)) (len : ℕ) → n.kind ≡ 2
    → unclamp_of n below len ≡ if_dec (dec_le len n.b) (get_or below n.a (λ z. 0) len) (length below)
unfolding unclamp_of unclamp_k
unclamp-step n below len e = rw e refl

pub unclamp-concat : (ns : List Node) (i len : ℕ) → i < length ns → ConcatAt ns i
    → unclamp ns i len ≡ if_dec (dec_le len (left_len ns i)) (unclamp ns (left ns i) len) i
unfolding unclamp
unclamp-concat ns i len lt m = unclamp-at ns i len lt ∙ unclamp-step (node_at ns i) (take i (table unclamp_of ns [])) len m.kind2
    ∙ ap₂ (λ x y. if_dec (dec_le len (left_len ns i)) x y) (ap (λ f. f len) (get_or-take i (table unclamp_of ns []) (left ns i) (λ z. 0) m.left_low))
    (table_below unclamp_of ns i (omega arith))

-- What holds where unclamping stops, and is handed up from the left where it goes on, holds of every node i and the node reached from it.
pub unclamp_induct : (used : ℕ) (ns : List Node) (len : ℕ) (Q : ℕ → ℕ → Type 0) → GoodNodes used ns
    → ((i : ℕ) → i < length ns → (node_at ns i).kind ≤ 1 → Q i i)
    → ((i : ℕ) → i < length ns → ConcatAt ns i → left_len ns i < len → Q i i)
    → ((i j : ℕ) → i < length ns → ConcatAt ns i → len ≤ left_len ns i → Q (left ns i) j → Q i j)
    → (i : ℕ) → i < length ns → Q i (unclamp ns i len)
unclamp_induct used ns len Q g leaf stop down i lt = upto (suc i) i (omega arith) lt
  where
    step : (i : ℕ) → i < length ns → Q (left ns i) (unclamp ns (left ns i) len) → ConcatAt ns i → Dec (len ≤ left_len ns i) → Q i (unclamp ns i len)
    step i lt q m (yes y) = rw (unclamp-concat ns i len lt m ∙ if_yes (dec_le len (left_len ns i)) _ _ y) (down i (unclamp ns (left ns i) len) lt m y q)
    step i lt q m (no y) = rw (unclamp-concat ns i len lt m ∙ if_no (dec_le len (left_len ns i)) _ _ y) (stop i lt m (omega arith))

    cases : (n i : ℕ) → i < suc n → i < length ns → ((j : ℕ) → j < n → j < length ns → Q j (unclamp ns j len)) → NodeAt used ns i → Q i (unclamp ns i len)
    cases n i h lt rec (inl m) = rw (unclamp_leaf ns i len lt (omega arith)) (leaf i lt (omega arith))
    cases n i h lt rec (inr (inl m)) = rw (unclamp_leaf ns i len lt (omega arith)) (leaf i lt (omega arith))
    cases n i h lt rec (inr (inr m)) = step i lt (rec (left ns i) (omega arith) (omega arith)) m (dec_le len (left_len ns i))

    upto : (n i : ℕ) → i < n → i < length ns → Q i (unclamp ns i len)
    upto zero i h lt = absurd (omega arith)
    upto (suc n) i h lt = cases n i h lt (λ j. upto n j) (node_at_lem used ns i g lt)

-- Unclamping leads to a lower node that is no Nil and has the same len terms.
pub record Unclamped {X : Type 0} (xs : List X) (ns : List Node) (i len j : ℕ) : Type 0 where
  pub lower : j ≤ i
  pub some_node : 1 ≤ (node_at ns j).kind
  pub within : len ≤ (node_at ns j).reach
  pub shows : take len (meaning xs ns j) ≡ take len (meaning xs ns i)

module _ {X : Type 0} (xs : List X) (ns : List Node) (g : GoodNodes (length xs) ns) where
  pub left-fits : (i : ℕ) → i < length ns → (m : ConcatAt ns i) → left_len ns i ≤ length (meaning xs ns (left ns i))
  left-fits i lt m = omega (arith, reach_is xs ns g (left ns i) (omega arith), m.left_reach)

  pub unclamped : (i len : ℕ) → i < length ns → 1 ≤ (node_at ns i).kind → len ≤ (node_at ns i).reach → Unclamped xs ns i len (unclamp ns i len)
  unclamped i len = unclamp_induct (length xs) ns len (λ i j. 1 ≤ (node_at ns i).kind → len ≤ (node_at ns i).reach → Unclamped xs ns i len j) g
      (λ i lt h k w. here i k w) (λ i lt m h k w. here i k w) (λ i j lt m h rec k w. above i j lt m h (rec m.left_some (omega arith))) i
    where
      here : (i : ℕ) → 1 ≤ (node_at ns i).kind → len ≤ (node_at ns i).reach → Unclamped xs ns i len i
      here i k w = record { lower = omega arith; some_node = k; within = w; shows = refl }

      above : (i j : ℕ) → i < length ns → ConcatAt ns i → len ≤ left_len ns i → Unclamped xs ns (left ns i) len j → Unclamped xs ns i len j
      above i j lt m q u = record {
        lower = omega arith;
        some_node = u.some_node;
        within = u.within;
        shows = u.shows ∙ sym (ap (take len) (meaning-concat xs ns i lt m)
            ∙ take_left len (left_len ns i) (meaning xs ns (left ns i)) (meaning xs ns (right ns i)) q (left-fits i lt m));
      }

  -- An unclamped Concat's left is shorter than what is wanted.
  pub unclamp_over : (i len : ℕ) → i < length ns → 2 ≤ (node_at ns (unclamp ns i len)).kind → left_len ns (unclamp ns i len) < len
  unclamp_over i len = unclamp_induct (length xs) ns len (λ i j. 2 ≤ (node_at ns j).kind → left_len ns j < len) g
      (λ i lt h q. absurd (omega arith)) (λ i lt m h q. h) (λ i j lt m h rec. rec) i

  pub unclamp_twice : (i len : ℕ) → i < length ns → unclamp ns (unclamp ns i len) len ≡ unclamp ns i len
  unclamp_twice i len = unclamp_induct (length xs) ns len (λ i j. unclamp ns j len ≡ j) g
      (λ i lt h. unclamp_leaf ns i len lt h)
      (λ i lt m h. unclamp-concat ns i len lt m ∙ if_no (dec_le len (left_len ns i)) _ _ (λ y. omega arith)) (λ i j lt m h rec. rec) i

  -- The inner right, unclamped, is a lower node.
  pub inner_low : (i len : ℕ) → i < length ns → (m : ConcatAt ns i) → len ≤ (node_at ns i).reach → inner_right ns i len < i
  inner_low i len lt m w = let u = unclamped (right ns i) (len - left_len ns i) (omega arith) m.right_some (omega arith) in omega (arith, u.lower)

-- ---- the plan: its equations ----
plan-at : (ns : List Node) (h i len : ℕ) → i < length ns → plan ns h i len ≡ plan_of ns h (node_at ns i) (take i (table (plan_of ns h) ns [])) len
unfolding plan
plan-at ns h i len lt = ap (λ f. f len) (table_at (plan_of ns h) ns [] i i nil_node (base 0) lt (omega arith))

plan_k_leaf : (k : ℕ) (n : Node) (ns : List Node) (h : ℕ) (below : List (ℕ → Plan)) (len : ℕ) → k ≤ 1 → plan_k k n ns h below len ≡ base (length below) len
unfolding plan_k
plan_k_leaf zero n ns h below len q = refl
plan_k_leaf (suc zero) n ns h below len q = refl
plan_k_leaf (suc (suc k)) n ns h below len q = absurd (omega arith)

pub plan_leaf : (ns : List Node) (h i len : ℕ) → i < length ns → (node_at ns i).kind ≤ 1 → plan ns h i len ≡ base i len
unfolding plan_of
plan_leaf ns h i len lt q = plan-at ns h i len lt ∙ plan_k_leaf (node_at ns i).kind (node_at ns i) ns h (take i (table (plan_of ns h) ns [])) len q
    ∙ ap (λ z. base z len) (table_below (plan_of ns h) ns i (omega arith))

-- The second turn, its plans looked up in the whole store: i is the node turned, j its inner right unclamped.
unfoldable pub second_turn : ℕ → List Node → ℕ → ℕ → ℕ → ℕ → Plan
second_turn zero ns h i j len = base i len
second_turn (suc zero) ns h i j len = base i len
second_turn (suc (suc k)) ns h i j len =
    if_dec (dec_lt (left_len ns j) (len - left_len ns i))
    (double (left ns i) (left_len ns i) (left ns j) (left_len ns j) (plan ns h (right ns j) (len - left_len ns i - left_len ns j)))
    (base i len)

plan-step : (n : Node) (ns : List Node) (h : ℕ) (below : List (ℕ → Plan)) (len : ℕ) → n.kind ≡ 2 → plan_of ns h n below len ≡
    if_dec (dec_le len n.b) (get_or below n.a (base 0) len)
    (if_dec (dec_lt (suc h) n.height)
    (if_dec (dec_le (node_at ns n.c).height (node_at ns n.a).height)
    (single n.a n.b (get_or below n.c (base 0) (len - n.b)))
    (second_k (node_at ns (unclamp ns n.c (len - n.b))).kind (node_at ns (unclamp ns n.c (len - n.b))) n (length below) len (len - n.b) below))
    (base (length below) len))
unfolding plan_of plan_k
plan-step n ns h below len e = rw e refl

second_same : (k : ℕ) (ns : List Node) (h i j len : ℕ) → i < length ns → (2 ≤ k → right ns j < i)
    → second_k k (node_at ns j) (node_at ns i) i len (len - left_len ns i) (take i (table (plan_of ns h) ns [])) ≡ second_turn k ns h i j len
unfolding second_k second_turn plan
second_same zero ns h i j len lt q = refl
second_same (suc zero) ns h i j len lt q = refl
second_same (suc (suc k)) ns h i j len lt q =
    ap (λ f. if_dec (dec_lt (left_len ns j) (len - left_len ns i)) (double (left ns i) (left_len ns i) (left ns j) (left_len ns j) (f (len - left_len ns i - left_len ns j)))
    (base i len))
    (get_or-take i (table (plan_of ns h) ns []) (right ns j) (base 0) (q (omega arith)))

-- The plan of a Concat, as the Rust recurses.
pub plan-concat : (used : ℕ) (ns : List Node) (h i len : ℕ) → GoodNodes used ns → i < length ns → ConcatAt ns i
    → inner_right ns i len < i → plan ns h i len ≡
    if_dec (dec_le len (left_len ns i)) (plan ns h (left ns i) len)
    (if_dec (dec_lt (suc h) (node_at ns i).height)
    (if_dec (dec_le (node_at ns (right ns i)).height (node_at ns (left ns i)).height)
    (single (left ns i) (left_len ns i) (plan ns h (right ns i) (len - left_len ns i)))
    (second_turn (node_at ns (inner_right ns i len)).kind ns h i (inner_right ns i len) len))
    (base i len))
unfolding plan
plan-concat used ns h i len g lt m u =
    let below = take i (table (plan_of ns h) ns []) in
    plan-at ns h i len lt ∙ plan-step (node_at ns i) ns h below len m.kind2
    ∙ go (length below) (table_below (plan_of ns h) ns i (omega arith)) (get_or below (left ns i) (base 0)) (get_or below (right ns i) (base 0))
    (get_or-take i (table (plan_of ns h) ns []) (left ns i) (base 0) m.left_low) (get_or-take i (table (plan_of ns h) ns []) (right ns i) (base 0) m.right_low)
  where
    j : ℕ
    j = inner_right ns i len

    lows : NodeAt used ns j → 2 ≤ (node_at ns j).kind → right ns j < i
    lows (inl n) q = absurd (omega arith)
    lows (inr (inl n)) q = absurd (omega arith)
    lows (inr (inr n)) q = omega (arith, u, n.right_low)

    go : (w : ℕ) → w ≡ i → (f f' : ℕ → Plan) → f ≡ plan ns h (left ns i) → f' ≡ plan ns h (right ns i)
        → if_dec (dec_le len (left_len ns i)) (f len)
        (if_dec (dec_lt (suc h) (node_at ns i).height)
        (if_dec (dec_le (node_at ns (right ns i)).height (node_at ns (left ns i)).height)
        (single (left ns i) (left_len ns i) (f' (len - left_len ns i)))
        (second_k (node_at ns j).kind (node_at ns j) (node_at ns i) w len (len - left_len ns i) (take i (table (plan_of ns h) ns []))))
        (base w len)) ≡
        if_dec (dec_le len (left_len ns i)) (plan ns h (left ns i) len)
        (if_dec (dec_lt (suc h) (node_at ns i).height)
        (if_dec (dec_le (node_at ns (right ns i)).height (node_at ns (left ns i)).height)
        (single (left ns i) (left_len ns i) (plan ns h (right ns i) (len - left_len ns i)))
        (second_turn (node_at ns j).kind ns h i j len))
        (base i len))
    go w e f f' q q' = rw (e, q, q', second_same (node_at ns j).kind ns h i j len lt (lows (node_at_lem used ns j g (omega (arith, u))))) refl
