-- From the checks to the step: what a call leaves, by what its checks answer.
use Rattle.std.specs.Prelude.{◌≡◌, List, [], Bool, ◌&&◌}
use Rattle.std.proofs.Math.Path.{refl, ap, sym}
use Rattle.std.proofs.Common.{ap₂, ◌∙◌}
use Rattle.std.proofs.Math.Option.{Option, some, none}
use Rattle.std.proofs.Math.Bool.{true, false}
use borrow.Author.Tests.{leb-true, le-leb, lt-leb}
use Rattle.std.proofs.Math.Dec.{leb}
use Rattle.std.proofs.Math.ListN.{length}
use Prim.Native.Nat.{ℕ, ◌+◌, ◌/◌, ◌<◌, ◌≤◌, min}
use native.Mathlib.Omega.{arith}
use Rattle.term_spec.specs.Refusal.{uneven, bad_term, bad_node, bad_field, past_end, too_long}
use Rattle.term_spec.proofs.BoolLaws.{true-T}
use Rattle.term_spec.proofs.WordsLaws.{term_lays, decode-length, count_fits}
use Rattle.term_spec.specs.Words.{whole, count, records}
use Rattle.term_spec.specs.Term.{term_layout, run_layout, runs_rule, limit}
use Rattle.value.specs.Check.{terms_counts}
use Rattle.value.specs.Equal.{TermStore}
use Rattle.view_spec.specs.Node.{Field, node_layout, empty_field, node_at, each_node, nodes_rule, field_rule}
use Rattle.view_spec.proofs.NodeLaws.{field_facts}
use Rattle.calls_spec.specs.Store.{Store, terms, nodes, capacity, counts_rule, store_terms, store_nodes, add_nodes}
use Rattle.view_spec.specs.Build.{Built, spec_from_runs, total, take_field, rest, range, join}
use Rattle.calls_spec.specs.Step.{Call, Answer, refused, built, call_from_runs, call_take, call_rest, call_range, call_join}
use Rattle.calls_spec.specs.Step.{ask, given, even_rule, slots_lent, work_lent, adds_nodes, fits, changed, deed, arguments, new_nodes, input, room, accept, refuse, decide, step}
use Rattle.calls_spec.proofs.StepLaws.{after_build}
use Rattle.nodes.specs.NodeStore.{nodes_in, NodeStore, AnyStore, Reaches}
use Rattle.view.specs.Check.{store_of, numbered, checked, leaves, grown_if, grown_by}
use Rattle.view.specs.CheckLaws.{nonzero, and_true, and_left, and_right, nodes_even, even_fits, counts-apart}

-- ---- the checks' number, and the input's ----

-- what the checks refuse is the input's number, and what they pass is left to the arguments
module _ {n : ℕ} where
  refused_by : (a t m r : Bool) (x : Option ℕ) → n ≡ numbered (ask a uneven (ask t bad_term (ask m bad_node (ask r bad_field none)))) → (n ≡ 0 → ⊥)
      → ask a uneven (ask t bad_term (ask m bad_node (ask r bad_field x))) ≡ some n
  unfolding ask numbered
  refused_by true true true true x p h = absurd (h p)
  refused_by true true true false x p h = ap some (sym p)
  refused_by true true false r x p h = ap some (sym p)
  refused_by true false m r x p h = ap some (sym p)
  refused_by false t m r x p h = ap some (sym p)

  -- each test that lets pass holds
  all_hold : (a t m r : Bool) → n ≡ numbered (ask a uneven (ask t bad_term (ask m bad_node (ask r bad_field none)))) → n ≡ 0 → (a ≡ true) × (t ≡ true) × (m ≡ true) × (r ≡ true)
  unfolding ask numbered
  all_hold true true true true p h = (refl, refl, refl, refl)
  all_hold true true true false p h = absurd (nonzero (sym p ∙ h))
  all_hold true true false r p h = absurd (nonzero (sym p ∙ h))
  all_hold true false m r p h = absurd (nonzero (sym p ∙ h))
  all_hold false t m r p h = absurd (nonzero (sym p ∙ h))

alone_by : (m r q : Bool) → (m ≡ true → q ≡ true) → ask m bad_node (ask (r && q) bad_field none) ≡ ask m bad_node (ask r bad_field none)
unfolding ask
alone_by true r q h = rw (h refl, and_true) refl
alone_by false r q h = refl

-- the empty field is never refused
empty_ok : (s : Store) → store_nodes s ≡ true → field_rule (nodes s) empty_field ≡ true
unfolding field_rule store_nodes nodes_rule
empty_ok s h = ap₂ ◌&&◌ (and_left (leb 1 (length (nodes s))) (each_node s.terms_used [] (nodes s)) h) (le-leb 0 (node_at (nodes s) 0).reach (omega arith))

-- ---- the checks' order, with one test of the fields ----

-- The checks with the test b of what else is lent and the test r of the fields, and what comes after them.
abbrev pub ordered : Store → Bool → Bool → Option ℕ → Option ℕ
ordered s b r x = ask (counts_rule s && b) uneven (ask (store_terms s) bad_term (ask (store_nodes s) bad_node (ask r bad_field x)))

pub two_fields : (s : Store) (b : Bool) (f g : Field) → checked s b f g ≡ ordered s b (field_rule (nodes s) f && field_rule (nodes s) g) none
unfolding checked
two_fields s b f g = refl

pub one_field : (s : Store) (b : Bool) (f : Field) → checked s b f empty_field ≡ ordered s b (field_rule (nodes s) f) none
one_field s b f = two_fields s b f empty_field ∙ ap (λ x. ask (counts_rule s && b) uneven (ask (store_terms s) bad_term x)) (alone_by (store_nodes s) _ _ (empty_ok s))

pub no_field : (s : Store) (b : Bool) → checked s b empty_field empty_field ≡ ordered s b true none
no_field s b = one_field s b empty_field ∙ ap (λ x. ask (counts_rule s && b) uneven (ask (store_terms s) bad_term x)) (alone_by (store_nodes s) true _ (empty_ok s))

-- ---- what the checks let pass ----

-- The stores are within their rules.
pub record Passed (s : Store) : Type 0 where
  pub store : NodeStore s.node_words s.terms_used s.nodes_used
  pub terms : s.terms_used ≤ limit
  pub values : TermStore s.names s.term_words s.terms_used

module _ (s : Store) (b r : Bool) {n : ℕ} (e : n ≡ numbered (ordered s b r none)) (z : n ≡ 0) where
  pub passed : Passed s
  unfolding terms_counts capacity store_terms store_nodes terms nodes
  passed =
      let (h1, h2, h3, h4) = all_hold (counts_rule s && b) (store_terms s) (store_nodes s) r e z in
      let h = sym (counts-apart s) ∙ and_left (counts_rule s) b h1 in
      let even : nodes_even s ≡ true = and_left (nodes_even s) _ h in
      let tc = and_right (nodes_even s) _ h in
      let u : s.nodes_used ≤ min (count node_layout s.node_words) limit = leb-true _ _ (and_right (whole node_layout s.node_words) _ even) in
      let t : s.terms_used ≤ min (count term_layout s.term_words) limit =
      leb-true _ _ (and_right (whole term_layout s.term_words && leb (length s.names) limit) (leb s.terms_used (min (count term_layout s.term_words) limit)) tc) in
      record {
        store = record { fits = even_fits _ _ even; few = omega (arith, u); good = true-T _ h3 };
        terms = omega (arith, t);
        values = record { fits = count_fits term_layout term_lays s.term_words s.terms_used (omega (arith, t)); good = true-T _ h2 };
      }

  pub passed_test : r ≡ true
  passed_test = let (h1, h2, h3, h4) = all_hold (counts_rule s && b) (store_terms s) (store_nodes s) r e z in h4

  pub passed_even : b ≡ true
  passed_even = let (h1, h2, h3, h4) = all_hold (counts_rule s && b) (store_terms s) (store_nodes s) r e z in and_right (counts_rule s) b h1

-- ---- what a call leaves ----

module _ (s : Store) (c : Call) where
  pub step-refused : {n : ℕ} → input s c ≡ some n → step s c ≡ refuse s c n
  unfolding step decide
  step-refused e = rw e refl

  pub step-full : {n : ℕ} → input s c ≡ none → room s c ≡ some n → step s c ≡ refuse s c n
  unfolding step decide
  step-full e r = rw (e, r) refl

  pub step_done : input s c ≡ none → room s c ≡ none → step s c ≡ accept s c
  unfolding step decide
  step_done e r = rw (e, r) refl

  pub left-refused : {n : ℕ} → input s c ≡ some n → slots_lent c ≡ [] → work_lent c ≡ [] → leaves (refused n) s ≡ step s c
  unfolding leaves refuse
  left-refused e p q = rw (step-refused e, p, q) refl

  left-full : {n : ℕ} → input s c ≡ none → room s c ≡ some n → slots_lent c ≡ [] → work_lent c ≡ [] → leaves (refused n) s ≡ step s c
  unfolding leaves refuse
  left-full e r p q = rw (step-full e r, p, q) refl

  -- by the checks' number
  module _ (b r : Bool) (x : Option ℕ) (ev : even_rule c ≡ b) (ar : arguments s c ≡ ask r bad_field x) {n : ℕ} (e : n ≡ numbered (ordered s b r none)) where
    asked : input s c ≡ ordered s b r x
    unfolding input
    asked = rw (ev, ar) refl

    pub input-refused : (n ≡ 0 → ⊥) → input s c ≡ some n
    input-refused h = asked ∙ refused_by (counts_rule s && b) (store_terms s) (store_nodes s) r x e h

    pub input-passed : n ≡ 0 → input s c ≡ x
    unfolding ask
    input-passed z = let (h1, h2, h3, h4) = all_hold (counts_rule s && b) (store_terms s) (store_nodes s) r e z in asked ∙ rw (h1, h2, h3, h4) refl

-- A call that builds: what it leaves is what the nodes' growth says.
module _ (s : Store) (c : Call) (k : Built) (inp : input s c ≡ none) (rm : room s c ≡ fits s (adds_nodes (new_nodes s k)) none)
    (ac : accept s c ≡ after_build s k) (sl : slots_lent c ≡ []) (wl : work_lent c ≡ []) where
  grown_by_lem : (b : Bool) → leb (s.nodes_used + length (new_nodes s k)) (capacity node_layout s.node_words) ≡ b → {a : Answer} {w : List ℕ} {u : ℕ}
      → (a, w, u) ≡ grown_if b s.node_words s.nodes_used k → leaves a (store_of s.names s.term_words s.terms_used w u) ≡ step s c
  unfolding fits ask grown_if leaves after_build add_nodes
  grown_by_lem true q p = rw (ap (λ t. t.0) p, ap (λ t. t.1) p, ap (λ t. t.2) p) (sym ac ∙ sym (step_done s c inp (rm ∙ rw q refl)))
  grown_by_lem false q p = rw (ap (λ t. t.0) p, ap (λ t. t.1) p, ap (λ t. t.2) p) (left-full s c inp (rm ∙ rw q refl) sl wl)

  pub left_grown : {a : Answer} {w : List ℕ} {u : ℕ} → (a, w, u) ≡ grown_by s.node_words s.nodes_used k
      → leaves a (store_of s.names s.term_words s.terms_used w u) ≡ step s c
  unfolding grown_by
  left_grown p = grown_by_lem _ refl p

-- ---- calls that are refused for a field (4) or by one more test (5 or 6) ----

module _ (s : Store) (c : Call) (r b : Bool) (d : ℕ) (ev : even_rule c ≡ true) (ar : arguments s c ≡ ask r bad_field (ask b d none)) (sl : slots_lent c ≡ [])
    (wl : work_lent c ≡ []) {n : ℕ} (e : n ≡ numbered (ordered s true r none)) where
  field-refused : (n ≡ 0 → ⊥) → leaves (refused n) s ≡ step s c
  field-refused h = left-refused s c (input-refused s c true r (ask b d none) ev ar e h) sl wl

  field_past : n ≡ 0 → b ≡ false → leaves (refused d) s ≡ step s c
  unfolding ask
  field_past z h = left-refused s c (input-passed s c true r (ask b d none) ev ar e z ∙ rw h refl) sl wl

  field_fits : n ≡ 0 → b ≡ true → input s c ≡ none
  unfolding ask
  field_fits z h = input-passed s c true r (ask b d none) ev ar e z ∙ rw h refl

-- What is asked of a store and a field after the checks.
pub record Usable (s : Store) (f : Field) : Type 0 where
  pub store : NodeStore s.node_words s.terms_used s.nodes_used
  pub terms : s.terms_used ≤ limit
  pub values : TermStore s.names s.term_words s.terms_used
  pub low : f.node < s.nodes_used
  pub within : f.len ≤ (node_at (nodes_in s.node_words s.nodes_used) f.node).reach

-- The nodes, over some number of terms.
pub any-nodes : {s : Store} {f : Field} → Usable s f → AnyStore s.node_words s.nodes_used
any-nodes {s} u = record { terms = s.terms_used; few_terms = u.terms; store = u.store }

-- The field's node has its terms.
pub reaches : {s : Store} {f : Field} → Usable s f → Reaches s.node_words s.nodes_used f.node f.len
reaches u = record { low = u.low; fits = u.within }

alone : (s : Store) (b : Bool) (f : Field) {n : ℕ} → n ≡ numbered (checked s b f empty_field) → n ≡ numbered (ordered s b (field_rule (nodes s) f) none)
alone s b f e = e ∙ ap numbered (one_field s b f)

pub usable : (s : Store) (b : Bool) (f : Field) {n : ℕ} → n ≡ numbered (checked s b f empty_field) → n ≡ 0 → Usable s f
unfolding nodes
usable s b f e z =
    let one = alone s b f e in
    let p = passed s b (field_rule (nodes s) f) one z in
    let (x, y) = field_facts (nodes s) f (true-T _ (passed_test s b (field_rule (nodes s) f) one z)) in
    record { store = p.store; terms = p.terms; values = p.values; low = omega (arith, x, decode-length node_layout s.nodes_used s.node_words); within = y }

module _ (s : Store) (f : Field) (k : ℕ) {n : ℕ} (e : n ≡ numbered (checked s true f empty_field)) where
  -- take
  pub take-refused : (n ≡ 0 → ⊥) → leaves (refused n) s ≡ step s (call_take f k)
  unfolding deed given
  take-refused h = field-refused s (call_take f k) (field_rule (nodes s) f) (leb k f.len) past_end refl refl refl refl (alone s true f e) h

  pub take_past : n ≡ 0 → f.len < k → leaves (refused past_end) s ≡ step s (call_take f k)
  unfolding deed given
  take_past z h = field_past s (call_take f k) (field_rule (nodes s) f) (leb k f.len) past_end refl refl refl refl (alone s true f e) z (lt-leb k f.len h)

  pub take-fits : n ≡ 0 → {g : Field} → g ≡ take_field f k → k ≤ f.len → leaves (built g) s ≡ step s (call_take f k)
  unfolding deed given leaves room fits ask accept changed
  take-fits z q h =
      let fit = field_fits s (call_take f k) (field_rule (nodes s) f) (leb k f.len) past_end refl refl refl refl (alone s true f e) z (le-leb k f.len h) in
      rw q (sym (step_done s (call_take f k) fit refl))

  -- rest
  pub rest-refused : (n ≡ 0 → ⊥) → leaves (refused n) s ≡ step s (call_rest f k)
  unfolding deed given
  rest-refused h = field-refused s (call_rest f k) (field_rule (nodes s) f) (leb k f.len) past_end refl refl refl refl (alone s true f e) h

  pub rest_past : n ≡ 0 → f.len < k → leaves (refused past_end) s ≡ step s (call_rest f k)
  unfolding deed given
  rest_past z h = field_past s (call_rest f k) (field_rule (nodes s) f) (leb k f.len) past_end refl refl refl refl (alone s true f e) z (lt-leb k f.len h)

  pub rest-fits : n ≡ 0 → k ≤ f.len → {a : Answer} {w : List ℕ} {u : ℕ} → (a, w, u) ≡ grown_by s.node_words s.nodes_used (rest f k (nodes_in s.node_words s.nodes_used))
      → leaves a (store_of s.names s.term_words s.terms_used w u) ≡ step s (call_rest f k)
  unfolding deed given room fits ask accept changed after_build nodes
  rest-fits z h p =
      let fit = field_fits s (call_rest f k) (field_rule (nodes s) f) (leb k f.len) past_end refl refl refl refl (alone s true f e) z (le-leb k f.len h) in
      left_grown s (call_rest f k) (rest f k (nodes s)) fit refl refl refl refl p

-- range
module _ (s : Store) (f : Field) (k m : ℕ) {n : ℕ} (e : n ≡ numbered (checked s true f empty_field)) where
  pub range-refused : (n ≡ 0 → ⊥) → leaves (refused n) s ≡ step s (call_range f k m)
  unfolding deed given
  range-refused h = field-refused s (call_range f k m) (field_rule (nodes s) f) (leb (k + m) f.len) past_end refl refl refl refl (alone s true f e) h

  pub range_past : n ≡ 0 → f.len < k + m → leaves (refused past_end) s ≡ step s (call_range f k m)
  unfolding deed given
  range_past z h = field_past s (call_range f k m) (field_rule (nodes s) f) (leb (k + m) f.len) past_end refl refl refl refl (alone s true f e) z (lt-leb (k + m) f.len h)

  pub range-fits : n ≡ 0 → k + m ≤ f.len → {a : Answer} {w : List ℕ} {u : ℕ} → (a, w, u) ≡ grown_by s.node_words s.nodes_used (range f k m (nodes_in s.node_words s.nodes_used))
      → leaves a (store_of s.names s.term_words s.terms_used w u) ≡ step s (call_range f k m)
  unfolding deed given room fits ask accept changed after_build nodes
  range-fits z h p =
      let fit = field_fits s (call_range f k m) (field_rule (nodes s) f) (leb (k + m) f.len) past_end refl refl refl refl (alone s true f e) z (le-leb (k + m) f.len h) in
      left_grown s (call_range f k m) (range f k m (nodes s)) fit refl refl refl refl p

-- join
module _ (s : Store) (f g : Field) {n : ℕ} (e : n ≡ numbered (checked s true f g)) where
  both : n ≡ numbered (ordered s true (field_rule (nodes s) f && field_rule (nodes s) g) none)
  both = e ∙ ap numbered (two_fields s true f g)

  pub join-refused : (n ≡ 0 → ⊥) → leaves (refused n) s ≡ step s (call_join f g)
  unfolding deed given
  join-refused h = field-refused s (call_join f g) (field_rule (nodes s) f && field_rule (nodes s) g) (leb (f.len + g.len) limit) too_long refl refl refl refl both h

  pub join_long : n ≡ 0 → limit < f.len + g.len → leaves (refused too_long) s ≡ step s (call_join f g)
  unfolding deed given
  join_long z h = field_past s (call_join f g) (field_rule (nodes s) f && field_rule (nodes s) g) (leb (f.len + g.len) limit) too_long refl refl refl refl both z (lt-leb (f.len + g.len) limit h)

  pub join-fits : n ≡ 0 → f.len + g.len ≤ limit → {a : Answer} {w : List ℕ} {u : ℕ} → (a, w, u) ≡ grown_by s.node_words s.nodes_used (join f g (nodes_in s.node_words s.nodes_used))
      → leaves a (store_of s.names s.term_words s.terms_used w u) ≡ step s (call_join f g)
  unfolding deed given room fits ask accept changed after_build nodes
  join-fits z h p =
      let test = field_rule (nodes s) f && field_rule (nodes s) g in
      let fit = field_fits s (call_join f g) test (leb (f.len + g.len) limit) too_long refl refl refl refl both z (le-leb (f.len + g.len) limit h) in
      left_grown s (call_join f g) (join f g (nodes s)) fit refl refl refl refl p

  -- what is asked of both fields after the checks
  pub usable_both : n ≡ 0 → Usable s f × Usable s g
  unfolding nodes
  usable_both z =
      let p = passed s true (field_rule (nodes s) f && field_rule (nodes s) g) both z in
      let t = passed_test s true (field_rule (nodes s) f && field_rule (nodes s) g) both z in
      let (x, y) = field_facts (nodes s) f (true-T _ (and_left (field_rule (nodes s) f) (field_rule (nodes s) g) t)) in
      let (v, w) = field_facts (nodes s) g (true-T _ (and_right (field_rule (nodes s) f) (field_rule (nodes s) g) t)) in
      let l = decode-length node_layout s.nodes_used s.node_words in (
        record { store = p.store; terms = p.terms; values = p.values; low = omega (arith, x, l); within = y },
        record { store = p.store; terms = p.terms; values = p.values; low = omega (arith, v, l); within = w },
      )

-- from_runs
module _ (s : Store) (w : List ℕ) {b : Bool} (ev : b ≡ whole run_layout w && leb (count run_layout w) 64) {n : ℕ} (e : n ≡ numbered (checked s b empty_field empty_field)) where
  -- the test of the runs, and of their terms together
  abbrev inside : Bool
  inside = runs_rule s.terms_used (records run_layout w)

  abbrev short : Bool
  short = leb (total (records run_layout w)) limit

  none_asked : n ≡ numbered (ordered s b true none)
  none_asked = e ∙ ap numbered (no_field s b)

  runs-asked : arguments s (call_from_runs w) ≡ ask true bad_field (ask inside past_end (ask short too_long none))
  unfolding deed ask
  runs-asked = refl

  runs_even : even_rule (call_from_runs w) ≡ b
  unfolding given
  runs_even = sym ev

  runs-input : n ≡ 0 → input s (call_from_runs w) ≡ ask inside past_end (ask short too_long none)
  runs-input z = input-passed s (call_from_runs w) b true _ runs_even runs-asked none_asked z

  pub runs-refused : (n ≡ 0 → ⊥) → leaves (refused n) s ≡ step s (call_from_runs w)
  unfolding given
  runs-refused h = left-refused s (call_from_runs w) (input-refused s (call_from_runs w) b true _ runs_even runs-asked none_asked h) refl refl

  pub runs_past : n ≡ 0 → inside ≡ false → leaves (refused past_end) s ≡ step s (call_from_runs w)
  unfolding given ask
  runs_past z h = left-refused s (call_from_runs w) (runs-input z ∙ rw h refl) refl refl

  pub runs_long : n ≡ 0 → inside ≡ true → {m : ℕ} → m ≡ total (records run_layout w) → limit < m → leaves (refused too_long) s ≡ step s (call_from_runs w)
  unfolding given ask
  runs_long z h q k = left-refused s (call_from_runs w) (runs-input z ∙ rw (h, lt-leb (total (records run_layout w)) limit (omega (arith, q, k))) refl) refl refl

  pub runs_fit : n ≡ 0 → inside ≡ true → {m : ℕ} → m ≡ total (records run_layout w) → m ≤ limit → {a : Answer} {v : List ℕ} {u : ℕ}
      → (a, v, u) ≡ grown_by s.node_words s.nodes_used (spec_from_runs (records run_layout w) (nodes_in s.node_words s.nodes_used))
      → leaves a (store_of s.names s.term_words s.terms_used v u) ≡ step s (call_from_runs w)
  unfolding deed given room fits ask accept changed after_build nodes
  runs_fit z h q k p =
      let small = le-leb (total (records run_layout w)) limit (omega (arith, q, k)) in
      left_grown s (call_from_runs w) (spec_from_runs (records run_layout w) (nodes s)) (runs-input z ∙ rw (h, small) refl) refl refl refl refl p

  -- what is asked of the stores after the checks
  pub runs-passed : n ≡ 0 → Passed s
  runs-passed z = passed s b true none_asked z

  pub runs_few : n ≡ 0 → length w ≤ 129
  unfolding count
  runs_few z =
      let t = sym ev ∙ passed_even s b true none_asked z in
      let h : length w / run_layout.width ≤ 64 = leb-true _ _ (and_right (whole run_layout w) (leb (count run_layout w) 64) t) in
      omega arith
