-- Laws of equality: what a store within its rules gives, and what equality of two terms or two runs comes to at each exit of the code.
use Rattle.std.specs.Prelude.{◌≡◌, Bool, false, ◌&&◌, ◌||◌, T, get_or, take, drop}
use Rattle.std.proofs.Math.Path.{refl, ap, sym}
use Rattle.std.proofs.Common.{ap₂, ◌∙◌, eq-eqb, ne_eqb, eqb→eq, drop-cons}
use mathlib.Core.List.{List, [], ◌∷◌}
use Rattle.std.proofs.Math.Bool.{true}
use Rattle.std.proofs.Math.Dec.{leb, eqb, leb→le, eqb-suc-zero}
use Rattle.std.proofs.Math.ListN.{length}
use Rattle.std.proofs.lemmas.List.{length-map}
use Prim.Native.Nat.{ℕ, suc, zero, ◌+◌, ◌*◌, ◌-◌, ◌<◌, ◌≤◌, min}
use Rattle.std.proofs.Math.Nat.{add-zero, sub-zero}
use native.Mathlib.Omega.{arith}
use Rattle.term_spec.proofs.BoolLaws.{both_of, and_of, eq→eqb}
use Rattle.term_spec.proofs.ListLaws.{part-below, part_length}
use Rattle.term_spec.specs.Words.{decode, record_at, count, whole}
use Rattle.term_spec.proofs.WordsLaws.{term_lays, count_fits, decode-length, decode-at, decode-below, decode-part, record_drop}
use Rattle.term_spec.specs.Text.{identifier_text, number_text, text_at, text_rule}
use Rattle.term_spec.specs.Refusal.{uneven, bad_term}
use Rattle.term_spec.specs.Term.{Term, term_layout, no_term, part, char_kind, identifier_kind, number_kind, bracket_kind, unknown_kind, limit}
use Rattle.term_spec.specs.Term.{contents_run, depth_k, deepest, symbol_rule, term_rule_k, terms_rule}
use Rattle.term_spec.proofs.TermLaws.{BracketFacts, bracket_of, rule_by_kind, term-at, values_length}
use Rattle.term_spec.proofs.TableLaws.{table_at}
use Rattle.term_spec.specs.Value.{Value, char, unknown, bracketed, value_k, value_of, values, canon, forms, column, unknown_column, heads?, list?, same?, sames?, is_yes}
use Rattle.term_spec.proofs.ValueLaws.{canon_bracketed, equal_brackets, equal-columns, is_yes_lem, is_no, alike}
use Rattle.text.specs.Texts.{identifiers_equal, numbers_equal}
use Rattle.text.specs.TextLaws.{text_within}
use Rattle.value.specs.Check.{run_of, unless, terms_counts, terms_number}
use Rattle.value.specs.CheckLaws.{depth_bracket}
use Rattle.value.specs.Equal.{TermStore, InNames, Texts, spec_equal_symbols, values_in, equal_at, spec_equal_runs}

-- ---- kinds ----

unknown_above : (a : ℕ) → unknown_kind ≤ unknown_column a
unfolding unknown_column
unknown_above zero = omega arith
unknown_above (suc zero) = omega arith
unknown_above (suc (suc zero)) = omega arith
unknown_above (suc (suc (suc a))) = omega arith

-- A kind shows in its value: its column, those from 4 on being of unknowns.
kind_column : (k : ℕ) (text : List ℕ) (t : Term) (below : List Value) → min k unknown_kind ≡ min (column (value_k k text t below)) unknown_kind
unfolding value_k column bracketed
kind_column zero text t below = refl
kind_column (suc zero) text t below = refl
kind_column (suc (suc zero)) text t below = refl
kind_column (suc (suc (suc zero))) text t below = refl
kind_column (suc (suc (suc (suc k)))) text t below = omega (arith, unknown_above t.a)

-- Values of different kinds are never equal.
pub values_differ : (names : List ℕ) (t u : Term) (x y : List Value) → (min t.kind unknown_kind ≡ min u.kind unknown_kind → ⊥)
    → is_yes (same? (canon (value_of names t x)) (canon (value_of names u y))) ≡ false
unfolding value_of
values_differ names t u x y h =
    is_no _ (λ q. h (kind_column t.kind _ t x ∙ ap (λ z. min z unknown_kind) (equal-columns _ _ q) ∙ sym (kind_column u.kind _ u y)))

-- ---- symbols ----

decides : {P : Type 0} (d : Dec P) (b : Bool) → (P → T b) → (T b → P) → is_yes d ≡ b
decides d true f g = is_yes_lem d (g tt)
decides d false f g = is_no d f

unknowns : {a b d c x y w z : ℕ} → a ≡ x → b ≡ y → d ≡ w → c ≡ z → unknown a b d c ≡ unknown x y w z
unknowns p q s r i = unknown (p i) (q i) (s i) (r i)

text_lies : (k : ℕ) (names : List ℕ) (t : Term) → identifier_kind ≤ k → k ≤ number_kind → InNames k names t → t.a + t.b ≤ length names
unfolding InNames
text_lies zero names t l h i = absurd (omega arith)
text_lies (suc zero) names t l h i = i
text_lies (suc (suc zero)) names t l h i = i
text_lies (suc (suc (suc k))) names t l h i = absurd (omega arith)

module _ (names : List ℕ) (t u : Term) where
  pub texts_lie : Texts names t u → t.kind ≡ u.kind → identifier_kind ≤ t.kind → t.kind ≤ number_kind → (t.a + t.b ≤ length names) × (u.a + u.b ≤ length names)
  texts_lie x e l h = (text_lies t.kind names t l h x.left, text_lies u.kind names u (omega arith) (omega arith) x.right)

  pub symbols_differ : t.kind < bracket_kind → (t.kind ≡ u.kind → ⊥) → false ≡ spec_equal_symbols names t u
  unfolding spec_equal_symbols
  symbols_differ h n = sym (values_differ names t u [] [] (λ q. n (omega arith)))

  pub symbols_identifiers : t.kind ≡ identifier_kind → t.kind ≡ u.kind → identifiers_equal (text_at names t.a t.b) (text_at names u.a u.b) ≡ spec_equal_symbols names t u
  unfolding spec_equal_symbols identifiers_equal value_of value_k
  symbols_identifiers e f = rw (← f, e)

  pub symbols_numbers : t.kind ≡ number_kind → t.kind ≡ u.kind → numbers_equal (text_at names t.a t.b) (text_at names u.a u.b) ≡ spec_equal_symbols names t u
  unfolding spec_equal_symbols numbers_equal value_of value_k
  symbols_numbers e f = rw (← f, e)

  -- Chars and unknowns: by value; by kind, level and index.
  module _ (same : t.kind ≡ u.kind) (n₁ : t.kind ≡ identifier_kind → ⊥) (n₂ : t.kind ≡ number_kind → ⊥) (n₃ : t.kind ≡ bracket_kind → ⊥) where
    by_kind : (k : ℕ) → k ≡ t.kind
        → is_yes (same? (canon (value_k k (text_at names t.a t.b) t [])) (canon (value_k k (text_at names u.a u.b) u [])))
        ≡ eqb t.a u.a && (eqb k char_kind || eqb t.b u.b && (eqb t.c u.c && eqb t.d u.d))
    unfolding value_k canon
    by_kind zero e =
        decides _ _ (λ q. and_of (eqb t.a u.a) true (eq→eqb t.a u.a (cc)) tt) (λ h. ap char (eqb→eq _ _ (both_of (eqb t.a u.a) true h).0))
    by_kind (suc zero) e = absurd (n₁ (sym e))
    by_kind (suc (suc zero)) e = absurd (n₂ (sym e))
    by_kind (suc (suc (suc zero))) e = absurd (n₃ (sym e))
    by_kind (suc (suc (suc (suc k)))) e =
        rw (eqb-suc-zero (suc (suc (suc k))))
        (decides _ _
        (λ q.
        and_of (eqb t.a u.a) (eqb t.b u.b && (eqb t.c u.c && eqb t.d u.d)) (eq→eqb t.a u.a (cc))
        (and_of (eqb t.b u.b) (eqb t.c u.c && eqb t.d u.d) (eq→eqb t.b u.b (cc))
        (and_of (eqb t.c u.c) (eqb t.d u.d) (eq→eqb t.c u.c (cc)) (eq→eqb t.d u.d (cc)))))
        (λ h.
        let (x, yzw) = both_of (eqb t.a u.a) (eqb t.b u.b && (eqb t.c u.c && eqb t.d u.d)) h in
        let (y, zw) = both_of (eqb t.b u.b) (eqb t.c u.c && eqb t.d u.d) yzw in
        let (z, w) = both_of (eqb t.c u.c) (eqb t.d u.d) zw in
        unknowns (eqb→eq _ _ x) (eqb→eq _ _ y) (eqb→eq _ _ w) (eqb→eq _ _ z)))

    pub symbols_other : spec_equal_symbols names t u
        ≡ eqb t.a u.a && (eqb t.kind char_kind || eqb t.b u.b && (eqb t.c u.c && eqb t.d u.d))
    unfolding spec_equal_symbols value_of
    symbols_other =
        ap (λ k. is_yes (same? (canon (value_of names t [])) (canon (value_k k (text_at names u.a u.b) u [])))) (sym same)
        ∙ by_kind t.kind refl

    pub symbols_apart : (t.a ≡ u.a → ⊥) → false ≡ spec_equal_symbols names t u
    symbols_apart n = sym (symbols_other ∙ rw (ne_eqb t.a u.a n) refl)

    pub symbols_chars : t.kind ≡ char_kind → t.a ≡ u.a → true ≡ spec_equal_symbols names t u
    symbols_chars z e = sym (symbols_other ∙ rw (eq-eqb t.a u.a e, eq-eqb t.kind char_kind z) refl)

    module _ (n₀ : t.kind ≡ char_kind → ⊥) (e : t.a ≡ u.a) where
      pub symbols_lower : (t.b ≡ u.b → ⊥) → false ≡ spec_equal_symbols names t u
      symbols_lower n = sym (symbols_other ∙ rw (eq-eqb t.a u.a e, ne_eqb t.kind char_kind n₀, ne_eqb t.b u.b n) refl)

      module _ (f : t.b ≡ u.b) where
        pub symbols_indices : (t.c ≡ u.c → ⊥) → false ≡ spec_equal_symbols names t u
        symbols_indices n =
            sym (symbols_other ∙ rw (eq-eqb t.a u.a e, ne_eqb t.kind char_kind n₀, eq-eqb t.b u.b f, ne_eqb t.c u.c n) refl)

        pub symbols_upper : t.c ≡ u.c → eqb t.d u.d ≡ spec_equal_symbols names t u
        symbols_upper g =
            sym (symbols_other ∙ rw (eq-eqb t.a u.a e, ne_eqb t.kind char_kind n₀, eq-eqb t.b u.b f, eq-eqb t.c u.c g) refl)

-- Two lists with first entries: equal by these and the rest.
heads_yes : {A : Type 0} {x y : A} {xs ys : List A} (d : Dec (x ≡ y)) (e : Dec (xs ≡ ys)) → is_yes (heads? d e) ≡ is_yes d && is_yes e
unfolding heads? is_yes
heads_yes (yes p) (yes q) = refl
heads_yes (yes p) (no n) = refl
heads_yes (no n) q = refl

-- ---- a store within its rules ----

-- What the rule of a term says by its kind: no kind past 4, a text in the names.
kind_low : (k : ℕ) (names : List ℕ) (below : List Term) (t : Term) → T (term_rule_k k names below t) → k ≤ unknown_kind
unfolding term_rule_k
kind_low zero names below t h = omega arith
kind_low (suc zero) names below t h = omega arith
kind_low (suc (suc zero)) names below t h = omega arith
kind_low (suc (suc (suc zero))) names below t h = omega arith
kind_low (suc (suc (suc (suc zero)))) names below t h = omega arith
kind_low (suc (suc (suc (suc (suc k))))) names below t h = absurd h

pub in_names : (k : ℕ) (names : List ℕ) (below : List Term) (t : Term) → T (term_rule_k k names below t) → InNames k names t
unfolding term_rule_k symbol_rule InNames
in_names zero names below t h = tt
in_names (suc zero) names below t h = text_within identifier_text names t.a t.b (both_of (text_rule identifier_text names t.a t.b) _ h).0
in_names (suc (suc zero)) names below t h = text_within number_text names t.a t.b (both_of (text_rule number_text names t.a t.b) _ h).0
in_names (suc (suc (suc k))) names below t h = tt

depth_in : (ts : List Term) (k : ℕ) → k < length ts → depth_k (get_or ts k no_term).kind (get_or ts k no_term) ≤ deepest ts
unfolding deepest
depth_in [] k h = absurd (omega arith)
depth_in (t ∷ ts) zero h = omega arith
depth_in (t ∷ ts) (suc k) h = omega (arith, depth_in ts k (omega arith))

-- A value that is no bracket's does not look below.
pub value_alone : (k : ℕ) (text : List ℕ) (t : Term) (below : List Value) → (k ≡ bracket_kind → ⊥) → value_k k text t below ≡ value_k k text t []
unfolding value_k
value_alone zero text t below h = refl
value_alone (suc zero) text t below h = refl
value_alone (suc (suc zero)) text t below h = refl
value_alone (suc (suc (suc zero))) text t below h = absurd (h refl)
value_alone (suc (suc (suc (suc k)))) text t below h = refl

value_bracket : (k : ℕ) (text : List ℕ) (t : Term) (below : List Value) → k ≡ bracket_kind → value_k k text t below ≡ bracketed (part below (contents_run t))
unfolding value_k
value_bracket k text t below e = rw e

-- A store that neither 1 nor 2 refuses.
within_rules : (a b : Bool) → unless a uneven (unless b bad_term 0) ≡ 0 → T a × T b
unfolding unless
within_rules true true e = (tt, tt)
within_rules true false e = absurd (omega arith)
within_rules false b e = absurd (omega arith)

-- The depth of term i, and the deepest of the n terms from s on: what falls with each call.
unfoldable pub depth_at : List ℕ → ℕ → ℕ
depth_at w i = depth_k (record_at term_layout w i).kind (record_at term_layout w i)

unfoldable pub deepest_in : List ℕ → ℕ → ℕ → ℕ
deepest_in w s n = deepest (run_of w s n)

pub depth_inside : (w : List ℕ) (s n k : ℕ) → k < n → depth_at w (s + k) ≤ deepest_in w s n
unfolding depth_at deepest_in run_of
depth_inside w s n k lt =
    let l = drop (s * term_layout.width) w in
    let e : get_or (decode term_layout n l) k no_term ≡ record_at term_layout w (s + k) = decode-at term_layout n k l no_term lt ∙ record_drop term_layout s k w in
    rw e at (depth_in (decode term_layout n l) k (omega (arith, decode-length term_layout n l)))

module _ (names w : List ℕ) (used : ℕ) where
  values_size : length (values_in names w used) ≡ used
  values_size = values_length names (decode term_layout used w) ∙ decode-length term_layout used w

  pub value_at : (i : ℕ) (t : Term) → i < used → t ≡ record_at term_layout w i
      → get_or (values_in names w used) i (char 0) ≡ value_of names t (take i (values_in names w used))
  unfolding values
  value_at i t lt e =
      table_at (value_of names) (decode term_layout used w) [] i i no_term (char 0) (omega (arith, decode-length term_layout used w)) (omega arith)
      ∙ ap (λ z. value_of names z (take i (values_in names w used))) (decode-at term_layout used i w no_term lt ∙ sym e)

  module _ (store : TermStore names w used) where
    rule-at : (i : ℕ) (t : Term) → i < used → t ≡ record_at term_layout w i → T (term_rule_k t.kind names (decode term_layout i w) t)
    rule-at i t lt e =
        let ts = decode term_layout used w in
        let r = rule_by_kind names (take i ts) (get_or ts i no_term) (term-at names [] ts i store.good (omega (arith, decode-length term_layout used w))) in
        rw (decode-below term_layout used i w (omega arith), decode-at term_layout used i w no_term lt, ← e) at r

    pub texts_at : (i j : ℕ) (t u : Term) → i < used → j < used → t ≡ record_at term_layout w i → u ≡ record_at term_layout w j → Texts names t u
    texts_at i j t u x y e f = record { left = in_names t.kind names _ t (rule-at i t x e); right = in_names u.kind names _ u (rule-at j u y f) }

    module _ (i : ℕ) (t : Term) (lt : i < used) (e : t ≡ record_at term_layout w i) (b : t.kind ≡ bracket_kind) where
      facts : BracketFacts (decode term_layout i w) t
      facts = bracket_of t.kind names (decode term_layout i w) t b (rule-at i t lt e)

      pub contents-below : t.a + t.b ≤ i
      contents-below = omega (arith, facts.inside, decode-length term_layout i w)

      pub contents_shallow : depth_at w i ≡ suc (deepest_in w t.a t.b)
      unfolding depth_at deepest_in run_of
      contents_shallow =
          rw (← e)
          (sym (depth_bracket t.kind t b) ∙ facts.depth ∙ ap (λ z. suc (deepest z)) (decode-part term_layout i t.a t.b w contents-below))

      value_held : get_or (values_in names w used) i (char 0) ≡ bracketed (part (values_in names w used) (contents_run t))
      unfolding value_of
      value_held =
          value_at i t lt e
          ∙ value_bracket t.kind _ t _ b
          ∙ ap bracketed (part-below (values_in names w used) t.a t.b i contents-below)

    -- ---- two terms of a store ----

    module _ (i j : ℕ) (t u : Term) (x : i < used) (y : j < used) (e : t ≡ record_at term_layout w i) (f : u ≡ record_at term_layout w j) where
      pub at_differ : (t.kind ≡ u.kind → ⊥) → false ≡ equal_at names w used i j
      unfolding equal_at
      at_differ n =
          let p = kind_low t.kind names _ t (rule-at i t x e) in
          let q = kind_low u.kind names _ u (rule-at j u y f) in
          rw (value_at i t x e, value_at j u y f) (sym (values_differ names t u _ _ (λ z. n (omega arith))))

      pub at_symbols : t.kind ≡ u.kind → (t.kind ≡ bracket_kind → ⊥) → spec_equal_symbols names t u ≡ equal_at names w used i j
      unfolding equal_at spec_equal_symbols value_of
      at_symbols s n =
          rw (value_at i t x e, value_at j u y f)
          (sym (ap₂ (λ v z. is_yes (same? (canon v) (canon z))) (value_alone t.kind _ t _ n) (value_alone u.kind _ u _ (λ q. n (s ∙ q)))))

      pub at_brackets : t.kind ≡ bracket_kind → t.kind ≡ u.kind → spec_equal_runs names w used t.a t.b u.a u.b ≡ equal_at names w used i j
      unfolding equal_at spec_equal_runs
      at_brackets b s =
          rw (value_held i t x e b, value_held j u y f (sym s ∙ b))
          (alike _ _ (λ q. canon_bracketed _ ∙ ap bracketed q ∙ sym (canon_bracketed _)) (λ q. equal_brackets _ _ q))

  -- ---- two runs of a store ----

  pub run_size : (s n : ℕ) → s + n ≤ used → length (forms (part (values_in names w used) (record { start = s; len = n }))) ≡ n
  run_size s n h = length-map (part (values_in names w used) (record { start = s; len = n })) canon ∙ part_length (values_in names w used) s n (omega (arith, values_size))

  pub runs_lengths : (s n p m : ℕ) → s + n ≤ used → p + m ≤ used → (n ≡ m → ⊥) → false ≡ spec_equal_runs names w used s n p m
  unfolding spec_equal_runs
  runs_lengths s n p m h k d = sym (is_no _ (λ q. d (sym (run_size s n h) ∙ ap length q ∙ run_size p m k)))

  pub runs_same : (s n p m : ℕ) → n ≡ m → s ≡ p → true ≡ spec_equal_runs names w used s n p m
  unfolding spec_equal_runs
  runs_same s n p m e f = rw (e, f) (sym (is_yes_lem _ refl))

  -- The runs without their first k terms: at first whole, then a term of each and the rest, at the end none.
  unfoldable pub runs_from : ℕ → ℕ → ℕ → ℕ → Bool
  runs_from s n p k = spec_equal_runs names w used (s + k) (n - k) (p + k) (n - k)

  pub runs-all : (s n p m : ℕ) → n ≡ m → spec_equal_runs names w used s n p m ≡ runs_from s n p 0
  unfolding runs_from
  runs-all s n p m e = rw (add-zero s, add-zero p, sub-zero n, e)

  pub first_of : (s n k : ℕ) → k < n → s + n ≤ used → forms (part (values_in names w used) (record { start = s + k; len = n - k }))
      ≡ canon (get_or (values_in names w used) (s + k) (char 0)) ∷ forms (part (values_in names w used) (record { start = s + (k + 1); len = n - (k + 1) }))
  first_of s n k lt h =
      let e : n - k ≡ suc (n - (k + 1)) = omega arith in
      let f : suc (s + k) ≡ s + (k + 1) = omega arith in
      let d : s + k < length (values_in names w used) = omega (arith, values_size) in
      ap forms (ap₂ take e (drop-cons (values_in names w used) (s + k) (char 0) d))
      ∙ ap (λ z. forms (get_or (values_in names w used) (s + k) (char 0) ∷ take (n - (k + 1)) (drop z (values_in names w used)))) f

  pub runs-more : (s n p k : ℕ) {b : Bool} → k < n → s + n ≤ used → p + n ≤ used → equal_at names w used (s + k) (p + k) ≡ b
      → runs_from s n p k ≡ b && runs_from s n p (k + 1)
  unfolding runs_from spec_equal_runs equal_at sames? list?
  runs-more s n p k lt h q e = rw (first_of s n k lt h, first_of p n k lt q, ← e) (heads_yes _ _)

  pub runs_none : (s n p k : ℕ) → n ≤ k → runs_from s n p k ≡ true
  unfolding runs_from spec_equal_runs
  runs_none s n p k h = let e : n - k ≡ 0 = omega arith in rw e (is_yes_lem _ refl)

  -- ---- a store that no number refuses ----

  module _ {number : ℕ} (e : number ≡ terms_number names w used) (z : number ≡ 0) where
    within : T (terms_counts names w used) × T (terms_rule names [] (decode term_layout used w))
    unfolding terms_number
    within = within_rules (terms_counts names w used) (terms_rule names [] (decode term_layout used w)) (sym e ∙ z)

    counted : used ≤ min (count term_layout w) limit
    unfolding terms_counts
    counted = leb→le _ _ (both_of (whole term_layout w && leb (length names) limit) (leb used (min (count term_layout w) limit)) within.0).1

    pub store_few : used ≤ limit
    store_few = omega (arith, counted)

    pub store_of : TermStore names w used
    store_of = record { fits = count_fits term_layout term_lays w used (omega (arith, counted)); good = within.1 }
