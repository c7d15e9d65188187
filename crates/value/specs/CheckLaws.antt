-- Laws of a store's rules, one for each exit of the code that decides them: the rule as what the tests on the way say of it.
use Rattle.std.specs.Prelude.{◌≡◌, List, [], ◌∷◌, Bool, true, false, ◌&&◌, leb, eqb}
use Rattle.std.proofs.Math.Path.{refl, ap, sym}
use Rattle.std.proofs.Common.{◌∙◌, add-one, arith}
use borrow.Author.Tests.{le-leb, lt-leb, eq-eqb, ne_eqb}
use Rattle.std.proofs.Math.Decide.{dec_lt}
use Rattle.std.proofs.lemmas.Bool.{false≢true}
use Rattle.std.proofs.Math.ListN.{length, drop}
use Rattle.std.proofs.Math.Seq.{drop-cons, drop-length}
use Prim.Native.Nat.{ℕ, suc, zero, ◌+◌, ◌/◌, ◌%◌, ◌<◌, ◌≤◌, min}
use Rattle.term_spec.specs.Words.{decode, record_at, count, whole}
use Rattle.term_spec.proofs.WordsLaws.{decode-at, decode-length, decode-part, decode-snoc}
use Rattle.term_spec.specs.Text.{text_rule}
use Rattle.term_spec.specs.Refusal.{uneven, bad_term}
use Rattle.term_spec.specs.Term.{Term, no_term, term_layout, char_kind, identifier_kind, number_kind, bracket_kind, unknown_kind, expression_unknown, limit, depth_limit}
use Rattle.term_spec.specs.Term.{is_scalar, depth_k, deepest, bracket_rule, symbol_rule, term_rule_k, upper_rule, term_rule, terms_rule}
use Rattle.text.specs.Texts.{spelling}
use Rattle.value.specs.Check.{run_of, unless, terms_counts, terms_number}

-- ---- depth ----

pub depth_bracket : (k : ℕ) (t : Term) → k ≡ bracket_kind → t.c ≡ depth_k k t
unfolding depth_k
depth_bracket k t e = rw e refl

pub depth_other : (k : ℕ) (t : Term) → (k ≡ bracket_kind → ⊥) → 0 ≡ depth_k k t
unfolding depth_k
depth_other zero t h = refl
depth_other (suc zero) t h = refl
depth_other (suc (suc zero)) t h = refl
depth_other (suc (suc (suc zero))) t h = absurd (h refl)
depth_other (suc (suc (suc (suc k)))) t h = refl

-- ---- a bracket ----

module _ (w : List ℕ) (i : ℕ) (t : Term) where
  pub bracket_out : i < t.a + t.b → false ≡ bracket_rule (decode term_layout i w) t
  unfolding bracket_rule
  bracket_out h = simp (decode-length, lt-leb _ _ h)

  -- contents below it, of depth d: its own depth decides
  module _ (h : t.a + t.b ≤ i) {d : ℕ} (e : d ≡ deepest (run_of w t.a t.b)) where
    bracket_within : {b : Bool} → eqb t.c (suc d) ≡ b → bracket_rule (decode term_layout i w) t ≡ b && leb t.c depth_limit
    unfolding bracket_rule run_of
    bracket_within q = rw (decode-length, le-leb (t.a + t.b) i h, decode-part term_layout i t.a t.b w h, ← e, q) refl

    pub bracket_wrong : (t.c ≡ suc d → ⊥) → false ≡ bracket_rule (decode term_layout i w) t
    bracket_wrong n = sym (bracket_within (ne_eqb _ _ n))

    pub bracket_exact : t.c ≡ suc d → leb t.c depth_limit ≡ bracket_rule (decode term_layout i w) t
    bracket_exact n = sym (bracket_within (eq-eqb _ _ n))

  pub bracket_flat : t.c ≡ 0 → t.a + t.b ≤ i → false ≡ bracket_rule (decode term_layout i w) t
  bracket_flat e h = bracket_wrong h refl (λ q. omega arith)

pub ruleset bracket_tests = (bracket_out, bracket_flat, bracket_wrong, bracket_exact)

-- ---- a symbol and a term, by kind ----

module _ (names : List ℕ) where
  pub symbol_char : (k a b c : ℕ) → k ≡ char_kind → {s z : Bool} → is_scalar a ≡ s → eqb b 0 ≡ z → symbol_rule k names a b c ≡ s && z && eqb c 0
  unfolding symbol_rule
  symbol_char k a b c e p q = rw (e, p, q) refl

  texts : (k a b c : ℕ) → (k ≡ char_kind → ⊥) → k ≤ number_kind → symbol_rule k names a b c ≡ text_rule (spelling k) names a b && eqb c 0
  unfolding symbol_rule text_rule spelling
  texts zero a b c n h = absurd (n refl)
  texts (suc zero) a b c n h = refl
  texts (suc (suc zero)) a b c n h = refl
  texts (suc (suc (suc k))) a b c n h = absurd (omega arith)

  pub symbol_text : (k a b c : ℕ) → (k ≡ char_kind → ⊥) → k ≤ number_kind → {s : Bool} → text_rule (spelling k) names a b ≡ s → symbol_rule k names a b c ≡ s && eqb c 0
  symbol_text k a b c n h e = texts k a b c n h ∙ ap (◌&& eqb c 0) e

  pub symbol_none : (k a b c : ℕ) → number_kind < k → symbol_rule k names a b c ≡ false
  unfolding symbol_rule
  symbol_none zero a b c h = absurd (omega arith)
  symbol_none (suc zero) a b c h = absurd (omega arith)
  symbol_none (suc (suc zero)) a b c h = absurd (omega arith)
  symbol_none (suc (suc (suc k))) a b c h = refl

  -- each kind by its name, as a test by cases has it
  pub symbol_is_char : {k : ℕ} (a b c : ℕ) → char_kind ≡ k → symbol_rule k names a b c ≡ is_scalar a && eqb b 0 && eqb c 0
  unfolding symbol_rule
  symbol_is_char a b c e = rw (sym e) refl

  pub symbol_is_identifier : {k : ℕ} (a b c : ℕ) → identifier_kind ≡ k → symbol_rule k names a b c ≡ text_rule (spelling identifier_kind) names a b && eqb c 0
  unfolding symbol_rule text_rule spelling
  symbol_is_identifier a b c e = rw (sym e) refl

  pub symbol_is_number : {k : ℕ} (a b c : ℕ) → number_kind ≡ k → symbol_rule k names a b c ≡ text_rule (spelling number_kind) names a b && eqb c 0
  unfolding symbol_rule text_rule spelling
  symbol_is_number a b c e = rw (sym e) refl

  pub symbol_is_none : {k : ℕ} (a b c : ℕ) → number_kind < k → symbol_rule k names a b c ≡ false
  symbol_is_none a b c h = symbol_none _ a b c h

  -- the kinds with a text as the kind itself asks it, and all others, as tests of one kind after another have them
  pub symbol_asks_identifier : {k : ℕ} (a b c : ℕ) → k ≡ identifier_kind → symbol_rule k names a b c ≡ text_rule (spelling k) names a b && eqb c 0
  unfolding symbol_rule text_rule spelling
  symbol_asks_identifier a b c e = rw e refl

  pub symbol_asks_number : {k : ℕ} (a b c : ℕ) → k ≡ number_kind → symbol_rule k names a b c ≡ text_rule (spelling k) names a b && eqb c 0
  unfolding symbol_rule text_rule spelling
  symbol_asks_number a b c e = rw e refl

  pub symbol_is_other : {k : ℕ} (a b c : ℕ) → (k ≡ char_kind → ⊥) → (k ≡ identifier_kind → ⊥) → (k ≡ number_kind → ⊥) → symbol_rule k names a b c ≡ false
  symbol_is_other a b c h i m = symbol_none _ a b c (omega arith)

pub ruleset symbol_kinds = (symbol_is_char, symbol_is_identifier, symbol_is_number, symbol_is_none)

pub ruleset symbol_tests = (symbol_is_char, symbol_asks_identifier, symbol_asks_number, symbol_is_other)

pub upper_unknown : (t : Term) → t.kind ≡ unknown_kind → true ≡ upper_rule t
upper_unknown t e = rw (eq-eqb t.kind unknown_kind e) refl

pub upper_other : (t : Term) → (t.kind ≡ unknown_kind → ⊥) → eqb t.d 0 ≡ upper_rule t
upper_other t n = rw (ne_eqb t.kind unknown_kind n) refl

module _ (names : List ℕ) (below : List Term) where
  symbols : (k : ℕ) (t : Term) → k < bracket_kind → term_rule_k k names below t ≡ symbol_rule k names t.a t.b t.c
  unfolding term_rule_k
  symbols zero t h = refl
  symbols (suc zero) t h = refl
  symbols (suc (suc zero)) t h = refl
  symbols (suc (suc (suc k))) t h = absurd (omega arith)

  others : (k : ℕ) (t : Term) → unknown_kind < k → term_rule_k k names below t ≡ false
  unfolding term_rule_k
  others zero t h = absurd (omega arith)
  others (suc zero) t h = absurd (omega arith)
  others (suc (suc zero)) t h = absurd (omega arith)
  others (suc (suc (suc zero))) t h = absurd (omega arith)
  others (suc (suc (suc (suc zero)))) t h = absurd (omega arith)
  others (suc (suc (suc (suc (suc k))))) t h = refl

  pub term_upper : (t : Term) {r : Bool} → r ≡ upper_rule t → r ≡ false → false ≡ term_rule names below t
  unfolding term_rule
  term_upper t e f = let u = sym e ∙ f in rw u refl

  -- the fifth word is as it should be: the kind decides
  module _ (t : Term) {r : Bool} (answer : r ≡ upper_rule t) (good : r ≡ true) where
    u : upper_rule t ≡ true
    u = sym answer ∙ good

    pub term_symbol : t.kind < bracket_kind → symbol_rule t.kind names t.a t.b t.c ≡ term_rule names below t
    unfolding term_rule
    term_symbol h = rw u (sym (symbols t.kind t h))

    pub term_bracket : t.kind ≡ bracket_kind → bracket_rule below t ≡ term_rule names below t
    unfolding term_rule term_rule_k
    term_bracket e = rw (u, e) refl

    pub term_unknown : t.kind ≡ unknown_kind → leb t.a expression_unknown ≡ term_rule names below t
    unfolding term_rule term_rule_k
    term_unknown e = rw (u, e) refl

    pub term_none : unknown_kind < t.kind → false ≡ term_rule names below t
    unfolding term_rule
    term_none h = rw u (sym (others t.kind t h))

  -- each kind by its name, as a test by cases has it
  pub term_is_uneven : (t : Term) → upper_rule t ≡ false → term_rule names below t ≡ false
  term_is_uneven t e = sym (term_upper t {r = false} (sym e) refl)

  module _ (t : Term) (good : upper_rule t ≡ true) where
    pub term_is_bracket : bracket_kind ≡ t.kind → term_rule names below t ≡ bracket_rule below t
    term_is_bracket e = sym (term_bracket t {r = true} (sym good) refl (sym e))

    pub term_is_unknown : unknown_kind ≡ t.kind → term_rule names below t ≡ leb t.a expression_unknown
    term_is_unknown e = sym (term_unknown t {r = true} (sym good) refl (sym e))

    pub term_is_symbol : t.kind < bracket_kind → term_rule names below t ≡ symbol_rule t.kind names t.a t.b t.c
    term_is_symbol h = sym (term_symbol t {r = true} (sym good) refl h)

    -- a kind that no term has is no symbol's either
    pub term_is_none : unknown_kind < t.kind → term_rule names below t ≡ symbol_rule t.kind names t.a t.b t.c
    term_is_none h = sym (term_none t {r = true} (sym good) refl h) ∙ sym (symbol_none names t.kind t.a t.b t.c (omega arith))

    -- a symbol within its rule, and what is none and of no other kind
    symbol_low : (k : ℕ) → symbol_rule k names t.a t.b t.c ≡ true → k < bracket_kind
    unfolding symbol_rule
    symbol_low zero q = omega arith
    symbol_low (suc zero) q = omega arith
    symbol_low (suc (suc zero)) q = omega arith
    symbol_low (suc (suc (suc k))) q = absurd (false≢true q)

    pub term_is_good : symbol_rule t.kind names t.a t.b t.c ≡ true → term_rule names below t ≡ true
    term_is_good e = term_is_symbol (symbol_low t.kind e) ∙ e

    pub term_is_bad : symbol_rule t.kind names t.a t.b t.c ≡ false → (t.kind ≡ bracket_kind → ⊥) → (t.kind ≡ unknown_kind → ⊥) → term_rule names below t ≡ false
    term_is_bad e b u = go (dec_lt t.kind bracket_kind)
      where
        go : Dec (t.kind < bracket_kind) → term_rule names below t ≡ false
        go (yes h) = term_is_symbol h ∙ e
        go (no n) = term_is_none (omega arith) ∙ e

    -- what is no bracket and no unknown, as tests of one kind after another have it
    pub term_is_other : (t.kind ≡ bracket_kind → ⊥) → (t.kind ≡ unknown_kind → ⊥) → term_rule names below t ≡ symbol_rule t.kind names t.a t.b t.c
    term_is_other b u = go (dec_lt t.kind bracket_kind)
      where
        go : Dec (t.kind < bracket_kind) → term_rule names below t ≡ symbol_rule t.kind names t.a t.b t.c
        go (yes h) = term_is_symbol h
        go (no n) = term_is_none (omega arith)

  -- an unknown, whose fifth word may be any
  pub term_is_any_unknown : (t : Term) → unknown_kind ≡ t.kind → term_rule names below t ≡ leb t.a expression_unknown
  term_is_any_unknown t e = term_is_unknown t (sym (upper_unknown t (sym e))) e

pub ruleset term_kinds = (term_is_uneven, term_is_bracket, term_is_unknown, term_is_good, term_is_bad)

pub ruleset term_tests = (term_is_any_unknown, term_is_uneven, term_is_bracket, term_is_other)

-- ---- the terms of a store, from term i on ----

-- The rule of the terms from i on, those below them passed.
unfoldable pub rest_rule : List ℕ → List ℕ → ℕ → ℕ → Bool
rest_rule names w used i = terms_rule names (decode term_layout i w) (drop i (decode term_layout used w))

module _ (names w : List ℕ) (used : ℕ) where
  pub rest_all : terms_rule names [] (decode term_layout used w) ≡ rest_rule names w used 0
  unfolding rest_rule decode
  rest_all = refl

  pub rest_more : (i : ℕ) {t : Term} {b : Bool} → i < used → t ≡ record_at term_layout w i → term_rule names (decode term_layout i w) t ≡ b
      → rest_rule names w used i ≡ b && rest_rule names w used (i + 1)
  unfolding rest_rule terms_rule
  rest_more i h r e =
      let ts = decode term_layout used w in
      let d : drop i ts ≡ record_at term_layout w i ∷ drop (suc i) ts =
      drop-cons ts i no_term (omega (arith, decode-length term_layout used w)) ∙ ap (◌∷ drop (suc i) ts) (decode-at term_layout used i w no_term h) in
      rw (add-one, d, terms_rule, ← r, e, r, ← decode-snoc term_layout i w) refl

  pub rest_none : rest_rule names w used used ≡ true
  unfolding rest_rule terms_rule
  rest_none =
      let ts = decode term_layout used w in
      let e : length ts ≡ used = decode-length term_layout used w in
      ap (terms_rule names ts) (ap (λ n. drop n ts) (sym e) ∙ drop-length ts)

-- ---- a store's number ----

module _ (names w : List ℕ) (used : ℕ) where
  number-uneven : terms_counts names w used ≡ false → uneven ≡ terms_number names w used
  unfolding terms_number unless
  number-uneven e = rw e refl

  pub number-whole : (length w % term_layout.width ≡ 0 → ⊥) → uneven ≡ terms_number names w used
  unfolding terms_counts whole
  number-whole n = number-uneven (simp (ne_eqb _ _ n))

  pub number_names : length w % term_layout.width ≡ 0 → limit < length names → uneven ≡ terms_number names w used
  unfolding terms_counts whole
  number_names e n = number-uneven (simp (eq-eqb _ _ e, lt-leb _ _ n))

  pub number_used : length w % term_layout.width ≡ 0 → length names ≤ limit → min (length w / term_layout.width) limit < used → uneven ≡ terms_number names w used
  unfolding terms_counts whole count
  number_used e m n = number-uneven (simp (eq-eqb _ _ e, le-leb _ _ m, lt-leb _ _ n))

  counts : length w % term_layout.width ≡ 0 → length names ≤ limit → used ≤ min (length w / term_layout.width) limit → terms_counts names w used ≡ true
  unfolding terms_counts whole count
  counts e m n = simp (eq-eqb _ _ e, le-leb _ _ m, le-leb _ _ n)

  pub number-terms : length w % term_layout.width ≡ 0 → length names ≤ limit → used ≤ min (length w / term_layout.width) limit → {b : Bool} → b ≡ terms_rule names [] (decode term_layout used w)
      → unless b bad_term 0 ≡ terms_number names w used
  unfolding terms_number unless
  number-terms e m n q = rw (counts e m n, q) refl
