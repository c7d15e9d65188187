-- Equal terms have one key; and a term's key looks only at the numbers of its contents.
use Rattle.std.specs.Prelude.{◌≡◌, List, [], map, true, ◌&&◌, T, eqb, set, drop, ℕ, suc, zero, ◌%◌, ◌<◌, ◌≤◌}
use Rattle.std.proofs.Math.Path.{refl, ap, sym}
use Rattle.std.proofs.Common.{ap₂, ◌∙◌, eqb→eq, arith}
use Rattle.std.proofs.Math.ListN.{take}
use Rattle.std.proofs.lemmas.List.{take-set-le}
use Rattle.std.proofs.Math.Decide.{ℕ_discrete}
use Rattle.term_spec.proofs.BoolLaws.{both_of, true-T, T_true}
use Rattle.term_spec.proofs.ListLaws.{part-below}
use Rattle.term_spec.specs.Words.{decode, record_at}
use Rattle.term_spec.proofs.WordsLaws.{decode-length, decode-at, decode-below}
use Rattle.term_spec.specs.Text.{lower, text_at, stripped}
use Rattle.term_spec.specs.Term.{Term, term_layout, no_term, char_kind, bracket_kind, is_scalar, symbol_rule, term_rule_k, upper_rule, term_rule}
use Rattle.term_spec.proofs.TermLaws.{term-at}
use Rattle.term_spec.specs.Value.{value_k, value_of, canon}
use Rattle.term_spec.proofs.ValueLaws.{yes_of}
use Rattle.value.specs.CheckLaws.{upper_other}
use Rattle.value.specs.Equal.{TermStore, spec_equal_symbols, equal_at, spec_equal_runs}
use Rattle.value.specs.EqualLaws.{contents-below, at_differ, at_symbols, at_brackets, runs_lengths}
use Rattle.numbers.specs.Digest.{more, digest, digit}
use Rattle.numbers.specs.DigestLaws.{digest-stripped}
use Rattle.numbers.specs.Buckets.{buckets}
use Rattle.numbers.specs.Numbers.{Numbers, symbol_key, term_key, key_of, key_at}
use Rattle.numbers.specs.KeyLaws.{key_bracket, key_symbol}
use Rattle.numbers.specs.NumbersLaws.{never, numbers_same}

pub key_below : (base : ℕ) (names numbers : List ℕ) (t : Term) → key_of base names numbers t < buckets
unfolding key_of
key_below base names numbers t = omega arith

-- ---- symbols ----

-- The words of a Char after its first are 0.
pub record Plain (t : Term) : Type 0 where
  pub b : t.b ≡ 0
  pub c : t.c ≡ 0
  pub d : t.d ≡ 0

char_words : (k : ℕ) (names : List ℕ) (below : List Term) (t : Term) → k ≡ char_kind → T (term_rule_k k names below t) → (t.b ≡ 0) × (t.c ≡ 0)
unfolding term_rule_k symbol_rule
char_words zero names below t e h =
    let (x, y) = both_of (is_scalar t.a && eqb t.b 0) (eqb t.c 0) h in
    let (u, v) = both_of (is_scalar t.a) (eqb t.b 0) x in
    (eqb→eq _ _ v, eqb→eq _ _ y)
char_words (suc k) names below t e h = absurd (omega arith)

char_plain : (names : List ℕ) (below : List Term) (t : Term) → t.kind ≡ char_kind → T (term_rule names below t) → Plain t
unfolding term_rule
char_plain names below t e h =
    let (x, y) = both_of (upper_rule t) (term_rule_k t.kind names below t) h in
    let (u, v) = char_words t.kind names below t e y in
    record { b = u; c = v; d = eqb→eq _ _ (true-T _ (upper_other t (λ q. omega arith) ∙ T_true _ x)) }

-- Symbols of one form have one key.
symbols_key : (base k : ℕ) (names : List ℕ) (t u : Term) → (k ≡ bracket_kind → ⊥) → (k ≡ char_kind → Plain t × Plain u)
    → canon (value_k k (text_at names t.a t.b) t []) ≡ canon (value_k k (text_at names u.a u.b) u [])
    → symbol_key base k names t ≡ symbol_key base k names u
unfolding symbol_key value_k canon
symbols_key base zero names t u n plain e =
    let (p, q) = plain refl in
    let a : t.a ≡ u.a = cc in
    let b : t.b ≡ u.b = p.b ∙ sym q.b in
    let c : t.c ≡ u.c = p.c ∙ sym q.c in
    let d : t.d ≡ u.d = p.d ∙ sym q.d in
    ap (digest base) (cc)
symbols_key base (suc zero) names t u n plain e =
    let f : map lower (text_at names t.a t.b) ≡ map lower (text_at names u.a u.b) = cc in
    ap (digest base) f
symbols_key base (suc (suc zero)) names t u n plain e =
    let f : stripped (text_at names t.a t.b) ≡ stripped (text_at names u.a u.b) = cc in
    sym (digest-stripped base (text_at names t.a t.b)) ∙ ap (λ z. digest base (map digit z)) f ∙ digest-stripped base (text_at names u.a u.b)
symbols_key base (suc (suc (suc zero))) names t u n plain e = absurd (n refl)
symbols_key base (suc (suc (suc (suc k)))) names t u n plain e =
    let a : t.a ≡ u.a = cc in
    let b : t.b ≡ u.b = cc in
    let c : t.c ≡ u.c = cc in
    let d : t.d ≡ u.d = cc in
    ap (digest base) (cc)

-- ---- terms of a store ----

module _ (base : ℕ) (names w : List ℕ) (used : ℕ) (store : TermStore names w used) where
  rule-at : (i : ℕ) → i < used → T (term_rule names (decode term_layout i w) (record_at term_layout w i))
  rule-at i lt =
      let ts = decode term_layout used w in
      let r = term-at names [] ts i store.good (omega (arith, decode-length term_layout used w)) in
      rw (decode-below term_layout used i w (omega arith), decode-at term_layout used i w no_term lt) at r

  plain_at : (i : ℕ) → i < used → (record_at term_layout w i).kind ≡ char_kind → Plain (record_at term_layout w i)
  plain_at i lt e = char_plain names (decode term_layout i w) (record_at term_layout w i) e (rule-at i lt)

  -- A key is the same with other numbers from its own place on.
  pub key_set : (numbers : List ℕ) (i k v : ℕ) → i < used → i ≤ k → key_at base names w (set numbers k v) i ≡ key_at base names w numbers i
  unfolding key_of
  key_set numbers i k v lt le = let t = record_at term_layout w i in ap (λ h. more base h 0 % buckets) (go t refl (ℕ_discrete t.kind bracket_kind))
    where
      go : (t : Term) → t ≡ record_at term_layout w i → Dec (t.kind ≡ bracket_kind)
          → term_key base t.kind names (set numbers k v) t ≡ term_key base t.kind names numbers t
      go t e (yes b) =
          let low = contents-below names w used store i t lt e b in
          let same : take t.b (drop t.a (set numbers k v)) ≡ take t.b (drop t.a numbers) =
          sym (part-below (set numbers k v) t.a t.b i low) ∙ ap (λ z. take t.b (drop t.a z)) (take-set-le i numbers k v le)
          ∙ part-below numbers t.a t.b i low in
          key_bracket base t.kind names (set numbers k v) t b ∙ ap (λ z. more base (digest base z) t.b) same
          ∙ sym (key_bracket base t.kind names numbers t b)
      go t e (no n) = key_symbol base t.kind names (set numbers k v) t n ∙ sym (key_symbol base t.kind names numbers t n)

  -- Equal terms have one key.
  module _ (numbers : List ℕ) (i k : ℕ) (lt : i < k) (inside : k < used) (known : Numbers names w used k numbers)
      (equal : equal_at names w used i k ≡ true) where
    abbrev t : Term
    t = record_at term_layout w i

    abbrev u : Term
    u = record_at term_layout w k

    one_kind : Dec (t.kind ≡ u.kind) → t.kind ≡ u.kind
    one_kind (yes q) = q
    one_kind (no n) = never equal (sym (at_differ names w used store i k t u (omega arith) inside refl refl n))

    same : t.kind ≡ u.kind
    same = one_kind (ℕ_discrete t.kind u.kind)

    brackets_key : t.kind ≡ bracket_kind → term_key base t.kind names numbers t ≡ term_key base u.kind names numbers u
    brackets_key b = go (ℕ_discrete t.b u.b)
      where
        runs : spec_equal_runs names w used t.a t.b u.a u.b ≡ true
        runs = at_brackets names w used store i k t u (omega arith) inside refl refl b same ∙ equal

        go : Dec (t.b ≡ u.b) → term_key base t.kind names numbers t ≡ term_key base u.kind names numbers u
        go (yes q) =
            let first = contents-below names w used store i t (omega arith) refl b in
            let second = contents-below names w used store k u inside refl (sym same ∙ b) in
            let e = ap (spec_equal_runs names w used t.a t.b u.a) q ∙ runs in
            let alike = numbers_same names w used k numbers known (omega arith) t.a u.a t.b (omega arith) (omega arith) e in
            key_bracket base t.kind names numbers t b
            ∙ ap₂ (λ z n. more base (digest base z) n) (alike ∙ ap (λ n. take n (drop u.a numbers)) q) q
            ∙ sym (key_bracket base u.kind names numbers u (sym same ∙ b))
        go (no n) =
            let first = contents-below names w used store i t (omega arith) refl b in
            let second = contents-below names w used store k u inside refl (sym same ∙ b) in
            never runs (sym (runs_lengths names w used t.a t.b u.a u.b (omega arith) (omega arith) n))

    alone_key : (t.kind ≡ bracket_kind → ⊥) → term_key base t.kind names numbers t ≡ term_key base u.kind names numbers u
    unfolding spec_equal_symbols value_of
    alone_key n =
        let form = yes_of _ (at_symbols names w used store i k t u (omega arith) inside refl refl same n ∙ equal) in
        key_symbol base t.kind names numbers t n
        ∙ symbols_key base t.kind names t u n (λ z. (plain_at i (omega arith) z, plain_at k inside (sym same ∙ z)))
        (form ∙ ap (λ z. canon (value_k z (text_at names u.a u.b) u [])) (sym same))
        ∙ ap (λ z. symbol_key base z names u) same
        ∙ sym (key_symbol base u.kind names numbers u (λ q. n (same ∙ q)))

    pub equal_key : key_at base names w numbers i ≡ key_at base names w numbers k
    unfolding key_of
    equal_key = ap (λ h. more base h 0 % buckets) (go (ℕ_discrete t.kind bracket_kind))
      where
        go : Dec (t.kind ≡ bracket_kind) → term_key base t.kind names numbers t ≡ term_key base u.kind names numbers u
        go (yes b) = brackets_key b
        go (no n) = alone_key n
