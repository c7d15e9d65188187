-- Laws of two terms that were read and of two runs, whatever number of used terms a store within its rules has them in.
use Rattle.std.specs.Prelude.{◌≡◌, List, Bool, true, false, ◌&&◌, ℕ, suc, ◌+◌, ◌<◌}
use Rattle.std.proofs.Common.{refl, sym, ◌∙◌, add-zero, arith}
use Rattle.term_spec.specs.Words.{record_at}
use Rattle.term_spec.specs.Term.{Term, Run, term_layout, char_kind, bracket_kind, contents_run}
use Rattle.value.specs.Equal.{Texts, spec_equal_symbols, equal_at}
use Rattle.value.specs.EqualLaws.{depth_at, deepest_in, texts_at, symbols_apart, symbols_chars, contents-below, contents_shallow, at_differ, at_symbols}
use Rattle.value.specs.EqualLaws.{at_brackets, runs_from, runs-all, runs-more}
use Rattle.equality.specs.Within.{TermsIn, RunsIn, same_runs}

-- ---- two terms that were read ----

pub record Two (names w : List ℕ) (i j : ℕ) (t u : Term) (used : ℕ) : Type 0 where
  pub inside : TermsIn names w i j used
  pub left : t ≡ record_at term_layout w i
  pub right : u ≡ record_at term_layout w j

module _ {names w : List ℕ} {i j : ℕ} {t u : Term} {used : ℕ} (two : Two names w i j t u used) where
  pub two_differ : (t.kind ≡ u.kind → ⊥) → false ≡ equal_at names w used i j
  two_differ n =
      at_differ names w used two.inside.store i j t u two.inside.first two.inside.second two.left two.right n

  pub two_texts : Texts names t u
  two_texts = texts_at names w used two.inside.store i j t u two.inside.first two.inside.second two.left two.right

  pub two_symbols : t.kind ≡ u.kind → (t.kind ≡ bracket_kind → ⊥) → spec_equal_symbols names t u ≡ equal_at names w used i j
  two_symbols s n =
      at_symbols names w used two.inside.store i j t u two.inside.first two.inside.second two.left two.right s n

  -- two Chars: equal by their first words
  module _ (z : t.kind ≡ char_kind) (s : t.kind ≡ u.kind) where
    two_alone : spec_equal_symbols names t u ≡ equal_at names w used i j
    two_alone = two_symbols s (λ q. omega arith)

    pub two_chars : t.a ≡ u.a → equal_at names w used i j ≡ true
    two_chars e = sym (symbols_chars names t u s (λ q. omega arith) (λ q. omega arith) (λ q. omega arith) z e ∙ two_alone)

    pub two_chars_apart : (t.a ≡ u.a → ⊥) → equal_at names w used i j ≡ false
    two_chars_apart n = sym (symbols_apart names t u s (λ q. omega arith) (λ q. omega arith) (λ q. omega arith) n ∙ two_alone)

  -- two brackets: equal if their contents are, which lie below them and are less deep
  module _ (b : t.kind ≡ bracket_kind) (s : t.kind ≡ u.kind) where
    pub two_brackets : same_runs names w used (contents_run t) (contents_run u) ≡ equal_at names w used i j
    two_brackets =
        at_brackets names w used two.inside.store i j t u two.inside.first two.inside.second two.left two.right b s

    pub two-contents : RunsIn names w (contents_run t) (contents_run u) used
    two-contents =
        let x = contents-below names w used two.inside.store i t two.inside.first two.left b in
        let y = contents-below names w used two.inside.store j u two.inside.second two.right (sym s ∙ b) in
        record {
          store = two.inside.store;
          few = two.inside.few;
          first = omega (arith, two.inside.first);
          second = omega (arith, two.inside.second);
        }

    pub two_shallow : depth_at w i ≡ suc (deepest_in w t.a t.b)
    two_shallow = contents_shallow names w used two.inside.store i t two.inside.first two.left b

    -- the same of their contents as runs that were read
    module _ {r q : Run} (first : r ≡ contents_run t) (second : q ≡ contents_run u) where
      pub two_alike : same_runs names w used r q ≡ equal_at names w used i j
      two_alike = rw (first, second) two_brackets

      pub two_inside : RunsIn names w r q used
      two_inside = rw (first, second) two-contents

      pub two_less : {d : ℕ} → d ≡ deepest_in w r.start r.len → d < depth_at w i
      two_less e =
          let less = two_shallow in
          let same : deepest_in w r.start r.len ≡ deepest_in w t.a t.b = rw first refl in
          omega arith

-- ---- two runs, term by term ----

module _ {names w : List ℕ} {r q : Run} {used k : ℕ} (lies : RunsIn names w r q used) (same : r.len ≡ q.len) (more : k < r.len) where
  pub terms-inside : TermsIn names w (r.start + k) (q.start + k) used
  terms-inside = record {
    store = lies.store;
    few = lies.few;
    first = omega (arith, lies.first);
    second = omega (arith, lies.second);
  }

  pub runs_next : {b : Bool} → equal_at names w used (r.start + k) (q.start + k) ≡ b
      → runs_from names w used r.start r.len q.start k ≡ b && runs_from names w used r.start r.len q.start (k + 1)
  runs_next e = runs-more names w used r.start r.len q.start k more lies.first (omega (arith, lies.second)) e

-- The first terms of two runs, and runs that differ in them.
module _ {names w : List ℕ} {r q : Run} {used : ℕ} (lies : RunsIn names w r q used) (same : r.len ≡ q.len) (some : r.len ≡ 0 → ⊥) where
  pub firsts_inside : TermsIn names w r.start q.start used
  firsts_inside = rw (add-zero r.start, add-zero q.start) at (terms-inside {k = 0} lies same (omega arith))

  pub runs-apart : equal_at names w used r.start q.start ≡ false → same_runs names w used r q ≡ false
  runs-apart e =
      runs-all names w used _ _ _ _ same
      ∙ runs_next lies same (omega arith) {b = false} (rw (add-zero r.start, add-zero q.start) e)
