-- Laws of the splits where a rigid run fits: where its first record cannot fit the run does not, and the first split that fits is found by
-- passing over those that do not.
use Rattle.std.specs.Prelude.{◌≡◌, refl, List, Bool, true, false, eqb, length, get_or, drop, ℕ, ◌+◌, ◌-◌, ◌/◌, ◌<◌, ◌≤◌}
use Rattle.std.proofs.Common.{sym, ap, subst, ◌∙◌, eq-eqb, ne_eqb, arith}
use Rattle.std.proofs.Math.Decide.{ℕ_discrete, dec_lt}
use Rattle.term_spec.specs.Words.{decode, record_at, count}
use Rattle.term_spec.specs.Term.{Term, Run, term_layout}
use Rattle.match_spec.specs.Pattern.{Item, item_layout}
use Rattle.value.specs.Equal.{spec_equal_symbols}
use Rattle.value.specs.EqualLaws.{symbols_differ, symbols_apart}
use Rattle.steps.specs.declared.State.{State}
use Rattle.steps.specs.State.{pattern_in, back_of}
use Rattle.items.specs.Records.{term_of_item}
use Rattle.steps.specs.PatternAtLaws.{pattern_at}
use Rattle.rigid.specs.Fit.{fits_at, split_fits, fits_term, Apart, kinds, chars, ApartAt, FirstFit}
use Rattle.rigid.specs.FitLaws.{term_bracket, term_literal, fit_not}

-- ---- a first record that cannot fit ----

literal_apart : (names : List ℕ) (t : Item) (u : Term) → t.kind < 3 → Apart t u → false ≡ spec_equal_symbols names (term_of_item t) u
literal_apart names t u h (kinds n) = symbols_differ names (term_of_item t) u h (λ e. n (sym e))
literal_apart names t u h (chars z n) = go (ℕ_discrete t.kind u.kind)
  where
    go : Dec (t.kind ≡ u.kind) → false ≡ spec_equal_symbols names (term_of_item t) u
    go (yes e) = symbols_apart names (term_of_item t) u e (λ q. omega arith) (λ q. omega arith) (λ q. omega arith) (λ q. n (sym q))
    go (no d) = symbols_differ names (term_of_item t) u h d

bracket_apart : (t : Item) (u : Term) → t.kind ≡ 3 → Apart t u → u.kind ≡ 3 → ⊥
bracket_apart t u h (kinds n) e = n (e ∙ sym h)
bracket_apart t u h (chars z n) e = omega arith

module _ (names w : List ℕ) (used i : ℕ) (t : Item) (lt : i < used) (low : t.kind < 4) (apart : Apart t (record_at term_layout w i)) where
  term-apart : false ≡ fits_term names (decode term_layout used w) t i
  term-apart = go (ℕ_discrete t.kind 3)
    where
      go : Dec (t.kind ≡ 3) → false ≡ fits_term names (decode term_layout used w) t i
      go (yes e) = sym (ne_eqb (record_at term_layout w i).kind 3 (bracket_apart t (record_at term_layout w i) e apart)) ∙ term_bracket names w used i t (record_at term_layout w i) lt refl e
      go (no n) = term_literal names w used i t (record_at term_layout w i) lt refl (omega arith) (literal_apart names t (record_at term_layout w i) (omega arith) apart)

-- Why a run may not begin at a term, exit by exit of the code.
module _ (t : Item) (u v : Term) (at : u ≡ v) where
  pub begin_kinds : eqb u.kind t.kind ≡ false → Apart t v
  begin_kinds b = subst (Apart t) at (kinds (λ q. let y : true ≡ false = sym (eq-eqb u.kind t.kind q) ∙ b in let x : ◌≡◌ {A = ℕ} 0 1 = cc in omega arith))

  pub begin_chars : t.kind ≡ 0 → (u.a ≡ t.a → ⊥) → Apart t v
  begin_chars z n = subst (Apart t) at (chars z n)

-- What holds from `from` on below i, and of i, holds below i + 1.
pub from_more : (P : ℕ → Type 0) (from i : ℕ) → ((h : ℕ) → from ≤ h → h < i → P h) → P i → (h : ℕ) → from ≤ h → h < i + 1 → P h
from_more P from i all one h a b = elim (dec_lt h i) [ yes l ↦ all h a l | no l ↦ let e : i ≡ h = omega arith in subst P e one ]

-- The run from record p on does not fit at a split where record p cannot.
pub split_apart : (names w : List ℕ) (used : ℕ) (pattern numbers : List ℕ) (p m : ℕ) (binds : List ℕ) (r : Run) → 1 ≤ r.len → r.start + r.len ≤ used
    → ApartAt w pattern p r.start → fits_at names w used m binds (drop p (pattern_in names pattern numbers)) 0 r ≡ false
split_apart names w used pattern numbers p m binds r some inside a =
    let t = record_at item_layout pattern p in
    let n : t.kind ≡ 4 → ⊥ = λ q. omega (arith, a.low) in
    let s : r.len ≡ 0 → ⊥ = λ q. omega arith in
    ap (λ z. fits_at names w used m binds z 0 r) (pattern_at names pattern numbers p a.there refl refl)
    ∙ fit_not names w used t (get_or numbers p 0) m binds r (drop (p + 1) (pattern_in names pattern numbers)) (omega (arith, a.low)) n inside s
    (term-apart names w used r.start t (omega arith) a.low a.apart) refl

pub apart-at : (w pattern : List ℕ) (p i : ℕ) (t : Item) → t ≡ record_at item_layout pattern p → p < length pattern / 4 → t.kind < 4 → Apart t (record_at term_layout w i)
    → ApartAt w pattern p i
unfolding count
apart-at w pattern p i t e h l a = record {
  there = h;
  low = subst (λ (z : Item). z.kind < 4) e l;
  apart = subst (λ (z : Item). Apart z (record_at term_layout w i)) e a;
}

-- What the test says at the place after j terms.
pub at_split : (names w : List ℕ) (used : ℕ) (pattern numbers : List ℕ) (p : ℕ) (binds : List ℕ) (s g : State) (j : ℕ) {b : Bool}
    → g ≡ record { start = s.start + j; len = s.len - j; depth = s.depth; bound = s.bound }
    → b ≡ fits_at names w used g.bound binds (drop p (pattern_in names pattern numbers)) 0 (record { start = g.start; len = g.len })
    → split_fits names w used pattern numbers p s.bound binds (record { start = s.start; len = s.len }) j ≡ b
at_split names w used pattern numbers p binds s g j e h =
    sym (h ∙ ap (λ (z : State). fits_at names w used z.bound binds (drop p (pattern_in names pattern numbers)) 0 (record { start = z.start; len = z.len })) e)

-- ---- passing over splits ----

-- From k on all below j fail.
pub record Passed (f : ℕ → Bool) (k n j : ℕ) : Type 0 where
  pub low : k ≤ j
  pub high : j ≤ n + 1
  pub none : (i : ℕ) → k ≤ i → i < j → f i ≡ false

module _ {f : ℕ → Bool} {k n : ℕ} where
  pub passed_start : k ≤ n + 1 → Passed f k n k
  passed_start h = record { low = omega arith; high = h; none = λ i a b. absurd (omega arith) }

  module _ {j : ℕ} (o : Passed f k n j) where
    -- some more fail
    pub passed-more : (i : ℕ) → j ≤ i → i ≤ n + 1 → ((h : ℕ) → j ≤ h → h < i → f h ≡ false) → Passed f k n i
    passed-more i a b more = record {
      low = omega (arith, o.low);
      high = b;
      none = λ h x y. elim (dec_lt h j) [ yes l ↦ o.none h x l | no l ↦ more h (omega arith) y ];
    }

    -- one more fails
    pub passed-one : j ≤ n → f j ≡ false → Passed f k n (j + 1)
    passed-one a e = passed-more (j + 1) (omega arith) (omega arith) (λ h x y. let z : h ≡ j = omega arith in rw z e)

    pub first_found : j ≤ n → f j ≡ true → FirstFit f k n j
    first_found a e = record { low = o.low; high = o.high; passed = o.none; fits = λ h. e }

    pub first_none : n < j → FirstFit f k n j
    first_none a = record { low = o.low; high = o.high; passed = o.none; fits = λ h. absurd (omega arith) }

    pub first_past : n < j → FirstFit f k n (n + 1)
    first_past a = let e : j ≡ n + 1 = omega (arith, o.high) in
        record { low = omega (arith, o.low); high = omega arith; passed = λ i x y. o.none i x (omega arith); fits = λ h. absurd (omega arith) }

-- The splits where record p cannot begin fail too.
pub passed_apart : (names w : List ℕ) (used : ℕ) (pattern numbers : List ℕ) (p m : ℕ) (binds : List ℕ) (r : Run) {k j : ℕ} → r.start + r.len ≤ used
    → Passed (split_fits names w used pattern numbers p m binds r) k r.len j
    → (i : ℕ) → (j ≤ i) × (i ≤ r.len) × ((h : ℕ) → j ≤ h → h < i → ApartAt w pattern p (r.start + h))
    → Passed (split_fits names w used pattern numbers p m binds r) k r.len i
passed_apart names w used pattern numbers p m binds r inside o i n =
    passed-more o i n.0 (omega (arith, n.1))
    (λ h x y. split_apart names w used pattern numbers p m binds (back_of h r) (omega (arith, n.1)) (omega (arith, n.1, inside)) (n.2 h x y))
