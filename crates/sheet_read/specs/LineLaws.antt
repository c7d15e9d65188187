-- Laws of lines as a loop reads them: what is left of them, and one more.
use Rattle.std.specs.Prelude.{◌≡◌, true, false, ◌&&◌, T, ltb, eqb, length, get_or, set}
use Rattle.std.proofs.Math.Path.{refl, sym}
use Rattle.std.proofs.Common.{ap, ap₂, ◌∙◌, ltb-true, lt-ltb, le-ltb, ne_eqb, add-one}
use mathlib.Core.List.{List, [], ◌∷◌, ◌++◌, append_assoc, append-nil}
use Rattle.std.proofs.Math.Bool.{Bool}
use Rattle.std.specs.Bool.{MatchBool}
use Rattle.std.specs.List.{AllWithin, HoldsAt, range_with_len}
use Rattle.std.proofs.lemmas.List.FromFn.{length-range_with_len, get_or-range_with_len}
use Prim.Native.Nat.{ℕ, suc, zero, ◌+◌, ◌-◌, ◌*◌, ◌<◌, ◌≤◌}
use native.Mathlib.Omega.{arith}
use Rattle.term_spec.proofs.BoolLaws.{both_of, T_true}
use Rattle.sheet_spec.specs.Sheet.{column_width, number_at, beyond, numbers_ok, zeros_ok, line_width, spec_line_ok, spec_lines_ok, numbers_at, words_at}
use Rattle.sheet_spec.proofs.LineLaws.{numbers_length, words_length}
use Rattle.sheet_spec.specs.Job.{laid, laid_at}
use Rattle.sheet_form.specs.FormLaws.{part_at}
use Rattle.sheet_read.specs.Read.{spec_numbers_below}
use Rattle.sheet_spec.proofs.LaidLaws.{laid_at-length, laid_at_none, laid_at-start, laid_at_next, laid_at-snoc, laid-length}

-- ---- numbers below a bound ----

-- Numbers in form, and zeros.
pub below_numbers : (text : List ℕ) (p k : ℕ) → spec_numbers_below text beyond p k ≡ numbers_ok text p k
unfolding spec_numbers_below numbers_ok
below_numbers text p zero = refl
below_numbers text p (suc k) = ap (ltb (number_at text p) beyond &&◌) (below_numbers text (p + column_width) k)

pub below-zeros : (text : List ℕ) (p k : ℕ) → spec_numbers_below text 1 p k ≡ zeros_ok text p k
unfolding spec_numbers_below zeros_ok
below-zeros text p zero = refl
below-zeros text p (suc k) = ap₂ ◌&&◌ (below_one (number_at text p)) (below-zeros text (p + column_width) k)
  where
    below_one : (x : ℕ) → ltb x 1 ≡ eqb x 0
    below_one zero = refl
    below_one (suc x) = le-ltb (suc x) 1 (omega arith) ∙ sym (ne_eqb (suc x) 0 (λ e. omega arith))

-- For the tests of a line's numbers.
pub ruleset below_rules = (below_numbers, below-zeros)

module _ (text : List ℕ) (bound p k : ℕ) where
  -- What is asked of k of them is asked of those left where i are passed: at first of all.
  pub below-start : spec_numbers_below text bound p k ≡ spec_numbers_below text bound (p + column_width * 0) (k - 0)
  below-start = let z : p ≡ p + column_width * 0 = omega arith in let e : k ≡ k - 0 = omega arith in ap₂ (spec_numbers_below text bound) z e

  -- Then of one and the rest, at the end of none.
  module _ (i : ℕ) (e : spec_numbers_below text bound p k ≡ spec_numbers_below text bound (p + column_width * i) (k - i)) where
    module _ {x : ℕ} (h : i < k) (n : x ≡ number_at text (p + column_width * i)) where
      below_left : spec_numbers_below text bound p k ≡ ltb x bound && spec_numbers_below text bound (p + column_width * (i + 1)) (k - (i + 1))
      unfolding spec_numbers_below
      below_left =
          let one : k - i ≡ suc (k - (i + 1)) = omega arith in
          let z : p + column_width * i + column_width ≡ p + column_width * (i + 1) = omega arith in
          e ∙ rw (one, z, n)

      pub below_stop : bound ≤ x → false ≡ spec_numbers_below text bound p k
      below_stop w = sym (below_left ∙ simp (le-ltb x bound w))

      pub below_next : x < bound → spec_numbers_below text bound p k ≡ spec_numbers_below text bound (p + column_width * (i + 1)) (k - (i + 1))
      below_next w = below_left ∙ simp (lt-ltb x bound w)

    pub below_done : k ≤ i → true ≡ spec_numbers_below text bound p k
    unfolding spec_numbers_below
    below_done h = let z : k - i ≡ 0 = omega arith in sym (rw z at e)

and_false : (b : Bool) → b && false ≡ false
and_false true = refl
and_false false = refl

-- All numbers are below the bound, or one is not.
below_true : (text : List ℕ) (bound p k : ℕ) → ((i : ℕ) → i < k → number_at text (p + column_width * i) < bound) → spec_numbers_below text bound p k ≡ true
unfolding spec_numbers_below
below_true text bound p zero h = refl
below_true text bound p (suc k) h =
    let z : p + column_width * 0 ≡ p = omega arith in
    let a : ltb (number_at text p) bound ≡ true = lt-ltb _ _ (rw z at (h 0 (omega arith))) in
    let b : spec_numbers_below text bound (p + column_width) k ≡ true =
    below_true text bound (p + column_width) k (λ i l.
    let y : p + column_width * suc i ≡ p + column_width + column_width * i = omega arith in rw y at (h (suc i) (omega arith))) in
    simp (a, b)

below_false : (text : List ℕ) (bound p k i : ℕ) → i < k → bound ≤ number_at text (p + column_width * i) → spec_numbers_below text bound p k ≡ false
unfolding spec_numbers_below
below_false text bound p zero i l h = absurd (omega arith)
below_false text bound p (suc k) zero l h =
    let z : p + column_width * 0 ≡ p = omega arith in simp (le-ltb (number_at text p) bound (rw z at h))
below_false text bound p (suc k) (suc i) l h =
    let y : p + column_width * suc i ≡ p + column_width + column_width * i = omega arith in
    let e : spec_numbers_below text bound (p + column_width) k ≡ false = below_false text bound (p + column_width) k i (omega arith) (rw y at h) in
    rw e (and_false (ltb (number_at text p) bound))

-- What a chain says of the numbers of a range.
pub below_all :
    (text : List ℕ) (bound p k : ℕ) {r : Bool}
    → MatchBool r (AllWithin (λ i. number_at text (p + column_width * i) < bound) (range_with_len 0 k) 0 (length (range_with_len 0 k)))
    ((j : ℕ) × (j < length (range_with_len 0 k)) × HoldsAt (λ i. bound ≤ number_at text (p + column_width * i)) (range_with_len 0 k) j)
    → r ≡ spec_numbers_below text bound p k
below_all text bound p k {r = true} h =
    sym (below_true text bound p k (λ i l.
    let n : i < length (range_with_len 0 k) = omega (arith, length-range_with_len 0 k) in
    let e : get_or (range_with_len 0 k) i 0 ≡ i = get_or-range_with_len 0 k i 0 l ∙ omega arith in
    rw e at (h i 0 (omega arith) n)))
below_all text bound p k {r = false} h =
    let (i, l, f) = h in
    let n : i < k = omega (arith, length-range_with_len 0 k) in
    let e : get_or (range_with_len 0 k) i 0 ≡ i = get_or-range_with_len 0 k i 0 n ∙ omega arith in
    sym (below_false text bound p k i n (rw e at (f 0)))

-- Numbers in form are below the bound.
pub number-below : (text : List ℕ) (p k i : ℕ) → T (numbers_ok text p k) → i < k → number_at text (p + column_width * i) < beyond
unfolding numbers_ok
number-below text p zero i t h = omega arith
number-below text p (suc k) zero t h =
    let z : p + column_width * 0 ≡ p = omega arith in
    rw z (ltb-true _ _ (T_true _ (both_of (ltb (number_at text p) beyond) (numbers_ok text (p + column_width) k) t).0))
number-below text p (suc k) (suc i) t h =
    let z : p + column_width * suc i ≡ p + column_width + column_width * i = omega arith in
    rw z (number-below text (p + column_width) k i (both_of (ltb (number_at text p) beyond) _ t).1 (omega arith))

-- One number more.
numbers_more : (text : List ℕ) (p i : ℕ) → numbers_at text p (suc i) ≡ numbers_at text p i ++ number_at text (p + column_width * i) ∷ []
unfolding numbers_at
numbers_more text p zero = let z : p + column_width * 0 ≡ p = omega arith in rw z
numbers_more text p (suc i) =
    let z : p + column_width * suc i ≡ p + column_width + column_width * i = omega arith in
    ap (number_at text p ∷◌) (rw z (numbers_more text (p + column_width) i))

-- So many numbers in the words from w on, and one number more.
module _ (text : List ℕ) (p i : ℕ) (out₀ : List ℕ) (w : ℕ) where
  pub numbers_none : out₀ ≡ laid_at out₀ w (numbers_at text p 0)
  unfolding numbers_at
  numbers_none = sym (laid_at_none out₀ w)

  pub numbers_kept : w + i ≤ length out₀ → length (laid_at out₀ w (numbers_at text p i)) ≡ length out₀
  numbers_kept h = laid_at-length out₀ w (numbers_at text p i) (omega (arith, numbers_length text p i))

  pub numbers_room : {out : List ℕ} → w + i < length out₀ → out ≡ laid_at out₀ w (numbers_at text p i) → w + i < length out
  numbers_room h e = omega (arith, ap length e ∙ numbers_kept (omega arith))

  pub numbers_set :
      {out new : List ℕ} {x : ℕ} → w + i < length out₀ → out ≡ laid_at out₀ w (numbers_at text p i) → x ≡ number_at text (p + column_width * i)
      → new ≡ set out (w + i) x → new ≡ laid_at out₀ w (numbers_at text p (i + 1))
  numbers_set h e f g =
      g ∙ ap₂ (λ o y. set o (w + i) y) e f
      ∙ laid_at-snoc out₀ w (w + i) (numbers_at text p i) (number_at text (p + column_width * i)) (ap (w +◌) (sym (numbers_length text p i))) h
      ∙ ap (laid_at out₀ w) (rw add-one (sym (numbers_more text p i)))

  pub numbers_all : (k : ℕ) {out : List ℕ} → i ≤ k → k ≤ i → out ≡ laid_at out₀ w (numbers_at text p i) → out ≡ laid_at out₀ w (numbers_at text p k)
  numbers_all k h g e = let z : i ≡ k = omega arith in rw z at e

-- ---- lines ----

-- A line, test by test: its numbers, its zeros, its newline.
module _ (text : List ℕ) (p kept zeros : ℕ) {a : Bool} (e : a ≡ spec_numbers_below text beyond p kept) where
  pub line_numbers_stop : a ≡ false → false ≡ spec_line_ok text p kept zeros
  unfolding spec_line_ok
  line_numbers_stop f = simp (← below_numbers, ← e, f)

  module _ {b : Bool} (g : b ≡ spec_numbers_below text 1 (p + column_width * kept) zeros) (t : a ≡ true) where
    pub line_zeros_stop : b ≡ false → false ≡ spec_line_ok text p kept zeros
    unfolding spec_line_ok
    line_zeros_stop f = simp (← below_numbers, ← below-zeros, ← e, ← g, t, f)

    pub line_end : {x q : ℕ} → b ≡ true → q ≡ column_width * (kept + zeros) → x ≡ get_or text (p + q) 0 → eqb x 10 ≡ spec_line_ok text p kept zeros
    unfolding spec_line_ok
    line_end f z n = simp (← below_numbers, ← below-zeros, ← e, ← g, t, f, ← z, ← n)

-- The lines that are left fit: at first all, then one and the rest.
pub room-start : (p w n m : ℕ) → p + w * n ≤ m → p + w * (n - 0) ≤ m
room-start p w n m h = let z : n - 0 ≡ n = omega arith in rw z h

pub room_next : (at w n i m : ℕ) → i < n → at + w * (n - i) ≤ m → at + w + w * (n - (i + 1)) ≤ m
room_next at w n i m h k = let z : n - i ≡ suc (n - (i + 1)) = omega arith in let l = rw z at k in omega arith

module _ (text : List ℕ) (kept zeros : ℕ) where
  -- n - i lines are left from `at` on: at first all, then one and the rest, at the end none.
  pub lines_start : (p n : ℕ) → spec_lines_ok text p kept zeros n ≡ spec_lines_ok text p kept zeros (n - 0)
  lines_start p n = let z : n ≡ n - 0 = omega arith in ap (spec_lines_ok text p kept zeros) z

  module _ (p at n i : ℕ) (e : spec_lines_ok text p kept zeros n ≡ spec_lines_ok text at kept zeros (n - i)) where
    lines_left : i < n
        → spec_lines_ok text at kept zeros (n - i) ≡ spec_line_ok text at kept zeros && spec_lines_ok text (at + line_width kept zeros) kept zeros (n - (i + 1))
    unfolding spec_lines_ok
    lines_left h = let z : n - i ≡ suc (n - (i + 1)) = omega arith in rw z

    pub lines_stop : {b : Bool} → i < n → b ≡ spec_line_ok text at kept zeros → b ≡ false → false ≡ spec_lines_ok text p kept zeros n
    lines_stop h l f = sym (e ∙ lines_left h ∙ simp (← l, f))

    pub lines_next :
        {b : Bool} {w : ℕ} → i < n → w ≡ line_width kept zeros → b ≡ spec_line_ok text at kept zeros → b ≡ true
        → spec_lines_ok text p kept zeros n ≡ spec_lines_ok text (at + w) kept zeros (n - (i + 1))
    lines_next h z l f = e ∙ lines_left h ∙ simp (← l, f, z)

    pub lines_done : n ≤ i → true ≡ spec_lines_ok text p kept zeros n
    unfolding spec_lines_ok
    lines_done h = let z : n - i ≡ 0 = omega arith in sym (rw z at e)

  module _ {w : ℕ} (wide : w ≡ line_width kept zeros) where
    -- All lines are in form, or one is not.
    pub lines_true : (p n : ℕ) → ((j : ℕ) → j < n → true ≡ spec_line_ok text (p + w * j) kept zeros) → true ≡ spec_lines_ok text p kept zeros n
    unfolding spec_lines_ok
    lines_true p zero h = refl
    lines_true p (suc n) h =
        let z : p + w * 0 ≡ p = omega arith in
        let a : true ≡ spec_line_ok text p kept zeros = rw z at (h 0 (omega arith)) in
        let b : true ≡ spec_lines_ok text (p + w) kept zeros n = lines_true (p + w) n (λ j l.
        let y : p + w * suc j ≡ p + w + w * j = omega arith in rw y at (h (suc j) (omega arith))) in
        ap₂ ◌&&◌ a (rw wide at b)

    pub lines_false : (p n i : ℕ) → i < n → false ≡ spec_line_ok text (p + w * i) kept zeros → false ≡ spec_lines_ok text p kept zeros n
    unfolding spec_lines_ok
    lines_false p zero i l h = absurd (omega arith)
    lines_false p (suc n) zero l h =
        let z : p + w * 0 ≡ p = omega arith in
        let a : false ≡ spec_line_ok text p kept zeros = rw z at h in
        ap (λ b. b && spec_lines_ok text (p + line_width kept zeros) kept zeros n) a
    lines_false p (suc n) (suc i) l h =
        let y : p + w * suc i ≡ p + w + w * i = omega arith in
        let b : false ≡ spec_lines_ok text (p + w) kept zeros n = lines_false (p + w) n i (omega arith) (rw y at h) in
        sym (and_false (spec_line_ok text p kept zeros)) ∙ ap (spec_line_ok text p kept zeros &&◌) (rw wide at b)

  -- Lines in form have their numbers in form.
  line_numbers : (p : ℕ) → T (spec_line_ok text p kept zeros) → T (numbers_ok text p kept)
  unfolding spec_line_ok
  line_numbers p t =
      let (a, b) : Bool × Bool = (numbers_ok text p kept, zeros_ok text (p + column_width * kept) zeros) in
      (both_of a b (both_of (a && b) (eqb (get_or text (p + column_width * (kept + zeros)) 0) 10) t).0).0

  pub line_in : (p n i : ℕ) → T (spec_lines_ok text p kept zeros n) → i < n → T (numbers_ok text (p + line_width kept zeros * i) kept)
  unfolding spec_lines_ok
  line_in p zero i t h = absurd (omega arith)
  line_in p (suc n) zero t h =
      let z : p + line_width kept zeros * 0 ≡ p = omega arith in
      rw z (line_numbers p (both_of (spec_line_ok text p kept zeros) (spec_lines_ok text (p + line_width kept zeros) kept zeros n) t).0)
  line_in p (suc n) (suc i) t h =
      let z : p + line_width kept zeros * suc i ≡ p + line_width kept zeros + line_width kept zeros * i = omega arith in
      rw z (line_in (p + line_width kept zeros) n i (both_of (spec_line_ok text p kept zeros) (spec_lines_ok text (p + line_width kept zeros) kept zeros n) t).1
      (omega arith))

  pub line_at : (p at n i : ℕ) → T (spec_lines_ok text p kept zeros n) → i < n → at ≡ p + line_width kept zeros * i → T (numbers_ok text at kept)
  line_at p at n i t h e = rw e (line_in p n i t h)

  -- One line more.
  words_more : (p i : ℕ) → words_at text p kept zeros (suc i) ≡ words_at text p kept zeros i ++ numbers_at text (p + line_width kept zeros * i) kept
  unfolding words_at
  words_more p zero = let z : p + line_width kept zeros * 0 ≡ p = omega arith in rw z (append-nil (numbers_at text p kept))
  words_more p (suc i) =
      let z : p + line_width kept zeros * suc i ≡ p + line_width kept zeros + line_width kept zeros * i = omega arith in
      let q : ℕ = p + line_width kept zeros in
      let one : List ℕ = numbers_at text p kept in
      rw z (ap (one ++◌) (words_more q i) ∙ sym (append_assoc one (words_at text q kept zeros i) (numbers_at text (q + line_width kept zeros * i) kept)))

  -- So many lines in the first words, and one line more.
  pub words_none : (p : ℕ) (out₀ : List ℕ) → out₀ ≡ laid (words_at text p kept zeros 0) out₀
  unfolding laid words_at
  words_none p out₀ = refl

  words_kept : (p i : ℕ) (out₀ : List ℕ) → kept * i ≤ length out₀ → length (laid (words_at text p kept zeros i) out₀) ≡ length out₀
  words_kept p i out₀ h = laid-length (words_at text p kept zeros i) out₀ (omega (arith, words_length text p kept zeros i))

  pub words_room :
      (p w n i : ℕ) (out₀ : List ℕ) {out : List ℕ} → i < n → kept * n ≤ length out₀ → w ≡ kept * i → out ≡ laid (words_at text p kept zeros i) out₀
      → w + kept ≤ length out
  words_room p w n i out₀ h k b e =
      let l : kept * i + kept ≤ length out₀ = part_at kept n i _ h k in
      omega (arith, ap length e ∙ words_kept p i out₀ (omega arith))

  pub words_set_lem :
      (p at w i : ℕ) (out₀ : List ℕ) {out new : List ℕ} → kept * i + kept ≤ length out₀ → at ≡ p + line_width kept zeros * i → w ≡ kept * i
      → out ≡ laid (words_at text p kept zeros i) out₀
      → new ≡ laid_at out w (numbers_at text at kept) → new ≡ laid (words_at text p kept zeros (i + 1)) out₀
  words_set_lem p at w i o h a b e g =
      let (x, y) : List ℕ × List ℕ = (words_at text p kept zeros i, numbers_at text (p + line_width kept zeros * i) kept) in
      g ∙ rw (a, b, e) (
      ap (λ l. laid_at l (kept * i) y) (sym (laid_at-start o x))
      ∙ laid_at_next o 0 (kept * i) x y (omega (arith, words_length text p kept zeros i)) (omega arith)
      ∙ laid_at-start o (x ++ y) ∙ ap (λ l. laid l o) (sym (words_more p i) ∙ ap (words_at text p kept zeros) (sym (add-one i))))

  pub words_same : (p i n : ℕ) (out₀ : List ℕ) {out : List ℕ} → i ≤ n → n ≤ i → kept * n ≤ length out₀ → out ≡ laid (words_at text p kept zeros i) out₀
      → length out ≡ length out₀
  words_same p i n out₀ h g k e = let z : i ≡ n = omega arith in ap length e ∙ words_kept p i out₀ (rw z k)

  pub words_all : (p i n : ℕ) (out₀ : List ℕ) {out : List ℕ} → i ≤ n → n ≤ i → out ≡ laid (words_at text p kept zeros i) out₀
      → out ≡ laid (words_at text p kept zeros n) out₀
  words_all p i n out₀ h g e = let z : i ≡ n = omega arith in rw z at e
