-- Laws of the longest equal beginning of two lists of canonical forms (02: 2.2): that it is equal, and that none is longer; what the tests read off it
-- say; and what it comes to where the lists are read in parts.
use Rattle.std.specs.Prelude.{◌≡◌, refl, Bool, true, false, ◌&&◌, eqb, length, take, drop, ℕ, suc, zero, ◌+◌, ◌<◌, ◌≤◌, min}
use Rattle.std.proofs.Common.{ap, ap₂, sym, ◌∙◌, eq-eqb, ne_eqb, length-take, arith}
use mathlib.Core.List.{List, [], ◌∷◌, ◌++◌, head-eq_of_cons-eq, tail-eq_of_cons-eq}
use Rattle.std.proofs.Math.Seq.{take-length}
use Rattle.std.proofs.Math.Decide.{ℕ_discrete}
use Rattle.term_spec.specs.Value.{Value, same?, sames?, is_yes, common_prefix, starts_by, equal_by}
use Rattle.term_spec.proofs.ValueLaws.{is_yes_lem, is_no}

-- ---- one term more ----

pub common_none : (y : List Value) → common_prefix [] y ≡ 0
unfolding common_prefix
common_none y = refl

pub common_end : (x : List Value) → common_prefix x [] ≡ 0
unfolding common_prefix
common_end [] = refl
common_end (v ∷ x) = refl

-- By whether the first terms are the same.
by_first : (P : ℕ → Type 0) (v w : Value) (x y : List Value) → (v ≡ w → P (suc (common_prefix x y))) → ((v ≡ w → ⊥) → P 0)
    → P (common_prefix (v ∷ x) (w ∷ y))
unfolding common_prefix
by_first P v w x y f g = go (same? v w)
  where
    go : (d : Dec (v ≡ w)) → P (elim d [ yes h ↦ suc (common_prefix x y) | no h ↦ 0 ])
    go (yes h) = f h
    go (no n) = g n

pub common_next : (v w : Value) (x y : List Value) → v ≡ w → common_prefix (v ∷ x) (w ∷ y) ≡ suc (common_prefix x y)
common_next v w x y e = by_first (λ n. n ≡ suc (common_prefix x y)) v w x y (λ _. refl) (λ n. absurd (n e))

pub common_apart : (v w : Value) (x y : List Value) → (v ≡ w → ⊥) → common_prefix (v ∷ x) (w ∷ y) ≡ 0
common_apart v w x y n = by_first (λ k. k ≡ 0) v w x y (λ e. absurd (n e)) (λ _. refl)

-- ---- the longest equal beginning ----

-- It is a beginning of both ..
pub common_first : (x y : List Value) → common_prefix x y ≤ length x
common_first [] y = omega (arith, common_none y)
common_first (v ∷ x) [] = omega (arith, common_end (v ∷ x))
common_first (v ∷ x) (w ∷ y) = by_first (λ n. n ≤ suc (length x)) v w x y (λ _. omega (arith, common_first x y)) (λ _. omega arith)

pub common_second : (x y : List Value) → common_prefix x y ≤ length y
common_second [] y = omega (arith, common_none y)
common_second (v ∷ x) [] = omega (arith, common_end (v ∷ x))
common_second (v ∷ x) (w ∷ y) = by_first (λ n. n ≤ suc (length y)) v w x y (λ _. omega (arith, common_second x y)) (λ _. omega arith)

-- .. which is the same in both ..
pub common_same : (x y : List Value) → take (common_prefix x y) x ≡ take (common_prefix x y) y
common_same [] y = ap (λ n. take n []) (common_none y) ∙ sym (ap (λ n. take n y) (common_none y))
common_same (v ∷ x) [] = ap (λ n. take n (v ∷ x)) (common_end (v ∷ x)) ∙ sym (ap (λ n. take n []) (common_end (v ∷ x)))
common_same (v ∷ x) (w ∷ y) =
    by_first (λ n. take n (v ∷ x) ≡ take n (w ∷ y)) v w x y (λ e. ap₂ ◌∷◌ e (common_same x y)) (λ _. refl)

-- .. and no longer one is.
pub common_longest : (x y : List Value) (k : ℕ) → k ≤ length x → k ≤ length y → take k x ≡ take k y → k ≤ common_prefix x y
common_longest x y zero h g e = omega arith
common_longest [] y (suc k) h g e = absurd (omega arith)
common_longest (v ∷ x) [] (suc k) h g e = absurd (omega arith)
common_longest (v ∷ x) (w ∷ y) (suc k) h g e =
    by_first (λ n. suc k ≤ n) v w x y
    (λ _. omega (arith, common_longest x y k (omega arith) (omega arith) (tail-eq_of_cons-eq e)))
    (λ n. absurd (n (head-eq_of_cons-eq e)))

-- ---- the lists in two parts ----

-- Of the first k terms of each as many agree, at most k.
pub common_take : (k : ℕ) (x y : List Value) → common_prefix (take k x) (take k y) ≡ min k (common_prefix x y)
common_take zero x y = omega (arith, common_none (take 0 y))
common_take (suc k) [] y = omega (arith, common_none (take (suc k) y), common_none y)
common_take (suc k) (v ∷ x) [] = omega (arith, common_end (take (suc k) (v ∷ x)), common_end (v ∷ x))
common_take (suc k) (v ∷ x) (w ∷ y) =
    by_first (λ n. n ≡ min (suc k) (common_prefix (v ∷ x) (w ∷ y))) v w (take k x) (take k y)
    (λ e. omega (arith, common_take k x y, common_next v w x y e))
    (λ n. omega (arith, common_apart v w x y n))

-- After a beginning that agrees, what follows counts.
pub common_drop : (k : ℕ) (x y : List Value) → k ≤ common_prefix x y → common_prefix x y ≡ k + common_prefix (drop k x) (drop k y)
common_drop zero x y h = omega arith
common_drop (suc k) [] y h = absurd (omega (arith, common_none y))
common_drop (suc k) (v ∷ x) [] h = absurd (omega (arith, common_end (v ∷ x)))
common_drop (suc k) (v ∷ x) (w ∷ y) h =
    by_first (λ n. suc k ≤ n → n ≡ suc k + common_prefix (drop k x) (drop k y)) v w x y
    (λ e g. omega (arith, common_drop k x y (omega arith)))
    (λ n g. absurd (omega arith)) h

-- Which of the two comes first does not count.
pub common_swap : (x y : List Value) → common_prefix x y ≡ common_prefix y x
common_swap [] y = common_none y ∙ sym (common_end y)
common_swap (v ∷ x) [] = common_end (v ∷ x) ∙ sym (common_none (v ∷ x))
common_swap (v ∷ x) (w ∷ y) =
    by_first (λ n. n ≡ common_prefix (w ∷ y) (v ∷ x)) v w x y
    (λ e. ap suc (common_swap x y) ∙ sym (common_next w v y x (sym e)))
    (λ n. sym (common_apart w v y x (λ q. n (sym q))))

-- ---- the tests that are read off it ----

-- A header is the whole of what agrees exactly where the list starts with it.
pub starts-whole : (x y : List Value) → common_prefix x y ≡ length y → take (length y) x ≡ y
starts-whole x y e = ap (λ n. take n x) (sym e) ∙ common_same x y ∙ ap (λ n. take n y) e ∙ take-length y

pub whole-starts : (x y : List Value) → take (length y) x ≡ y → common_prefix x y ≡ length y
whole-starts x y e =
    let l : length y ≡ min (length y) (length x) = sym (ap length e) ∙ length-take (length y) x in
    let h = common_longest x y (length y) (omega arith) (omega arith) (e ∙ sym (take-length y)) in
    omega (arith, common_second x y)

pub starts_is : (x y : List Value) → starts_by x y ≡ is_yes (sames? (take (length y) x) y)
unfolding starts_by
starts_is x y = go (ℕ_discrete (common_prefix x y) (length y))
  where
    go : Dec (common_prefix x y ≡ length y) → eqb (common_prefix x y) (length y) ≡ is_yes (sames? (take (length y) x) y)
    go (yes e) = eq-eqb _ _ e ∙ sym (is_yes_lem _ (starts-whole x y e))
    go (no n) = ne_eqb _ _ n ∙ sym (is_no _ (λ q. n (whole-starts x y q)))

-- It is the whole of both exactly where they are the same.
pub whole_same : (x y : List Value) → common_prefix x y ≡ length x → common_prefix x y ≡ length y → x ≡ y
whole_same x y e q = sym (take-length x) ∙ ap (λ n. take n x) (sym e ∙ q) ∙ starts-whole x y q

pub same_whole : (x : List Value) → common_prefix x x ≡ length x
same_whole x = whole-starts x x (take-length x)

pub equal_is : (x y : List Value) → equal_by x y ≡ is_yes (sames? x y)
unfolding equal_by
equal_is x y = go (ℕ_discrete (common_prefix x y) (length x)) (ℕ_discrete (common_prefix x y) (length y))
  where
    first_of : x ≡ y → common_prefix x y ≡ length x
    first_of q = ap (common_prefix x) (sym q) ∙ same_whole x

    go : Dec (common_prefix x y ≡ length x) → Dec (common_prefix x y ≡ length y)
        → eqb (common_prefix x y) (length x) && eqb (common_prefix x y) (length y) ≡ is_yes (sames? x y)
    go (yes e) (yes q) = ap₂ ◌&&◌ (eq-eqb _ _ e) (eq-eqb _ _ q) ∙ sym (is_yes_lem _ (whole_same x y e q))
    go (yes e) (no n) = ap₂ ◌&&◌ (eq-eqb _ _ e) (ne_eqb _ _ n) ∙ sym (is_no _ (λ q. n (first_of q ∙ ap length q)))
    go (no n) d = ap (◌&& eqb (common_prefix x y) (length y)) (ne_eqb _ _ n) ∙ sym (is_no _ (λ q. n (first_of q)))
