-- Laws of a number written in its columns from the right.
use Rattle.std.specs.Prelude.{◌≡◌, List, [], ◌∷◌, ◌++◌, true, false, eqb, length, ℕ, suc, zero, ◌+◌, ◌-◌, ◌/◌, ◌%◌, ◌≤◌, ◌<◌}
use Rattle.std.proofs.Common.{ap, sym, ◌∙◌, arith}
use Rattle.sheet_spec.specs.Sheet.{leading, column}
use Rattle.sheet_spec.specs.Job.{laid_at}
use Rattle.sheet_spec.proofs.ColumnLaws.{leading_length}
use Rattle.sheet_spec.proofs.LaidLaws.{laid_at_none, laid_at-before}

-- The last of k leading columns is written; what is left to write is the columns before it.
pub leading_step : (old new : List ℕ) (p k v x : ℕ) → 0 < k → p + k ≤ length old → x ≡ elim (eqb v 0) [ true ↦ 32 | false ↦ 48 + v % 10 ]
    → new ≡ laid_at old (p + (k - 1)) (x ∷ [])
    → laid_at new p (leading (k - 1) (v / 10)) ≡ laid_at old p (leading k v)
unfolding leading
leading_step old new p zero v x some h e f = absurd (omega arith)
leading_step old new p (suc k) v x some h e f =
    let z : suc k - 1 ≡ k = omega arith in
    ap (λ o. laid_at o p (leading (suc k - 1) (v / 10))) f ∙ ap (λ n. laid_at (laid_at old (p + n) (x ∷ [])) p (leading n (v / 10))) z
    ∙ laid_at-before old p (p + k) (leading k (v / 10)) (x ∷ []) (omega (arith, leading_length k (v / 10))) (omega arith)
    ∙ ap (λ d. laid_at old p (leading k (v / 10) ++ d ∷ [])) e

-- No leading column is left to write: the last digit, and all leading columns before it.
pub column-whole : (old first out : List ℕ) (p v k left : ℕ) → k ≤ 0 → p + 10 ≤ length old → first ≡ laid_at old (p + 9) ((48 + v % 10) ∷ [])
    → laid_at out p (leading k left) ≡ laid_at first p (leading 9 (v / 10)) → out ≡ laid_at old p (column v)
unfolding column leading
column-whole old first out p v zero left none h e f =
    sym (laid_at_none out p) ∙ f ∙ ap (λ x. laid_at x p (leading 9 (v / 10))) e
    ∙ laid_at-before old p (p + 9) (leading 9 (v / 10)) ((48 + v % 10) ∷ []) (omega (arith, leading_length 9 (v / 10))) (omega arith)
column-whole old first out p v (suc k) left none h e f = absurd (omega arith)
