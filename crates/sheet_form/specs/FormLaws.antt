-- Laws of a rule by the code's test of it, of the limits test by test, of zeros, and of where one of equal parts lies.
use Rattle.std.specs.Prelude.{◌≡◌, refl, ◌∷◌, Bool, false, not, T, leb, take, ℕ, suc, zero, ◌+◌, ◌-◌, ◌*◌, ◌<◌, ◌≤◌}
use Rattle.std.proofs.Common.{ap, sym, ◌∙◌, arith}
use borrow.Author.Tests.{not-false, le-leb, lt-leb}
use Rattle.term_spec.proofs.BoolLaws.{true-T}
use Rattle.match_spec.specs.Pattern.{pattern_limit}
use Rattle.term_spec.specs.Term.{run_list_limit}
use Rattle.sheet_spec.specs.Sheet.{sheet_terms, sheet_names, limits}
use Rattle.sheet_form.specs.Form.{zeros}

-- A rule holds where the code's test of it is not refused.
pub rule-holds : {a b : Bool} → a ≡ b → not a ≡ false → T b
rule-holds e f = true-T _ (sym e ∙ not-false _ f)

-- The limits of a sheet's counts, test by test: the first count over its limit decides, and the last one where no other is.
module _ (t n p r : ℕ) where
  pub limit-terms : sheet_terms < t → false ≡ limits t n p r
  unfolding limits
  limit-terms h = simp (lt-leb t sheet_terms h)

  pub limit_names : t ≤ sheet_terms → sheet_names < n → false ≡ limits t n p r
  unfolding limits
  limit_names h k = simp (le-leb t sheet_terms h, lt-leb n sheet_names k)

  pub limit_pattern : t ≤ sheet_terms → n ≤ sheet_names → pattern_limit < p → false ≡ limits t n p r
  unfolding limits
  limit_pattern h k l = simp (le-leb t sheet_terms h, le-leb n sheet_names k, lt-leb p pattern_limit l)

  pub limit-runs : t ≤ sheet_terms → n ≤ sheet_names → p ≤ pattern_limit → leb r run_list_limit ≡ limits t n p r
  unfolding limits
  limit-runs h k l = simp (le-leb t sheet_terms h, le-leb n sheet_names k, le-leb p pattern_limit l)

-- The first of some zeros.
pub first-zeros : (n m : ℕ) → n ≤ m → take n (zeros m) ≡ zeros n
first-zeros zero m h = refl
first-zeros (suc n) zero h = absurd (omega arith)
first-zeros (suc n) (suc m) h = ap (0 ∷◌) (first-zeros n m (omega arith))

-- Part i of n lies before the end.
pub room_at : (p w n i m : ℕ) → i < n → p + w * n ≤ m → p + w * i + w ≤ m
room_at p w n i m h k = let z : n ≡ suc i + (n - (i + 1)) = omega arith in let l = rw z at k in omega arith

pub part_at : (w n i m : ℕ) → i < n → w * n ≤ m → w * i + w ≤ m
part_at w n i m h k = omega (arith, room_at 0 w n i m h (omega arith))
