-- What comparing two runs of any store answers: 01's number, or whether they are equal.
use Rattle.std.specs.Prelude.{List, Bool, true, false, ◌&&◌, leb, ℕ, suc, zero, ◌+◌, Result, Ok, Err}
use Rattle.term_spec.specs.Refusal.{past_end}
use Rattle.value.specs.Check.{terms_number}
use Rattle.value.specs.Equal.{spec_equal_runs}
use Rattle.words.specs.declared.refusal.Refusal.{Refusal}
use Rattle.words.specs.Refusals.{spec_number}

-- The answers that there are.
pub data Comparison : Type 0 where
  same : Comparison
  different : Comparison
  refused_runs : ℕ → Comparison

-- The answer to whether they are equal.
unfoldable pub found : Bool → Comparison
found true = same
found false = different

-- Each answer of the code is one of them, and no two are the same one.
unfoldable pub answer_of : Result Bool Refusal → Comparison
answer_of (Ok b) = found b
answer_of (Err r) = refused_runs (spec_number r)

-- The first of 1, 2 and 5 that applies, or whether they are equal.
unfoldable pub decided_by : ℕ → Bool → Bool → Comparison
decided_by zero true b = found b
decided_by zero false b = refused_runs past_end
decided_by (suc n) inside b = refused_runs (suc n)

-- Comparing the n terms from s on and the m terms from p on, of any store.
unfoldable pub compared_runs : List ℕ → List ℕ → ℕ → ℕ → ℕ → ℕ → ℕ → Comparison
compared_runs names w used s n p m =
    decided_by
    (terms_number names w used)
    (leb (s + n) used && leb (p + m) used)
    (spec_equal_runs names w used s n p m)
