-- Laws of comparing two runs of any store: what the answer comes to at each exit of the code.
use Rattle.std.specs.Prelude.{◌≡◌, List, Bool, ◌&&◌}
use Rattle.std.proofs.Math.Path.{refl}
use borrow.Author.Tests.{le-leb, lt-leb}
use Rattle.std.proofs.Math.Dec.{leb}
use Prim.Native.Nat.{ℕ, suc, zero, ◌+◌, ◌<◌, ◌≤◌}
use Rattle.term_spec.specs.Refusal.{past_end}
use Rattle.value.specs.Check.{terms_number}
use Rattle.value.specs.Equal.{spec_equal_runs}
use Rattle.equality.specs.Compare.{refused_runs, found, decided_by, compared_runs}

module _ (names w : List ℕ) (used s n p m : ℕ) {number : ℕ} (e : number ≡ terms_number names w used) where
  pub compared-refused : (number ≡ 0 → ⊥) → refused_runs number ≡ compared_runs names w used s n p m
  unfolding compared_runs decided_by
  compared-refused h = rw (← e) (refused number h)
    where
      refused : (k : ℕ) → (k ≡ 0 → ⊥)
          → refused_runs k ≡ decided_by k (leb (s + n) used && leb (p + m) used) (spec_equal_runs names w used s n p m)
      refused zero h = absurd (h refl)
      refused (suc k) h = refl

  module _ (z : number ≡ 0) where
    pub compared-first : used < s + n → refused_runs past_end ≡ compared_runs names w used s n p m
    unfolding compared_runs decided_by
    compared-first h = rw (← e, z, lt-leb _ _ h) refl

    pub compared_second : s + n ≤ used → used < p + m → refused_runs past_end ≡ compared_runs names w used s n p m
    unfolding compared_runs decided_by
    compared_second k h = rw (← e, z, le-leb _ _ k, lt-leb _ _ h) refl

    pub compared_both : {b : Bool} → s + n ≤ used → p + m ≤ used → b ≡ spec_equal_runs names w used s n p m
        → found b ≡ compared_runs names w used s n p m
    unfolding compared_runs decided_by
    compared_both k h q = rw (← e, z, le-leb _ _ k, le-leb _ _ h, ← q) refl
