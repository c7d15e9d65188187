-- What comparing within a budget tells.
use Rattle.std.specs.Prelude.{◌≡◌, List, Bool, true, false, ℕ, ◌+◌, ◌<◌, ◌≤◌}
use Rattle.term_spec.specs.Term.{Run, limit}
use Rattle.value.specs.Equal.{TermStore, spec_equal_runs}
use Rattle.equality.specs.declared.Outcome.{Outcome}
use Rattle.equality.specs.declared.Outcome.TheVariants.{Different, Equal, Spent}

-- Two terms of a store that is within its rules, so many of its terms being used.
pub record TermsIn (names w : List ℕ) (i j used : ℕ) : Type 0 where
  pub store : TermStore names w used
  pub few : used ≤ limit
  pub first : i < used
  pub second : j < used

-- Two runs of such a store.
pub record RunsIn (names w : List ℕ) (r q : Run) (used : ℕ) : Type 0 where
  pub store : TermStore names w used
  pub few : used ≤ limit
  pub first : r.start + r.len ≤ used
  pub second : q.start + q.len ≤ used

-- Whether two runs are equal.
abbrev pub same_runs : List ℕ → List ℕ → ℕ → Run → Run → Bool
same_runs names w used r q = spec_equal_runs names w used r.start r.len q.start q.len

-- What an outcome says of whether two terms or runs are equal, and that no more is left than was given; a spent budget says nothing.
unfoldable pub Tells : ℕ → Outcome → Bool → Type 0
Tells budget (Different left) b = (b ≡ false) × (left ≤ budget)
Tells budget (Equal left) b = (b ≡ true) × (left ≤ budget)
Tells budget Spent b = Unit {0}
