-- Tables of the deepest bracket in each block of a term store: what they hold, for those who read them and while they are filled.
use Rattle.std.specs.Prelude.{◌≡◌, List, length, get_or, set, ℕ, ◌+◌, ◌*◌, ◌-◌, ◌<◌, ◌≤◌, min, max}
use Rattle.term_spec.specs.Term.{deepest}
use Rattle.value.specs.Check.{run_of}

-- The terms of a block, in the lower table and in the higher one.
abbrev pub spec_low_block : ℕ
spec_low_block = 32

abbrev pub spec_high_block : ℕ
spec_high_block = 1024

-- The first `len` of at most n terms from p on, and their deepest bracket.
pub record Covers (w : List ℕ) (p n len deep : ℕ) : Type 0 where
  pub some : 0 < len
  pub fits : len ≤ n
  pub right : deep ≡ deepest (run_of w p len)

-- A table for the terms below term i: entry k has the deepest bracket of block k, for each block of m terms that lies whole below i.
pub record Whole (w : List ℕ) (m i : ℕ) (table : List ℕ) : Type 0 where
  pub long : i ≤ length table * m
  pub holds : (k : ℕ) → k * m + m ≤ i → get_or table k 0 ≡ deepest (run_of w (k * m) m)

-- The two tables that are read.
pub record Blocks (w : List ℕ) (i : ℕ) (low high : List ℕ) : Type 0 where
  pub lows : Whole w spec_low_block i low
  pub highs : Whole w spec_high_block i high

-- A table whose entry k is at least d.
unfoldable pub deepened : List ℕ → ℕ → ℕ → List ℕ
deepened table k d = set table k (max (get_or table k 0) d)

-- A table that is being filled: entry k has the deepest of those terms of block k that are below term i.
unfoldable pub Filled : List ℕ → ℕ → ℕ → List ℕ → Type 0
Filled w m i table = (k : ℕ) → get_or table k 0 ≡ deepest (run_of w (k * m) (min m (i - k * m)))

-- The two tables while they are filled, i terms checked.
pub record Tables (w : List ℕ) (i : ℕ) (low high : List ℕ) : Type 0 where
  pub lows : Filled w spec_low_block i low
  pub highs : Filled w spec_high_block i high
