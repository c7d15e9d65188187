-- Chains of places, one for each bucket: `heads` has for each bucket the place entered last, plus one, and `earlier` for each place the one that was
-- entered before it in its bucket, plus one; 0 stands for none.
use Rattle.std.specs.Prelude.{◌≡◌, List, Option, Some, None, get_or, ℕ, suc, ◌<◌, ◌≤◌}

-- How many buckets there are.
abbrev pub buckets : ℕ
buckets = 8192

-- A place, if there is one, as it is written: plus one, and 0 where there is none.
abbrev pub entry : Option ℕ → ℕ
entry None = 0
entry (Some c) = suc c

-- The chains of the places below k that are entered, each in the bucket that `key` gives it.
pub record Chains (key : ℕ → ℕ) (Entered : ℕ → Type 0) (k : ℕ) (heads earlier : List ℕ) : Type 0 where
  -- a bucket's head is the last of its places
  pub heads_low : (b : ℕ) → get_or heads b 0 ≤ k
  pub heads_in : (b c : ℕ) → get_or heads b 0 ≡ suc c → Entered c × (key c ≡ b)
  pub heads-last : (r : ℕ) → r < k → Entered r → r < get_or heads (key r) 0
  -- each place is followed by the last one before it in its bucket
  pub earlier_low : (c : ℕ) → get_or earlier c 0 ≤ c
  pub earlier_in : (c d : ℕ) → c < k → Entered c → get_or earlier c 0 ≡ suc d → Entered d × (key d ≡ key c)
  pub earlier-last : (c r : ℕ) → c < k → Entered c → r < c → Entered r → key r ≡ key c → r < get_or earlier c 0

-- Looking for a wanted place along the chain of bucket b, in which every wanted one is, if it is entered: `at` is the place looked at, plus one, 0 at
-- the end. Each wanted place is there or further on.
pub record Sought (key : ℕ → ℕ) (Entered Wanted : ℕ → Type 0) (k : ℕ) (heads earlier : List ℕ) (b at : ℕ) : Type 0 where
  pub chains : Chains key Entered k heads earlier
  pub bucket : (i : ℕ) → i < k → Entered i → Wanted i → key i ≡ b
  pub low : at ≤ k
  pub in_bucket : (c : ℕ) → at ≡ suc c → Entered c × (key c ≡ b)
  pub all : (i : ℕ) → i < k → Entered i → Wanted i → i < at
