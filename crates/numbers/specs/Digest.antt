-- The digest of a list of numbers: the same for the same list, and different for most others. It says only where to look for what is equal.
use Rattle.std.specs.Prelude.{◌≡◌, List, [], ◌∷◌, Bool, true, false, length, get_or, take, ℕ, ◌+◌, ◌*◌, ◌-◌, ◌/◌, ◌%◌, ◌<◌, ◌≤◌}
use Rattle.term_spec.specs.Text.{lower, zero_digit}

-- A digest is a polynomial of the list's numbers at a base, modulo this prime.
abbrev pub prime : ℕ
prime = 2147483647

-- The digest of a list with one number more.
unfoldable pub more : ℕ → ℕ → ℕ → ℕ
more base h x = (h * base + x % prime) % prime

-- The digest of a list that goes on after one with digest h.
unfoldable pub digest_from : ℕ → ℕ → List ℕ → ℕ
digest_from base h [] = h
digest_from base h (x ∷ l) = digest_from base (more base h x) l

abbrev pub digest : ℕ → List ℕ → ℕ
digest base l = digest_from base 0 l

-- What a digit counts for: nothing for `0`.
abbrev pub digit : ℕ → ℕ
digit c = c - zero_digit

-- What a byte of a number counts for, and one of an identifier.
abbrev pub counts : Bool → ℕ → ℕ
counts true c = digit c
counts false c = lower c

-- The digests of the first 0, 32, 64 .. numbers are kept as marks.
abbrev pub stride : ℕ
stride = 32

-- The marks of the first i numbers: there is room for each of them.
pub record Marked (base : ℕ) (numbers marks : List ℕ) (i : ℕ) : Type 0 where
  pub room : i / stride < length marks
  pub mark : (j : ℕ) → j * stride ≤ i → get_or marks j 0 ≡ digest base (take (j * stride) numbers)
