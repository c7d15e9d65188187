-- Decimal numbers of the programs' texts.
use Rattle.std.specs.Prelude.{List, [], ◌∷◌, Option, None, Some, Bool, true, false, ◌&&◌, leb, ℕ, ◌+◌, ◌*◌, ◌-◌}
use Rattle.std.specs.Char.{is_ascii_digit}

-- A number that goes on past this is too large.
abbrev pub largest : ℕ
largest = 100000000000

-- The number, where a test is passed.
unfoldable pub kept : Bool → ℕ → Option ℕ
kept true n = Some n
kept false n = None

-- What one more byte makes of a number: none, where it is no digit or the number is too large already.
unfoldable pub with_digit : ℕ → ℕ → Option ℕ
with_digit n b = kept (is_ascii_digit b && leb n largest) (n * 10 + (b - 48))

-- The number that a text says after the digits of a number; none where that is none.
unfoldable pub digits_after : Option ℕ → List ℕ → Option ℕ
digits_after n [] = n
digits_after None (b ∷ l) = None
digits_after (Some n) (b ∷ l) = digits_after (with_digit n b) l

-- The decimal number that a text is: digits alone, none past the largest before its last; an empty text is 0.
abbrev pub decimal_of : List ℕ → Option ℕ
decimal_of l = digits_after (Some 0) l
