-- The names: one text of bytes, and which of its parts spell an identifier, a number or a variable's name (01, "Records").
use Rattle.std.specs.Prelude.{List, [], ◌∷◌, Bool, true, false, ◌&&◌, ◌||◌, leb, eqb, length, take, drop, ℕ, ◌+◌}

-- Letters and digits are ASCII: `A` to `Z` are 65 to 90, `a` to `z` 97 to 122.
unfoldable pub spec_is_letter : ℕ → Bool
spec_is_letter c = leb 65 c && leb c 90 || leb 97 c && leb c 122

-- An ASCII digit: `0` to `9` are 48 to 57.
unfoldable pub spec_is_digit : ℕ → Bool
spec_is_digit c = leb 48 c && leb c 57

-- A letter, a digit, `-` (45) or `_` (95).
unfoldable pub spec_is_name_byte : ℕ → Bool
spec_is_name_byte c = spec_is_letter c || spec_is_digit c || eqb c 45 || eqb c 95

-- Every byte of a text passes a test.
unfoldable pub every : (ℕ → Bool) → List ℕ → Bool
every f [] = true
every f (c ∷ l) = f c && every f l

-- "an identifier starts with an ASCII letter and goes on with letters, digits, `-` or `_`"
unfoldable pub identifier_text : List ℕ → Bool
identifier_text [] = false
identifier_text (c ∷ l) = spec_is_letter c && every spec_is_name_byte l

-- "a number is ASCII digits"
unfoldable pub number_text : List ℕ → Bool
number_text l = every spec_is_digit l

-- "Variable names are 1 to 255 letters, digits, `-` or `_`": the length is textRule's.
unfoldable pub variable_text : List ℕ → Bool
variable_text l = every spec_is_name_byte l

-- The n bytes from o on.
abbrev pub text_at : List ℕ → ℕ → ℕ → List ℕ
text_at names o n = take n (drop o names)

-- The longest text of an identifier, a number or a variable's name.
abbrev pub text_limit : ℕ
text_limit = 255

-- "a offset, b length (1 to 255) in the names", and the text spelled as it should be.
unfoldable pub text_rule : (List ℕ → Bool) → List ℕ → ℕ → ℕ → Bool
text_rule spelled names o n = leb 1 n && leb n text_limit && leb (o + n) (length names) && spelled (text_at names o n)

-- An ASCII capital lowered, `A` (65) to `a` (97): the one place that knows how. The code reads a table (02: 2.4); text/LowerTable proves that it is
-- this rule.
unfoldable pub lower : ℕ → ℕ
lower c = elim (leb 65 c && leb c 90) [ true ↦ c + 32 | false ↦ c ]

-- The digit `0`, and whether a byte is it.
abbrev pub zero_digit : ℕ
zero_digit = 48

abbrev pub is_zero : ℕ → Bool
is_zero c = eqb c zero_digit

-- A number's text as it is compared, stripped as 02 calls it (2.9): "leading zeros, except a last digit, are taken off". The one place that knows how.
unfoldable pub stripped : List ℕ → List ℕ
stripped [] = []
stripped (c ∷ []) = c ∷ []
stripped (c ∷ d ∷ l) = elim (is_zero c) [ true ↦ stripped (d ∷ l) | false ↦ c ∷ d ∷ l ]
