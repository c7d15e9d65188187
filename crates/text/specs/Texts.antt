-- What the functions on texts answer, over the specification's tests.
use Rattle.std.specs.Prelude.{List, map, Bool, true, false, ℕ, suc, zero}
use Rattle.std.proofs.Math.Decide.{ℕ_discrete}
use Rattle.term_spec.specs.Text.{spec_is_digit, spec_is_name_byte, every, identifier_text, number_text, variable_text, lower}
use Rattle.term_spec.specs.Value.{ident, num, canon, list?, same?, is_yes}

-- The test of one byte of a number or of a name, and of every byte of a text.
unfoldable pub byte_test : Bool → ℕ → Bool
byte_test true c = spec_is_digit c
byte_test false c = spec_is_name_byte c

unfoldable pub spelled : Bool → List ℕ → Bool
spelled digits l = every (byte_test digits) l

-- The kind of text that is a variable's name.
abbrev pub name_text : ℕ
name_text = 3

-- What a text of each kind must spell: an identifier (kind 1), a number (2), for any other kind a variable's name.
unfoldable pub spelling : ℕ → List ℕ → Bool
spelling zero l = variable_text l
spelling (suc zero) l = identifier_text l
spelling (suc (suc zero)) l = number_text l
spelling (suc (suc (suc k))) l = variable_text l

-- A byte as it is compared, and whether two texts are the same, byte by byte as compared.
unfoldable pub folded : Bool → ℕ → ℕ
folded true c = lower c
folded false c = c

unfoldable pub texts_equal : Bool → List ℕ → List ℕ → Bool
texts_equal fold x y = is_yes (list? ℕ_discrete (map (folded fold) x) (map (folded fold) y))

-- Equality of identifiers and of numbers, as values.
unfoldable pub identifiers_equal : List ℕ → List ℕ → Bool
identifiers_equal x y = is_yes (same? (canon (ident x)) (canon (ident y)))

unfoldable pub numbers_equal : List ℕ → List ℕ → Bool
numbers_equal x y = is_yes (same? (canon (num x)) (canon (num y)))
