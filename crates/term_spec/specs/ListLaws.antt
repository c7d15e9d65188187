-- A definition that contracts or edits name; its laws stand in proofs/.
use Rattle.std.specs.Prelude.{ℕ, suc, zero}
use mathlib.Core.List.{List, [], ◌∷◌}

-- n numbers, from a on, and what a function gives for one of them.
abbrev pub numbers_from : ℕ → ℕ → List ℕ
numbers_from a zero = []
numbers_from a (suc n) = a ∷ numbers_from (suc a) n
