-- A definition that contracts or edits name; its laws stand in proofs/.
use Rattle.std.specs.Prelude.{ℕ, ◌+◌, ◌*◌, ◌^◌}

-- A level of 64 bits, from its lower and its upper half (02: 2.7).
abbrev pub level_of : ℕ → ℕ → ℕ
level_of l u = l + 2 ^ 32 * u
