-- What a call answers that may refuse, whatever its refusals are, by the numbers that they are told by.
use Rattle.std.specs.Prelude.{Result, Ok, Err, ℕ}

-- `accepts` gives the answer of a value, `refuses` that of a number, and `number` the number of a refusal.
unfoldable pub told_by : {A B E : Type 0} → (A → B) → (ℕ → B) → (E → ℕ) → Result A E → B
told_by accepts refuses number (Ok a) = accepts a
told_by accepts refuses number (Err r) = refuses (number r)
