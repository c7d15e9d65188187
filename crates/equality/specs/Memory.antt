-- What comparing has found, kept from one comparison to the next.
use Rattle.std.specs.Prelude.{◌≡◌, List, get_or, ℕ, ◌<◌}
use Rattle.numbers.specs.Numbers.{Numbers}
use Rattle.equality.specs.declared.Kept.{Kept}
use Rattle.equality.specs.declared.Kept.TheVariants.{Numbered, Spent}

-- What stands after the words of the used terms once the terms are numbered.
abbrev pub numbered : ℕ
numbered = 65535

-- What that word says.
abbrev pub Says : ℕ → Kept → Type 0
Says word Numbered = word ≡ numbered
Says word (Spent n) = (word ≡ n) × (n < numbered)

-- Words that are the terms' numbers where they say so. Too few words say nothing.
pub record Memory (names w : List ℕ) (used : ℕ) (known : List ℕ) : Type 0 where
  pub told : get_or known used 0 ≡ numbered → Numbers names w used used known
