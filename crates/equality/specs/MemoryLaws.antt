-- Laws of what is kept from one comparison to the next.
use Rattle.std.specs.Prelude.{List, length, set, replicate, ℕ, ◌<◌}
use Rattle.std.proofs.Common.{length-set, get_or-set_same, get_or-set_other, arith}
use Rattle.term_spec.proofs.ListLaws.{zeros-at}
use Rattle.numbers.specs.Numbers.{Numbers}
use Rattle.equality.specs.Memory.{numbered, Memory}

-- Words that are all 0 say nothing yet.
pub memory_none : (names w : List ℕ) (used m : ℕ) → Memory names w used (replicate m 0)
memory_none names w used m = record { told = λ e. absurd (omega (arith, zeros-at m used)) }

-- The word after those of the used terms, written anew: it stands past the terms' numbers.
pub numbers_kept : {names w : List ℕ} {used : ℕ} {known : List ℕ} (v : ℕ) → Numbers names w used used known
    → Numbers names w used used (set known used v)
numbers_kept {used = used} {known = known} v numbers = record {
  room = let h = numbers.room in let l = length-set known used v in omega arith;
  told = λ i j x y.
      rw (get_or-set_other known used i v 0 (λ q. omega arith), get_or-set_other known used j v 0 (λ q. omega arith)) (numbers.told i j x y);
}

-- It says that the terms are numbered, and they are.
pub memory_numbered : {names w : List ℕ} {used : ℕ} {known : List ℕ} (v : ℕ) → Numbers names w used used known
    → Memory names w used (set known used v)
memory_numbered v numbers = record { told = λ _. numbers_kept v numbers }

-- It says that they are not.
pub memory_counted : {names w : List ℕ} {used : ℕ} (known : List ℕ) {v : ℕ} → used < length known → v < numbered
    → Memory names w used (set known used v)
memory_counted {used = used} known {v} room low = record { told = λ e. absurd (omega (arith, get_or-set_same known used v 0 room)) }
