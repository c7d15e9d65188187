-- The word that is written stands after the terms' numbers, and leaves them as they are.
use Rattle.std.proofs.Common.{arith}
use Rattle.equality.specs.MemoryLaws.{numbers_kept, memory_numbered}
use Rattle.equality.proofs.equal_from_now_on.Goals as goal

pub returns : goal.returns
returns c =
    let lies = c.requires.within in
    let numbers = c.number_terms.ensures.0 in
    (c.equal_numbered.ensures _ _ _ _ (numbers_kept 65535 numbers) lies.0 lies.1 (omega arith), memory_numbered 65535 numbers)
