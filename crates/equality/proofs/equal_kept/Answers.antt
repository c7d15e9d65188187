-- Where the kept word says that the terms are numbered, they are.
use Rattle.std.proofs.Common.{arith}
use Rattle.equality.proofs.equal_kept.Goals as goal

pub returns-in-Numbered : goal.returns-in-Numbered
returns-in-Numbered c =
    let lies = c.requires.within in
    let memory = c.requires.memory in
    (c.equal_numbered.ensures _ _ _ _ (memory.told c.in-Numbered.ensures) lies.0 lies.1 (omega arith), memory)
