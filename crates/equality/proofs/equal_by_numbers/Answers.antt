-- The numbers of all used terms answer for any two runs of them.
use Rattle.std.proofs.Common.{arith}
use Rattle.equality.proofs.equal_by_numbers.Goals as goal

pub returns : goal.returns
returns c = c.equal_numbered.ensures _ _ _ _ c.number_terms.ensures.0 c.requires.0 c.requires.1 (omega arith)
