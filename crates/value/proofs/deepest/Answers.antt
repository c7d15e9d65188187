-- A part more is one law.
use Rattle.std.proofs.Common.{rules}
use Rattle.value.specs.BlockLaws.{deepest_none, deepest-parts}
use Rattle.value.proofs.deepest.Goals as goal

pub loop-i-init : goal.loop-i-init
loop-i-init c = (search rules, deepest_none _ _)

pub loop-i-preserved : goal.loop-i-preserved
loop-i-preserved c = (search rules, deepest-parts _ _ _ _ c.loop-i.invariant.1 c.first_part-part.ensures.right c.max-deep.ensures)
