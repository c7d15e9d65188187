use Rattle.std.proofs.Common.{arith}
use Rattle.places.specs.CopyLaws.{copied_none, copied_up, copied_all}
use Rattle.places.proofs.copy_up.Goals as goal

pub loop-i-init : goal.loop-i-init
loop-i-init c = copied_none _ _ _ _ _

pub loop-i-preserved : goal.loop-i-preserved
loop-i-preserved c = copied_up c.loop-i.invariant c.requires.0 c.requires.1 c.loop-i-test.true

pub returns : goal.returns
returns c = copied_all c.loop-i.invariant (omega arith)
