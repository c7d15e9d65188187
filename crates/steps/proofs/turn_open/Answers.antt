-- `steps::turn_open`: of the levels' words, those of the place after them are written.
use Rattle.std.proofs.Common.{arith}
use Rattle.steps.specs.StepLaws.{level_written}
use Rattle.steps.proofs.turn_open.Goals as goal

pub returns-clause-levels : goal.returns-clause-levels
returns-clause-levels c = level_written _ _ _ _ _ (omega (arith, c.requires.1, c.requires.2)) c.put.ensures
