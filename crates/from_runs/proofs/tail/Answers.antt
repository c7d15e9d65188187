-- The test is the one that `head_at` decides by.
use Rattle.from_runs.specs.BuildLaws.{head_none, head_last}
use Rattle.from_runs.proofs.tail.Goals as goal

pub returns-then-at-used : goal.returns-then-at-used
returns-then-at-used c = head_none _ _ c.if-at-used.true

pub returns-else-at-used : goal.returns-else-at-used
returns-else-at-used c = head_last _ _ c.if-at-used.false
