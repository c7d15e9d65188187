-- One law of the words shown for each exit; the parts taken are within the slices.
use Rattle.std.proofs.Common.{ap, arith}
use Rattle.view_read.specs.Read.{found_of}
use Rattle.view_read.specs.FlatLaws.{stored_past, stored_inside, work_past, work_inside}
use Rattle.view_read.proofs.found_part.Goals as goal
use Rattle.view_read.proofs.found_part.Goals.{then-all-r-via-then-all-r, then-all-r-via-else-all-r+then-all-r-2}

pub returns-then-all-r : goal.returns-then-all-r
unfolding found_of
returns-then-all-r c = elim c.then-all-r.branch [
  | then-all-r-via-then-all-r w ↦ stored_past _ _ _ (ap found_of c.in-InStore.is) (omega arith)
  | then-all-r-via-else-all-r+then-all-r-2 w ↦ stored_past _ _ _ (ap found_of c.in-InStore.is) (omega arith)
]

pub returns-then-work-n : goal.returns-then-work-n
unfolding found_of
returns-then-work-n c = work_past _ _ _ (ap found_of c.in-InWork.is) c.if-work-n.true

pub returns-else-all-r-2 : goal.returns-else-all-r-2
unfolding found_of
returns-else-all-r-2 c = stored_inside _ _ _ (ap found_of c.in-InStore.is) (omega arith)

pub returns-else-work-n : goal.returns-else-work-n
unfolding found_of
returns-else-work-n c = work_inside _ _ _ (ap found_of c.in-InWork.is) c.if-work-n.false
