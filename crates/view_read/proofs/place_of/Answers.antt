-- One law of the place for each exit; the node read is that of the field.
use Rattle.words.proofs.KindLaws.{of_kind, not_of_kind}
use Rattle.view_read.specs.Read.{spec_place_of}
use Rattle.view_read.specs.PlaceLaws.{place_empty, place_other, place_longer, place-one}
use Rattle.view_read.proofs.place_of.Goals as goal
use Rattle.view_read.proofs.place_of.Goals.{else-is-via-then-is+else-n-eq0, else-is-via-else-is}

pub returns-then-f-eq0 : goal.returns-then-f-eq0
unfolding spec_place_of
returns-then-f-eq0 c used low = place_empty _ _ _ c.if-f-eq0.true

pub returns-then-n-eq0 : goal.returns-then-n-eq0
unfolding spec_place_of
returns-then-n-eq0 c used low = place-one _ _ _ c.get-n.ensures low c.if-f-eq0.false (of_kind c.is.ensures c.if-is.true) c.if-n-eq0.true

pub returns-else-is : goal.returns-else-is
unfolding spec_place_of
returns-else-is c used low = elim c.else-is.branch [
  | else-is-via-then-is+else-n-eq0 w ↦ place_longer _ _ _ c.get-n.ensures low c.if-f-eq0.false (of_kind c.is.ensures w.if-is.true) w.if-n-eq0.false
  | else-is-via-else-is w ↦ place_other _ _ _ c.get-n.ensures low c.if-f-eq0.false (not_of_kind c.is.ensures w.if-is.false)
]
