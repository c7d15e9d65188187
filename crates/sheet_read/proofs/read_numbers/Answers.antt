use Rattle.std.proofs.Common.{arith}
use Rattle.sheet_read.specs.NumberLaws.{number_is, number_there}
use Rattle.sheet_read.specs.LineLaws.{number-below, numbers_none, numbers_room, numbers_set}
use Rattle.sheet_read.proofs.read_numbers.Goals as goal

pub loop-i-init : goal.loop-i-init
loop-i-init c = numbers_none _ _ 0 _ _

pub unwrap-x-requires : goal.unwrap-x-requires
unwrap-x-requires c = number_there _ c.number_at.ensures (number-below _ _ _ _ c.requires.in_form c.loop-i-test.true)

pub set_word-requires : goal.set_word-requires
set_word-requires c = (
  numbers_room _ _ _ _ _ (omega arith) c.loop-i.invariant,
  omega (arith, number_is _ _ c.number_at.ensures c.unwrap-x.ensures, number-below _ _ _ _ c.requires.in_form c.loop-i-test.true),
)

pub loop-i-preserved : goal.loop-i-preserved
loop-i-preserved c = numbers_set _ _ _ _ _ (omega arith) c.loop-i.invariant (number_is _ _ c.number_at.ensures c.unwrap-x.ensures) c.set_word.ensures
