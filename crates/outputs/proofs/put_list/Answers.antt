-- Each case of the answer is one clause of its definition, told by the definitions of Outputs.antt.
use Rattle.calls_spec.specs.Step.{answer_number}
use Rattle.words.specs.Refusals.{spec_number}
use Rattle.listing.specs.Match.{brought}
use Rattle.outputs.specs.Numbers.{told_by}
use Rattle.outputs.specs.Outputs.{values_of, or_old, list_out}
use Rattle.outputs.proofs.put_list.Goals as goal

pub returns-in-Ok-Listed : goal.returns-in-Ok-Listed
unfolding told_by brought list_out answer_number values_of or_old
returns-in-Ok-Listed g c = rw (c.in-Ok-Listed.is, rw c.in-Ok-Listed.is at c.in-Ok-Listed.field-0-is)

pub returns-in-Ok-More : goal.returns-in-Ok-More
unfolding told_by brought list_out answer_number values_of or_old spec_number
returns-in-Ok-More g c = rw (c.in-Ok-More.is, rw c.in-Ok-More.is at c.in-Ok-More.field-0-is, c.number.ensures)

pub returns-in-Err : goal.returns-in-Err
unfolding told_by list_out answer_number values_of or_old
returns-in-Err g c = rw (c.in-Err.is, c.number-in-Err.ensures)
