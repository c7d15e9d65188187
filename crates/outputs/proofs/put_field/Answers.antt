-- Each case of the answer is one clause of its definition, told by the definitions of Outputs.antt.
use Rattle.calls_spec.specs.Step.{answer_number}
use Rattle.outputs.specs.Numbers.{told_by}
use Rattle.outputs.specs.Outputs.{values_of, or_old, field_out}
use Rattle.outputs.proofs.put_field.Goals as goal

pub returns-in-Ok : goal.returns-in-Ok
unfolding told_by field_out answer_number values_of or_old
returns-in-Ok g c = rw c.in-Ok.is

pub returns-in-Err : goal.returns-in-Err
unfolding told_by field_out answer_number values_of or_old
returns-in-Err g c = rw (c.in-Err.is, c.number.ensures)
