-- Each case of the answer is one clause of its definition, told by the definitions of Outputs.antt.
use Rattle.calls_spec.specs.Step.{answer_number}
use Rattle.view_read.specs.Read.{found_of, flat_by}
use Rattle.outputs.specs.Outputs.{values_of, or_old, flat_out}
use Rattle.outputs.proofs.put_flat.Goals as goal

pub returns-in-Ok-InStore : goal.returns-in-Ok-InStore
unfolding flat_by found_of flat_out answer_number values_of or_old
returns-in-Ok-InStore g c = rw (c.in-Ok-InStore.is, rw c.in-Ok-InStore.is at c.in-Ok-InStore.field-0-is)

pub returns-in-Ok-InWork : goal.returns-in-Ok-InWork
unfolding flat_by found_of flat_out answer_number values_of or_old
returns-in-Ok-InWork g c = rw (c.in-Ok-InWork.is, rw c.in-Ok-InWork.is at c.in-Ok-InWork.field-0-is)

pub returns-in-Err : goal.returns-in-Err
unfolding flat_by flat_out answer_number values_of or_old
returns-in-Err g c = rw (c.in-Err.is, c.number.ensures)
