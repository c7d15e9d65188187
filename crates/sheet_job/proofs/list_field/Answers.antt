-- `list_field`: 16 slots of as many entries as the pattern has names.
use Rattle.sheet_job.specs.JobLaws.{sixteen_slots}
use Rattle.sheet_job.proofs.list_field.Goals as goal

pub returns : goal.returns
returns c =
    rw (← sixteen_slots _ _ _ c.name_count-entries.ensures) c.list_into.ensures
