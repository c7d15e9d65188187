use Rattle.std.proofs.Common.{sym, arith}
use Rattle.sheet_spec.specs.Job.{entry_lines}
use Rattle.sheet_spec.proofs.LaidLaws.{laid_at_none}
use Rattle.sheet_job.specs.JobLaws.{entries_step}
use Rattle.sheet_job.proofs.write_entries.Goals as goal

pub loop-i-init : goal.loop-i-init
unfolding entry_lines
loop-i-init c = sym (laid_at_none _ _)

pub loop-i-preserved : goal.loop-i-preserved
loop-i-preserved c =
    entries_step c.args.k _ _ _ _ _ (omega arith) c.loop-i.invariant (rw (← c.word-start.ensures, ← c.word-len.ensures) c.write_line.ensures)
