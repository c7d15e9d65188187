-- `print_candidates`: the first line, then the entries, if they fit.
use native.Mathlib.Omega.{arith}
use Rattle.words.specs.Refusals.{told, spec_number}
use Rattle.sheet_write.specs.Write.{written_of}
use Rattle.sheet_job.specs.JobLaws.{short-written, listing-length, listing-written}
use Rattle.sheet_job.proofs.print_candidates.Goals as goal

pub returns-then-out-all : goal.returns-then-out-all
unfolding written_of told spec_number
returns-then-out-all c =
    short-written _ _ (omega (arith, listing-length c.args.number c.args.c c.args.k c.args.slots.now))

pub returns : goal.returns
unfolding written_of told spec_number
returns c =
    listing-written c.args.number _ _ _ _ _ _ (omega arith) c.write_line.ensures c.write_entries.ensures
