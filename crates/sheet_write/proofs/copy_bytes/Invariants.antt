-- The first i bytes are copied.
use Rattle.std.proofs.Common.{◌≡◌, take}
use Rattle.sheet_spec.specs.Job.{laid_at}
use Rattle.sheet_write.proofs.copy_bytes.Given as goal

abbrev pub invariant-loop-i : goal.invariant-loop-i
invariant-loop-i l = l.out ≡ laid_at l.initial.out l.p (take l.i l.bytes)
