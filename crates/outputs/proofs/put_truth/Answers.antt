-- Yes is 1 and no is 0; a refusal tells its number alone.
use Rattle.std.proofs.Common.{Bool, true, false, ◌≡◌, ℕ, refl}
use Rattle.calls_spec.specs.Step.{answer_number}
use Rattle.equality.specs.Compare.{found}
use Rattle.outputs.specs.Numbers.{told_by}
use Rattle.outputs.specs.Outputs.{bit, values_of, or_old, truth_out, compared_out}
use Rattle.outputs.proofs.put_truth.Goals as goal

told_bit : (b : Bool) → mir.Val.bool_byte b ≡ bit b
unfolding bit
told_bit true = refl
told_bit false = refl

compared_bit : (b : Bool) (old : ℕ) → (0, bit b) ≡ compared_out (found b) old
unfolding bit found compared_out
compared_bit true old = refl
compared_bit false old = refl

pub returns-in-Ok-clause-fields : goal.returns-in-Ok-clause-fields
unfolding told_by truth_out answer_number values_of or_old
returns-in-Ok-clause-fields g c = rw (c.in-Ok.is, c.from.ensures, told_bit _) refl

pub returns-in-Ok-clause-runs : goal.returns-in-Ok-clause-runs
unfolding told_by
returns-in-Ok-clause-runs g c = rw (c.in-Ok.is, c.from.ensures, told_bit _) (compared_bit c.in-Ok.b _)

pub returns-in-Err-clause-fields : goal.returns-in-Err-clause-fields
unfolding told_by truth_out answer_number values_of or_old
returns-in-Err-clause-fields g c = rw (c.in-Err.is, c.number.ensures)

pub returns-in-Err-clause-runs : goal.returns-in-Err-clause-runs
unfolding told_by compared_out
returns-in-Err-clause-runs g c = rw (c.in-Err.is, c.number.ensures)
