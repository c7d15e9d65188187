use Rattle.std.proofs.Common.{ℕ, [], ◌∷◌, ◌+◌, length-set, ap, ◌∙◌, arith}
use Rattle.sheet_spec.specs.Job.{laid_at}
use Rattle.sheet_spec.proofs.LaidLaws.{laid_at-set}
use Rattle.sheet_write.specs.ColumnLaws.{leading_step, column-whole}
use Rattle.sheet_write.proofs.write_column.Goals as goal

pub loop-k-preserved : goal.loop-k-preserved
loop-k-preserved c = leading_step _ _ _ _ _ _ (omega arith) (omega (arith, length-set {A = ℕ})) c.digit_of.ensures (laid_at-set _ _ _ (omega (arith, length-set {A = ℕ}))) ∙ c.loop-k.invariant

pub returns : goal.returns
returns c =
    column-whole _ _ _ _ _ _ _ (omega arith) c.requires
    (laid_at-set _ _ _ (omega arith) ∙ ap (λ x. laid_at c.args.out.now (c.args.p + 9) (x ∷ [])) c.digit.ensures) c.loop-k.invariant
