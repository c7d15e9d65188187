-- What is read of the rest is written after the terms that are there already.
use Rattle.std.proofs.Common.{refl, add-zero}
use Rattle.rope.specs.AtLaws.{task_kept, copied_rest}
use Rattle.rope.proofs.copy_whole.Goals as goal

pub copy_rest-requires-clause-task : goal.copy_rest-requires-clause-task
copy_rest-requires-clause-task g c =
    let asked = c.requires.1 in
    let some = c.copy_some-done.ensures in
    let first = rw add-zero at (some.1 _ asked) in
    (_, (task_kept (g.S.Source.terms c.args.source) _ _ (g.met.S.Source.kept c.args.source) asked some.0 first).0)

pub returns-then-done-whole : goal.returns-then-done-whole
returns-then-done-whole g c used asked =
    let some = c.copy_some-done.ensures in
    let first = rw add-zero at (some.1 used asked) in
    let kept = task_kept (g.S.Source.terms c.args.source) _ _ (g.met.S.Source.kept c.args.source) asked some.0 first in
    rw add-zero (copied_rest asked _ some.0 _ refl first (rw kept.1 at (c.copy_rest.ensures used kept.0)))
