use Rattle.std.proofs.Common.{add-zero}
use Rattle.rope.specs.CopiedLaws.{task_after}
use Rattle.rope.proofs.copy_after.Goals as goal

pub copy_whole-requires : goal.copy_whole-requires
copy_whole-requires c = let shows = c.requires.shows in (_, task_after c.requires.few c.requires.room shows.store shows.reaches)

pub returns : goal.returns
returns c used store reaches = rw add-zero at (c.copy_whole.ensures used (task_after c.requires.few c.requires.room store reaches))
