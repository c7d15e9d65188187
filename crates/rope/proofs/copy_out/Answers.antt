use Rattle.term_spec.specs.Words.{records}
use Rattle.rope.specs.CopiedLaws.{task_out}
use Rattle.rope.proofs.copy_out.Goals as goal

pub copy_whole-requires : goal.copy_whole-requires
copy_whole-requires c = let shows = c.requires.shows in (_, task_out shows.below shows.reaches c.requires.room)

pub returns : goal.returns
unfolding records
returns c used below reaches = c.copy_whole.ensures used (task_out below reaches c.requires.room)
