-- `walk_keeping`: words that are all 0 say nothing yet.
use Rattle.equality.specs.MemoryLaws.{memory_none}
use Rattle.listing.proofs.walks.walk_keeping.Goals as goal

pub walk_with-requires : goal.walk_with-requires
walk_with-requires g c = (c.requires.can_start, memory_none _ _ _ g.row.N)
