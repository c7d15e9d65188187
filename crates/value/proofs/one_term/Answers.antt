-- The deepest bracket of a run of one term is the term's own depth.
use Rattle.std.proofs.Common.{rules}
use Rattle.value.specs.BlockLaws.{deepest-one}
use Rattle.value.proofs.one_term.Goals as goal

pub returns : goal.returns
returns c = record { some = search rules; fits = search rules; right = deepest-one _ _ _ c.get-t.ensures c.depth_of.ensures }
