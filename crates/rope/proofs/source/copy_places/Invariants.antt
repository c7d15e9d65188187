-- After i turns the terms at the first i places are written.
use Rattle.std.proofs.Common.{◌+◌}
use Rattle.rope.specs.AtLaws.{Put}
use Rattle.rope.proofs.source.copy_places.Given as goal

abbrev pub invariant-loop-i : goal.invariant-loop-i
invariant-loop-i g l =
    Put (g.S.Source.terms l.source l.initial.words) l.initial.words l.list (g.S.Source.base l.source + l.done) l.k l.words l.i
