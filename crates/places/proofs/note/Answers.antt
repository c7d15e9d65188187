use Rattle.std.proofs.Common.{◌∙◌}
use Rattle.places.specs.ReadLaws.{noted-start, noted_inner}
use Rattle.places.proofs.note.Goals as goal

pub returns-then-at-eq0 : goal.returns-then-at-eq0
returns-then-at-eq0 c = c.set_word.ensures ∙ noted-start _ _ _ _ c.if-at-eq0.true

pub returns-else-at-eq0 : goal.returns-else-at-eq0
returns-else-at-eq0 c = noted_inner _ _ _ _ c.if-at-eq0.false
