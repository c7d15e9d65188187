-- The two words before those that are free are the last field.
use Rattle.std.proofs.Common.{◌≡◌, sym, ap, ◌∙◌}
use Rattle.std.specs.Prelude.{[]}
use Rattle.places.specs.Rest.{waiting}
use Rattle.places.specs.RestLaws.{none_wait, last_waits}
use Rattle.places.proofs.pieces.Stack.pop.Goals as goal

pub returns-then-self-eq0 : goal.returns-then-self-eq0
returns-then-self-eq0 g c =
    let e : c.args.self.now ≡ [] = sym c.self.view_is ∙ ap (waiting c.self.inside.words) c.if-self-eq0.true ∙ none_wait _ in (e, e)

pub returns : goal.returns
returns g c = sym c.self.view_is ∙ last_waits _ _ c.if-self-eq0.false c.word.ensures c.word-2.ensures
