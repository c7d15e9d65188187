-- Two words are set past those of the fields that wait.
use Rattle.std.proofs.Common.{◌≡◌, length, length-set, arith, ap, sym, ◌∙◌}
use Rattle.std.specs.Prelude.{◌∷◌}
use Rattle.places.specs.Ahead.{as_field}
use Rattle.places.specs.RestLaws.{waiting-length, pushed}
use Rattle.places.proofs.pieces.Stack.push.Goals as goal

pub set_word-requires : goal.set_word-requires
set_word-requires g c =
    let d : length c.args.self.now ≡ c.self.inside.depth = ap length (sym c.self.view_is) ∙ waiting-length _ _ in
    (omega (arith, c.self.told, c.requires.0), omega (arith, c.requires.1))

pub set_word-requires-2 : goal.set_word-requires-2
set_word-requires-2 g c =
    let d : length c.args.self.now ≡ c.self.inside.depth = ap length (sym c.self.view_is) ∙ waiting-length _ _ in
    let l = ap length c.set_word.ensures ∙ length-set _ _ _ in
    (omega (arith, l, c.self.told, c.requires.0), omega (arith, c.requires.2))

pub invariant_of-self : goal.invariant_of-self
invariant_of-self g c =
    let d : length c.args.self.now ≡ c.self.inside.depth = ap length (sym c.self.view_is) ∙ waiting-length _ _ in
    omega (arith, c.requires.0)

pub returns : goal.returns
returns g c =
    let d : length c.args.self.now ≡ c.self.inside.depth = ap length (sym c.self.view_is) ∙ waiting-length _ _ in
    pushed _ _ _ _ _ _ (omega (arith, c.self.told, c.requires.0)) c.set_word.ensures c.set_word-2.ensures
    ∙ ap (as_field c.args.f ∷◌) c.self.view_is
