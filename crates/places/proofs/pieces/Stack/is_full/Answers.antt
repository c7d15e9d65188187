-- There are as many fields as the depth says.
use Rattle.std.proofs.Common.{◌≡◌, length, arith, ap, sym, ◌∙◌, ltb-false}
use Rattle.places.specs.RestLaws.{waiting-length}
use Rattle.places.proofs.pieces.Stack.is_full.Goals as goal

pub returns : goal.returns
returns g c h =
    let d : length c.args.self.now ≡ c.self.inside.depth = ap length (sym c.self.view_is) ∙ waiting-length _ _ in
    omega (arith, ltb-false _ _ h)
