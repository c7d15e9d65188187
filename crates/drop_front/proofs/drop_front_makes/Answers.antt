-- At a stop, its law says what is left.
use Rattle.std.proofs.Common.{arith}
use Rattle.drop_front.specs.StopLaws.{makes_stay, makes_cut, makes_under}
use Rattle.drop_front.proofs.drop_front_makes.Goals as goal

pub returns-in-Stay : goal.returns-in-Stay
returns-in-Stay c used store reaches =
    let (fits, same) = c.loop-inside.invariant.1 used store reaches in
    let s = c.in-Stay.ensures used store (record { low = omega (arith, c.loop-inside.invariant.0, reaches.low); fits = fits }) in
    omega (arith, same, makes_stay _ _ _ s)

pub returns-in-Cut : goal.returns-in-Cut
returns-in-Cut c used store reaches =
    let (fits, same) = c.loop-inside.invariant.1 used store reaches in
    let s = c.in-Cut.ensures used store (record { low = omega (arith, c.loop-inside.invariant.0, reaches.low); fits = fits }) in
    omega (arith, same, makes_cut _ _ _ s)

pub loop-inside-preserved : goal.loop-inside-preserved
loop-inside-preserved c =
    let inv = c.loop-inside.invariant in
    let asked = c.requires in
    let at-entry = inv.1 _ asked.store asked.reaches in
    let found = c.in-Under.ensures _ asked.store (record { low = omega (arith, inv.0, asked.reaches.low); fits = at-entry.0 }) in (
      omega (arith, inv.0, found.lower.0),
      λ used store reaches.
          let (fits, same) = inv.1 used store reaches in
          let s = c.in-Under.ensures used store (record { low = omega (arith, inv.0, reaches.low); fits = fits }) in
          (s.lower.1, omega (arith, same, makes_under _ _ _ s)),
    )
