-- Each exit is one law of a valid store, and so is the step to the right.
use Rattle.std.proofs.Common.{arith, ◌∙◌}
use Rattle.words.proofs.KindLaws.{of_kind, not_of_kind}
use Rattle.drop_front.specs.StopLaws.{step_right, stop_stay, stop_cut, stop_under, stop_on}
use Rattle.drop_front.proofs.stop_at.Goals as goal

pub overflow_add-result : goal.overflow_add-result
overflow_add-result c =
    let asked = c.requires in
    let inv = c.loop-left.invariant in
    let fits = (inv.1 _ asked.store asked.reaches).0 in
    let low = asked.reaches.low in
    let t = stop_cut _ _ asked.store _ _ (omega (arith, inv.0, low)) c.get-n.ensures fits (λ z. omega arith) c.if-left-n.true (of_kind c.is.ensures c.if-is.true) in
    omega (arith, t.0)

pub returns-then-is : goal.returns-then-is
returns-then-is c used store reaches =
    let inv = c.loop-left.invariant in
    let (fits, same) = inv.1 used store reaches in
    let t = stop_cut _ _ store _ _ (omega (arith, inv.0, reaches.low)) c.get-n.ensures fits (λ z. omega arith) c.if-left-n.true (of_kind c.is.ensures c.if-is.true) in
    stop_on _ _ _ _ _ _ inv.0 same t.1

pub returns-then-left-n : goal.returns-then-left-n
returns-then-left-n c used store reaches =
    let inv = c.loop-left.invariant in
    let (fits, same) = inv.1 used store reaches in
    let t = stop_under _ _ store _ _ (omega (arith, inv.0, reaches.low)) c.get-n.ensures fits (λ z. omega arith) c.if-left-n.true (not_of_kind c.is.ensures c.if-is.false) in
    stop_on _ _ _ _ _ _ inv.0 same t

pub loop-left-smaller : goal.loop-left-smaller
loop-left-smaller c =
    let asked = c.requires in
    let inv = c.loop-left.invariant in
    let fits = (inv.1 _ asked.store asked.reaches).0 in
    (step_right _ _ asked.store _ _ (omega (arith, inv.0, asked.reaches.low)) c.get-n.ensures fits (λ z. omega arith) c.if-left-n.false).low

pub loop-left-preserved : goal.loop-left-preserved
loop-left-preserved c =
    let inv = c.loop-left.invariant in (
      omega (arith, loop-left-smaller c, inv.0),
      λ used store reaches.
          let (fits, same) = inv.1 used store reaches in
          let o = step_right _ _ store _ _ (omega (arith, inv.0, reaches.low)) c.get-n.ensures fits (λ z. omega arith) c.if-left-n.false in
          (o.fits, o.same ∙ same),
    )

pub returns : goal.returns
returns c used store reaches =
    let inv = c.loop-left.invariant in
    stop_on _ _ _ _ _ _ inv.0 (inv.1 used store reaches).1 (stop_stay _ _ store _ _ (omega (arith, inv.0, reaches.low)) (omega arith))
