-- A Concat whose left is long enough hands on to it, which is lower; any other node is the answer.
use Rattle.std.proofs.Common.{arith, sym, ◌∙◌}
use borrow.Author.Tests.{eqb-true, eqb-false}
use Rattle.nodes.specs.MakeLaws.{unclamp_stop, unclamp-left}
use Rattle.nodes.proofs.unclamp.Goals as goal
use Rattle.nodes.proofs.unclamp.Goals.{then-not-is-via-then-not-is, then-not-is-via-else-not-is+then-n-len}

pub returns-then-not-is : goal.returns-then-not-is
returns-then-not-is c =
    let inv = c.loop-n.invariant in (
      inv.0,
      λ used store low.
          sym (unclamp_stop _ _ _ store.store _ _ (omega (arith, inv.0)) c.get-n.ensures
          (λ k. elim c.then-not-is.branch [
            | then-not-is-via-then-not-is w ↦ absurd (eqb-false _ _ (sym c.is.ensures ∙ w.if-not-is.true) k)
            | then-not-is-via-else-not-is+then-n-len w ↦ w.if-n-len.true
          ]))
          ∙ inv.1 used store low,
    )

pub loop-n-smaller : goal.loop-n-smaller
loop-n-smaller c =
    let asked = c.requires in
    (unclamp-left _ _ _ asked.store.store _ _ (omega (arith, asked.low, c.loop-n.invariant.0)) c.get-n.ensures (eqb-true _ _ (sym c.is.ensures ∙ c.if-not-is.false)) c.if-n-len.false).0

pub loop-n-preserved : goal.loop-n-preserved
loop-n-preserved c =
    let inv = c.loop-n.invariant in (
      omega (arith, inv.0, loop-n-smaller c),
      λ used store low.
          sym (unclamp-left _ _ _ store.store _ _ (omega (arith, inv.0)) c.get-n.ensures (eqb-true _ _ (sym c.is.ensures ∙ c.if-not-is.false)) c.if-n-len.false).1 ∙ inv.1 used store low,
    )
