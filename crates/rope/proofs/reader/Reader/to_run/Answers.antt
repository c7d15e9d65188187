-- A step on to the right, into the left, or past a full stack leaves the first terms of those before it; each is one law of pieces.
use Rattle.std.proofs.Common.{arith, refl, sym, ◌∙◌, eqb-true}
use borrow.Author.Tests.{eqb-false}
use Rattle.rope.specs.PiecesLaws.{goes_here, goes_on, goes_small, goes_in, goes_split, goes_cut, goes-front, front_fits, front_read}
use Rattle.rope.proofs.reader.Reader.to_run.Goals as goal

pub get-n-requires : goal.get-n-requires
get-n-requires c =
    let asked = c.requires in
    let goes = c.loop-fuel.invariant.goes _ asked.store asked.ready in
    omega (arith, asked.store.store.fits, (goes_here _ _ asked.store goes refl).0)

-- ---- the part is used up: on to the tail or right ----

pub loop-fuel-preserved-then-n-at : goal.loop-fuel-preserved-then-n-at
loop-fuel-preserved-then-n-at c =
    let inv = c.loop-fuel.invariant in
    record { whole = inv.whole; done = inv.done; goes = λ used store ready. goes_on _ _ store (inv.goes used store ready) c.get-n.ensures c.if-n-at.true }

-- ---- a run ----

pub overflow_add-result : goal.overflow_add-result
overflow_add-result c =
    let asked = c.requires in
    let goes = c.loop-fuel.invariant.goes _ asked.store asked.ready in
    let low = (goes_here _ _ asked.store goes refl).0 in
    let begins = goes-front _ _ asked.store goes c.get-n.ensures (eqb-true _ _ (sym c.is.ensures ∙ c.if-is.true)) c.if-n-at.false in
    omega (arith, front_fits _ _ _ _ low c.get-n.ensures asked.store begins)

pub returns-then-is-clause-run : goal.returns-then-is-clause-run
returns-then-is-clause-run c used store ready =
    let goes = c.loop-fuel.invariant.goes used store ready in
    let low = (goes_here _ _ store goes refl).0 in (
      record { goes = goes; begins = goes-front _ _ store goes c.get-n.ensures (eqb-true _ _ (sym c.is.ensures ∙ c.if-is.true)) c.if-n-at.false },
      front_read _ _ _ _ low c.get-n.ensures _ c.min.ensures,
    )

-- ---- the piece lies in the left ----

pub loop-fuel-preserved-then-at-here : goal.loop-fuel-preserved-then-at-here
loop-fuel-preserved-then-at-here c =
    let inv = c.loop-fuel.invariant in
    record {
      whole = inv.whole;
      done = inv.done;
      goes = λ used store ready.
          goes_in _ _ store (inv.goes used store ready) c.get-n.ensures (eqb-false _ _ (sym c.is.ensures ∙ c.if-is.false)) c.if-n-at.false c.if-at-here.true;
    }

-- ---- the stack is full ----

pub loop-fuel-preserved-then-is_full : goal.loop-fuel-preserved-then-is_full
loop-fuel-preserved-then-is_full c =
    let inv = c.loop-fuel.invariant in
    record { whole = inv.whole; done = inv.done; goes = λ used store ready. goes_cut (inv.goes used store ready) c.clear.ensures }

-- ---- the piece goes on in the right, which waits ----

pub push-requires : goal.push-requires
push-requires c =
    let asked = c.requires in
    let goes = c.loop-fuel.invariant.goes _ asked.store asked.ready in
    let here = goes_here _ _ asked.store goes c.get-n.ensures in
    let small = goes_small _ _ asked.store goes c.get-n.ensures (eqb-false _ _ (sym c.is.ensures ∙ c.if-is.false)) c.if-n-at.false in
    (omega arith, (c.if-is_full.ensures refl, small.1, omega (arith, here.2)))

pub loop-fuel-preserved : goal.loop-fuel-preserved
loop-fuel-preserved c =
    let inv = c.loop-fuel.invariant in
    record {
      whole = inv.whole;
      done = inv.done;
      goes = λ used store ready.
          goes_split _ _ store (inv.goes used store ready) c.get-n.ensures (eqb-false _ _ (sym c.is.ensures ∙ c.if-is.false)) c.if-n-at.false c.if-at-here.false c.push.ensures;
    }
