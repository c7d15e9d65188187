-- Each turn goes to a lower node, and makes what its law says.
use Rattle.std.proofs.Common.{arith, refl}
use Rattle.join.specs.TurnLaws.{piece_in, makes_base, makes_single, makes_double, rest_single, rest_double}
use Rattle.join.proofs.join_makes.Goals as goal

pub returns-in-Base : goal.returns-in-Base
returns-in-Base c used store piece =
    let (there, same) = c.loop-x.invariant.1 used store piece in
    omega (arith, same, makes_base (c.in-Base.ensures _ store there) refl)

pub overflow_add-made : goal.overflow_add-made
overflow_add-made c =
    let asked = c.requires in
    omega (arith, c.loop-x.invariant.0, piece_in _ _ asked.piece, asked.store.store.few)

pub loop-x-preserved-in-Single : goal.loop-x-preserved-in-Single
loop-x-preserved-in-Single c =
    let inv = c.loop-x.invariant in
    let asked = c.requires in
    let lower = rest_single (c.in-Single.ensures _ asked.store (inv.1 _ asked.store asked.piece).0) refl in (
      omega (arith, inv.0, lower.0),
      λ used store piece.
          let (there, same) = inv.1 used store piece in
          let t = c.in-Single.ensures _ store there in
          ((rest_single t refl).1, omega (arith, same, makes_single t refl)),
    )

pub overflow_add-made-in-Double : goal.overflow_add-made-in-Double
overflow_add-made-in-Double c =
    let asked = c.requires in
    omega (arith, c.loop-x.invariant.0, piece_in _ _ asked.piece, asked.store.store.few)

pub loop-x-preserved : goal.loop-x-preserved
loop-x-preserved c =
    let inv = c.loop-x.invariant in
    let asked = c.requires in
    let lower = rest_double (c.in-Double.ensures _ asked.store (inv.1 _ asked.store asked.piece).0) refl in (
      omega (arith, inv.0, lower.0),
      λ used store piece.
          let (there, same) = inv.1 used store piece in
          let t = c.in-Double.ensures _ store there in
          ((rest_double t refl).1, omega (arith, same, makes_double t refl)),
    )
