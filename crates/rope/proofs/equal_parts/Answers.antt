-- Each part that is read tells, by the numbers of its terms, whether those before the next part are equal. The last part ends at n.
use Rattle.std.proofs.Common.{◌≡◌, Bool, ◌&&◌, List, ℕ, ◌+◌, ◌-◌, ◌<◌, ◌≤◌, length, min, take, arith, ap, sym, ◌∙◌}
use Rattle.view_spec.specs.Read.{equal_terms}
use Rattle.nodes.specs.NodeStore.{nodes_in}
use Rattle.value.specs.Equal.{values_in}
use Rattle.places.specs.Places.{part, PartRead}
use Rattle.rope.specs.Fronts.{RopesKnown, PlacesKnown, equal_from, picked}
use Rattle.rope.specs.FrontLaws.{from_all}
use Rattle.rope.specs.PartLaws.{parts_known, parts_next}
use Rattle.rope.proofs.equal_parts.Goals as goal

-- a part of two nodes that is read to two lists
module _ {names w nodes : List ℕ} {over used : ℕ} {numbers : List ℕ} {f g n : ℕ} (asked : RopesKnown names w nodes over used numbers f g n)
    {done k : ℕ} (below : done < n) (size : k ≡ min part (n - done)) where
  inside : done + k ≤ n
  inside = omega (arith, size)

  module _ (before before' : List ℕ) (sizes : (length before ≡ part) × (length before' ≡ part)) {first second : List ℕ}
      (x : PartRead nodes f done k before first) (y : PartRead nodes g done k before' second) where
    known : PlacesKnown names w over numbers first second k
    known = parts_known asked _ _ inside _ _ _ _ x y (omega (arith, size, sizes.0)) (omega (arith, size, sizes.1))

    next : {answer b : Bool} → answer ≡ b
        → (PlacesKnown names w over numbers first second k
        → answer ≡ equal_terms (picked (values_in names w over) (take k first)) (picked (values_in names w over) (take k second)))
        → equal_from (values_in names w over) (nodes_in nodes used) f g n done ≡ b && equal_from (values_in names w over) (nodes_in nodes used) f g n (done + k)
    next z e = parts_next asked _ _ inside _ _ _ _ x y (omega (arith, size, sizes.0)) (omega (arith, size, sizes.1)) z (e known)

pub equal_at-requires : goal.equal_at-requires
equal_at-requires c = (
  _,
  _,
  _,
  known c.requires.numbered.4 c.loop-done-test.true c.min-k.ensures _ _ c.loop-done.invariant.sizes c.read_places.ensures c.read_places-in-loop-done.ensures,
)

pub returns-then-not-equal_at : goal.returns-then-not-equal_at
returns-then-not-equal_at c names w over used asked =
    sym (c.loop-done.invariant.alike names w over used asked
    ∙ next asked c.loop-done-test.true c.min-k.ensures _ _ c.loop-done.invariant.sizes c.read_places.ensures c.read_places-in-loop-done.ensures
    c.if-not-equal_at.true (c.equal_at.ensures _ _ _))

pub loop-done-preserved : goal.loop-done-preserved
loop-done-preserved c =
    let full : c.min-k.result ≡ part = omega (arith, c.min-k.ensures) in
    let sizes = c.loop-done.invariant.sizes in
    record {
      sizes = (c.read_places.ensures.1 ∙ sizes.0, c.read_places-in-loop-done.ensures.1 ∙ sizes.1);
      alike = λ names w over used asked.
          c.loop-done.invariant.alike names w over used asked
          ∙ next asked c.loop-done-test.true c.min-k.ensures _ _ sizes c.read_places.ensures c.read_places-in-loop-done.ensures
          c.if-not-equal_at.false (c.equal_at.ensures _ _ _)
          ∙ ap (λ k. equal_from (values_in names w over) (nodes_in c.args.nodes.now used) c.args.f c.args.g c.args.n (c.loop-done.done + k)) full;
    }

pub returns : goal.returns
returns c names w over used asked = sym (c.loop-done.invariant.alike names w over used asked ∙ from_all _ _ _ _ _ c.loop-done.done (omega arith))

pub returns-else-not-equal_at : goal.returns-else-not-equal_at
returns-else-not-equal_at c names w over used asked =
    sym (c.loop-done.invariant.alike names w over used asked
    ∙ next asked c.loop-done-test.true c.min-k.ensures _ _ c.loop-done.invariant.sizes c.read_places.ensures c.read_places-in-loop-done.ensures
    c.if-not-equal_at.false (c.equal_at.ensures _ _ _)
    ∙ from_all _ _ _ _ _ (c.loop-done.done + c.min-k.result) (omega (arith, c.min-k.ensures)))
