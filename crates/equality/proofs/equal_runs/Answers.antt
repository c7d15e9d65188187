-- Runs of two lengths differ, empty ones are equal, those whose first terms differ do, and all others are told by `equal_kept`.
use Rattle.std.proofs.Common.{not, sym, ap, ◌∙◌, eq-eqb, ne_eqb, arith}
use Rattle.value.specs.EqualLaws.{runs_lengths, runs-all, runs_none}
use Rattle.equality.specs.StoreLaws.{runs_in}
use Rattle.equality.specs.TwoLaws.{firsts_inside, runs-apart}
use Rattle.equality.proofs.equal_runs.Goals as goal

pub returns-else-first-second : goal.returns-else-first-second
returns-else-first-second c =
    let (first, second) = c.requires.within in
    (ne_eqb _ _ c.if-first-second.false ∙ runs_lengths _ _ _ _ _ _ _ first second c.if-first-second.false, c.requires.memory)

pub returns-then-first-eq0 : goal.returns-then-first-eq0
returns-then-first-eq0 c =
    let none = c.if-first-eq0.true in
    let all = runs-all _ _ _ _ _ _ _ c.if-first-second.true in
    (eq-eqb _ _ none ∙ sym (all ∙ runs_none _ _ _ _ _ _ _ (omega (arith, none))), c.requires.memory)

pub returns-else-not-apart_at_sight : goal.returns-else-not-apart_at_sight
returns-else-not-apart_at_sight c =
    let lies = runs_in c.args.store.now _ _ c.requires.within.0 c.requires.within.1 in
    let same = c.if-first-second.true in
    let some = c.if-first-eq0.false in
    let apart = c.if-not-apart_at_sight.false in
    let first = c.apart_at_sight.ensures _ _ (firsts_inside lies same some) apart in
    (ap not apart ∙ sym (runs-apart lies same some first), c.requires.memory)
