-- Every run ends within the terms, or one does not; the run tested is the entry of the record read.
use Rattle.std.specs.Prelude.{◌≡◌, true, false, ◌/◌, length, ℕ}
use Rattle.std.proofs.Common.{rules, arith, ap, sym, ◌∙◌}
use borrow.Author.Tests.{tests}
use Rattle.std.proofs.lemmas.Iterator.{cases_from_all, YieldsList-from_range}
use Rattle.words.specs.RunLaws.{Ends, each_tested}
use Rattle.words.proofs.runs.runs_inside.Goals as goal

pub nonzero_div-n : goal.nonzero_div-n
nonzero_div-n g c = omega (arith, g.met.R.HasRun.some, c.WIDTH.ensures)

pub returns : goal.returns
returns g c =
    let words = c.args.words.now in
    let n : ℕ = length words / c.WIDTH.result in
    let size : length (g.R.HasRun.runs words) ≡ n = g.met.R.HasRun.counted words ∙ ap (length words /◌) (sym c.WIDTH.ensures) in
    let ends = Ends c.args.terms (g.R.HasRun.runs words) n size in
    let entry = g.met.R.HasRun.entry words in
    each_tested _ _ n size _
    (cases_from_all _ _ c.all.result (ends true) (ends false) c.all.ensures.ran (YieldsList-from_range 0 n n (cc) (omega arith))
    (λ x q k. search (rules, tests, entry)) (λ x q k. search (rules, tests, entry)))
