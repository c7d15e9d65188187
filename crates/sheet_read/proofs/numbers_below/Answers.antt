use Rattle.std.proofs.Common.{◌<◌, ◌≤◌, ◌+◌, ◌*◌, refl, arith, rules}
use borrow.Author.Tests.{tests}
use Rattle.std.proofs.lemmas.Iterator.{cases_from_all, YieldsList-from_range}
use Rattle.sheet_spec.specs.Sheet.{number_at}
use Rattle.sheet_read.specs.LineLaws.{below_all}
use Rattle.sheet_read.proofs.numbers_below.Goals as goal

pub returns : goal.returns
returns c =
    below_all c.args.text.now c.args.bound c.args.p c.args.n
    (cases_from_all _ _ _ (λ i. number_at c.args.text.now (c.args.p + 10 * i) < c.args.bound) (λ i. c.args.bound ≤ number_at c.args.text.now (c.args.p + 10 * i))
    c.all.ensures.ran (YieldsList-from_range 0 c.args.n c.args.n refl (omega arith)) (λ x q k. search (rules, tests)) (λ x q k. search (rules, tests)))
