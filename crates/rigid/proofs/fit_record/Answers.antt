-- `rigid::fit_record`: an e-variable's record is its element, and opens nothing.
use Rattle.std.proofs.Common.{◌≡◌, sym, arith}
use Rattle.std.proofs.lemmas.Grind.{common_steps}
use Rattle.steps.specs.StepLaws.{coded_many}
use Rattle.items.specs.Records.{as_item}
use Rattle.rigid.specs.FitLaws.{opens_no}
use Rattle.rigid.proofs.fit_record.Goals as goal

pub returns-in-Ok-EVariable : goal.returns-in-Ok-EVariable
returns-in-Ok-EVariable c =
    let t = c.args.t in
    let e : t.kind ≡ 7 = grind (arith, common_steps) in
    rw (coded_many c.args.store.now.names.now (as_item t) c.args.x e, sym (opens_no t.kind (λ q. omega arith))) c.fit_expression.ensures
