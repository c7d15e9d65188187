-- The lengths of the runs, one after the other, sum to their total.
use Rattle.std.specs.Prelude.{◌/◌, length}
use Rattle.std.specs.List.{range_with_len}
use Rattle.std.proofs.Common.{rules, arith, ◌∙◌}
use Rattle.std.proofs.lemmas.Iterator.{YieldsList-from_range, YieldsList-from_map}
use Rattle.std.proofs.lemmas.Iterator.Consumers.{sum_by_from_yields_List, fits_by_from_yields_list}
use Rattle.from_runs.specs.RunLaws.{length_of, lengths_sum, total_low}
use Rattle.from_runs.proofs.runs_total.Goals as goal

pub sum-requires-clause-fits : goal.sum-requires-clause-fits
sum-requires-clause-fits c =
    let n = length c.args.runs.now / 2 in
    fits_by_from_yields_list (length_of c.args.runs.now) (range_with_len 0 n) c.map.result _
    (YieldsList-from_map _ (length_of c.args.runs.now) (YieldsList-from_range 0 n n (cc) (omega arith)) c.map.ensures.closure (λ x r q k. search rules))
    (omega (arith, lengths_sum c.args.runs.now, total_low _ _ c.requires.inside.few_terms c.requires.few c.requires.inside.rule))

pub returns : goal.returns
returns c =
    let n = length c.args.runs.now / 2 in
    sum_by_from_yields_List (length_of c.args.runs.now) (range_with_len 0 n) c.map.result _ c.sum.ensures.ran
    (YieldsList-from_map _ (length_of c.args.runs.now) (YieldsList-from_range 0 n n (cc) (omega arith)) c.map.ensures.closure (λ x r q k. search rules))
    ∙ lengths_sum c.args.runs.now
