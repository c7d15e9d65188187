-- The table's entry at the term's column, and nothing past the table.
use Rattle.std.proofs.Common.{arith, ap, ap₂, ◌∙◌}
use Rattle.kinds.specs.Variables.{row_of}
use Rattle.kinds.specs.Kinds.{takes_term, takes_at}
use Rattle.kinds.specs.KindLaws.{takes_none, row_low}
use Rattle.kinds.proofs.variable_accepts.Goals as goal

pub returns-in-Some : goal.returns-in-Some
unfolding takes_term
returns-in-Some c = c.takes.ensures ∙ ap₂ takes_at c.row.ensures.0 c.in-Some.ensures.1

pub returns-in-None : goal.returns-in-None
unfolding takes_term
returns-in-None c = takes_none (row_of c.args.kind) 7 (row_low c.args.kind) (omega arith) ∙ ap (takes_at (row_of c.args.kind)) c.in-None.ensures
