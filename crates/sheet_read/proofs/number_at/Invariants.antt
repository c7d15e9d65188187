-- The columns passed are scanned, and so many digits bound the number.
use Rattle.std.proofs.Common.{◌≡◌, ◌<◌}
use Rattle.sheet_spec.specs.Sheet.{scan}
use Rattle.sheet_read.specs.Read.{as_columns, value_of}
use Rattle.sheet_read.specs.NumberLaws.{tens}
use Rattle.sheet_read.proofs.number_at.Given as goal

abbrev pub invariant-loop-b : goal.invariant-loop-b
invariant-loop-b l = (as_columns l.c ≡ scan l.text l.p l.b-index) × (value_of l.c < tens l.b-index)
