-- The chart is the list of lowered bytes, and each entry of that list is the rule's.
use Rattle.std.proofs.Common.{rules}
use Rattle.text.proofs.LowerTable.{entry_lowered}
use Rattle.text.specs.LowerTable.{lowered_bytes}
use Rattle.text.proofs.lower.Goals as goal

pub returns : goal.returns
unfolding lowered_bytes
returns c = entry_lowered c.args.c (search rules)
