-- Contents of the depth that the bracket says: what is left is that it is not too deep.
use Rattle.std.proofs.Common.{arith}
use Rattle.value.specs.CheckLaws.{bracket_exact}
use Rattle.value.proofs.bracket_ok.Goals as goal

pub returns-then-t-deepest : goal.returns-then-t-deepest
returns-then-t-deepest c = bracket_exact _ _ _ (omega arith) c.deepest.ensures (omega arith)
