-- The numbers at the places passed are the same.
use Rattle.std.proofs.Common.{◌≡◌, ℕ, ◌<◌, get_or}
use Rattle.rope.proofs.equal_at.Given as goal

abbrev pub invariant-loop-i : goal.invariant-loop-i
invariant-loop-i l = (j : ℕ) → j < l.i → get_or l.known (get_or l.first j 0) 0 ≡ get_or l.known (get_or l.second j 0) 0
