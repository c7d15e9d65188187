-- Laws of outcomes.
use Rattle.std.specs.Prelude.{◌≡◌, Bool, true, false, ℕ, ◌≤◌}
use Rattle.equality.specs.declared.Outcome.{Outcome}
use Rattle.equality.specs.declared.Outcome.TheVariants.{Different, Equal}
use Rattle.equality.specs.Within.{Tells}

pub tells_different : {budget left : ℕ} {r : Outcome} {b : Bool} → Tells budget r b → r ≡ Different left → (b ≡ false) × (left ≤ budget)
unfolding Tells
tells_different h e = rw e at h

pub tells-equal : {budget left : ℕ} {r : Outcome} {b : Bool} → Tells budget r b → r ≡ Equal left → (b ≡ true) × (left ≤ budget)
unfolding Tells
tells-equal h e = rw e at h
