-- Where the walk may stand, and what a turn keeps of that: the runs stay inside the terms, the brackets and the names in step with the pattern.
use Rattle.std.specs.Prelude.{◌≡◌, List, [], ◌∷◌, length, ℕ, suc, zero, ◌<◌, ◌≤◌, max}
use Rattle.term_spec.proofs.ListLaws.{All}
use Rattle.term_spec.specs.Term.{Run}
use Rattle.match_spec.specs.Element.{Element, lit, opening, closing, call, one, many}
use Rattle.match_spec.specs.Pattern.{nesting_limit}
use Rattle.match_spec.proofs.RunLaws.{Inside}
use Rattle.steps.specs.Turn.{Turn, stop, next, split, called}

-- A pattern that fits d brackets around it, b entries known before it and m entries in all.
unfoldable pub Sound : List (Element ℕ) → ℕ → ℕ → ℕ → Type 0
Sound [] d b m = (d ≡ 0) × (b ≡ m)
Sound (lit v ∷ p) d b m = Sound p d b m
Sound (opening ∷ p) d b m = (d < nesting_limit) × Sound p (suc d) b m
Sound (closing ∷ p) zero b m = ⊥
Sound (closing ∷ p) (suc d) b m = Sound p d b m
Sound (call ∷ p) d b m = Sound p d b m
Sound (one k n ∷ p) d b m = (n ≤ b) × Sound p d (max b (suc n)) m
Sound (many n ∷ p) d b m = (n ≤ b) × Sound p d (max b (suc n)) m

-- The walk may stand at the levels r and st around it: they and the entries are inside the terms, and the pattern fits.
pub record Stays (used : ℕ) (p : List (Element ℕ)) (m : ℕ) (r : Run) (st env : List Run) : Type 0 where
  pub level_in : Inside used r
  pub around_in : All (Inside used) st
  pub entries_in_lem : All (Inside used) env
  pub shallow : length st ≤ nesting_limit
  pub sound : Sound p (length st) (length env) m

-- A split is at the innermost level, with the levels around it and the entries as they are, and one entry more is known after it.
pub record KeepsPlace (p : List (Element ℕ)) (m : ℕ) (r q : Run) (st us env new : List Run) : Type 0 where
  pub level : q ≡ r
  pub around : us ≡ st
  pub entries : new ≡ env
  pub sound : Sound p (length st) (suc (length env)) m

-- Where a turn goes on, the walk may stand there; where it splits, it keeps the place.
unfoldable pub Kept : ℕ → List (Element ℕ) → ℕ → Run → List Run → List Run → Turn Run → Type 0
Kept used p m r st env stop = Unit {0}
Kept used p m r st env (next [] new) = ⊥
Kept used p m r st env (next (q ∷ us) new) = Stays used p m q us new
Kept used p m r st env (split q us new) = KeepsPlace p m r q st us env new
Kept used p m r st env called = Unit {0}

-- Where a turn goes on, at least n entries are known.
unfoldable pub Grows : {R : Type 0} → ℕ → Turn R → Type 0
Grows n stop = Unit {0}
Grows n (next ls new) = n ≤ length new
Grows n (split q us new) = Unit {0}
Grows n called = Unit {0}
