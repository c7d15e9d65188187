-- What one record of a pattern does in the walk, apart from the records after it: the walk is this, and then going on.
use Rattle.std.specs.Prelude.{List, [], ◌∷◌, ◌++◌, map, Bool, true, false, length, get_or, ℕ, zero, ◌<◌}
use Rattle.std.proofs.Math.Option.{Option, some, none}
use Rattle.std.proofs.Math.Decide.{dec_lt}
use Rattle.term_spec.specs.Value.{Value, contents, same?, sames?, takes?}
use Rattle.match_spec.specs.Element.{Element, lit, opening, closing, call, one, many, Level}
use Rattle.match_spec.specs.Walk.{Event, tried, reached, Reading, strip, rigid_fits, upto, when, walk}

-- What a record does: nothing fits; it goes on with these levels and entries; an open e-variable is to be split at a level, with the levels
-- around it and the entries; a Call or Block.
pub data Turn (R : Type 0) : Type 0 where
  stop : Turn R
  next : List R → List R → Turn R
  split : R → List R → List R → Turn R
  called : Turn R

-- Goes on where the decision says yes.
unfoldable pub turn_if : {R P : Type 0} → Dec P → Turn R → Turn R
turn_if (yes h) t = t
turn_if (no h) t = stop

-- Goes on where there is something.
unfoldable pub turn_enter : {R : Type 0} → Option (List Value) → Turn R → Turn R
turn_enter none t = stop
turn_enter (some l) t = t

-- Goes on with the first term of a level.
unfoldable pub turn_head : {R : Type 0} → Level → (Value → Turn R) → Turn R
turn_head [] f = stop
turn_head (v ∷ c) f = f v

-- Goes on where a level has ended.
unfoldable pub turn_empty : {R : Type 0} → Level → Turn R → Turn R
turn_empty [] t = t
turn_empty (v ∷ c) t = stop

-- The first term of the innermost level; f is given it, the level, and the levels after it.
unfoldable pub turn_first : {R : Type 0} → Reading R → List R → (Value → R → List R → Turn R) → Turn R
turn_first rd [] f = stop
turn_first rd (r ∷ st) f = turn_head (rd.cells r) (λ v. f v r (rd.back 1 r ∷ st))

-- The innermost level ends, with another around it.
unfoldable pub turn_leave : {R : Type 0} → Reading R → List R → List R → Turn R
turn_leave rd [] env = stop
turn_leave rd (r ∷ []) env = stop
turn_leave rd (r ∷ (q ∷ st)) env = turn_empty (rd.cells r) (next (q ∷ st) env)

-- Entry n gets x: a known entry must show equal terms, a new one is added.
unfoldable pub turn_bind : {R : Type 0} → Reading R → (n : ℕ) → R → List R → (env : List R) → Dec (n < length env) → Turn R
turn_bind rd n x st env (yes h) = turn_if (sames? (rd.cells (get_or env n rd.nothing)) (rd.cells x)) (next st env)
turn_bind rd n x st env (no h) = next st (env ++ (x ∷ []))

-- An e-variable x at level r: a bound one must equal the terms ahead; one that ends its level takes what remains; an open one is split.
unfoldable pub turn_spread : {R P : Type 0} → Reading R → Dec P → Bool → R → List R → R → List R → Turn R
turn_spread rd (yes h) last x env r st = turn_enter (strip (rd.cells x) (rd.cells r)) (next (rd.back (length (rd.cells x)) r ∷ st) env)
turn_spread rd (no h) true x env r st = next (rd.back (length (rd.cells r)) r ∷ st) (env ++ (r ∷ []))
turn_spread rd (no h) false x env r st = split r st env

-- Goes on with the innermost level.
unfoldable pub turn_top : {R : Type 0} → List R → (R → List R → Turn R) → Turn R
turn_top [] f = stop
turn_top (r ∷ st) f = f r st

-- What the element does at the levels ls (innermost first) and the entries known so far; `last` says whether its level ends after it.
unfoldable pub turn : {R : Type 0} → Reading R → Element ℕ → Bool → List R → List R → Turn R
turn rd (lit v) last ls env = turn_first rd ls (λ w r st. turn_if (same? v w) (next st env))
turn rd opening last ls env = turn_first rd ls (λ w r st. turn_enter (contents w) (next (rd.inner r ∷ st) env))
turn rd closing last ls env = turn_leave rd ls env
turn rd call last ls env = called
turn rd (one k n) last ls env = turn_first rd ls (λ w r st. turn_if (takes? k w) (turn_bind rd n (rd.front 1 r) st env (dec_lt n (length env))))
turn rd (many n) last ls env = turn_top ls (λ r st. turn_spread rd (dec_lt n (length env)) last (get_or env n rd.nothing) env r st)

-- One split of an open e-variable at level r: k terms go to it, if the rigid run after it fits.
unfoldable pub one_split : {R : Type 0} → Reading R → List (Element ℕ) → R → List R → List R → ℕ → List (Event (List R))
one_split rd p r st env k =
    when (rigid_fits p zero (map rd.cells env) (rd.cells (rd.back k r))) (tried ∷ walk rd p (rd.back k r ∷ st) (env ++ (rd.front k r ∷ [])))

-- What the walk goes on with, p being the records after.
unfoldable pub onward : {R : Type 0} → Reading R → List (Element ℕ) → Turn R → List (Event (List R))
onward rd p stop = []
onward rd p (next ls env) = walk rd p ls env
onward rd p (split r st env) = upto (one_split rd p r st env) (length (rd.cells r))
onward rd p called = reached ∷ []
