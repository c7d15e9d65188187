-- 01's walk: what it does, in order, with the projection that matcher.rs makes before it goes into a split ("Trying a pattern"; the Refal-5
-- manual, sections 1.3, 2.2 and 6.4, fixes what a pattern matches, and its meaning is taken as 01 gives it; matcher.rs fixes the order).
use Rattle.std.specs.Prelude.{List, [], ◌∷◌, ◌++◌, map, Bool, true, false, length, get_or, ℕ, suc, zero, ◌+◌, ◌-◌, ◌<◌}
use Rattle.std.proofs.Math.Option.{Option, some, none}
use Rattle.std.proofs.Math.Decide.{dec_lt}
use Rattle.term_spec.specs.Term.{Term, Run, no_run, no_term, part, contents_run}
use Rattle.term_spec.specs.Value.{Value, values, forms, contents, same?, sames?, takes?}
use Rattle.match_spec.specs.Element.{Element, lit, opening, closing, call, one, many, Level, Env, entry}
use Rattle.match_spec.specs.Listing.{guard, enter}

-- A candidate, a split gone into, a Call or Block reached.
pub data Event (E : Type 0) : Type 0 where
  hit : E → Event E
  tried : Event E
  reached : Event E

-- How the terms of a level are read: the canonical forms that R shows, its first k terms, what is left after them, the contents of the
-- bracket at its front, and what shows nothing.
pub record Reading (R : Type 0) : Type 0 where
  pub cells : R → Level
  pub front : ℕ → R → R
  pub back : ℕ → R → R
  pub inner : R → R
  pub nothing : R

-- Runs of a term store.
unfoldable pub cells_of : List ℕ → List Term → Run → Level
cells_of names ts r = forms (part (values names ts) r)

-- Runs of a term store: start and length.
abbrev pub runs : List ℕ → List Term → Reading Run
runs names ts = record {
  cells = cells_of names ts;
  front = λ k r. record { start = r.start; len = k };
  back = λ k r. record { start = r.start + k; len = r.len - k };
  inner = λ r. contents_run (get_or ts r.start no_term);
  nothing = no_run;
}

-- ---- projection ----

-- What is left of a list after a beginning.
unfoldable pub strip : Level → Level → Option Level
strip [] c = some c
strip (v ∷ x) [] = none
strip (v ∷ x) (w ∷ c) = elim (same? v w) [ yes h ↦ strip x c | no h ↦ none ]

-- Goes on where the decision says yes.
unfoldable pub if_fits : {P : Type 0} → Dec P → Bool → Bool
if_fits (yes h) b = b
if_fits (no h) b = false

-- Goes on with the first term and the rest.
unfoldable pub at_head : Level → (Value → Level → Bool) → Bool
at_head [] f = false
at_head (v ∷ c) f = f v c

-- Goes on with what there is, if there is something.
unfoldable pub through : Option Level → (Level → Bool) → Bool
through none f = false
through (some l) f = f l

-- An open e-variable ends the rigid run, and the run fits.
unfoldable pub if_known : {P : Type 0} → Dec P → Bool → Bool
if_known (yes h) b = b
if_known (no h) b = true

-- Whether the rigid run (01's word, for the Refal-5 manual's sections 1.3, 2.2 and 6.4) at the start of a pattern fits the terms c: "the
-- records before the next open e-variable, Call or Block of its level; a bracket counts as one record, 1 wide", each fitting by literal, by
-- the kind a variable takes (a bound s or t is not checked by value), by being a bracket, or by a bound e-variable's terms. d counts the
-- brackets of the run that are being passed over. An absent run, and one 0 wide, fit everywhere.
unfoldable pub rigid_fits : List (Element ℕ) → ℕ → Env → Level → Bool
rigid_fits [] d env c = true
rigid_fits (lit v ∷ p) zero env c = at_head c (λ w r. if_fits (same? v w) (rigid_fits p zero env r))
rigid_fits (lit v ∷ p) (suc d) env c = rigid_fits p (suc d) env c
rigid_fits (opening ∷ p) zero env c = at_head c (λ w r. through (contents w) (λ l. rigid_fits p (suc zero) env r))
rigid_fits (opening ∷ p) (suc d) env c = rigid_fits p (suc (suc d)) env c
rigid_fits (closing ∷ p) zero env c = true
rigid_fits (closing ∷ p) (suc d) env c = rigid_fits p d env c
rigid_fits (call ∷ p) zero env c = true
rigid_fits (call ∷ p) (suc d) env c = rigid_fits p (suc d) env c
rigid_fits (one k n ∷ p) zero env c = at_head c (λ w r. if_fits (takes? k w) (rigid_fits p zero env r))
rigid_fits (one k n ∷ p) (suc d) env c = rigid_fits p (suc d) env c
rigid_fits (many n ∷ p) zero env c = if_known (dec_lt n (length env)) (through (strip (entry env n) c) (λ r. rigid_fits p zero env r))
rigid_fits (many n ∷ p) (suc d) env c = rigid_fits p (suc d) env c

-- Whether a level ends here.
unfoldable pub ends : List (Element ℕ) → Bool
ends [] = true
ends (lit v ∷ p) = false
ends (opening ∷ p) = false
ends (closing ∷ p) = true
ends (call ∷ p) = false
ends (one k n ∷ p) = false
ends (many n ∷ p) = false

-- ---- the walk ----

-- f at 0, 1, .. up to and with m.
unfoldable pub upto : {B : Type 0} → (ℕ → List B) → ℕ → List B
upto f zero = f zero
upto f (suc m) = f zero ++ upto (λ k. f (suc k)) m

-- A list, if a test holds.
unfoldable pub when : {A : Type 0} → Bool → List A → List A
when true l = l
when false l = []

-- Goes on with the first term of a level.
unfoldable pub with_head : {B : Type 0} → Level → (Value → List B) → List B
with_head [] f = []
with_head (v ∷ c) f = f v

-- A list, if a level has ended.
unfoldable pub if_empty : {B : Type 0} → Level → List B → List B
if_empty [] l = l
if_empty (v ∷ c) l = []

-- The first term of the innermost level; f is given it, the level, and the levels after it.
unfoldable pub take_first : {R B : Type 0} → Reading R → List R → (Value → R → List R → List B) → List B
take_first rd [] f = []
take_first rd (r ∷ st) f = with_head (rd.cells r) (λ v. f v r (rd.back 1 r ∷ st))

-- A Close: the innermost level ends, with another around it.
unfoldable pub leave_level : {R B : Type 0} → Reading R → List R → (List R → List B) → List B
leave_level rd [] f = []
leave_level rd (r ∷ []) f = []
leave_level rd (r ∷ (q ∷ st)) f = if_empty (rd.cells r) (f (q ∷ st))

-- The pattern ends: a candidate if the only level does too.
unfoldable pub finish_walk : {R : Type 0} → Reading R → List R → List R → List (Event (List R))
finish_walk rd [] env = []
finish_walk rd (r ∷ []) env = if_empty (rd.cells r) (hit env ∷ [])
finish_walk rd (r ∷ (q ∷ st)) env = []

-- An s- or t-variable: entry n gets the run x; a known entry must show equal terms, a new one is added.
unfoldable pub bind_run : {R B : Type 0} → Reading R → (n : ℕ) → R → (List R → List B) → (env : List R) → Dec (n < length env) → List B
bind_run rd n x f env (yes h) = guard (sames? (rd.cells (get_or env n rd.nothing)) (rd.cells x)) (f env)
bind_run rd n x f env (no h) = f (env ++ (x ∷ []))

-- Goes on with the innermost level.
unfoldable pub top_level : {R B : Type 0} → List R → (R → List R → List B) → List B
top_level [] f = []
top_level (r ∷ st) f = f r st

-- An e-variable x before the pattern p, at level r: "a bound one must equal the terms ahead"; one "that ends its level takes what remains";
-- "an open one is tried at splits from 0 upward", those where the rigid run after it fits, "itself still open".
unfoldable pub spread : {R P : Type 0} → Reading R → Dec P → Bool → R → List (Element ℕ) → List R → R → (R → List R → List (Event (List R)))
    → List (Event (List R))
spread rd (yes h) e x p env r f = enter (strip (rd.cells x) (rd.cells r)) (λ t. f (rd.back (length (rd.cells x)) r) env)
spread rd (no h) true x p env r f = f (rd.back (length (rd.cells r)) r) (env ++ (r ∷ []))
spread rd (no h) false x p env r f =
    upto
    (λ k. when (rigid_fits p zero (map rd.cells env) (rd.cells (rd.back k r))) (tried ∷ f (rd.back k r) (env ++ (rd.front k r ∷ [])))) (length (rd.cells r))

-- The walk over the levels ls (innermost first) and the entries known so far. "Each try goes on to the pattern record after it."
unfoldable pub walk : {R : Type 0} → Reading R → List (Element ℕ) → List R → List R → List (Event (List R))
walk rd [] ls env = finish_walk rd ls env
walk rd (lit v ∷ p) ls env = take_first rd ls (λ w r st. guard (same? v w) (walk rd p st env))
walk rd (opening ∷ p) ls env = take_first rd ls (λ w r st. enter (contents w) (λ l. walk rd p (rd.inner r ∷ st) env))
walk rd (closing ∷ p) ls env = leave_level rd ls (λ st. walk rd p st env)
walk rd (call ∷ p) ls env = reached ∷ []
walk rd (one k n ∷ p) ls env =
    take_first rd ls (λ w r st. guard (takes? k w) (bind_run rd n (rd.front 1 r) (λ e. walk rd p st e) env (dec_lt n (length env))))
walk rd (many n ∷ p) ls env =
    top_level ls (λ r st. spread rd (dec_lt n (length env)) (ends p) (get_or env n rd.nothing) p env r (λ q e. walk rd p (q ∷ st) e))

-- The candidates of a walk.
unfoldable pub hits : {E : Type 0} → List (Event E) → List E
hits [] = []
hits (hit B ∷ l) = B ∷ hits l
hits (tried ∷ l) = hits l
hits (reached ∷ l) = hits l
