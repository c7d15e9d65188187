-- What a record of a rigid run does at the terms ahead.
use Rattle.std.specs.Prelude.{◌≡◌, List, map, Bool, true, false, get_or, drop, ℕ, suc, zero, ◌+◌, ◌<◌, ◌≤◌, Option as Maybe, Some, None}
use Rattle.std.proofs.Math.Option.{Option, some, none}
use Rattle.term_spec.specs.Words.{record_at, count}
use Rattle.term_spec.specs.Term.{Term, Run, term_layout, char_kind}
use Rattle.term_spec.specs.Value.{Value, char, values, contents, canon, same?, is_yes, takes}
use Rattle.match_spec.specs.Element.{Element, lit, opening, closing, call, one, many, canon_e}
use Rattle.match_spec.specs.Pattern.{Item, Name, item_layout, element, close_kind}
use Rattle.match_spec.specs.Walk.{rigid_fits}
use Rattle.steps.specs.State.{cells_in, back_of, entries_in, pattern_in}
use Rattle.rigid.specs.declared.Fit.{Fit}
use Rattle.rigid.specs.declared.Fit.TheVariants.{No, Ends, Takes}

-- Whether the run p fits at the terms of r, with d brackets of it being passed over and the first m entries of `binds` known.
abbrev pub fits_at : List ℕ → List ℕ → ℕ → ℕ → List ℕ → List (Element ℕ) → ℕ → Run → Bool
fits_at names w used m binds p d r = rigid_fits p d (map (cells_in names w used) (entries_in m binds)) (cells_in names w used r)

-- Whether the run from record p on fits at the terms of r.
abbrev pub run_fits : List ℕ → List ℕ → ℕ → List ℕ → List ℕ → ℕ → ℕ → List ℕ → Run → Bool
run_fits names w used pattern numbers p m binds r = fits_at names w used m binds (drop p (pattern_in names pattern numbers)) zero r

-- Whether it fits after j terms of r.
abbrev pub split_fits : List ℕ → List ℕ → ℕ → List ℕ → List ℕ → ℕ → ℕ → List ℕ → Run → ℕ → Bool
split_fits names w used pattern numbers p m binds r j = run_fits names w used pattern numbers p m binds (back_of j r)

-- It takes no more terms than there are.
abbrev pub FitIn : ℕ → Fit → Type 0
FitIn len No = Unit {0}
FitIn len Ends = Unit {0}
FitIn len (Takes k) = k ≤ len

-- It does not fit, the run ends and fits, or it goes on after so many terms.
abbrev pub fit_goes : Fit → (ℕ → Bool) → Bool
fit_goes No f = false
fit_goes Ends f = true
fit_goes (Takes k) f = f k

-- The brackets of the run that are passed over after a record of the run: 1 after an Open.
unfoldable pub opens_to : ℕ → ℕ
opens_to zero = 0
opens_to (suc zero) = 0
opens_to (suc (suc zero)) = 0
opens_to (suc (suc (suc zero))) = 1
opens_to (suc (suc (suc (suc k)))) = 0

-- The brackets that are passed over after a record inside d of them.
unfoldable pub skips_to : ℕ → ℕ → ℕ
skips_to zero d = d
skips_to (suc zero) d = d
skips_to (suc (suc zero)) d = d
skips_to (suc (suc (suc zero))) d = suc d
skips_to (suc (suc (suc (suc zero)))) zero = zero
skips_to (suc (suc (suc (suc zero)))) (suc d) = d
skips_to (suc (suc (suc (suc (suc k))))) d = d

-- Whether there is something.
unfoldable pub is_some : {A : Type 0} → Option A → Bool
is_some none = false
is_some (some x) = true

-- Whether an element of one term fits a term, given by its canonical form: a literal by equality, a bracket by being one, a variable by what it
-- takes.
unfoldable pub head_fits : Element Name → Value → Bool
head_fits (lit v) w = is_yes (same? v w)
head_fits opening w = is_some (contents w)
head_fits closing w = false
head_fits call w = false
head_fits (one k n) w = takes k w
head_fits (many n) w = false

-- Whether a record of one term fits term i.
unfoldable pub fits_term : List ℕ → List Term → Item → ℕ → Bool
fits_term names ts t i = head_fits (canon_e (element names t)) (canon (get_or (values names ts) i (char 0)))

-- A literal or an Open cannot fit a term: of another kind, or a Char of another value.
pub data Apart (t : Item) (u : Term) : Type 0 where
  kinds : (u.kind ≡ t.kind → ⊥) → Apart t u
  chars : t.kind ≡ char_kind → (u.a ≡ t.a → ⊥) → Apart t u

-- So for record p of a pattern, which is there, and term i.
pub record ApartAt (terms pattern : List ℕ) (p i : ℕ) : Type 0 where
  pub there : p < count item_layout pattern
  pub low : (record_at item_layout pattern p).kind < close_kind
  pub apart : Apart (record_at item_layout pattern p) (record_at term_layout terms i)

-- The first number from k on at which f holds, of those up to n; n + 1 if there is none.
pub record FirstFit (f : ℕ → Bool) (k n r : ℕ) : Type 0 where
  pub low : k ≤ r
  pub high : r ≤ n + 1
  pub passed : (j : ℕ) → k ≤ j → j < r → f j ≡ false
  pub fits : r ≤ n → f r ≡ true

-- So for a number that is given where there is one.
abbrev pub FirstOf : (ℕ → Bool) → ℕ → ℕ → Maybe ℕ → Type 0
FirstOf f k n None = FirstFit f k n (n + 1)
FirstOf f k n (Some r) = FirstFit f k n r × (r ≤ n)
