-- Consistent extensions and their order, in 01's words ("Trying a pattern"; what a pattern matches is the Refal-5 manual's, sections 1.3, 2.2
-- and 6.4, whose meaning is taken as 01 gives it; the order is matcher.rs's).
use Rattle.std.specs.Prelude.{◌≡◌, ◌⊎◌, length, ℕ, suc, ◌<◌, max}
use mathlib.Core.List.{List, [], ◌∷◌, ◌++◌, map, Memᴰ}
use Rattle.std.proofs.Math.Decide.{dec_lt}
use Rattle.term_spec.specs.Value.{forms}
use Rattle.match_spec.specs.Element.{Element, lit, opening, closing, call, one, many, Level, Env, put, Ones, entry}
use Rattle.match_spec.specs.Pattern.{Name, find, names_after}

-- The value of a name in a binding set over a table of names.
abbrev pub value_of_name : List Name → Env → Name → Level
value_of_name t B x = entry B (find x t)

-- A binding set's canonical form: "sets with equal terms count once".
abbrev pub set_form : Env → Env
set_form B = map forms B

-- A consistent extension B of the start, whose names are t, for the pattern p and a field that holds F. All terms are as spelled.
pub record Consistent (p : List (Element Name)) (t : List Name) (start : Env) (F : Level) (B : Env) : Type 0 where
  -- "binds exactly the start's and the pattern's names"
  pub binds : length B ≡ length (names_after p t)
  -- "keeps the start"
  pub keeps : (new : Env) × (set_form B ≡ set_form start ++ new)
  -- "gives each pattern s or t one term it takes"
  pub ones : Ones p (value_of_name (names_after p t) B)
  -- "put into the pattern gives terms equal to the field's"
  pub gives : map forms (put p (value_of_name (names_after p t) B)) ≡ forms F ∷ []

-- "Candidates come in order of the lengths of the e-variables that the start leaves open, compared in order of first occurrence,
-- entering brackets." k entries are known before the pattern p.
unfoldable pub note : {P : Type 0} → Dec P → ℕ → List ℕ → List ℕ
note (yes h) n l = l
note (no h) n l = n ∷ l

-- The lengths of the e-variables that the first k entries leave open, by first occurrence.
unfoldable pub open_lengths : List (Element ℕ) → ℕ → Env → List ℕ
open_lengths [] k B = []
open_lengths (lit v ∷ p) k B = open_lengths p k B
open_lengths (opening ∷ p) k B = open_lengths p k B
open_lengths (closing ∷ p) k B = open_lengths p k B
open_lengths (call ∷ p) k B = open_lengths p k B
open_lengths (one a n ∷ p) k B = open_lengths p (max k (suc n)) B
open_lengths (many n ∷ p) k B = note (dec_lt n k) (length (entry B n)) (open_lengths p (max k (suc n)) B)

-- Lexicographic order of such lists.
unfoldable pub Lex : List ℕ → List ℕ → Type 0
Lex [] l = ⊥
Lex (x ∷ xs) [] = ⊥
Lex (x ∷ xs) (y ∷ ys) = (x < y) ⊎ ((x ≡ y) × Lex xs ys)

-- The order of two binding sets.
unfoldable pub Before : List (Element ℕ) → ℕ → Env → Env → Type 0
Before p k A B = Lex (open_lengths p k A) (open_lengths p k B)

-- A list in strictly rising order.
unfoldable pub Sorted : {A : Type 0} → (A → A → Type 0) → List A → Type 0
Sorted R [] = Unit {0}
Sorted {A} R (x ∷ l) = ((y : A) → Memᴰ y l → R x y) × Sorted R l
