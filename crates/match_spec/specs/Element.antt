-- A pattern as a list of elements, and putting values into it (01, "Trying a pattern"; the Refal-5 manual's sections 1.3, 2.2 and 6.4,
-- whose meaning is taken as 01 gives it).
use Rattle.std.specs.Prelude.{◌≡◌, List, [], ◌∷◌, ◌++◌, T, get_or, ℕ}
use Rattle.term_spec.specs.Value.{Value, canon, bracketed, Single, takes}

-- A literal; an Open and a Close; a Call or Block; an s- or t-variable, which takes one term; an e-variable, which takes any number of terms (01;
-- the manual's sections 1.3, 2.2 and 6.4). N is how a variable is named: by kind and text, or by its entry's number.
pub data Element (N : Type 0) : Type 0 where
  lit : Value → Element N
  opening closing call : Element N
  one : Single → N → Element N
  many : N → Element N

-- The terms of one level of brackets; levels, innermost first; the value of each entry.
abbrev pub Level : Type 0
Level = List Value

-- The levels of brackets that are open, innermost first.
abbrev pub Levels : Type 0
Levels = List (List Value)

-- The value of each entry, in order.
abbrev pub Env : Type 0
Env = List (List Value)

-- ---- putting values into a pattern: from its end to its start, the levels that are open there ----

-- A change of the innermost level.
unfoldable pub on_top : (Level → Level) → Levels → Levels
on_top f [] = []
on_top f (t ∷ r) = f t ∷ r

-- An Open: the innermost level becomes a bracket at the front of the next.
unfoldable pub wrap : Levels → Levels
wrap [] = []
wrap (t ∷ []) = []
wrap (t ∷ (n ∷ r)) = (bracketed t ∷ n) ∷ r

-- A Close: a new innermost level.
unfoldable pub push : Levels → Levels
push [] = []
push (t ∷ r) = [] ∷ (t ∷ r)

-- No levels at all mean that nothing fits: a Call or Block, or a bracket without its partner.
unfoldable pub put : {N : Type 0} → List (Element N) → (N → Level) → Levels
put [] B = [] ∷ []
put (lit v ∷ p) B = on_top (v ∷◌) (put p B)
put (opening ∷ p) B = wrap (put p B)
put (closing ∷ p) B = push (put p B)
put (call ∷ p) B = []
put (one k n ∷ p) B = on_top (B n ++◌) (put p B)
put (many n ∷ p) B = on_top (B n ++◌) (put p B)

-- "gives each pattern s or t one term it takes": by 01's table of kinds, for the Refal-5 manual's sections 1.3, 2.2 and 6.4.
unfoldable pub Ones : {N : Type 0} → List (Element N) → (N → Level) → Type 0
Ones [] B = Unit {0}
Ones (lit v ∷ p) B = Ones p B
Ones (opening ∷ p) B = Ones p B
Ones (closing ∷ p) B = Ones p B
Ones (call ∷ p) B = Ones p B
Ones (one k n ∷ p) B = ((v : Value) × (B n ≡ v ∷ []) × T (takes k v)) × Ones p B
Ones (many n ∷ p) B = Ones p B

-- The value of entry n.
abbrev pub entry : Env → ℕ → Level
entry B n = get_or B n []

-- An element with its literal in canonical form.
unfoldable pub canon_e : {N : Type 0} → Element N → Element N
canon_e (lit v) = lit (canon v)
canon_e opening = opening
canon_e closing = closing
canon_e call = call
canon_e (one k n) = one k n
canon_e (many n) = many n
