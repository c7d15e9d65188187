-- What a term means: its value as spelled, its canonical form, equality (01, "Terms and names"), and which variable takes it.
use Rattle.std.specs.Prelude.{◌≡◌, refl, Bool, true, false, ◌&&◌, T, eqb, length, get_or, ℕ, suc, zero}
use mathlib.Core.List.{List, [], ◌∷◌, map, nil≢cons, cons≢nil, head-eq_of_cons-eq, tail-eq_of_cons-eq}
use Rattle.std.proofs.Math.Option.{Option, some, none}
use Rattle.std.proofs.Math.Decide.{ℕ_discrete}
use Rattle.term_spec.specs.Text.{lower, stripped, text_at}
use Rattle.term_spec.specs.Term.{Term, part, contents_run}
use Rattle.term_spec.specs.Table.{table}

mutual
  -- A term as spelled: its text and its contents, not offsets or term numbers. An unknown has its kind, the lower and the upper half of its level
  -- (02: 2.7), and its index. What symbols, brackets and unknowns are is the Refal-5 manual's meaning as 01 gives it (sections 1.3, 2.2, 6.4).
  pub data Value : Type 0 where
    char : ℕ → Value
    ident : List ℕ → Value
    num : List ℕ → Value
    bracket : Values → Value
    unknown : ℕ → ℕ → ℕ → ℕ → Value
    deriving Discrete as Value_discrete

  -- A list of values. (A `List Value` inside Value is refused; everything else sees lists, through bracketed and contents.)
  pub data Values : Type 0 where
    nil : Values
    cons : Value → Values → Values
    deriving Discrete as Values_discrete

-- Contents as a list, and back.
unfoldable pub to_list : Values → List Value
to_list nil = []
to_list (cons v vs) = v ∷ to_list vs

-- A list as contents.
unfoldable pub from_list : List Value → Values
from_list [] = nil
from_list (v ∷ vs) = cons v (from_list vs)

-- The bracket with these contents, and the contents of a bracket.
unfoldable pub bracketed : List Value → Value
bracketed l = bracket (from_list l)

-- The contents of a bracket; no other value has any.
unfoldable pub contents : Value → Option (List Value)
contents (char c) = none
contents (ident s) = none
contents (num s) = none
contents (bracket l) = some (to_list l)
contents (unknown k l u i) = none

-- A term's value, from the values of the terms below it.
unfoldable pub value_k : ℕ → List ℕ → Term → List Value → Value
value_k zero text t below = char t.a
value_k (suc zero) text t below = ident text
value_k (suc (suc zero)) text t below = num text
value_k (suc (suc (suc zero))) text t below = bracketed (part below (contents_run t))
value_k (suc (suc (suc (suc n)))) text t below = unknown t.a t.b t.d t.c

-- A term's value; its text is the b bytes at a of the names.
unfoldable pub value_of : List ℕ → Term → List Value → Value
value_of names t below = value_k t.kind (text_at names t.a t.b) t below

-- The values of a store's terms, as spelled.
unfoldable pub values : List ℕ → List Term → List Value
values names ts = table (value_of names) ts []

-- Canonical forms. "Chars are equal by value, .. unknowns by kind, level and index; two brackets are equal when their runs are equal, term by term.
-- Identifiers are equal with ASCII case ignored." Numbers "are now equal when they are equal after leading zeros, except a last digit, are taken off"
-- (02: 2.9, in place of 01's "numbers by text"); that stands in the clause of num alone.
unfoldable mutual
  pub canon : Value → Value
  canon (char c) = char c
  canon (ident s) = ident (map lower s)
  canon (num s) = num (stripped s)
  canon (bracket l) = bracket (canons l)
  canon (unknown k l u i) = unknown k l u i

  pub canons : Values → Values
  canons nil = nil
  canons (cons v l) = cons (canon v) (canons l)

-- Equality of terms: the same canonical form. "Different kinds are never equal."
abbrev pub Equal : Value → Value → Type 0
Equal v w = canon v ≡ canon w

-- The canonical forms of a list of terms; two lists of terms are equal when these are.
abbrev pub forms : List Value → List Value
forms l = map canon l

-- Deciding whether two values are the same (the library's decision for lists does not compute).
unfoldable pub heads? : {A : Type 0} {x y : A} {xs ys : List A} → Dec (x ≡ y) → Dec (xs ≡ ys) → Dec (x ∷ xs ≡ y ∷ ys)
heads? (yes p) (yes q) = yes (λ i. p i ∷ q i)
heads? (yes p) (no n) = no (λ e. n (tail-eq_of_cons-eq e))
heads? (no n) q = no (λ e. n (head-eq_of_cons-eq e))

-- Deciding whether two lists are the same.
unfoldable pub list? : {A : Type 0} → Discrete A → Discrete (List A)
list? d [] [] = yes refl
list? d [] (y ∷ ys) = no nil≢cons
list? d (x ∷ xs) [] = no cons≢nil
list? d (x ∷ xs) (y ∷ ys) = heads? (d x y) (list? d xs ys)

-- Whether two values are the same.
unfoldable pub same? : Discrete Value
same? = Value_discrete ℕ_discrete (list? ℕ_discrete)

-- Whether two lists of values are the same.
unfoldable pub sames? : Discrete (List Value)
sames? = list? same?

-- A decision, as a test.
unfoldable pub is_yes : {P : Type 0} → Dec P → Bool
is_yes (yes h) = true
is_yes (no h) = false

-- ---- how far two lists of terms agree (02: 2.2) ----

-- "the length of the longest equal beginning", of two lists of canonical forms.
unfoldable pub common_prefix : List Value → List Value → ℕ
common_prefix [] y = 0
common_prefix (v ∷ x) [] = 0
common_prefix (v ∷ x) (w ∷ y) = elim (same? v w) [ yes h ↦ suc (common_prefix x y) | no h ↦ 0 ]

-- "Yes is now that count being the whole of the header": whether x starts with y.
unfoldable pub starts_by : List Value → List Value → Bool
starts_by x y = eqb (common_prefix x y) (length y)

-- "or of both": whether x and y are equal.
unfoldable pub equal_by : List Value → List Value → Bool
equal_by x y = eqb (common_prefix x y) (length x) && eqb (common_prefix x y) (length y)

-- ---- which variable takes which kind of term ----

-- "A table fixes which variable takes which kind of term": rows s, t, e; columns Char, Identifier, Number, Bracket, symbol
-- unknown, term unknown, expression unknown. An s-variable takes a symbol, a t-variable a term, an e-variable an expression: the Refal-5
-- manual's meaning as 01 gives it (sections 1.3, 2.2, 6.4).
unfoldable pub takes_table : List (List Bool)
takes_table =
    (true ∷ true ∷ true ∷ false ∷ true ∷ false ∷ false ∷ [])
    ∷ (true ∷ true ∷ true ∷ true ∷ true ∷ true ∷ false ∷ [])
    ∷ (true ∷ true ∷ true ∷ true ∷ true ∷ true ∷ true ∷ [])
    ∷ []

-- A value's column; an unknown of a kind that no rule allows has none.
unfoldable pub unknown_column : ℕ → ℕ
unknown_column zero = 4
unknown_column (suc zero) = 5
unknown_column (suc (suc zero)) = 6
unknown_column (suc (suc (suc k))) = 7

-- The column of a value in the table.
unfoldable pub column : Value → ℕ
column (char c) = 0
column (ident s) = 1
column (num s) = 2
column (bracket l) = 3
column (unknown k l u i) = unknown_column k

-- Whether a variable of row s, t or e (0, 1, 2) takes a value; the manual's sections are named at the table.
unfoldable pub takes_row : ℕ → Value → Bool
takes_row r v = get_or (get_or takes_table r []) (column v) false

-- The variables that take one term.
pub data Single : Type 0 where
  symbol term : Single

-- The row of such a variable in the table.
unfoldable pub row : Single → ℕ
row symbol = 0
row term = 1

-- Whether an s- or t-variable takes a value.
unfoldable pub takes : Single → Value → Bool
takes k v = takes_row (row k) v

-- A test, as a decision.
unfoldable pub decided : (b : Bool) → Dec (T b)
decided true = yes tt
decided false = no (λ e. e)

-- Whether a variable takes a value, as a decision.
unfoldable pub takes? : (k : Single) (v : Value) → Dec (T (takes k v))
takes? k v = decided (takes k v)
