-- Laws of values: contents, canonical forms, equality, and which variable takes which kind of term.
use Rattle.std.specs.Prelude.{◌≡◌, List, [], ◌∷◌, Bool, true, false, get_or, ℕ, suc, zero, ◌+◌, ◌*◌, ◌<◌, ◌^◌}
use Rattle.std.proofs.Math.Path.{refl}
use Rattle.std.proofs.Common.{ap, sym, ◌∙◌, arith}
use Rattle.std.proofs.Math.Option.{Option, some, none}
use Rattle.term_spec.specs.Value.{Value, Values, char, ident, num, bracket, unknown, nil, cons, to_list, from_list, bracketed, contents}
use Rattle.term_spec.specs.Value.{canon, canons, Equal, forms, is_yes, takes_table, unknown_column, column, takes_row, Single, symbol, term, row, takes}
use Rattle.term_spec.specs.ValueLaws.{level_of}

to_from : (l : List Value) → to_list (from_list l) ≡ l
unfolding to_list from_list
to_from [] = refl
to_from (v ∷ l) = ap (v ∷◌) (to_from l)

from_to : (l : Values) → from_list (to_list l) ≡ l
unfolding to_list from_list
from_to nil = refl
from_to (cons v l) = ap (cons v) (from_to l)

pub contents-bracketed : (l : List Value) → contents (bracketed l) ≡ some l
unfolding contents bracketed
contents-bracketed l = rw to_from refl

pub bracketed-contents : (v : Value) (l : List Value) → contents v ≡ some l → v ≡ bracketed l
unfolding contents bracketed
bracketed-contents (char c) l e = cc
bracketed-contents (ident s) l e = cc
bracketed-contents (num s) l e = cc
bracketed-contents (bracket k) l e = let z : to_list k ≡ l = cc in cc (from_to k)
bracketed-contents (unknown k m u i) l e = cc

pub none_some : {A : Type 0} {x : A} → ◌≡◌ {A = Option A} none (some x) → ⊥
none_some e = let z : ◌≡◌ {A = ℕ} 0 1 = cc in omega arith

-- ---- canonical forms ----

to_list_canons : (l : Values) → to_list (canons l) ≡ forms (to_list l)
unfolding to_list canons
to_list_canons nil = refl
to_list_canons (cons v l) = ap (canon v ∷◌) (to_list_canons l)

from_list_canon : (l : List Value) → canons (from_list l) ≡ from_list (forms l)
unfolding from_list canons
from_list_canon [] = refl
from_list_canon (v ∷ l) = ap (cons (canon v)) (from_list_canon l)

-- two brackets are equal when their contents are, term by term
pub canon_bracketed : (l : List Value) → canon (bracketed l) ≡ bracketed (forms l)
unfolding canon bracketed
canon_bracketed l = ap bracket (from_list_canon l)

pub contents_canon : (v : Value) (l : List Value) → contents (canon v) ≡ some l → (m : List Value) × (contents v ≡ some m) × (forms m ≡ l)
unfolding contents canon
contents_canon (char c) l e = absurd (none_some e)
contents_canon (ident s) l e = absurd (none_some e)
contents_canon (num s) l e = absurd (none_some e)
contents_canon (bracket k) l e = (to_list k, refl, cc (to_list_canons k))
contents_canon (unknown k m u i) l e = absurd (none_some e)

pub bracketed-same : (l m : List Value) → bracketed l ≡ bracketed m → l ≡ m
bracketed-same l m e = let z : some l ≡ some m = sym (contents-bracketed l) ∙ ap contents e ∙ contents-bracketed m in cc

-- ---- equality of terms ----

pub equal_refl : (v : Value) → Equal v v
equal_refl v = refl

pub equal_sym : (v w : Value) → Equal v w → Equal w v
equal_sym v w e = sym e

pub equal_trans : (u v w : Value) → Equal u v → Equal v w → Equal u w
equal_trans u v w e q = e ∙ q

pub equal_brackets : (l m : List Value) → Equal (bracketed l) (bracketed m) → forms l ≡ forms m
equal_brackets l m e = bracketed-same (forms l) (forms m) (sym (canon_bracketed l) ∙ e ∙ canon_bracketed m)

-- Levels are the same exactly where both halves are, the halves being words.
levels-same : (l u m v : ℕ) → l < 2 ^ 32 → m < 2 ^ 32 → level_of l u ≡ level_of m v → (l ≡ m) × (u ≡ v)
levels-same l u m v h g e = (omega arith, omega arith)

-- "unknowns by kind, level and index": both ways.
module _ (j l u i k m v n : ℕ) (h : l < 2 ^ 32) (g : m < 2 ^ 32) where
  pub equal_unknowns : j ≡ k → level_of l u ≡ level_of m v → i ≡ n → Equal (unknown j l u i) (unknown k m v n)
  equal_unknowns p e q = let (x, y) = levels-same l u m v h g e in rw (p, x, y, q) refl

  pub unknowns_equal : Equal (unknown j l u i) (unknown k m v n) → (j ≡ k) × (level_of l u ≡ level_of m v) × (i ≡ n)
  unfolding canon
  unknowns_equal e =
      let x : l ≡ m = cc in
      let y : u ≡ v = cc in
      (cc, rw (x, y) refl, cc)

-- "Different kinds are never equal": equal terms stand in the same column of the table.
column_canon : (v : Value) → column (canon v) ≡ column v
unfolding column canon
column_canon (char c) = refl
column_canon (ident s) = refl
column_canon (num s) = refl
column_canon (bracket l) = refl
column_canon (unknown k m u i) = refl

pub equal-columns : (v w : Value) → Equal v w → column v ≡ column w
equal-columns v w e = sym (column_canon v) ∙ ap column e ∙ column_canon w

-- ---- decisions as tests ----

-- The test of a decision: true or false by the fact, another decision's, or a given test's.
pub is_yes_lem : {P : Type 0} (d : Dec P) → P → is_yes d ≡ true
unfolding is_yes
is_yes_lem (yes p) h = refl
is_yes_lem (no n) h = absurd (n h)

pub is_no : {P : Type 0} (d : Dec P) → (P → ⊥) → is_yes d ≡ false
unfolding is_yes
is_no (yes p) h = absurd (h p)
is_no (no n) h = refl

pub yes_of : {P : Type 0} (d : Dec P) → is_yes d ≡ true → P
unfolding is_yes
yes_of (yes p) e = p
yes_of (no n) e = let z : ◌≡◌ {A = ℕ} 0 1 = cc in absurd (omega arith)

pub alike : {P Q : Type 0} (d : Dec P) (e : Dec Q) → (P → Q) → (Q → P) → is_yes d ≡ is_yes e
unfolding is_yes
alike (yes p) e f g = sym (is_yes_lem e (f p))
alike (no n) e f g = sym (is_no e (λ q. n (g q)))

-- ---- which variable takes which kind of term ----

-- what a variable takes goes by the canonical form
pub takes_canon : (k : Single) (v : Value) → takes k (canon v) ≡ takes k v
unfolding takes takes_row
takes_canon k v = ap (λ z. get_or (get_or takes_table (row k) []) z false) (column_canon v)

-- "s takes Char, Identifier, Number and the symbol unknown"
unfoldable pub by_symbol : Value → Bool
by_symbol (char c) = true
by_symbol (ident s) = true
by_symbol (num s) = true
by_symbol (bracket l) = false
by_symbol (unknown zero l u i) = true
by_symbol (unknown (suc k) l u i) = false

-- "t takes all but the expression unknown"
unfoldable pub by_term : Value → Bool
by_term (char c) = true
by_term (ident s) = true
by_term (num s) = true
by_term (bracket l) = true
by_term (unknown zero l u i) = true
by_term (unknown (suc zero) l u i) = true
by_term (unknown (suc (suc k)) l u i) = false

pub symbol_takes : (v : Value) → takes symbol v ≡ by_symbol v
unfolding takes takes_row row takes_table column unknown_column by_symbol
symbol_takes (char c) = refl
symbol_takes (ident s) = refl
symbol_takes (num s) = refl
symbol_takes (bracket l) = refl
symbol_takes (unknown zero l u i) = refl
symbol_takes (unknown (suc zero) l u i) = refl
symbol_takes (unknown (suc (suc zero)) l u i) = refl
symbol_takes (unknown (suc (suc (suc k))) l u i) = refl

pub term-takes : (v : Value) → takes term v ≡ by_term v
unfolding takes takes_row row takes_table column unknown_column by_term
term-takes (char c) = refl
term-takes (ident s) = refl
term-takes (num s) = refl
term-takes (bracket l) = refl
term-takes (unknown zero l u i) = refl
term-takes (unknown (suc zero) l u i) = refl
term-takes (unknown (suc (suc zero)) l u i) = refl
term-takes (unknown (suc (suc (suc k))) l u i) = refl

-- "e takes all": every value that a term within the rules can have
unfoldable pub Lawful : Value → Type 0
Lawful (char c) = Unit {0}
Lawful (ident s) = Unit {0}
Lawful (num s) = Unit {0}
Lawful (bracket l) = Unit {0}
Lawful (unknown zero l u i) = Unit {0}
Lawful (unknown (suc zero) l u i) = Unit {0}
Lawful (unknown (suc (suc zero)) l u i) = Unit {0}
Lawful (unknown (suc (suc (suc k))) l u i) = ⊥

pub expression_takes : (v : Value) → Lawful v → takes_row 2 v ≡ true
unfolding takes_row takes_table column unknown_column Lawful
expression_takes (char c) h = refl
expression_takes (ident s) h = refl
expression_takes (num s) h = refl
expression_takes (bracket l) h = refl
expression_takes (unknown zero l u i) h = refl
expression_takes (unknown (suc zero) l u i) h = refl
expression_takes (unknown (suc (suc zero)) l u i) h = refl
expression_takes (unknown (suc (suc (suc k))) l u i) h = absurd h
