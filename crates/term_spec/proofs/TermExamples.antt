-- Worked terms, by computation: which are equal, which are within the rules at their limits, and what writing records leaves as it was.
use Rattle.std.specs.Prelude.{◌≡◌, refl, List, [], ◌∷◌, ◌++◌, map, Bool, true, false, length, get_or, replicate, ℕ, suc, zero}
use Rattle.std.proofs.Math.Decide.{ℕ_discrete}
use Rattle.term_spec.specs.Words.{decode, encode, count, whole, records, write}
use Rattle.term_spec.specs.Text.{spec_is_letter, spec_is_digit, spec_is_name_byte, every, identifier_text, number_text, text_rule, lower, stripped}
use Rattle.term_spec.specs.Table.{table}
use Rattle.term_spec.specs.Term.{Term, term_of, term_layout, no_term, is_scalar, depth_k, deepest, bracket_rule, symbol_rule, term_rule_k, term_rule, terms_rule}
use Rattle.term_spec.specs.Value.{Value, char, ident, num, from_list, bracketed, value_k, value_of, values, canon, canons, heads?, list?, same?}

-- A term by its five words, and one whose fifth word is 0.
abbrev five : ℕ → ℕ → ℕ → ℕ → ℕ → Term
five kind a b c d = record { kind = kind; a = a; b = b; c = c; d = d }

abbrev tm : ℕ → ℕ → ℕ → ℕ → Term
tm kind a b c = five kind a b c 0

-- The largest word.
abbrev top : ℕ
top = 4294967295

-- ---- lowering ----

-- `@AZ[` and the backquote, `az{`: the bytes beside the letters stay, and lowered letters do.
lowered : map lower (64 ∷ 65 ∷ 90 ∷ 91 ∷ 96 ∷ 97 ∷ 122 ∷ 123 ∷ 45 ∷ 57 ∷ []) ≡ 64 ∷ 97 ∷ 122 ∷ 91 ∷ 96 ∷ 97 ∷ 122 ∷ 123 ∷ 45 ∷ 57 ∷ []
unfolding lower
lowered = refl

-- ---- equality ----

-- The names `DayDAYDaxZ7007za-ba_b`.
abbrev ex_names : List ℕ
ex_names = 68 ∷ 97 ∷ 121 ∷ 68 ∷ 65 ∷ 89 ∷ 68 ∷ 97 ∷ 120 ∷ 90 ∷ 55 ∷ 48 ∷ 48 ∷ 55 ∷ 122 ∷ 97 ∷ 45 ∷ 98 ∷ 97 ∷ 95 ∷ 98 ∷ []

abbrev ex_terms : List Term
ex_terms =
    -- 0 to 4: Day, DAY, Dax, Z, z
    tm 1 0 3 0 ∷ tm 1 3 3 0 ∷ tm 1 6 3 0 ∷ tm 1 9 1 0 ∷ tm 1 14 1 0
    -- 5 to 8: the numbers 7 and 007, the other 7 of 007, the Char 7
    ∷ tm 2 10 1 0 ∷ tm 2 11 3 0 ∷ tm 2 13 1 0 ∷ tm 0 55 0 0
    -- 9 to 11: the Char z, the Char Z, the Char z again
    ∷ tm 0 122 0 0 ∷ tm 0 90 0 0 ∷ tm 0 122 0 0
    -- 12 to 16: (Day DAY), (DAY), (Day), (Dax), ()
    ∷ tm 3 0 2 1 ∷ tm 3 1 1 1 ∷ tm 3 0 1 1 ∷ tm 3 2 1 1 ∷ tm 3 12 0 1
    -- 17 to 19: ((DAY)), ((Day)), () from another start
    ∷ tm 3 13 1 2 ∷ tm 3 14 1 2 ∷ tm 3 0 0 1
    -- 20 to 24: unknowns
    ∷ tm 4 0 1 7 ∷ tm 4 0 1 7 ∷ tm 4 1 1 7 ∷ tm 4 0 2 7 ∷ tm 4 0 1 8
    -- 25 and 26: a-b, a_b
    ∷ tm 1 15 3 0 ∷ tm 1 18 3 0
    -- 27 to 32: the numbers 0, 00, 07 and 70, (7), (007)
    ∷ tm 2 11 1 0 ∷ tm 2 11 2 0 ∷ tm 2 12 2 0 ∷ tm 2 10 2 0 ∷ tm 3 5 1 1 ∷ tm 3 6 1 1
    -- 33 to 37: unknowns of the levels 5, 2³² + 5 (twice), 5 · 2³² and 2⁶⁴ - 1
    ∷ tm 4 0 5 1 ∷ five 4 0 5 1 1 ∷ five 4 0 5 1 1 ∷ five 4 0 0 1 5 ∷ five 4 0 top 1 top
    -- 38 and 39: brackets around 33 and 34
    ∷ tm 3 33 1 1 ∷ tm 3 34 1 1
    ∷ []

-- Two terms of the list above, by their numbers, and whether they are equal.
record Compared : Type 0 where
  left : ℕ
  right : ℕ
  answer : Bool

abbrev alike : ℕ → ℕ → Compared
alike i j = record { left = i; right = j; answer = true }

abbrev unlike : ℕ → ℕ → Compared
unlike i j = record { left = i; right = j; answer = false }

abbrev said : {P : Type 0} → Dec P → Bool
said (yes h) = true
said (no h) = false

unfoldable equal_values : Value → Value → Bool
unfolding same? list? heads? canon canons lower stripped ℕ_discrete
equal_values v w = said (same? (canon v) (canon w))

unfoldable equal_terms : ℕ → ℕ → Bool
unfolding equal_values from_list bracketed value_k value_of values table
equal_terms i j = equal_values (get_or (values ex_names ex_terms) i (char 0)) (get_or (values ex_names ex_terms) j (char 0))

abbrev compared : List Compared
compared =
    -- identifiers by their lowered text: Day and DAY, Day and Dax, Z and z; `-` is not `_`
    alike 0 1 ∷ unlike 0 2 ∷ alike 3 4 ∷ unlike 25 26 ∷ alike 25 25
    -- numbers without their leading zeros, wherever the text stands: 7 and 007, 007 and 07, 7 and 7, 0 and 00; 7 and 70, 0 and 7, 00 and 70
    ∷ alike 5 6 ∷ alike 6 29 ∷ alike 5 7 ∷ alike 27 28 ∷ unlike 5 30 ∷ unlike 27 5 ∷ unlike 28 30
    -- numbers in brackets: (7) and (007); (7) and 7
    ∷ alike 31 32 ∷ unlike 31 5
    -- a Char and a Number, a Char and an Identifier of the same text; Chars by value, with their case
    ∷ unlike 5 8 ∷ unlike 4 9 ∷ unlike 3 10 ∷ unlike 9 10 ∷ alike 9 11
    -- brackets by their contents, term by term; a bracket and its only term
    ∷ alike 13 14 ∷ unlike 14 15 ∷ unlike 12 13 ∷ unlike 13 16 ∷ alike 16 19 ∷ alike 17 18 ∷ unlike 13 17 ∷ unlike 1 13
    -- unknowns by kind, level and index, the level by both its halves
    ∷ alike 20 21 ∷ unlike 20 22 ∷ unlike 20 23 ∷ unlike 20 24
    ∷ unlike 33 34 ∷ alike 34 35 ∷ unlike 33 36 ∷ unlike 34 36 ∷ alike 37 37 ∷ unlike 37 34 ∷ unlike 38 39
    ∷ []

compared-terms : map (λ e. equal_terms e.left e.right) compared ≡ map (λ e. e.answer) compared
unfolding equal_terms
compared-terms = refl

-- A value has the spelling received, and so has what a binding shows: Day and DAY, 7 and 007, (007).
values-spelled : map (λ i. get_or (values ex_names ex_terms) i (char 0)) (0 ∷ 1 ∷ 5 ∷ 6 ∷ 32 ∷ [])
    ≡ ident (68 ∷ 97 ∷ 121 ∷ []) ∷ ident (68 ∷ 65 ∷ 89 ∷ []) ∷ num (55 ∷ []) ∷ num (48 ∷ 48 ∷ 55 ∷ []) ∷ bracketed (num (48 ∷ 48 ∷ 55 ∷ []) ∷ []) ∷ []
unfolding from_list bracketed value_k value_of values table stripped
values-spelled = refl

-- A Char, an Identifier and a Number of the same text, pairwise. (No rule allows the text 7 to an Identifier; they would differ all the same.)
kinds_differ : map (equal_values (char 55)) (ident (55 ∷ []) ∷ num (55 ∷ []) ∷ []) ++ (equal_values (ident (55 ∷ [])) (num (55 ∷ [])) ∷ []) ≡ false ∷ false ∷ false ∷ []
unfolding equal_values
kinds_differ = refl

-- All the terms compared are within the rules.
equal-terms-lawful : terms_rule ex_names [] ex_terms ≡ true
unfolding spec_is_letter spec_is_digit spec_is_name_byte every identifier_text number_text text_rule is_scalar depth_k deepest bracket_rule symbol_rule term_rule_k term_rule terms_rule
equal-terms-lawful = refl

-- ---- the rules of terms ----

-- Scalar values at their edges: 0, 0xD7FF, 0xD800, 0xDFFF, 0xE000, 0x10FFFF, 0x110000.
scalars : map is_scalar (0 ∷ 55295 ∷ 55296 ∷ 57343 ∷ 57344 ∷ 1114111 ∷ 1114112 ∷ []) ≡ true ∷ true ∷ false ∷ false ∷ true ∷ true ∷ false ∷ []
unfolding is_scalar
scalars = refl

-- A term among the terms below it, and whether it is within its rule.
record Judged : Type 0 where
  names : List ℕ
  below : List Term
  term : Term
  answer : Bool

abbrev taken : List ℕ → List Term → Term → Judged
taken names below t = record { names = names; below = below; term = t; answer = true }

abbrev refused : List ℕ → List Term → Term → Judged
refused names below t = record { names = names; below = below; term = t; answer = false }

-- The names `a-_9z`.
abbrev rule_names : List ℕ
rule_names = 97 ∷ 45 ∷ 95 ∷ 57 ∷ 122 ∷ []

-- Two Chars, (a), ((a)).
abbrev rule_terms : List Term
rule_terms = tm 0 97 0 0 ∷ tm 0 98 0 0 ∷ tm 3 0 1 1 ∷ tm 3 2 1 2 ∷ []

abbrev judged : List Judged
judged =
    -- Char: 0, up to 0xD7FF, from 0xE000 to 0x10FFFF; its other words are 0
    taken [] [] (tm 0 0 0 0) ∷ taken [] [] (tm 0 55295 0 0) ∷ refused [] [] (tm 0 55296 0 0) ∷ refused [] [] (tm 0 57343 0 0)
    ∷ taken [] [] (tm 0 57344 0 0) ∷ taken [] [] (tm 0 1114111 0 0) ∷ refused [] [] (tm 0 1114112 0 0)
    ∷ refused [] [] (tm 0 97 1 0) ∷ refused [] [] (tm 0 97 0 1)
    -- Identifier: length 0 and 1, to the end of the names and past it; its last word is 0
    ∷ refused rule_names [] (tm 1 0 0 0) ∷ taken rule_names [] (tm 1 0 1 0) ∷ taken rule_names [] (tm 1 0 5 0) ∷ refused rule_names [] (tm 1 0 6 0)
    ∷ taken rule_names [] (tm 1 4 1 0) ∷ refused rule_names [] (tm 1 4 2 0) ∷ refused rule_names [] (tm 1 5 1 0) ∷ refused rule_names [] (tm 1 0 1 1)
    -- it does not start with `-`, `_` or a digit, and has no other byte inside
    ∷ refused rule_names [] (tm 1 1 4 0) ∷ refused rule_names [] (tm 1 2 3 0) ∷ refused rule_names [] (tm 1 3 2 0) ∷ refused (97 ∷ 46 ∷ 98 ∷ []) [] (tm 1 0 3 0)
    -- a letter is `A` to `Z` or `a` to `z`: `@`, `[`, the backquote and `{` are none
    ∷ taken (65 ∷ []) [] (tm 1 0 1 0) ∷ taken (90 ∷ []) [] (tm 1 0 1 0) ∷ refused (64 ∷ []) [] (tm 1 0 1 0) ∷ refused (91 ∷ []) [] (tm 1 0 1 0)
    ∷ refused (96 ∷ []) [] (tm 1 0 1 0) ∷ refused (123 ∷ []) [] (tm 1 0 1 0)
    -- 255 letters, and 256
    ∷ taken (replicate 256 97) [] (tm 1 0 255 0) ∷ refused (replicate 256 97) [] (tm 1 0 256 0)
    -- Number: the same, and digits alone; `/` and `:` stand beside them
    ∷ refused rule_names [] (tm 2 3 0 0) ∷ taken rule_names [] (tm 2 3 1 0) ∷ refused rule_names [] (tm 2 3 2 0) ∷ refused rule_names [] (tm 2 3 1 1)
    ∷ taken (48 ∷ 48 ∷ 57 ∷ []) [] (tm 2 0 3 0) ∷ refused (47 ∷ []) [] (tm 2 0 1 0) ∷ refused (58 ∷ []) [] (tm 2 0 1 0)
    ∷ taken (replicate 256 48) [] (tm 2 0 255 0) ∷ refused (replicate 256 48) [] (tm 2 0 256 0)
    -- Bracket: its contents end at its own number at most
    ∷ taken [] rule_terms (tm 3 3 1 3) ∷ refused [] rule_terms (tm 3 4 1 1) ∷ refused [] rule_terms (tm 3 3 2 3) ∷ refused [] [] (tm 3 0 1 1)
    -- empty ones start anywhere up to there, and their depth is 1
    ∷ taken [] rule_terms (tm 3 4 0 1) ∷ refused [] rule_terms (tm 3 5 0 1) ∷ refused [] rule_terms (tm 3 4 0 0) ∷ refused [] rule_terms (tm 3 4 0 2)
    -- around Chars, around (a), around both brackets: one more than the deepest inside
    ∷ taken [] rule_terms (tm 3 0 2 1) ∷ taken [] rule_terms (tm 3 1 2 2) ∷ refused [] rule_terms (tm 3 1 2 1) ∷ refused [] rule_terms (tm 3 1 2 3)
    ∷ taken [] rule_terms (tm 3 0 4 3) ∷ refused [] rule_terms (tm 3 0 4 2) ∷ refused [] rule_terms (tm 3 0 4 4)
    -- Unknown: kinds 0 to 2, any level and index; no other kind of term
    ∷ taken [] [] (tm 4 0 0 0) ∷ taken [] [] (tm 4 1 5 70000) ∷ taken [] [] (tm 4 2 70000 5) ∷ refused [] [] (tm 4 3 0 0) ∷ refused [] [] (tm 5 0 0 0)
    -- the fifth word: any of an unknown, 0 of the others
    ∷ taken [] [] (five 4 0 5 1 1) ∷ taken [] [] (five 4 2 0 0 top) ∷ refused [] [] (five 4 3 0 0 1) ∷ refused [] [] (five 5 0 0 0 1)
    ∷ refused [] [] (five 0 97 0 0 1) ∷ refused [] [] (five 0 97 0 0 top) ∷ refused rule_names [] (five 1 0 1 0 1)
    ∷ refused rule_names [] (five 2 3 1 0 1) ∷ refused [] rule_terms (five 3 4 0 1 1) ∷ refused [] rule_terms (five 3 0 2 1 1)
    ∷ []

judged-terms : map (λ e. term_rule e.names e.below e.term) judged ≡ map (λ e. e.answer) judged
unfolding spec_is_letter spec_is_digit spec_is_name_byte every identifier_text number_text text_rule is_scalar depth_k deepest bracket_rule symbol_rule term_rule_k term_rule
judged-terms = refl

-- Term 0 is a Char, and term i is a bracket around term i - 1, i deep.
unfoldable deep : ℕ → List Term
deep zero = tm 0 97 0 0 ∷ []
deep (suc n) = deep n ++ (tm 3 n 1 (suc n) ∷ [])

-- 255 deep is taken, 256 refused.
deep-terms : map (λ n. terms_rule [] [] (deep n)) (0 ∷ 1 ∷ 255 ∷ 256 ∷ []) ≡ true ∷ true ∷ true ∷ false ∷ []
unfolding deep is_scalar depth_k deepest bracket_rule symbol_rule term_rule_k term_rule terms_rule
deep-terms = refl

-- A store is refused for one term of it, the last as well as the first.
one-bad-term : map (terms_rule [] []) ((tm 5 0 0 0 ∷ no_term ∷ []) ∷ (no_term ∷ tm 5 0 0 0 ∷ []) ∷ (no_term ∷ no_term ∷ []) ∷ []) ≡ false ∷ false ∷ true ∷ []
unfolding is_scalar symbol_rule term_rule_k term_rule terms_rule
one-bad-term = refl

-- ---- records in slices of words ----

-- A slice of four terms.
abbrev four : List ℕ
four = (0 ∷ 97 ∷ 1 ∷ 2 ∷ 3 ∷ []) ++ (0 ∷ 98 ∷ 4 ∷ 5 ∷ 6 ∷ []) ++ (0 ∷ 99 ∷ 7 ∷ 8 ∷ 9 ∷ []) ++ (0 ∷ 100 ∷ 10 ∷ 11 ∷ 12 ∷ [])

-- Two records written after the first leave the first and the fourth as they were.
two-written : write term_layout four 1 (tm 3 0 1 1 ∷ five 4 2 9 8 7 ∷ [])
    ≡ (0 ∷ 97 ∷ 1 ∷ 2 ∷ 3 ∷ []) ++ (3 ∷ 0 ∷ 1 ∷ 1 ∷ 0 ∷ []) ++ (4 ∷ 2 ∷ 9 ∷ 8 ∷ 7 ∷ []) ++ (0 ∷ 100 ∷ 10 ∷ 11 ∷ 12 ∷ [])
unfolding write encode
two-written = refl

four_read : decode term_layout 4 (write term_layout four 1 (tm 3 0 1 1 ∷ five 4 2 9 8 7 ∷ []))
    ≡ five 0 97 1 2 3 ∷ tm 3 0 1 1 ∷ five 4 2 9 8 7 ∷ five 0 100 10 11 12 ∷ []
unfolding write encode decode term_of
four_read = refl

-- Slices of 0, 4, 5, 9 and 10 words: whether each is whole, and how many terms it has.
slices : map (λ n. whole term_layout (replicate n 0)) (0 ∷ 4 ∷ 5 ∷ 9 ∷ 10 ∷ []) ≡ true ∷ false ∷ true ∷ false ∷ true ∷ []
unfolding whole
slices = refl

slice_records : map (λ n. length (records term_layout (replicate n 0))) (0 ∷ 4 ∷ 5 ∷ 9 ∷ 10 ∷ []) ≡ 0 ∷ 0 ∷ 1 ∷ 1 ∷ 2 ∷ []
unfolding records count decode
slice_records = refl
