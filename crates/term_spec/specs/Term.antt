-- Terms as records of words, and their rules (01, "Records", Term).
use Rattle.std.specs.Prelude.{List, [], ◌∷◌, ◌++◌, Bool, true, false, ◌&&◌, ◌||◌, leb, ltb, eqb, length, get_or, take, drop, ℕ, suc, zero, ◌+◌, max}
use Rattle.term_spec.specs.Words.{Layout}
use Rattle.term_spec.specs.Text.{identifier_text, number_text, text_rule}

-- "Term, four words: kind, a, b, c", and now "five words, the fifth being the upper half of an unknown's level and 0 elsewhere" (02: 2.7).
pub record Term : Type 0 where
  pub kind : ℕ
  pub a : ℕ
  pub b : ℕ
  pub c : ℕ
  pub d : ℕ

-- The term that five words mean.
unfoldable pub term_of : List ℕ → Term
term_of w = record { kind = get_or w 0 0; a = get_or w 1 0; b = get_or w 2 0; c = get_or w 3 0; d = get_or w 4 0 }

-- The term record's width stands here alone.
abbrev pub term_layout : Layout Term
term_layout = record { width = 5; read = term_of; words = λ t. t.kind ∷ t.a ∷ t.b ∷ t.c ∷ t.d ∷ [] }

-- What is read where there is no term; the rules keep it from being met.
abbrev pub no_term : Term
no_term = record { kind = 0; a = 0; b = 0; c = 0; d = 0 }

-- A run of terms: its start and its length.
pub record Run : Type 0 where
  pub start : ℕ
  pub len : ℕ

-- The run that two words mean.
unfoldable pub run_of : List ℕ → Run
run_of w = record { start = get_or w 0 0; len = get_or w 1 0 }

-- "start, length": two words.
abbrev pub run_layout : Layout Run
run_layout = record { width = 2; read = run_of; words = λ r. r.start ∷ r.len ∷ [] }

-- The empty run at 0 ("length 0 gives start 0").
abbrev pub no_run : Run
no_run = record { start = 0; len = 0 }

-- What a run shows of a list that has an entry for each term.
abbrev pub part : {X : Type 0} → List X → Run → List X
part xs r = take r.len (drop r.start xs)

-- A run that ends within the used terms; "even empty" ones are held to it.
unfoldable pub run_rule : ℕ → Run → Bool
run_rule used r = leb (r.start + r.len) used

-- Every run of a list ends within the used terms.
unfoldable pub runs_rule : ℕ → List Run → Bool
runs_rule used [] = true
runs_rule used (r ∷ rs) = run_rule used r && runs_rule used rs

-- The kinds of terms: "0 Char", "1 Identifier and 2 Number", "3 Bracket", "4 Unknown". Where a definition goes by kind, its clauses are in this
-- order, since a numeral cannot stand in a clause.
abbrev pub char_kind : ℕ
char_kind = 0

abbrev pub identifier_kind : ℕ
identifier_kind = 1

abbrev pub number_kind : ℕ
number_kind = 2

abbrev pub bracket_kind : ℕ
bracket_kind = 3

abbrev pub unknown_kind : ℕ
unknown_kind = 4

-- The last kind of unknowns: "0 symbol, 1 term, 2 expression".
abbrev pub expression_unknown : ℕ
expression_unknown = 2

-- "At most 65,536 terms", nodes, name bytes, and terms in a field.
abbrev pub limit : ℕ
limit = 65536

-- "a run list has over 64 runs" (1).
abbrev pub run_list_limit : ℕ
run_list_limit = 64

-- The deepest that brackets of terms lie: "c is its depth .. at most 255".
abbrev pub depth_limit : ℕ
depth_limit = 255

-- "a is a Unicode scalar value": below 0xD800, or from 0xE000 to 0x10FFFF.
unfoldable pub is_scalar : ℕ → Bool
is_scalar c = ltb c 55296 || leb 57344 c && leb c 1114111

-- A term's own depth: a bracket's is its c, no other term has one.
unfoldable pub depth_k : ℕ → Term → ℕ
depth_k zero t = 0
depth_k (suc zero) t = 0
depth_k (suc (suc zero)) t = 0
depth_k (suc (suc (suc zero))) t = t.c
depth_k (suc (suc (suc (suc k)))) t = 0

-- The deepest bracket among terms, 0 if there is none.
unfoldable pub deepest : List Term → ℕ
deepest [] = 0
deepest (t ∷ ts) = max (depth_k t.kind t) (deepest ts)

-- "contents are the run of b terms from term a"
abbrev pub contents_run : Term → Run
contents_run t = record { start = t.a; len = t.b }

-- "3 Bracket: contents are the run of b terms from term a, a plus b at most its own number; c is its depth, 1 plus the deepest
-- bracket inside (1 if none), at most 255." Its own number is the length of what is below it. (A bracket is one term with an expression as its
-- contents: the Refal-5 manual's meaning as 01 gives it, sections 1.3, 2.2, 6.4.)
unfoldable pub bracket_rule : List Term → Term → Bool
bracket_rule below t = leb (t.a + t.b) (length below) && eqb t.c (suc (deepest (part below (contents_run t)))) && leb t.c depth_limit

-- The rule of a literal symbol (kinds 0 to 2), by its kind and words; patterns have the same ("kinds 0 to 2 as terms").
unfoldable pub symbol_rule : ℕ → List ℕ → ℕ → ℕ → ℕ → Bool
symbol_rule zero names a b c = is_scalar a && eqb b 0 && eqb c 0
symbol_rule (suc zero) names a b c = text_rule identifier_text names a b && eqb c 0
symbol_rule (suc (suc zero)) names a b c = text_rule number_text names a b && eqb c 0
symbol_rule (suc (suc (suc k))) names a b c = false

-- The rule of a term's first four words by its kind, among the terms below it. "4 Unknown: a kind (0 symbol, 1 term, 2 expression), b level,
-- c index": what it stands for is a symbol, a term or an expression in the Refal-5 manual's meaning as 01 gives it (sections 1.3, 2.2, 6.4).
unfoldable pub term_rule_k : ℕ → List ℕ → List Term → Term → Bool
term_rule_k zero names below t = symbol_rule char_kind names t.a t.b t.c
term_rule_k (suc zero) names below t = symbol_rule identifier_kind names t.a t.b t.c
term_rule_k (suc (suc zero)) names below t = symbol_rule number_kind names t.a t.b t.c
term_rule_k (suc (suc (suc zero))) names below t = bracket_rule below t
term_rule_k (suc (suc (suc (suc zero)))) names below t = leb t.a expression_unknown
term_rule_k (suc (suc (suc (suc (suc k))))) names below t = false

-- The rule of the fifth word: "the upper half of an unknown's level and 0 elsewhere" (02: 2.7).
abbrev pub upper_rule : Term → Bool
upper_rule t = eqb t.kind unknown_kind || eqb t.d 0

-- The rule of a term among the terms below it.
unfoldable pub term_rule : List ℕ → List Term → Term → Bool
term_rule names below t = upper_rule t && term_rule_k t.kind names below t

-- The rule of a store: each term's, among those below it (2 BadTerm otherwise).
unfoldable pub terms_rule : List ℕ → List Term → List Term → Bool
terms_rule names below [] = true
terms_rule names below (t ∷ ts) = term_rule names below t && terms_rule names (below ++ (t ∷ [])) ts
