-- Patterns and starting bindings as records of words, their rules, and the names they have (01, "Records": Pattern, Binding; the kinds of
-- variables, names and brackets are those of the Refal-5 manual, sections 1.3, 2.2 and 6.4, whose meaning is taken as 01 gives it).
use Rattle.std.specs.Prelude.{List, [], ◌∷◌, ◌++◌, map, Bool, true, false, ◌&&◌, leb, ltb, eqb, length, get_or, ℕ, suc, zero}
use Rattle.std.proofs.Math.Decide.{ℕ_discrete, dec_lt}
use Rattle.term_spec.specs.Words.{Layout}
use Rattle.term_spec.specs.Text.{lower, text_at, text_rule, variable_text}
use Rattle.term_spec.specs.Term.{Run, symbol_rule, char_kind, identifier_kind, number_kind}
use Rattle.term_spec.specs.Value.{list?, char, ident, num, symbol, term}
use Rattle.match_spec.specs.Element.{Element, lit, opening, closing, call, one, many}

-- One record of a pattern: "Pattern, four words". Its width is its own; a term's may differ (02: 2.7).
pub record Item : Type 0 where
  pub kind : ℕ
  pub a : ℕ
  pub b : ℕ
  pub c : ℕ

-- The pattern record that four words mean.
unfoldable pub item_of : List ℕ → Item
item_of w = record { kind = get_or w 0 0; a = get_or w 1 0; b = get_or w 2 0; c = get_or w 3 0 }

-- The pattern record's width stands here alone.
abbrev pub item_layout : Layout Item
item_layout = record { width = 4; read = item_of; words = λ t. t.kind ∷ t.a ∷ t.b ∷ t.c ∷ [] }

-- What is read where there is no record; the rules keep it from being met.
abbrev pub no_item : Item
no_item = record { kind = 0; a = 0; b = 0; c = 0 }

-- The kinds of pattern records that are no terms: "3 Open", "4 Close", "5 s-variable, 6 t-variable, 7 e-variable", "8 Call, 9 Block". Where a
-- definition goes by kind, its clauses are in this order, after those of kinds 0 to 2.
abbrev pub open_kind : ℕ
open_kind = 3

abbrev pub close_kind : ℕ
close_kind = 4

abbrev pub symbol_variable_kind : ℕ
symbol_variable_kind = 5

abbrev pub term_variable_kind : ℕ
term_variable_kind = 6

abbrev pub expression_variable_kind : ℕ
expression_variable_kind = 7

abbrev pub call_kind : ℕ
call_kind = 8

abbrev pub block_kind : ℕ
block_kind = 9

-- "at most 256 records".
abbrev pub pattern_limit : ℕ
pattern_limit = 256

-- "Brackets nest at most 32 deep."
abbrev pub nesting_limit : ℕ
nesting_limit = 32

-- "9 TooManyNames: start and pattern together name over 64."
abbrev pub name_limit : ℕ
name_limit = 64

-- "Binding, five words: kind 5 to 7, name offset, name length, run start, run length."
pub record Binding : Type 0 where
  pub kind : ℕ
  pub offset : ℕ
  pub size : ℕ
  pub start : ℕ
  pub len : ℕ

-- The binding that five words mean.
unfoldable pub binding_of : List ℕ → Binding
binding_of w = record { kind = get_or w 0 0; offset = get_or w 1 0; size = get_or w 2 0; start = get_or w 3 0; len = get_or w 4 0 }

-- The binding record's width stands here alone.
abbrev pub binding_layout : Layout Binding
binding_layout = record { width = 5; read = binding_of; words = λ b. b.kind ∷ b.offset ∷ b.size ∷ b.start ∷ b.len ∷ [] }

-- "run start, run length"
abbrev pub bound_run : Binding → Run
bound_run b = record { start = b.start; len = b.len }

-- ---- names ----

-- "Two names are one when kind and text agree, ASCII case ignored" (01, for the manual's sections 1.3, 2.2 and 6.4): a name is its kind
-- and its lowered text.
abbrev pub Name : Type 0
Name = List ℕ

-- The name of a kind whose text is the n bytes at o.
unfoldable pub name_at : List ℕ → ℕ → ℕ → ℕ → Name
name_at names kind o n = kind ∷ map lower (text_at names o n)

-- Whether two names are one.
unfoldable pub name? : Discrete Name
name? = list? ℕ_discrete

-- The place of a name that is the first, or is found after it.
unfoldable pub find_here : {P : Type 0} → Dec P → ℕ → ℕ
find_here (yes h) n = zero
find_here (no h) n = suc n

-- The place of a name in a table; the table's length if it is not there.
unfoldable pub find : Name → List Name → ℕ
find x [] = zero
find x (y ∷ t) = find_here (name? x y) (find x t)

-- A table as it is, or with one more name.
unfoldable pub add_if : {P : Type 0} → Dec P → Name → List Name → List Name
add_if (yes h) x t = t
add_if (no h) x t = t ++ (x ∷ [])

-- A name's first occurrence puts it at the end of the table.
unfoldable pub add : Name → List Name → List Name
add x t = add_if (dec_lt (find x t) (length t)) x t

-- "Entries: the start's, then first occurrence": the table of names after a pattern, t being those before it.
unfoldable pub names_after : List (Element Name) → List Name → List Name
names_after [] t = t
names_after (lit v ∷ p) t = names_after p t
names_after (opening ∷ p) t = names_after p t
names_after (closing ∷ p) t = names_after p t
names_after (call ∷ p) t = names_after p t
names_after (one k x ∷ p) t = names_after p (add x t)
names_after (many x ∷ p) t = names_after p (add x t)

-- The pattern with each name replaced by its entry's number.
unfoldable pub number : List (Element Name) → List Name → List (Element ℕ)
number [] t = []
number (lit v ∷ p) t = lit v ∷ number p t
number (opening ∷ p) t = opening ∷ number p t
number (closing ∷ p) t = closing ∷ number p t
number (call ∷ p) t = call ∷ number p t
number (one k x ∷ p) t = one k (find x t) ∷ number p (add x t)
number (many x ∷ p) t = many (find x t) ∷ number p (add x t)

-- ---- what a record means ----

-- "3 Open, a is its Close; 4 Close, a is its Open; 5 s-variable, 6 t-variable, 7 e-variable, a and b their name; 8 Call, 9 Block." A Call or
-- Block names nothing. What each kind means is taken as 01 gives it for the Refal-5 manual's sections 1.3, 2.2 and 6.4.
unfoldable pub element_k : ℕ → List ℕ → Item → Element Name
element_k zero names t = lit (char t.a)
element_k (suc zero) names t = lit (ident (text_at names t.a t.b))
element_k (suc (suc zero)) names t = lit (num (text_at names t.a t.b))
element_k (suc (suc (suc zero))) names t = opening
element_k (suc (suc (suc (suc zero)))) names t = closing
element_k (suc (suc (suc (suc (suc zero))))) names t = one symbol (name_at names symbol_variable_kind t.a t.b)
element_k (suc (suc (suc (suc (suc (suc zero)))))) names t = one term (name_at names term_variable_kind t.a t.b)
element_k (suc (suc (suc (suc (suc (suc (suc zero))))))) names t = many (name_at names expression_variable_kind t.a t.b)
element_k (suc (suc (suc (suc (suc (suc (suc (suc k)))))))) names t = call

-- What a pattern record means, with its text.
unfoldable pub element : List ℕ → Item → Element Name
element names t = element_k t.kind names t

-- What a pattern means.
abbrev pub elements : List ℕ → List Item → List (Element Name)
elements names p = map (element names) p

-- The names of starting bindings.
unfoldable pub binding_name : List ℕ → Binding → Name
binding_name names b = name_at names b.kind b.offset b.size

-- The names of starting bindings, in their order.
abbrev pub binding_names : List ℕ → List Binding → List Name
binding_names names start = map (binding_name names) start

-- ---- rules ----

-- A record by itself, its bracket partner apart.
unfoldable pub item_rule_k : ℕ → List ℕ → Item → Bool
item_rule_k zero names t = symbol_rule char_kind names t.a t.b t.c
item_rule_k (suc zero) names t = symbol_rule identifier_kind names t.a t.b t.c
item_rule_k (suc (suc zero)) names t = symbol_rule number_kind names t.a t.b t.c
item_rule_k (suc (suc (suc zero))) names t = eqb t.b 0 && eqb t.c 0
item_rule_k (suc (suc (suc (suc zero)))) names t = eqb t.b 0 && eqb t.c 0
item_rule_k (suc (suc (suc (suc (suc zero))))) names t = text_rule variable_text names t.a t.b && eqb t.c 0
item_rule_k (suc (suc (suc (suc (suc (suc zero)))))) names t = text_rule variable_text names t.a t.b && eqb t.c 0
item_rule_k (suc (suc (suc (suc (suc (suc (suc zero))))))) names t = text_rule variable_text names t.a t.b && eqb t.c 0
item_rule_k (suc (suc (suc (suc (suc (suc (suc (suc zero)))))))) names t = eqb t.a 0 && eqb t.b 0 && eqb t.c 0
item_rule_k (suc (suc (suc (suc (suc (suc (suc (suc (suc zero))))))))) names t = eqb t.a 0 && eqb t.b 0 && eqb t.c 0
item_rule_k (suc (suc (suc (suc (suc (suc (suc (suc (suc (suc k)))))))))) names t = false

-- A Close at i: "a is its Open", and that Open's a is i. `opened` are the numbers of the brackets open here, innermost first.
unfoldable pub close_rule : List Item → Item → ℕ → List ℕ → (List ℕ → Bool) → Bool
close_rule all t i [] rest = false
close_rule all t i (o ∷ opened) rest = eqb t.a o && eqb (get_or all o no_item).a i && rest opened

-- How record i changes the open brackets; `rest` judges what comes after. "Brackets nest at most 32 deep."
unfoldable pub nest_rule_k : ℕ → List Item → Item → ℕ → List ℕ → (List ℕ → Bool) → Bool
nest_rule_k zero all t i opened rest = rest opened
nest_rule_k (suc zero) all t i opened rest = rest opened
nest_rule_k (suc (suc zero)) all t i opened rest = rest opened
nest_rule_k (suc (suc (suc zero))) all t i opened rest = ltb (length opened) nesting_limit && rest (i ∷ opened)
nest_rule_k (suc (suc (suc (suc zero)))) all t i opened rest = close_rule all t i opened rest
nest_rule_k (suc (suc (suc (suc (suc k))))) all t i opened rest = rest opened

-- Every bracket is closed.
unfoldable pub none_open : List ℕ → Bool
none_open [] = true
none_open (o ∷ opened) = false

-- The records from number i on, of the pattern `all`.
unfoldable pub items_rule : List ℕ → List Item → List Item → ℕ → List ℕ → Bool
items_rule names all [] i opened = none_open opened
items_rule names all (t ∷ ts) i opened = item_rule_k t.kind names t && nest_rule_k t.kind all t i opened (λ now. items_rule names all ts (suc i) now)

-- 7 BadPattern otherwise.
unfoldable pub pattern_rule : List ℕ → List Item → Bool
pattern_rule names p = items_rule names p p 0 []

-- "kind 5 to 7", a variable's name. The run is judged apart (5 PastEnd).
unfoldable pub binding_rule : List ℕ → Binding → Bool
binding_rule names b = leb symbol_variable_kind b.kind && leb b.kind expression_variable_kind && text_rule variable_text names b.offset b.size

-- "Starting bindings repeat no name"; t are the names before. 8 BadBinding otherwise.
unfoldable pub bindings_rule : List ℕ → List Binding → List Name → Bool
bindings_rule names [] t = true
bindings_rule names (b ∷ bs) t =
    binding_rule names b && leb (length t) (find (binding_name names b) t) && bindings_rule names bs (t ++ (binding_name names b ∷ []))
