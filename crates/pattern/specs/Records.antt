-- The structs of this crate as the specification's records, names as the code compares and finds them, and the numbers that the code gives
-- to a pattern's records.
use Rattle.std.specs.Prelude.{◌≡◌, Option, IfSome, unwrap_or, List, [], ◌∷◌, ◌++◌, map, Bool, ◌&&◌, leb, length, get_or, ℕ, ◌+◌, ◌/◌, ◌<◌, ◌≤◌}
use Rattle.term_spec.specs.Words.{Lies, record_at, records}
use Rattle.term_spec.specs.Value.{is_yes}
use Rattle.match_spec.specs.Element.{Element, lit, opening, closing, call, one, many}
use Rattle.match_spec.specs.Pattern.{Item as SpecItem, item_layout, symbol_variable_kind, expression_variable_kind, binding_layout, Name, name_at, name?, binding_names, find, add}
use Rattle.pattern.specs.declared.Name.{Name as CodeName}

-- The records of a slice, as the code counts them.
abbrev pub items_in : List ℕ → ℕ
items_in w = length w / item_layout.width

abbrev pub bindings_in : List ℕ → ℕ
bindings_in w = length w / binding_layout.width

-- The kinds of variables.
abbrev pub variable : ℕ → Bool
variable k = leb symbol_variable_kind k && leb k expression_variable_kind

-- Whether two names are one.
abbrev pub same_name : Name → Name → Bool
same_name x y = is_yes (name? x y)

-- The name of a variable's record.
abbrev pub item_name : List ℕ → SpecItem → Name
item_name names t = name_at names t.kind t.a t.b

-- The name that the code's is.
abbrev pub as_name : List ℕ → CodeName → Name
as_name names x = name_at names x.kind x.offset x.size

-- What the code finds of a name in a table: the place where it is first, or that it is not there; `find` has the table's length then.
abbrev pub FoundAmong : Name → List Name → ℕ → Option ℕ → Type 0
FoundAmong x t n place = (unwrap_or place n ≡ find x t) × IfSome place (λ i. i < n)

-- The names of the records that have these numbers.
abbrev pub first_names : List ℕ → List ℕ → List ℕ → List Name
first_names names pattern firsts = map (λ j. item_name names (record_at item_layout pattern j)) firsts

-- The table of names: the bindings', then those of the records that have these numbers.
abbrev pub table_at : List ℕ → List ℕ → List ℕ → List ℕ → List Name
table_at names pattern bindings firsts = binding_names names (records binding_layout bindings) ++ first_names names pattern firsts

-- The texts of the first n bindings lie in the names.
unfoldable pub BindingTexts : List ℕ → List ℕ → ℕ → Type 0
BindingTexts names w n = (j : ℕ) → j < n → (record_at binding_layout w j).offset + (record_at binding_layout w j).size ≤ length names

-- The first n of `firsts` are numbers of pattern records whose a and b are a text in the names.
unfoldable pub ItemTexts : List ℕ → List ℕ → List ℕ → ℕ → Type 0
ItemTexts names w firsts n =
    (j : ℕ) → j < n
    → Lies item_layout w (get_or firsts j 0 + 1) × ((record_at item_layout w (get_or firsts j 0)).a + (record_at item_layout w (get_or firsts j 0)).b ≤ length names)

-- The number of each record's name, t being the names before it; 0 where a record has none.
unfoldable pub numbers_of : List (Element Name) → List Name → List ℕ
numbers_of [] t = []
numbers_of (lit v ∷ p) t = 0 ∷ numbers_of p t
numbers_of (opening ∷ p) t = 0 ∷ numbers_of p t
numbers_of (closing ∷ p) t = 0 ∷ numbers_of p t
numbers_of (call ∷ p) t = 0 ∷ numbers_of p t
numbers_of (one k x ∷ p) t = find x t ∷ numbers_of p (add x t)
numbers_of (many x ∷ p) t = find x t ∷ numbers_of p (add x t)
