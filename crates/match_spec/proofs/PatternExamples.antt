-- Worked patterns and starting bindings, by computation: which are within the rules at their limits, and the entries of their names.
use Rattle.std.specs.Prelude.{◌≡◌, refl, List, [], ◌∷◌, ◌++◌, map, Bool, true, false, replicate, ℕ, suc, zero, ◌+◌}
use Rattle.std.proofs.Math.Decide.{ℕ_discrete, dec_lt}
use Rattle.term_spec.specs.Text.{spec_is_letter, spec_is_digit, spec_is_name_byte, every, identifier_text, number_text, variable_text, text_rule, lower}
use Rattle.term_spec.specs.Term.{is_scalar, symbol_rule}
use Rattle.term_spec.specs.Value.{char, heads?, list?, symbol, term}
use Rattle.match_spec.specs.Element.{lit, opening, closing, call, one, many}
use Rattle.match_spec.specs.Pattern.{Item, Binding, name_at, name?, find_here, find, add_if, add, names_after, number}
use Rattle.match_spec.specs.Pattern.{element_k, element, elements, binding_name, binding_names, item_rule_k, close_rule}
use Rattle.match_spec.specs.Pattern.{nest_rule_k, none_open, items_rule, pattern_rule, binding_rule, bindings_rule}

abbrev it : ℕ → ℕ → ℕ → ℕ → Item
it kind a b c = record { kind = kind; a = a; b = b; c = c }

-- The names `Xxy-_9.`.
abbrev ex_names : List ℕ
ex_names = 88 ∷ 120 ∷ 121 ∷ 45 ∷ 95 ∷ 57 ∷ 46 ∷ []

-- ---- the rule of a pattern ----

-- A pattern, and whether it is within the rule.
record Judged : Type 0 where
  pattern : List Item
  answer : Bool

abbrev taken : List Item → Judged
taken p = record { pattern = p; answer = true }

abbrev refused : List Item → Judged
refused p = record { pattern = p; answer = false }

abbrev judged : List Judged
judged =
    taken []
    -- () and (())() with the partners that nest
    ∷ taken (it 3 1 0 0 ∷ it 4 0 0 0 ∷ []) ∷ taken (it 3 3 0 0 ∷ it 3 2 0 0 ∷ it 4 1 0 0 ∷ it 4 0 0 0 ∷ it 3 5 0 0 ∷ it 4 4 0 0 ∷ [])
    -- (()) with partners that cross, though each points back at the other
    ∷ refused (it 3 2 0 0 ∷ it 3 3 0 0 ∷ it 4 0 0 0 ∷ it 4 1 0 0 ∷ [])
    -- an Open without Close; a Close without Open; a Close before its Open
    ∷ refused (it 3 1 0 0 ∷ []) ∷ refused (it 4 0 0 0 ∷ []) ∷ refused (it 4 1 0 0 ∷ it 3 0 0 0 ∷ [])
    ∷ refused (it 3 1 0 0 ∷ it 4 0 0 0 ∷ it 4 0 0 0 ∷ []) ∷ refused (it 3 2 0 0 ∷ it 3 2 0 0 ∷ it 4 1 0 0 ∷ [])
    -- one of the two points elsewhere
    ∷ refused (it 3 0 0 0 ∷ it 4 0 0 0 ∷ []) ∷ refused (it 3 1 0 0 ∷ it 4 1 0 0 ∷ [])
    -- unused words of Open and Close
    ∷ refused (it 3 1 1 0 ∷ it 4 0 0 0 ∷ []) ∷ refused (it 3 1 0 1 ∷ it 4 0 0 0 ∷ []) ∷ refused (it 3 1 0 0 ∷ it 4 0 1 0 ∷ [])
    ∷ refused (it 3 1 0 0 ∷ it 4 0 0 1 ∷ [])
    -- literals as terms: a Char, x, 9; a surrogate, an Identifier `_`, a Number `x`
    ∷ taken (it 0 97 0 0 ∷ it 1 1 1 0 ∷ it 2 5 1 0 ∷ []) ∷ refused (it 0 55296 0 0 ∷ []) ∷ refused (it 1 4 1 0 ∷ []) ∷ refused (it 2 1 1 0 ∷ [])
    -- variables of each kind named -, _, 9, x, and Xxy-_9; the name `.`, no name, a name past the end, an unused word
    ∷ taken (it 5 3 1 0 ∷ it 6 4 1 0 ∷ it 7 5 1 0 ∷ it 7 1 1 0 ∷ it 7 0 6 0 ∷ []) ∷ refused (it 7 6 1 0 ∷ [])
    ∷ refused (it 5 0 0 0 ∷ []) ∷ refused (it 6 0 0 0 ∷ []) ∷ refused (it 7 0 0 0 ∷ [])
    ∷ refused (it 5 6 2 0 ∷ []) ∷ refused (it 6 6 2 0 ∷ []) ∷ refused (it 7 6 2 0 ∷ [])
    ∷ refused (it 5 0 1 1 ∷ []) ∷ refused (it 6 0 1 1 ∷ []) ∷ refused (it 7 0 1 1 ∷ [])
    -- Call and Block have no words; there is no kind 10
    ∷ taken (it 8 0 0 0 ∷ it 9 0 0 0 ∷ []) ∷ refused (it 8 1 0 0 ∷ []) ∷ refused (it 8 0 1 0 ∷ []) ∷ refused (it 8 0 0 1 ∷ [])
    ∷ refused (it 9 1 0 0 ∷ []) ∷ refused (it 9 0 1 0 ∷ []) ∷ refused (it 9 0 0 1 ∷ []) ∷ refused (it 10 0 0 0 ∷ [])
    ∷ []

judged_patterns : map (λ e. pattern_rule ex_names e.pattern) judged ≡ map (λ e. e.answer) judged
unfolding spec_is_letter spec_is_digit spec_is_name_byte every identifier_text number_text variable_text text_rule is_scalar symbol_rule item_rule_k close_rule
    nest_rule_k none_open items_rule pattern_rule
judged_patterns = refl

-- k brackets, each in the one before, the first Open at record i.
unfoldable nested : ℕ → ℕ → List Item
nested zero i = []
nested (suc k) i = it 3 (i + k + suc k) 0 0 ∷ nested k (suc i) ++ (it 4 i 0 0 ∷ [])

-- 32 deep is taken, also after other brackets; 33 is refused.
nested_patterns : map (pattern_rule []) (nested 1 0 ∷ nested 32 0 ∷ (nested 2 0 ++ nested 32 4) ∷ nested 33 0 ∷ []) ≡ true ∷ true ∷ true ∷ false ∷ []
unfolding nested item_rule_k close_rule nest_rule_k none_open items_rule pattern_rule
nested_patterns = refl

-- Variable names of 255 bytes and of 256.
long_names : map (pattern_rule (replicate 256 57)) ((it 7 0 255 0 ∷ []) ∷ (it 7 0 256 0 ∷ []) ∷ []) ≡ true ∷ false ∷ []
unfolding spec_is_letter spec_is_digit spec_is_name_byte every variable_text text_rule item_rule_k nest_rule_k none_open items_rule pattern_rule
long_names = refl

-- ---- the rule of starting bindings ----

-- A binding of a name to the first term.
abbrev bd : ℕ → ℕ → ℕ → Binding
bd kind o n = record { kind = kind; offset = o; size = n; start = 0; len = 1 }

-- Starting bindings, and whether they are within the rule.
record JudgedStart : Type 0 where
  bindings : List Binding
  answer : Bool

abbrev start_taken : List Binding → JudgedStart
start_taken b = record { bindings = b; answer = true }

abbrev start_refused : List Binding → JudgedStart
start_refused b = record { bindings = b; answer = false }

abbrev judged_starts : List JudgedStart
judged_starts =
    start_taken [] ∷ start_taken (bd 5 3 1 ∷ bd 6 4 1 ∷ bd 7 5 1 ∷ [])
    -- kinds 5 to 7
    ∷ start_refused (bd 4 1 1 ∷ []) ∷ start_refused (bd 8 1 1 ∷ [])
    -- no name, a name with a `.`, a name past the end
    ∷ start_refused (bd 7 1 0 ∷ []) ∷ start_refused (bd 7 6 1 ∷ []) ∷ start_refused (bd 7 6 2 ∷ [])
    -- e.x twice, e.X and e.x, with another between; s.x, t.x and e.x; e.x and e.xy
    ∷ start_refused (bd 7 1 1 ∷ bd 7 1 1 ∷ []) ∷ start_refused (bd 7 0 1 ∷ bd 7 1 1 ∷ []) ∷ start_refused (bd 7 0 1 ∷ bd 7 2 1 ∷ bd 7 1 1 ∷ [])
    ∷ start_taken (bd 5 1 1 ∷ bd 6 1 1 ∷ bd 7 1 1 ∷ []) ∷ start_taken (bd 7 1 1 ∷ bd 7 1 2 ∷ [])
    -- the second is held to its own rule
    ∷ start_refused (bd 7 1 1 ∷ bd 8 2 1 ∷ [])
    ∷ []

judged-starts : map (λ e. bindings_rule ex_names e.bindings []) judged_starts ≡ map (λ e. e.answer) judged_starts
unfolding spec_is_letter spec_is_digit spec_is_name_byte every variable_text text_rule lower heads? list? name_at name? find_here find binding_name binding_rule
    bindings_rule ℕ_discrete
judged-starts = refl

-- ---- names and entries ----

-- e.X e.x s.x has two entries: e.x, then s.x.
two_entries : names_after (elements ex_names (it 7 0 1 0 ∷ it 7 1 1 0 ∷ it 5 1 1 0 ∷ [])) [] ≡ (7 ∷ 120 ∷ []) ∷ (5 ∷ 120 ∷ []) ∷ []
unfolding lower heads? list? name_at name? find_here find add_if add names_after element_k element ℕ_discrete dec_lt
two_entries = refl

two_numbers : number (elements ex_names (it 7 0 1 0 ∷ it 7 1 1 0 ∷ it 5 1 1 0 ∷ [])) [] ≡ many 0 ∷ many 0 ∷ one symbol 1 ∷ []
unfolding lower heads? list? name_at name? find_here find add_if add number element_k element ℕ_discrete dec_lt
two_numbers = refl

-- 'a' (e.x s.x <F>) t.Y e.y with e.Y and s.X bound before: the start's entries come first, then e.x and t.y by first occurrence.
start_first : number (elements ex_names (it 0 97 0 0 ∷ it 3 5 0 0 ∷ it 7 1 1 0 ∷ it 5 1 1 0 ∷ it 8 0 0 0 ∷ it 4 1 0 0 ∷ it 6 2 1 0 ∷ it 7 2 1 0 ∷ []))
    (binding_names ex_names (bd 7 2 1 ∷ bd 5 0 1 ∷ []))
    ≡ lit (char 97) ∷ opening ∷ many 2 ∷ one symbol 1 ∷ call ∷ closing ∷ one term 3 ∷ many 0 ∷ []
unfolding lower heads? list? name_at name? find_here find add_if add number element_k element binding_name ℕ_discrete dec_lt
start_first = refl
