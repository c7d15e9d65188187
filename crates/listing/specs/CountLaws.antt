-- `name_count`: one law for each exit.
use Rattle.std.specs.Prelude.{◌≡◌, Option, Some, None, IfSome, unwrap_or, List, [], Bool, true, false, length, ℕ, ◌≤◌, ◌<◌, min}
use Rattle.std.proofs.Common.{sym, ap, ◌∙◌, le-leb, arith}
use Rattle.std.proofs.lemmas.Bool.{lt-leb}
use Rattle.term_spec.specs.Words.{records}
use Rattle.match_spec.specs.Pattern.{item_layout, binding_layout, elements, binding_names, names_after, pattern_rule, bindings_rule, name_limit}
use Rattle.calls_spec.specs.Step.{names_rule, spec_name_count}
use Rattle.listing.specs.Match.{even_words}

-- The names of words of pattern and bindings.
abbrev names_of : List ℕ → List ℕ → List ℕ → ℕ
names_of names p b = length (names_after (elements names (records item_layout p)) (binding_names names (records binding_layout b)))

-- a refused request counts 0
refused-count : (names p b : List ℕ) → names_rule names p b ≡ false → 0 ≡ spec_name_count names p b
unfolding spec_name_count
refused-count names p b e = ap (λ (x : Bool). elim x [ true ↦ names_of names p b | false ↦ 0 ]) (sym e)

-- The records are not even.
pub count-uneven : (names p b : List ℕ) → even_words p b ≡ false → 0 ≡ spec_name_count names p b
unfolding names_rule
count-uneven names p b h = refused-count names p b (simp h)

-- The pattern breaks its rule.
pub count_pattern : (names p b : List ℕ) → even_words p b ≡ true → pattern_rule names (records item_layout p) ≡ false → 0 ≡ spec_name_count names p b
unfolding names_rule
count_pattern names p b h i = refused-count names p b (simp (h, i))

-- The bindings break theirs.
pub count-bindings : (names p b : List ℕ) → even_words p b ≡ true → pattern_rule names (records item_layout p) ≡ true
    → bindings_rule names (records binding_layout b) [] ≡ false → 0 ≡ spec_name_count names p b
unfolding names_rule
count-bindings names p b h i j = refused-count names p b (simp (h, i, j))

-- Over 64 names.
pub count_many : (names p b : List ℕ) → even_words p b ≡ true → pattern_rule names (records item_layout p) ≡ true
    → bindings_rule names (records binding_layout b) [] ≡ true → name_limit < names_of names p b → 0 ≡ spec_name_count names p b
unfolding names_rule
count_many names p b h i j k = refused-count names p b (simp (h, i, j, lt-leb (names_of names p b) name_limit k))

-- At most 64: they are counted.
pub count_few : (names p b : List ℕ) (n : ℕ) → even_words p b ≡ true → pattern_rule names (records item_layout p) ≡ true
    → bindings_rule names (records binding_layout b) [] ≡ true → n ≡ min 65 (names_of names p b) → n ≤ name_limit → n ≡ spec_name_count names p b
unfolding names_rule spec_name_count
count_few names p b n h i j e k =
    let r : names_rule names p b ≡ true = simp (h, i, j, le-leb (names_of names p b) name_limit (omega arith)) in
    let m : n ≡ names_of names p b = omega arith in
    m ∙ ap (λ (x : Bool). elim x [ true ↦ names_of names p b | false ↦ 0 ]) (sym r)

-- What numbering the names told, if they are at most 64: they are counted, and 0 stands for more.
pub count_told : (names p b : List ℕ) → even_words p b ≡ true → pattern_rule names (records item_layout p) ≡ true
    → bindings_rule names (records binding_layout b) [] ≡ true → (found : Option ℕ) → unwrap_or found 65 ≡ min 65 (names_of names p b)
    → IfSome found (λ n. n ≤ name_limit) → unwrap_or found 0 ≡ spec_name_count names p b
count_told names p b h i j (Some n) e k = count_few names p b n h i j e k
count_told names p b h i j None e k = count_many names p b h i j (omega arith)
