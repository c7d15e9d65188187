-- Laws of texts: a part of the names byte by byte, what bytes spell, and when two texts are the same.
use Rattle.std.specs.Prelude.{◌≡◌, refl, List, [], ◌∷◌, map, Bool, true, false, ◌&&◌, ◌||◌, T}
use Rattle.std.specs.Prelude.{eqb, leb, length, take, drop, get_or, ℕ, suc, zero, ◌+◌, ◌-◌, ◌<◌, ◌≤◌}
use Rattle.std.specs.List.{list_all, zip}
use Rattle.std.specs.Str.{bytes_eq}
use Rattle.std.specs.Bool.{one_answer}
use Rattle.std.proofs.Common.{ap, ap₂, sym, ◌∙◌, leb→le, drop-cons, add-zero, add-one, arith}
use borrow.Author.Tests.{eq-eqb, le-leb, lt-leb}
use Rattle.std.proofs.lemmas.Bool.{false≢true}
use Rattle.std.proofs.lemmas.List.{length-map, take_all}
use Rattle.std.proofs.lemmas.Slice.Eq.{bytes_eq-Decides}
use Rattle.std.proofs.Math.Nat.{sub-zero}
use Rattle.term_spec.proofs.BoolLaws.{both_of}
use Rattle.term_spec.specs.Text.{spec_is_letter, spec_is_digit, spec_is_name_byte, every, identifier_text, number_text, variable_text, lower, text_at, text_limit, text_rule}
use Rattle.term_spec.specs.Term.{identifier_kind, number_kind}
use Rattle.term_spec.specs.Value.{ident, canon}
use Rattle.term_spec.proofs.ValueLaws.{is_yes_lem, is_no, yes_of, alike}
use Rattle.term_spec.proofs.ListLaws.{part_length}
use Rattle.text.specs.Texts.{byte_test, spelled, name_text, spelling, folded, texts_equal, identifiers_equal}

-- ---- a text byte by byte ----

-- A text's first byte, and the rest.
pub text_first : (names : List ℕ) (o n : ℕ) → 1 ≤ n → o + n ≤ length names → text_at names o n ≡ get_or names o 0 ∷ text_at names (o + 1) (n - 1)
text_first names o n h w =
    let t : o < length names = omega arith in
    let e : n ≡ suc (n - 1) = omega arith in
    ap₂ take e (drop-cons names o 0 t) ∙ rw add-one refl

-- What is left of a text when i of its bytes are passed: at first all, then a byte and the rest, at the end none.
unfoldable pub left : List ℕ → ℕ → ℕ → ℕ → List ℕ
left names o n i = text_at names (o + i) (n - i)

pub left-all : (names : List ℕ) (o n : ℕ) → text_at names o n ≡ left names o n 0
unfolding left
left-all names o n = rw (add-zero, sub-zero)

left-more : (names : List ℕ) (o n i : ℕ) → i < n → o + n ≤ length names → left names o n i ≡ get_or names (o + i) 0 ∷ left names o n (i + 1)
unfolding left
left-more names o n i h w =
    let e : o + i + 1 ≡ o + (i + 1) = omega arith in
    let f : n - i - 1 ≡ n - (i + 1) = omega arith in
    text_first names (o + i) (n - i) (omega arith) (omega arith) ∙ rw (e, f)

left_none : (names : List ℕ) (o n i : ℕ) → n ≤ i → left names o n i ≡ []
unfolding left
left_none names o n i h = let e : n - i ≡ 0 = omega arith in rw e

-- ---- what a text spells ----

-- Every byte of what is left of a text: of the next byte and the others, and where none is left.
pub every_more :
    (test : ℕ → Bool) (names : List ℕ) (o n i : ℕ) {b : Bool} → i < n → o + n ≤ length names → test (get_or names (o + i) 0) ≡ b
    → every test (left names o n i) ≡ b && every test (left names o n (i + 1))
unfolding every
every_more test names o n i h w e = rw (left-more names o n i, every, e)

pub every_none : (test : ℕ → Bool) (names : List ℕ) (o n i : ℕ) → n ≤ i → every test (left names o n i) ≡ true
unfolding every
every_none test names o n i h = rw (left_none names o n i)

-- `every` is the library's test of a list.
pub every_all : (test : ℕ → Bool) (l : List ℕ) → list_all test l ≡ every test l
unfolding every
every_all test [] = refl
every_all test (c ∷ l) = ap (test c &&◌) (every_all test l)

-- A text of each kind, by its offset and length in the names; any kind but those of identifiers and numbers is a variable's name.
pub spelling_identifier :
    (names : List ℕ) (o n : ℕ) {b : Bool} → 1 ≤ n → o + n ≤ length names → spec_is_letter (get_or names o 0) ≡ b
    → spelling identifier_kind (text_at names o n) ≡ b && spelled false (text_at names (o + 1) (n - 1))
unfolding spelling identifier_text spelled byte_test
spelling_identifier names o n h w e = rw (text_first names o n, identifier_text, e)

pub spelling-number : (l : List ℕ) → spelling number_kind l ≡ spelled true l
unfolding spelling number_text spelled byte_test
spelling-number l = refl

pub spelling-variable : (kind : ℕ) (l : List ℕ) → (kind ≡ identifier_kind → ⊥) → (kind ≡ number_kind → ⊥) → spelling kind l ≡ spelled false l
unfolding spelling variable_text spelled byte_test
spelling-variable zero l h k = refl
spelling-variable (suc zero) l h k = absurd (h refl)
spelling-variable (suc (suc zero)) l h k = absurd (k refl)
spelling-variable (suc (suc (suc j))) l h k = refl

-- The same of a text as a list of its bytes.
pub spells_identifier :
    (l : List ℕ) → 1 ≤ length l
    → spelling identifier_kind l ≡ spec_is_letter (get_or l 0 0) && list_all spec_is_name_byte (take (length l - 1) (drop 1 l))
unfolding spelling identifier_text
spells_identifier [] h = absurd (omega arith)
spells_identifier (c ∷ l) h = rw (take_all (length (c ∷ l) - 1) l (omega arith)) (ap (spec_is_letter c &&◌) (sym (every_all spec_is_name_byte l)))

pub spells_empty : (l : List ℕ) → length l ≡ 0 → spelling identifier_kind l ≡ false
unfolding spelling identifier_text
spells_empty [] h = refl
spells_empty (c ∷ l) h = absurd (omega arith)

pub spells_number : (l : List ℕ) → spelling number_kind l ≡ list_all spec_is_digit l
unfolding spelling number_text
spells_number l = sym (every_all spec_is_digit l)

pub spells_variable : (kind : ℕ) (l : List ℕ) → (kind ≡ identifier_kind → ⊥) → (kind ≡ number_kind → ⊥) → spelling kind l ≡ list_all spec_is_name_byte l
unfolding spelling variable_text
spells_variable zero l h k = sym (every_all spec_is_name_byte l)
spells_variable (suc zero) l h k = absurd (h refl)
spells_variable (suc (suc zero)) l h k = absurd (k refl)
spells_variable (suc (suc (suc j))) l h k = sym (every_all spec_is_name_byte l)

-- Any other kind asks what that of a variable's name does.
pub spells_other : (kind : ℕ) → (kind ≡ identifier_kind → ⊥) → (kind ≡ number_kind → ⊥) → (l : List ℕ) → spelling name_text l ≡ spelling kind l
unfolding spelling
spells_other zero h k l = refl
spells_other (suc zero) h k l = absurd (h refl)
spells_other (suc (suc zero)) h k l = absurd (k refl)
spells_other (suc (suc (suc j))) h k l = refl

-- A text by each of the three, in one.
pub ruleset spellings = (spells_identifier, spells_empty, spells_number, spells_variable)

-- The rule of a text of a size within the bounds: out of the names, and within.
module _ (test : List ℕ → Bool) (names : List ℕ) (o n : ℕ) (h : 1 ≤ n) (k : n ≤ text_limit) where
  pub rule_out : length names < o + n → text_rule test names o n ≡ false
  unfolding text_rule
  rule_out w = simp (le-leb 1 n h, le-leb n text_limit k, lt-leb _ _ w)

  pub rule_in : o + n ≤ length names → text_rule test names o n ≡ test (text_at names o n)
  unfolding text_rule
  rule_in w = simp (le-leb 1 n h, le-leb n text_limit k, le-leb _ _ w)

-- The rule of a text, as it is tested where a sum could be too large: the last place that it may have goes by its length.
pub rule_tests :
    (test : List ℕ → Bool) (names : List ℕ) (o n : ℕ)
    → text_rule test names o n ≡ leb 1 n && leb n text_limit && leb n (length names) && leb o (length names - n) && test (take (o + n - o) (drop o names))
unfolding text_rule
rule_tests test names o n = let e : o + n - o ≡ n = omega arith in rw e (ap (◌&& test (text_at names o n)) (sym (within (leb 1 n && leb n text_limit))))
  where
    -- the two tests of the place are that of the sum
    within : (b : Bool) → (b && leb n (length names) && leb o (length names - n)) ≡ (b && leb (o + n) (length names))
    within true = grind arith
    within false = refl

-- A text within its rule lies in the names.
pub text_within : (test : List ℕ → Bool) (names : List ℕ) (o n : ℕ) → T (text_rule test names o n) → o + n ≤ length names
unfolding text_rule
text_within test names o n h =
    let front = (both_of (leb 1 n && leb n text_limit && leb (o + n) (length names)) (test (text_at names o n)) h).0 in
    leb→le _ _ (both_of (leb 1 n && leb n text_limit) (leb (o + n) (length names)) front).1

-- ---- when two texts are the same ----

-- What is left of two texts, where the next bytes compare the same, where they do not, and at the end.
module _ (fold : Bool) (names : List ℕ) (o p n i : ℕ) where
  module _ (h : i < n) (v : o + n ≤ length names) (w : p + n ≤ length names) where
    pub same_more :
        folded fold (get_or names (o + i) 0) ≡ folded fold (get_or names (p + i) 0)
        → texts_equal fold (left names o n i) (left names p n i) ≡ texts_equal fold (left names o n (i + 1)) (left names p n (i + 1))
    unfolding texts_equal
    same_more e = rw (left-more names o n i, left-more names p n i) (alike _ _ (λ q. cc) (λ q. cc))

    pub same_stop :
        (folded fold (get_or names (o + i) 0) ≡ folded fold (get_or names (p + i) 0) → ⊥)
        → texts_equal fold (left names o n i) (left names p n i) ≡ false
    unfolding texts_equal
    same_stop k = rw (left-more names o n i, left-more names p n i) (is_no _ (λ q. k (cc)))

  pub same_none : n ≤ i → texts_equal fold (left names o n i) (left names p n i) ≡ true
  unfolding texts_equal
  same_none h = rw (left_none names o n i, left_none names p n i) (is_yes_lem _ refl)

-- Texts of different lengths are not the same.
pub same_lengths :
    (fold : Bool) (names : List ℕ) (o n p m : ℕ) → o + n ≤ length names → p + m ≤ length names → (n ≡ m → ⊥)
    → texts_equal fold (text_at names o n) (text_at names p m) ≡ false
unfolding texts_equal
same_lengths fold names o n p m v w h = is_no _ (λ q. h (sym (long o n v) ∙ ap length q ∙ long p m w))
  where
    long : (o n : ℕ) → o + n ≤ length names → length (map (folded fold) (text_at names o n)) ≡ n
    long o n v = length-map (text_at names o n) (folded fold) ∙ part_length names o n v

-- Equality of identifiers, as values, is that of their texts with folding.
pub identifiers : (x y : List ℕ) → identifiers_equal x y ≡ texts_equal true x y
unfolding identifiers_equal texts_equal canon folded
identifiers x y = alike _ _ (λ q. cc) (λ q. ap ident q)

pub unfolded : (x : List ℕ) → map (folded false) x ≡ x
unfolding folded
unfolded [] = refl
unfolded (c ∷ x) = ap (c ∷◌) (unfolded x)

-- Texts that are the same are the same with folding, too.
pub same-folded : (x y : List ℕ) → texts_equal false x y ≡ true → texts_equal true x y ≡ true
unfolding texts_equal
same-folded x y e = is_yes_lem _ (ap (map (folded true)) (sym (unfolded x) ∙ yes_of _ e ∙ unfolded y))

-- Texts as they are, compared by the library.
pub bytes_same : (x y : List ℕ) → bytes_eq x y ≡ texts_equal false x y
unfolding texts_equal
bytes_same x y = rw (unfolded x, unfolded y) (one_answer _ _ (bytes_eq-Decides x y) (yes_of _, is_yes_lem _))

-- Two lists of different lengths are not the same.
pub lengths_same : (fold : Bool) (x y : List ℕ) → (length x ≡ length y → ⊥) → texts_equal fold x y ≡ false
unfolding texts_equal
lengths_same fold x y h = is_no _ (λ q. h (sym (length-map x (folded fold)) ∙ ap length q ∙ length-map y (folded fold)))

-- Identifiers are of one length, and the same as they are or with their bytes lowered.
pub identifier_tests : (x y : List ℕ) → identifiers_equal x y ≡ eqb (length x) (length y) && (bytes_eq x y || texts_equal true x y)
identifier_tests x y = identifiers x y ∙ go (bytes_eq x y) refl (eqb (length x) (length y)) refl
  where
    go : (b : Bool) → bytes_eq x y ≡ b → (m : Bool) → eqb (length x) (length y) ≡ m → texts_equal true x y ≡ m && (b || texts_equal true x y)
    go b e false k = lengths_same true x y (λ q. false≢true (sym k ∙ eq-eqb _ _ q))
    go false e true k = refl
    go true e true k = same-folded x y (sym (bytes_same x y) ∙ e)

-- Texts of one length with their bytes lowered, compared pair by pair.
pairs_lowered : (x y : List ℕ) → length x ≡ length y → list_all (λ p. eqb (lower p.0) (lower p.1)) (zip x y) ≡ bytes_eq (map lower x) (map lower y)
pairs_lowered [] [] h = refl
pairs_lowered [] (d ∷ y) h = absurd (omega arith)
pairs_lowered (c ∷ x) [] h = absurd (omega arith)
pairs_lowered (c ∷ x) (d ∷ y) h = ap (eqb (lower c) (lower d) &&◌) (pairs_lowered x y (omega arith))

pub lowered_same : (x y : List ℕ) → length x ≡ length y → list_all (λ p. eqb (lower p.0) (lower p.1)) (zip x y) ≡ texts_equal true x y
unfolding texts_equal folded
lowered_same x y h = pairs_lowered x y h ∙ one_answer _ _ (bytes_eq-Decides (map lower x) (map lower y)) (yes_of _, is_yes_lem _)
