-- The tests of a byte, by computation over all 256 bytes: each list of answers is counted out range by range. Numbers as they are compared.
use Rattle.std.specs.Prelude.{◌≡◌, refl, List, [], ◌∷◌, ◌++◌, map, Bool, true, false, length, replicate, ℕ}
use Rattle.term_spec.specs.Text.{spec_is_letter, spec_is_digit, spec_is_name_byte, lower, stripped}
use Rattle.term_spec.specs.ListLaws.{numbers_from as from}

abbrev bytes : List ℕ
bytes = from 0 256

-- n bytes that pass, and n that do not.
abbrev ins : ℕ → List Bool
ins n = replicate n true

abbrev outs : ℕ → List Bool
outs n = replicate n false

-- Letters: 26 after the first 65 bytes, 6 bytes later 26 more, and no more among the last 133.
letters : map spec_is_letter bytes ≡ outs 65 ++ ins 26 ++ outs 6 ++ ins 26 ++ outs 133
unfolding spec_is_letter
letters = refl

-- Digits: 10 after the first 48 bytes.
digits : map spec_is_digit bytes ≡ outs 48 ++ ins 10 ++ outs 198
unfolding spec_is_digit
digits = refl

-- Bytes of a name: `-` after 45 bytes, the digits, the capitals, `_` after 4 more bytes, the small letters.
name-bytes : map spec_is_name_byte bytes ≡ outs 45 ++ ins 1 ++ outs 2 ++ ins 10 ++ outs 7 ++ ins 26 ++ outs 4 ++ ins 1 ++ outs 1 ++ ins 26 ++ outs 133
unfolding spec_is_name_byte spec_is_letter spec_is_digit
name-bytes = refl

-- Lowering: the 26 bytes from 65 on become those from 97 on, all others stay.
lowered_bytes_lem : map lower bytes ≡ from 0 65 ++ from 97 26 ++ from 91 165
unfolding lower
lowered_bytes_lem = refl

-- ---- numbers as they are compared ----

-- Texts of digits, each with what is compared of it.
abbrev stripped_texts : List (List ℕ × List ℕ)
stripped_texts =
    -- 7, 07 and 007 are 7
    (55 ∷ [], 55 ∷ [])
    ∷ (48 ∷ 55 ∷ [], 55 ∷ [])
    ∷ (48 ∷ 48 ∷ 55 ∷ [], 55 ∷ [])
    -- a last digit stays: 0, 00 and 000 are 0
    ∷ (48 ∷ [], 48 ∷ [])
    ∷ (48 ∷ 48 ∷ [], 48 ∷ [])
    ∷ (48 ∷ 48 ∷ 48 ∷ [], 48 ∷ [])
    -- zeros that do not lead stay: 70, 7007, and 0070 is 70
    ∷ (55 ∷ 48 ∷ [], 55 ∷ 48 ∷ [])
    ∷ (55 ∷ 48 ∷ 48 ∷ 55 ∷ [], 55 ∷ 48 ∷ 48 ∷ 55 ∷ [])
    ∷ (48 ∷ 48 ∷ 55 ∷ 48 ∷ [], 55 ∷ 48 ∷ [])
    -- of the longest texts too: 254 zeros and a 7 are 7, 255 zeros are 0
    ∷ (replicate 254 48 ++ (55 ∷ []), 55 ∷ [])
    ∷ (replicate 255 48, 48 ∷ [])
    ∷ []

numbers_stripped : map (λ p. stripped p.0) stripped_texts ≡ map (λ p. p.1) stripped_texts
unfolding stripped
numbers_stripped = refl
