-- Laws of one number in ten columns: its width, and reading is the inverse of writing.
use Rattle.std.specs.Prelude.{◌≡◌, refl, List, [], ◌∷◌, ◌++◌, true, false, T, leb, eqb, length, take}
use Rattle.std.specs.Prelude.{drop, get_or, ℕ, suc, zero, ◌+◌, ◌-◌, ◌*◌, ◌/◌, ◌%◌, ◌^◌, ◌≤◌, ◌<◌}
use Rattle.std.proofs.Common.{ap, ap₂, sym, ◌∙◌, leb→le, le→leb, eqb→eq, length-append, length-drop}
use Rattle.std.proofs.Common.{take-suc, get_or-drop, take-take, take_at, get_or-take, arith}
use Rattle.std.proofs.Math.Dec.{eqb-suc-zero}
use Rattle.std.proofs.lemmas.List.{get_or_at}
use Rattle.term_spec.proofs.BoolLaws.{both_of, and_of, T_true, Test, holds, fails, test}
use Rattle.term_spec.specs.Text.{spec_is_digit}
use Rattle.sheet_spec.specs.Sheet.{leading, column, beyond, Columns, blank, shown, unfit, digit, space, byte, scan, shown_number, number_at}

-- ---- lengths ----

-- The leading columns are as many as asked for.
pub leading_length : (w v : ℕ) → length (leading w v) ≡ w
unfolding leading
leading_length zero v = refl
leading_length (suc w) v = rw length-append (omega (arith, leading_length w (v / 10)))

-- A number takes ten columns.
pub column-length : (v : ℕ) → length (column v) ≡ 10
unfolding column
column-length v = rw length-append (omega (arith, leading_length 9 (v / 10)))

-- ---- one byte ----

-- What columns before the last digit show: no number yet where it is 0.
unfoldable pub before : ℕ → Columns
before zero = blank
before (suc v) = shown (suc v)

-- The byte of a number's last column among the leading ones.
unfoldable last_byte : ℕ → ℕ
last_byte v = elim (eqb v 0) [ true ↦ 32 | false ↦ 48 + v % 10 ]

digit_test : (d : ℕ) → d < 10 → spec_is_digit (48 + d) ≡ true
unfolding spec_is_digit
digit_test d h = T_true _ (and_of (leb 48 (48 + d)) (leb (48 + d) 57) (le→leb 48 (48 + d) (omega arith)) (le→leb (48 + d) 57 (omega arith)))

digit-below : (b : ℕ) → T (spec_is_digit b) → (48 ≤ b) × (b ≤ 57)
unfolding spec_is_digit
digit-below b h = let (x, y) = both_of (leb 48 b) (leb b 57) h in (leb→le 48 b x, leb→le b 57 y)

-- The three kinds of byte.
byte-digit : (c : Columns) (b : ℕ) → spec_is_digit b ≡ true → byte c b ≡ digit c (b - 48)
unfolding byte
byte-digit c b h = rw (h, byte) refl

byte-space : (c : Columns) (b : ℕ) → spec_is_digit b ≡ false → eqb b 32 ≡ true → byte c b ≡ space c
unfolding byte
byte-space c b h k = rw (h, byte, k) refl

byte_other : (c : Columns) (b : ℕ) → spec_is_digit b ≡ false → eqb b 32 ≡ false → byte c b ≡ unfit
unfolding byte
byte_other c b h k = rw (h, byte, k) refl

-- A last digit after the columns of q.
shown-byte : (q d : ℕ) → d < 10 → byte (before q) (48 + d) ≡ shown (10 * q + d)
unfolding before digit
shown-byte zero d h = byte-digit blank (48 + d) (digit_test d h) ∙ ap shown (omega arith)
shown-byte (suc q) d h = byte-digit (shown (suc q)) (48 + d) (digit_test d h) ∙ ap shown (omega arith)

-- ---- one byte, back ----

digit-shown : (c : Columns) (d v : ℕ) → d < 10 → digit c d ≡ shown v → (c ≡ before (v / 10)) × (v % 10 ≡ d)
unfolding digit before
digit-shown blank d v h e = let z : d ≡ v = cc in (rw (let q : v / 10 ≡ 0 = omega arith in q) refl, omega arith)
digit-shown (shown zero) d v h e = let z : ◌≡◌ {A = ℕ} 0 1 = cc in absurd (omega arith)
digit-shown (shown (suc u)) d v h e = let z : 10 * suc u + d ≡ v = cc in (rw (let q : v / 10 ≡ suc u = omega arith in q) refl, omega arith)
digit-shown unfit d v h e = let z : ◌≡◌ {A = ℕ} 0 1 = cc in absurd (omega arith)

space-shown : (c : Columns) (v : ℕ) → space c ≡ shown v → ⊥
unfolding space
space-shown blank v e = let z : ◌≡◌ {A = ℕ} 0 1 = cc in omega arith
space-shown (shown u) v e = let z : ◌≡◌ {A = ℕ} 0 1 = cc in omega arith
space-shown unfit v e = let z : ◌≡◌ {A = ℕ} 0 1 = cc in omega arith

digit_blank : (c : Columns) (d : ℕ) → digit c d ≡ blank → ⊥
unfolding digit
digit_blank blank d e = let z : ◌≡◌ {A = ℕ} 0 1 = cc in omega arith
digit_blank (shown zero) d e = let z : ◌≡◌ {A = ℕ} 0 1 = cc in omega arith
digit_blank (shown (suc u)) d e = let z : ◌≡◌ {A = ℕ} 0 1 = cc in omega arith
digit_blank unfit d e = let z : ◌≡◌ {A = ℕ} 0 1 = cc in omega arith

space_blank : (c : Columns) → space c ≡ blank → c ≡ blank
unfolding space
space_blank blank e = refl
space_blank (shown u) e = cc
space_blank unfit e = cc

-- A byte after which a number is shown is a digit after the columns of v / 10.
byte-shown : (c : Columns) (b v : ℕ) → byte c b ≡ shown v → (c ≡ before (v / 10)) × (b ≡ 48 + v % 10)
byte-shown c b v e = go (test (spec_is_digit b)) (test (eqb b 32))
  where
    go : Test (spec_is_digit b) → Test (eqb b 32) → (c ≡ before (v / 10)) × (b ≡ 48 + v % 10)
    go (holds t) u =
        let (low, high) = digit-below b t in
        let (x, y) = digit-shown c (b - 48) v (omega arith) (sym (byte-digit c b (T_true _ t)) ∙ e) in
        (x, omega arith)
    go (fails f) (holds u) = absurd (space-shown c v (sym (byte-space c b f (T_true _ u)) ∙ e))
    go (fails f) (fails g) = let k = byte_other c b f g in let z : ◌≡◌ {A = ℕ} 0 1 = cc in absurd (omega arith)

-- A byte after which no number is shown yet is a space after spaces.
byte_blank : (c : Columns) (b : ℕ) → byte c b ≡ blank → (c ≡ blank) × (b ≡ 32)
byte_blank c b e = go (test (spec_is_digit b)) (test (eqb b 32))
  where
    go : Test (spec_is_digit b) → Test (eqb b 32) → (c ≡ blank) × (b ≡ 32)
    go (holds t) u = absurd (digit_blank c (b - 48) (sym (byte-digit c b (T_true _ t)) ∙ e))
    go (fails f) (holds u) = (space_blank c (sym (byte-space c b f (T_true _ u)) ∙ e), eqb→eq b 32 u)
    go (fails f) (fails g) = let k = byte_other c b f g in let z : ◌≡◌ {A = ℕ} 0 1 = cc in absurd (omega arith)

-- ---- the leading columns ----

-- One column more.
part_suc : (text : List ℕ) (p k : ℕ) → p + k < length text → take (suc k) (drop p text) ≡ take k (drop p text) ++ (get_or text (p + k) 0 ∷ [])
part_suc text p k h = take-suc (drop p text) k 0 (rw length-drop (omega arith)) ∙ ap (λ x. take k (drop p text) ++ (x ∷ [])) (get_or-drop p text k 0)

-- The columns before the last, and the last.
part-front : (text A : List ℕ) (p k x : ℕ) → length A ≡ k → take (suc k) (drop p text) ≡ A ++ (x ∷ []) → take k (drop p text) ≡ A
part-front text A p k x h e = sym (take-take k (suc k) (drop p text) (omega arith)) ∙ ap (take k) e ∙ take_at A (x ∷ []) k h

part-last : (text A : List ℕ) (p k x : ℕ) → length A ≡ k → take (suc k) (drop p text) ≡ A ++ (x ∷ []) → get_or text (p + k) 0 ≡ x
part-last text A p k x h e =
    sym (get_or-drop p text k 0) ∙ sym (get_or-take (suc k) (drop p text) k 0 (omega arith)) ∙ ap (λ l. get_or l k 0) e ∙ get_or_at A x [] 0 k h

last-digit : (v : ℕ) → last_byte (suc v) ≡ 48 + suc v % 10
unfolding last_byte
last-digit v = rw (eqb-suc-zero v, last_byte) refl

leading_suc : (k v : ℕ) → leading (suc k) v ≡ leading k (v / 10) ++ (last_byte v ∷ [])
unfolding leading last_byte
leading_suc k v = refl

before-byte : (v : ℕ) → byte (before (v / 10)) (last_byte v) ≡ before v
unfolding before last_byte byte space spec_is_digit
before-byte zero = refl
before-byte (suc v) = ap (byte (before (suc v / 10))) (last-digit v) ∙ shown-byte (suc v / 10) (suc v % 10) (omega arith) ∙ ap shown (omega arith)

byte-before : (c : Columns) (b v : ℕ) → byte c b ≡ before v → (c ≡ before (v / 10)) × (b ≡ last_byte v)
unfolding before last_byte
byte-before c b zero e = byte_blank c b e
byte-before c b (suc v) e = let (x, y) = byte-shown c b (suc v) e in (x, y ∙ sym (last-digit v))

-- Leading columns that were written are scanned as what they show.
leading-scan : (text : List ℕ) (p k v : ℕ) → v < 10 ^ k → take k (drop p text) ≡ leading k v → scan text p k ≡ before v
unfolding scan before
leading-scan text p zero v h e = let z : v ≡ 0 = omega arith in rw z refl
leading-scan text p (suc k) v h e =
    let s = e ∙ leading_suc k v in
    let w = leading_length k (v / 10) in
    ap₂ byte (leading-scan text p k (v / 10) (omega arith) (part-front text (leading k (v / 10)) p k (last_byte v) w s))
    (part-last text (leading k (v / 10)) p k (last_byte v) w s)
    ∙ before-byte v

-- Columns that are scanned as what v's leading columns show are v's leading columns.
scan-leading : (text : List ℕ) (p k v : ℕ) → p + k ≤ length text → scan text p k ≡ before v → take k (drop p text) ≡ leading k v
unfolding scan leading last_byte
scan-leading text p zero v h e = refl
scan-leading text p (suc k) v h e =
    let (x, y) = byte-before (scan text p k) (get_or text (p + k) 0) v e in
    part_suc text p k (omega arith) ∙ ap₂ (λ l b. l ++ (b ∷ [])) (scan-leading text p k (v / 10) (omega arith) x) y

-- ---- the ten columns ----

-- The ten columns of a number that were written are scanned as the number.
pub column-scan : (text : List ℕ) (p v : ℕ) → v < 10 ^ 10 → take 10 (drop p text) ≡ column v → scan text p 10 ≡ shown v
unfolding scan column
column-scan text p v h e =
    let w = leading_length 9 (v / 10) in
    ap₂ byte (leading-scan text p 9 (v / 10) (omega arith) (part-front text (leading 9 (v / 10)) p 9 (48 + v % 10) w e))
    (part-last text (leading 9 (v / 10)) p 9 (48 + v % 10) w e)
    ∙ shown-byte (v / 10) (v % 10) (omega arith) ∙ ap shown (omega arith)

-- Ten columns that are scanned as a number are those of the number.
pub scan-column : (text : List ℕ) (p v : ℕ) → p + 10 ≤ length text → scan text p 10 ≡ shown v → take 10 (drop p text) ≡ column v
unfolding scan column
scan-column text p v h e =
    let (x, y) = byte-shown (scan text p 9) (get_or text (p + 9) 0) v e in
    part_suc text p 9 (omega arith) ∙ ap₂ (λ l b. l ++ (b ∷ [])) (scan-leading text p 9 (v / 10) (omega arith) x) y

-- A number below the limit is read where its columns stand.
pub column_read : (text : List ℕ) (p v : ℕ) → v < beyond → take 10 (drop p text) ≡ column v → number_at text p ≡ v
unfolding number_at shown_number
column_read text p v h e = ap shown_number (column-scan text p v (omega arith) e) ∙ omega arith

shown-number : (c : Columns) → shown_number c < beyond → c ≡ shown (shown_number c)
unfolding shown_number
shown-number blank h = absurd (omega arith)
shown-number (shown v) h = ap shown (omega arith)
shown-number unfit h = absurd (omega arith)

-- Where a number is read, its columns stand.
pub read_column : (text : List ℕ) (p : ℕ) → number_at text p < beyond → p + 10 ≤ length text → take 10 (drop p text) ≡ column (number_at text p)
unfolding number_at
read_column text p h k = scan-column text p (number_at text p) k (shown-number (scan text p 10) h)
