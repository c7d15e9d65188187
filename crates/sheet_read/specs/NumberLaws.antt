-- Laws of a number in columns, byte by byte.
use Rattle.std.specs.Prelude.{◌≡◌, List, Bool, eqb, get_or, length, Option, Some, None, IsSome}
use Rattle.std.proofs.Math.Path.{refl, ap, sym}
use Rattle.std.proofs.Common.{◌∙◌, add-one}
use Rattle.std.proofs.Math.Bool.{true, false}
use borrow.Author.Tests.{le-leb, lt-leb, ne_eqb}
use Rattle.std.specs.List.{between}
use Rattle.std.proofs.lemmas.List.Edits.{get_or-between, length-between}
use Rattle.sheet_read.specs.declared.Columns.{Columns as CodeColumns}
use Rattle.sheet_read.specs.declared.Columns.TheVariants.{Blank, Number, Unfit}
use Rattle.sheet_read.specs.Read.{columns_by, as_columns, fit_of, seen_of, value_of, number_of}
use Prim.Native.Nat.{ℕ, suc, zero, ◌+◌, ◌-◌, ◌*◌, ◌<◌, ◌≤◌, min}
use native.Mathlib.Omega.{arith}
use Rattle.term_spec.specs.Text.{spec_is_digit}
use Rattle.sheet_spec.specs.Sheet.{Columns, unfit, digit, space, byte, scan, shown_number, number_at, beyond}

-- ---- one byte more ----

byte_by : (c : Columns) (b : ℕ) (t : Bool) → spec_is_digit b ≡ t
    → byte c b ≡ elim t [ true ↦ digit c (b - 48) | false ↦ elim (eqb b 32) [ true ↦ space c | false ↦ unfit ] ]
unfolding byte
byte_by c b t e = ap (λ x. elim x as (λ _. Columns) [ true ↦ digit c (b - 48) | false ↦ elim (eqb b 32) [ true ↦ space c | false ↦ unfit ] ]) e

pub byte-space : (c : Columns) (b : ℕ) → b ≡ 32 → byte c b ≡ space c
unfolding byte spec_is_digit
byte-space c b e = rw e

byte_other : (c : Columns) (b : ℕ) → spec_is_digit b ≡ false → (b ≡ 32 → ⊥) → unfit ≡ byte c b
byte_other c b e h = sym (byte_by c b false e ∙ simp (ne_eqb b 32 h))

pub byte-digit : (c : Columns) (b : ℕ) → 48 ≤ b → b ≤ 57 → byte c b ≡ digit c (b - 48)
unfolding spec_is_digit
byte-digit c b h k = byte_by c b true (simp (le-leb 48 b h, le-leb b 57 k))

pub byte-below : (c : Columns) (b : ℕ) → (b ≡ 32 → ⊥) → b < 48 → byte c b ≡ unfit
unfolding spec_is_digit
byte-below c b h k = sym (byte_other c b (simp (lt-leb 48 b k)) h)

pub byte-above : (c : Columns) (b : ℕ) → 57 < b → byte c b ≡ unfit
unfolding spec_is_digit
byte-above c b k = sym (byte_other c b (simp (le-leb 48 b (omega arith), lt-leb b 57 k)) (λ e. omega (arith, e)))

-- A byte by what it is: a space, a digit, or neither.
pub ruleset bytes = (byte-space, byte-digit, byte-below, byte-above)

digit-after : (f : Bool) (v d : ℕ) → (v ≡ 0 → ⊥) → digit (columns_by f true v) d ≡ columns_by f true (10 * v + d)
unfolding digit columns_by
digit-after true zero d n = absurd (n refl)
digit-after true (suc v) d n = refl
digit-after false v d n = refl

-- One byte after columns that are told by three facts: a space after a digit, and before any.
module _ (f s : Bool) (v b : ℕ) where
  pub space_seen : b ≡ 32 → s ≡ true → columns_by false false 0 ≡ byte (columns_by f s v) b
  unfolding space columns_by
  space_seen e g = sym (byte-space _ b e ∙ rw g (elim f as (λ k. space (columns_by k true v) ≡ columns_by false false 0) [ true ↦ refl | false ↦ refl ]))

  pub space_blank : b ≡ 32 → s ≡ false → columns_by f s v ≡ byte (columns_by f s v) b
  unfolding space columns_by
  space_blank e g =
      sym (byte-space _ b e ∙ rw g (elim f as (λ k. space (columns_by k false v) ≡ columns_by k false v) [ true ↦ refl | false ↦ refl ]))

  -- Neither a space nor a digit.
  pub byte_low : (b ≡ 32 → ⊥) → b < 48 → columns_by false false 0 ≡ byte (columns_by f s v) b
  unfolding spec_is_digit columns_by
  byte_low h k = byte_other _ b (simp (lt-leb 48 b k)) h

  pub byte_high : (b ≡ 32 → ⊥) → 57 < b → columns_by false false 0 ≡ byte (columns_by f s v) b
  unfolding spec_is_digit columns_by
  byte_high h k = byte_other _ b (simp (le-leb 48 b (omega arith), lt-leb b 57 k)) h

  -- A digit: the first, after a leading zero, after a number.
  pub digit-first : 48 ≤ b → b ≤ 57 → s ≡ false → columns_by f true (b - 48) ≡ byte (columns_by f s v) b
  unfolding digit columns_by
  digit-first h k g =
      sym (byte-digit _ b h k ∙ rw g (elim f as (λ x. digit (columns_by x false v) (b - 48) ≡ columns_by x true (b - 48)) [ true ↦ refl | false ↦ refl ]))

  pub digit_zero : 48 ≤ b → b ≤ 57 → s ≡ true → v ≡ 0 → columns_by false false 0 ≡ byte (columns_by f s v) b
  unfolding digit columns_by
  digit_zero h k g z =
      sym (byte-digit _ b h k ∙ rw (g, z) (elim f as (λ x. digit (columns_by x true 0) (b - 48) ≡ columns_by false false 0) [ true ↦ refl | false ↦ refl ]))

  pub digit-more : 48 ≤ b → b ≤ 57 → s ≡ true → (v ≡ 0 → ⊥) → columns_by f true (10 * v + (b - 48)) ≡ byte (columns_by f s v) b
  digit-more h k g z = sym (byte-digit _ b h k ∙ rw g (digit-after f v (b - 48) z))

-- The code's columns are the columns of their three facts.
pub columns_facts : (c : CodeColumns) → as_columns c ≡ columns_by (fit_of c) (seen_of c) (value_of c)
unfolding columns_by
columns_facts Blank = refl
columns_facts (Number v) = refl
columns_facts Unfit = refl

-- ---- ten columns ----

-- The bound of a number of k digits.
unfoldable pub tens : ℕ → ℕ
tens zero = 1
tens (suc k) = 10 * tens k

tens-grow : (k m : ℕ) → k ≤ m → tens k ≤ tens m
unfolding tens
tens-grow zero zero h = omega arith
tens-grow zero (suc m) h = omega (arith, tens-grow zero m (omega arith))
tens-grow (suc k) zero h = absurd (omega arith)
tens-grow (suc k) (suc m) h = omega (arith, tens-grow k m (omega arith))

pub tens-bound : (k : ℕ) → k ≤ 10 → tens k ≤ 10000000000
unfolding tens
tens-bound k h = tens-grow k 10 h

pub tens-more : (k v r : ℕ) → v < tens k → r < 10 * v + 10 → r < tens (k + 1)
unfolding tens
tens-more k v r h g = rw add-one (omega arith)

pub scan-more : (text : List ℕ) (p k : ℕ) {c d : Columns} → c ≡ scan text p k → d ≡ byte c (get_or text (p + k) 0) → d ≡ scan text p (k + 1)
unfolding scan
scan-more text p k e g = rw add-one (g ∙ ap (λ c. byte c (get_or text (p + k) 0)) e)

-- The same of a byte of the part that holds the ten columns.
pub scan_byte : (text : List ℕ) (p k : ℕ) {c d : Columns} → k < 10 → c ≡ scan text p k
    → d ≡ byte c (get_or (between p (p + 10) text) k 0) → d ≡ scan text p (k + 1)
scan_byte text p k {c = c} below e g = scan-more text p k e (g ∙ ap (byte c) (get_or-between text p (p + 10) k 0 (omega arith)))

-- That part has ten bytes.
pub ten_bytes : (text : List ℕ) (p : ℕ) → p + 10 ≤ length text → length (between p (p + 10) text) ≡ 10
ten_bytes text p h = length-between text p (p + 10) h ∙ omega arith

-- What ten columns show that are told by three facts: nothing where they are not in form or blank, a number below the bound, one that is not.
module _ (text : List ℕ) (p k : ℕ) (f s : Bool) (v : ℕ) (h : k ≤ 10) (g : 10 ≤ k) (e : columns_by f s v ≡ scan text p k) where
  shown-at : shown_number (columns_by f s v) ≡ number_at text p
  unfolding number_at
  shown-at = let z : k ≡ 10 = omega arith in ap shown_number (rw z at e)

  pub show_unfit : f ≡ false → beyond ≡ number_at text p
  unfolding shown_number columns_by
  show_unfit d = rw d at shown-at

  pub show_blank : s ≡ false → beyond ≡ number_at text p
  unfolding shown_number columns_by
  show_blank d = blank_one f ∙ rw d at shown-at
    where
      blank_one : (f : Bool) → beyond ≡ shown_number (columns_by f false v)
      blank_one true = refl
      blank_one false = refl

  pub show_small : f ≡ true → s ≡ true → v < beyond → v ≡ number_at text p
  unfolding shown_number columns_by
  show_small d q z = let m : v ≡ min v beyond = omega arith in m ∙ (rw (d, q) at shown-at)

  pub show_large : f ≡ true → s ≡ true → beyond ≤ v → beyond ≡ number_at text p
  unfolding shown_number columns_by
  show_large d q z = let m : beyond ≡ min v beyond = omega arith in m ∙ (rw (d, q) at shown-at)

-- The same of the code's columns.
module _ (text : List ℕ) (p k : ℕ) (ten : k ≡ 10) (c : CodeColumns) (e : as_columns c ≡ scan text p k) where
  columns_shown : shown_number (as_columns c) ≡ number_at text p
  unfolding number_at
  columns_shown = rw ten at (ap shown_number e)

  pub columns_small : (v : ℕ) → c ≡ Number v → v < beyond → v ≡ number_at text p
  unfolding shown_number
  columns_small v d z = let m : v ≡ min v beyond = omega arith in m ∙ (rw d at columns_shown)

  pub columns_large : (v : ℕ) → c ≡ Number v → beyond ≤ v → beyond ≡ number_at text p
  unfolding shown_number
  columns_large v d z = let m : beyond ≡ min v beyond = omega arith in m ∙ (rw d at columns_shown)

  pub show_none : ((v : ℕ) → c ≡ Number v → ⊥) → beyond ≡ number_at text p
  unfolding shown_number
  show_none d = go c columns_shown d
    where
      go : (q : CodeColumns) → shown_number (as_columns q) ≡ number_at text p → ((v : ℕ) → q ≡ Number v → ⊥) → beyond ≡ number_at text p
      go Blank f n = f
      go Unfit f n = f
      go (Number v) f n = absurd (n v refl)

-- ---- a number as an option ----

pub number_is : (o : Option ℕ) (x : ℕ) {n : ℕ} → number_of o ≡ n → o ≡ Some x → x ≡ n
number_is o x e f = ap number_of (sym f) ∙ e

pub number_there : (o : Option ℕ) {n : ℕ} → number_of o ≡ n → n < beyond → IsSome o
number_there None e h = absurd (omega arith)
number_there (Some x) e h = refl
