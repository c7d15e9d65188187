-- Laws of lines: their lengths, and reading is the inverse of writing.
use Rattle.std.specs.Prelude.{◌≡◌, refl, List, [], ◌∷◌, ◌++◌, ◌&&◌, T, ltb, eqb, length, take, drop, get_or, replicate, ℕ, suc, zero, ◌+◌, ◌-◌, ◌*◌, ◌≤◌, ◌<◌}
use Rattle.std.proofs.Common.{ap, ap₂, sym, ◌∙◌, append_assoc, lt→ltb, ltb→lt, eqb→eq, length-append, length-drop, take-suc}
use Rattle.std.proofs.Common.{get_or-drop, take-take, take_at, drop_at, take-add, drop-drop, get_or-take, length-take-le, arith}
use Rattle.std.proofs.lemmas.List.{length-replicate}
use Rattle.term_spec.proofs.BoolLaws.{both_of, and_of, eq→eqb}
use Rattle.term_spec.proofs.ListLaws.{drop-take}
use Rattle.sheet_spec.proofs.ColumnLaws.{column-length, column_read, read_column}
use Rattle.sheet_spec.specs.Sheet.{column, columns, line, lines, beyond, words_below, number_at, numbers_ok, zeros_ok, line_width, spec_line_ok, spec_lines_ok}
use Rattle.sheet_spec.specs.Sheet.{numbers_at, words_at}

-- ---- lengths ----

-- Ten columns for each number.
pub columns-length : (l : List ℕ) → length (columns l) ≡ 10 * length l
unfolding columns
columns-length [] = refl
columns-length (v ∷ l) = rw length-append (omega (arith, column-length v, columns-length l))

-- A line has its columns and a newline.
pub line-length : (l : List ℕ) → length (line l) ≡ 10 * length l + 1
unfolding line
line-length l = rw length-append (omega (arith, columns-length l))

-- The line of a record's kept words and its zeros.
record_length : (kept fill : ℕ) (w : List ℕ) → kept ≤ length w → length (line (take kept w ++ replicate fill 0)) ≡ line_width kept fill
record_length kept fill w h =
    line-length (take kept w ++ replicate fill 0) ∙ omega (
      arith,
      length-append (take kept w)
          (replicate fill 0),
      length-take-le kept w h,
      length-replicate {A = ℕ} fill 0,
    )

-- So many lines of records that lie in the words.
pub lines-length : (kept fill n : ℕ) (w : List ℕ) → n * kept ≤ length w → length (lines kept fill n w) ≡ line_width kept fill * n
unfolding lines
lines-length kept fill zero w h = omega arith
lines-length kept fill (suc n) w h =
    rw length-append (omega (arith, record_length kept fill w (omega arith), lines-length kept fill n (drop kept w) (omega (arith, length-drop kept w))))

-- So many numbers are read as asked for.
pub numbers_length : (text : List ℕ) (p k : ℕ) → length (numbers_at text p k) ≡ k
unfolding numbers_at
numbers_length text p zero = refl
numbers_length text p (suc k) = ap suc (numbers_length text (p + 10) k)

-- The words of n lines, `kept` of each.
pub words_length : (text : List ℕ) (p kept fill n : ℕ) → length (words_at text p kept fill n) ≡ n * kept
unfolding words_at
words_length text p kept fill zero = omega arith
words_length text p kept fill (suc n) =
    rw length-append (omega (arith, numbers_length text p kept, words_length text (p + line_width kept fill) kept fill n))

-- ---- parts of a text ----

-- Two parts side by side are one.
pub parts_join : (text X Y : List ℕ) (p a b : ℕ) → take a (drop p text) ≡ X → take b (drop (p + a) text) ≡ Y → take (a + b) (drop p text) ≡ X ++ Y
parts_join text X Y p a b e f = take-add a b (drop p text) ∙ ap₂ ◌++◌ e (ap (take b) (drop-drop a p text) ∙ f)

-- The first of two parts.
pub parts-left : (text X Y : List ℕ) (p a b : ℕ) → length X ≡ a → take (a + b) (drop p text) ≡ X ++ Y → take a (drop p text) ≡ X
parts-left text X Y p a b h e = sym (take-take a (a + b) (drop p text) (omega arith)) ∙ ap (take a) e ∙ take_at X Y a h

-- The second of two parts.
pub parts-right : (text X Y : List ℕ) (p a b : ℕ) → length X ≡ a → take (a + b) (drop p text) ≡ X ++ Y → take b (drop (p + a) text) ≡ Y
parts-right text X Y p a b h e =
    let z : a + b - a ≡ b = omega arith in
    ap (take b) (sym (drop-drop a p text)) ∙ ap (λ n. take n (drop a (drop p text))) (sym z) ∙ sym (drop-take a (a + b) (drop p text)) ∙ ap (drop a) e
    ∙ drop_at X Y a h

-- A part of one byte is that byte.
pub part-byte : (text : List ℕ) (p x : ℕ) → take 1 (drop p text) ≡ x ∷ [] → get_or text p 0 ≡ x
part-byte text p x e =
    let z : p + 0 ≡ p = omega arith in
    ap (λ q. get_or text q 0) (sym z) ∙ sym (get_or-drop p text 0 0) ∙ sym (get_or-take 1 (drop p text) 0 0 (omega arith)) ∙ ap (λ l. get_or l 0 0) e

-- A byte in the text is a part of one byte.
pub byte-part : (text : List ℕ) (p : ℕ) → p < length text → take 1 (drop p text) ≡ get_or text p 0 ∷ []
byte-part text p h =
    let z : p + 0 ≡ p = omega arith in
    take-suc (drop p text) 0 0 (rw length-drop (omega arith)) ∙ ap (λ x. x ∷ []) (get_or-drop p text 0 0 ∙ ap (λ q. get_or text q 0) z)

-- ---- numbers side by side ----

-- Numbers that were written are in form and read back.
pub numbers_read : (text l : List ℕ) (p k : ℕ) → length l ≡ k → T (words_below l) → take (10 * k) (drop p text) ≡ columns l
    → (numbers_at text p k ≡ l) × T (numbers_ok text p k)
unfolding columns words_below numbers_at numbers_ok
numbers_read text [] p zero h b e = (refl, tt)
numbers_read text [] p (suc k) h b e = absurd (omega arith)
numbers_read text (v ∷ l) p zero h b e = absurd (omega arith)
numbers_read text (v ∷ l) p (suc k) h b e =
    let (x, y) = both_of (ltb v beyond) (words_below l) b in
    let z : 10 * suc k ≡ 10 + 10 * k = omega arith in
    let s : take (10 + 10 * k) (drop p text) ≡ column v ++ columns l = ap (λ n. take n (drop p text)) (sym z) ∙ e in
    let one = column_read text p v (ltb→lt v beyond x) (parts-left text (column v) (columns l) p 10 (10 * k) (column-length v) s) in
    let (m, o) = numbers_read text l (p + 10) k (omega arith) y (parts-right text (column v) (columns l) p 10 (10 * k) (column-length v) s) in
    (ap₂ ◌∷◌ one m, and_of (ltb (number_at text p) beyond) (numbers_ok text (p + 10) k) (rw one x) o)

-- Numbers in form are written there.
pub read_numbers : (text : List ℕ) (p k : ℕ) → p + 10 * k ≤ length text → T (numbers_ok text p k) → take (10 * k) (drop p text) ≡ columns (numbers_at text p k)
unfolding columns numbers_at numbers_ok
read_numbers text p zero h o = refl
read_numbers text p (suc k) h o =
    let (x, y) = both_of (ltb (number_at text p) beyond) (numbers_ok text (p + 10) k) o in
    let z : 10 * suc k ≡ 10 + 10 * k = omega arith in
    ap (λ n. take n (drop p text)) z
    ∙ parts_join text (column (number_at text p)) (columns (numbers_at text (p + 10) k)) p 10 (10 * k) (read_column text p (ltb→lt _ _ x) (omega arith))
    (read_numbers text (p + 10) k (omega arith) y)

-- Numbers in form are below the limit.
pub numbers_below_lem : (text : List ℕ) (p k : ℕ) → T (numbers_ok text p k) → T (words_below (numbers_at text p k))
unfolding numbers_at numbers_ok words_below
numbers_below_lem text p zero h = tt
numbers_below_lem text p (suc k) h =
    let (x, y) = both_of (ltb (number_at text p) beyond) (numbers_ok text (p + 10) k) h in
    and_of (ltb (number_at text p) beyond) (words_below (numbers_at text (p + 10) k)) x (numbers_below_lem text (p + 10) k y)

-- Zeros are numbers in form, and numbers that are zeros are zeros.
zeros_numbers : (text : List ℕ) (p k : ℕ) → T (zeros_ok text p k) → (numbers_at text p k ≡ replicate k 0) × T (numbers_ok text p k)
unfolding numbers_at numbers_ok zeros_ok
zeros_numbers text p zero h = (refl, tt)
zeros_numbers text p (suc k) h =
    let (x, y) = both_of (eqb (number_at text p) 0) (zeros_ok text (p + 10) k) h in
    let z : number_at text p ≡ 0 = eqb→eq _ _ x in
    let (m, o) = zeros_numbers text (p + 10) k y in
    (ap₂ ◌∷◌ z m, and_of (ltb (number_at text p) beyond) (numbers_ok text (p + 10) k) (lt→ltb (number_at text p) beyond (omega arith)) o)

numbers_zeros : (text : List ℕ) (p k : ℕ) → numbers_at text p k ≡ replicate k 0 → T (zeros_ok text p k)
unfolding numbers_at zeros_ok
numbers_zeros text p zero h = tt
numbers_zeros text p (suc k) h =
    let x : number_at text p ≡ 0 = cc in
    let y : numbers_at text (p + 10) k ≡ replicate k 0 = cc in
    and_of (eqb (number_at text p) 0) (zeros_ok text (p + 10) k) (eq→eqb _ _ x) (numbers_zeros text (p + 10) k y)

zeros-below : (k : ℕ) → T (words_below (replicate k 0))
unfolding words_below
zeros-below zero = tt
zeros-below (suc k) = zeros-below k

-- The columns of two lists one after the other.
pub columns-append : (l m : List ℕ) → columns (l ++ m) ≡ columns l ++ columns m
unfolding columns
columns-append [] m = refl
columns-append (v ∷ l) m = ap (column v ++◌) (columns-append l m) ∙ sym (append_assoc (column v) (columns l) (columns m))

-- ---- words below the limit ----

-- The words of two lists are below the limit where those of both are.
pub below-append : (l m : List ℕ) → T (words_below l) → T (words_below m) → T (words_below (l ++ m))
unfolding words_below
below-append [] m h k = k
below-append (v ∷ l) m h k = let (x, y) = both_of (ltb v beyond) (words_below l) h in and_of (ltb v beyond) (words_below (l ++ m)) x (below-append l m y k)

-- The first of them.
pub below-take : (n : ℕ) (l : List ℕ) → T (words_below l) → T (words_below (take n l))
unfolding words_below
below-take zero l h = tt
below-take (suc n) [] h = tt
below-take (suc n) (v ∷ l) h = let (x, y) = both_of (ltb v beyond) (words_below l) h in and_of (ltb v beyond) (words_below (take n l)) x (below-take n l y)

-- The rest of them.
pub below-drop : (n : ℕ) (l : List ℕ) → T (words_below l) → T (words_below (drop n l))
unfolding words_below
below-drop zero l h = h
below-drop (suc n) [] h = tt
below-drop (suc n) (v ∷ l) h = below-drop n l (both_of (ltb v beyond) (words_below l) h).1

-- One of them.
pub below_at : (l : List ℕ) (i : ℕ) → T (words_below l) → get_or l i 0 < beyond
unfolding words_below
below_at [] i h = omega arith
below_at (v ∷ l) zero h = ltb→lt v beyond (both_of (ltb v beyond) (words_below l) h).0
below_at (v ∷ l) (suc i) h = below_at l i (both_of (ltb v beyond) (words_below l) h).1

-- ---- one line ----

-- A line that was written is in form, and its numbers read back.
pub line_read : (text l : List ℕ) (p kept fill : ℕ) → length l ≡ kept → T (words_below l)
    → take (line_width kept fill) (drop p text) ≡ line (l ++ replicate fill 0)
    → (numbers_at text p kept ≡ l) × T (spec_line_ok text p kept fill)
unfolding line spec_line_ok
line_read text l p kept fill h b e =
    let o : List ℕ = replicate fill 0 in
    let w : length (columns (l ++ o)) ≡ 10 * (kept + fill) = columns-length (l ++ o) ∙ omega (arith, length-append l o, length-replicate {A = ℕ} fill 0) in
    let all = parts-left text (columns (l ++ o)) (10 ∷ []) p (10 * (kept + fill)) 1 w e in
    let end = part-byte text (p + 10 * (kept + fill)) 10 (parts-right text (columns (l ++ o)) (10 ∷ []) p (10 * (kept + fill)) 1 w e) in
    let z : 10 * (kept + fill) ≡ 10 * kept + 10 * fill = omega arith in
    let s : take (10 * kept + 10 * fill) (drop p text) ≡ columns l ++ columns o = ap (λ n. take n (drop p text)) (sym z) ∙ all ∙ columns-append l o in
    let k : length (columns l) ≡ 10 * kept = columns-length l ∙ ap (10 *◌) h in
    let (m, x) = numbers_read text l p kept h b (parts-left text (columns l) (columns o) p (10 * kept) (10 * fill) k s) in
    let (q, y) = numbers_read text o (p + 10 * kept) fill (length-replicate fill 0) (zeros-below fill)
    (parts-right text (columns l) (columns o) p (10 * kept) (10 * fill) k s) in (
      m,
      and_of (numbers_ok text p kept && zeros_ok text (p + 10 * kept) fill) (eqb (get_or text (p + 10 * (kept + fill)) 0) 10)
          (and_of (numbers_ok text p kept) (zeros_ok text (p + 10 * kept) fill) x (numbers_zeros text (p + 10 * kept) fill q)) (eq→eqb _ _ end),
    )

-- What makes a line: its numbers, its zeros, its newline.
pub record LineFacts (text : List ℕ) (p kept fill : ℕ) : Type 0 where
  pub numbers : T (numbers_ok text p kept)
  pub zeroes : T (zeros_ok text (p + 10 * kept) fill)
  pub newline : get_or text (p + 10 * (kept + fill)) 0 ≡ 10

-- They follow from the test.
pub line_facts : (text : List ℕ) (p kept fill : ℕ) → T (spec_line_ok text p kept fill) → LineFacts text p kept fill
unfolding spec_line_ok
line_facts text p kept fill h =
    let (x, n) = both_of (numbers_ok text p kept && zeros_ok text (p + 10 * kept) fill) (eqb (get_or text (p + 10 * (kept + fill)) 0) 10) h in
    let (k, z) = both_of (numbers_ok text p kept) (zeros_ok text (p + 10 * kept) fill) x in
    record { numbers = k; zeroes = z; newline = eqb→eq _ _ n }

-- A line in form is the line of its numbers.
pub read_line : (text : List ℕ) (p kept fill : ℕ) → p + line_width kept fill ≤ length text → T (spec_line_ok text p kept fill)
    → take (line_width kept fill) (drop p text) ≡ line (numbers_at text p kept ++ replicate fill 0)
unfolding line
read_line text p kept fill h o =
    let f = line_facts text p kept fill o in
    let (q, y) = zeros_numbers text (p + 10 * kept) fill f.zeroes in
    let a = read_numbers text p kept (omega arith) f.numbers in
    let b = read_numbers text (p + 10 * kept) fill (omega arith) y ∙ ap columns q in
    let z : 10 * (kept + fill) ≡ 10 * kept + 10 * fill = omega arith in
    let s = ap (λ n. take n (drop p text)) z ∙ parts_join text (columns (numbers_at text p kept)) (columns (replicate fill 0)) p (10 * kept) (10 * fill) a b
    ∙ sym (columns-append (numbers_at text p kept) (replicate fill 0)) in
    parts_join text (columns (numbers_at text p kept ++ replicate fill 0)) (10 ∷ []) p (10 * (kept + fill)) 1 s
    (byte-part text (p + 10 * (kept + fill)) (omega arith) ∙ ap (λ x. x ∷ []) f.newline)

-- ---- lines ----

-- Lines that were written are in form, and their words read back.
pub lines_read : (text : List ℕ) (p kept fill n : ℕ) (w : List ℕ) → n * kept ≤ length w → T (words_below w)
    → take (line_width kept fill * n) (drop p text) ≡ lines kept fill n w
    → (words_at text p kept fill n ≡ take (n * kept) w) × T (spec_lines_ok text p kept fill n)
unfolding lines words_at spec_lines_ok
lines_read text p kept fill zero w h b e = let z : zero * kept ≡ zero = omega arith in (rw z refl, tt)
lines_read text p kept fill (suc n) w h b e =
    let one = line (take kept w ++ replicate fill 0) in
    let rest = lines kept fill n (drop kept w) in
    let W : ℕ = line_width kept fill in
    let z : W * suc n ≡ W + W * n = omega arith in
    let s : take (W + W * n) (drop p text) ≡ one ++ rest = ap (λ m. take m (drop p text)) (sym z) ∙ e in
    let k : length one ≡ W = record_length kept fill w (omega arith) in
    let (m, x) = line_read text (take kept w) p kept fill (length-take-le kept w (omega arith)) (below-take kept w b)
    (parts-left text one rest p W (W * n) k s) in
    let (q, y) = lines_read text (p + W) kept fill n (drop kept w) (omega (arith, length-drop kept w)) (below-drop kept w b)
    (parts-right text one rest p W (W * n) k s) in
    let v : suc n * kept ≡ kept + n * kept = omega arith in (
      ap₂ ◌++◌ m q ∙ sym (take-add kept (n * kept) w) ∙ ap (λ i. take i w) (sym v),
      and_of (spec_line_ok text p kept fill) (spec_lines_ok text (p + W) kept fill n) x y,
    )

-- Lines in form are the lines of their words.
pub read_lines : (text : List ℕ) (p kept fill n : ℕ) → p + line_width kept fill * n ≤ length text → T (spec_lines_ok text p kept fill n)
    → take (line_width kept fill * n) (drop p text) ≡ lines kept fill n (words_at text p kept fill n)
unfolding lines words_at spec_lines_ok
read_lines text p kept fill zero h o = let z : line_width kept fill * zero ≡ zero = omega arith in rw z refl
read_lines text p kept fill (suc n) h o =
    let W : ℕ = line_width kept fill in
    let (x, y) = both_of (spec_line_ok text p kept fill) (spec_lines_ok text (p + W) kept fill n) o in
    let one = numbers_at text p kept in
    let rest = words_at text (p + W) kept fill n in
    let z : W * suc n ≡ W + W * n = omega arith in
    let k = numbers_length text p kept in
    ap (λ m. take m (drop p text)) z
    ∙ parts_join text (line (one ++ replicate fill 0)) (lines kept fill n rest) p W (W * n)
    (read_line text p kept fill (omega arith) x) (read_lines text (p + W) kept fill n (omega arith) y)
    ∙ ap₂ (λ l m. line (l ++ replicate fill 0) ++ lines kept fill n m) (sym (take_at one rest kept k)) (sym (drop_at one rest kept k))

-- The words of lines in form are below the limit.
pub words_below_lem : (text : List ℕ) (p kept fill n : ℕ) → T (spec_lines_ok text p kept fill n) → T (words_below (words_at text p kept fill n))
unfolding words_at spec_lines_ok words_below
words_below_lem text p kept fill zero h = tt
words_below_lem text p kept fill (suc n) h =
    let (x, y) = both_of (spec_line_ok text p kept fill) (spec_lines_ok text (p + line_width kept fill) kept fill n) h in
    below-append (numbers_at text p kept) (words_at text (p + line_width kept fill) kept fill n)
    (numbers_below_lem text p kept (line_facts text p kept fill x).numbers) (words_below_lem text (p + line_width kept fill) kept fill n y)
