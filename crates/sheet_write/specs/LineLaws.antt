-- Laws of columns, lines and records written one after another.
use Rattle.std.specs.Prelude.{◌≡◌, refl, List, [], ◌∷◌, ◌++◌, length, take, drop, replicate, get_or, set, ℕ, suc, zero, ◌+◌, ◌-◌, ◌*◌, ◌≤◌, ◌<◌}
use Rattle.std.proofs.Common.{ap, ap₂, sym, ◌∙◌, append_assoc, append-nil, length-append, length-drop}
use Rattle.std.proofs.Common.{take-suc, get_or-drop, drop-drop, length-take-le, take_all, arith, add-one}
use Rattle.std.proofs.lemmas.List.{length-replicate}
use Rattle.term_spec.proofs.ListLaws.{part_length}
use Rattle.sheet_spec.specs.Sheet.{column_width, count_columns, column, columns, line, line_width, lines}
use Rattle.sheet_spec.specs.Job.{laid_at}
use Rattle.sheet_spec.proofs.ColumnLaws.{column-length}
use Rattle.sheet_spec.proofs.LineLaws.{columns-length, line-length, columns-append}
use Rattle.sheet_form.specs.Form.{line_bytes, most_columns}
use Rattle.sheet_form.specs.FormLaws.{first-zeros, room_at, part_at}
use Rattle.sheet_spec.proofs.LaidLaws.{laid_at-length, laid_at-set, laid_at_none, laid_at_next, laid_at_then, laid_at-snoc}
use borrow.Rule.Slice.PartMut.{put_mid}

-- ---- a line of four numbers ----

-- Four columns and a newline.
pub line-laid : (old o1 o2 o3 o4 o5 : List ℕ) (p a b c d : ℕ) → p + line_bytes ≤ length old → o1 ≡ laid_at old p (column a)
    → o2 ≡ laid_at o1 (p + column_width) (column b)
    → o3 ≡ laid_at o2 (p + 2 * column_width) (column c) → o4 ≡ laid_at o3 (p + 3 * column_width) (column d)
    → o5 ≡ laid_at o4 (p + count_columns * column_width) (10 ∷ []) → o5 ≡ laid_at old p (line (a ∷ b ∷ c ∷ d ∷ []))
unfolding line columns
line-laid old o1 o2 o3 o4 o5 p a b c d h e1 e2 e3 e4 e5 =
    let la = column-length a in
    let lb = length-append (column a) (column b) ∙ ap₂ ◌+◌ la (column-length b) in
    let lc = length-append (column a ++ column b) (column c) ∙ ap₂ ◌+◌ lb (column-length c) in
    let ld = length-append (column a ++ column b ++ column c) (column d) ∙ ap₂ ◌+◌ lc (column-length d) in
    let f2 = laid_at_then old o1 o2 p (p + column_width) (column a) (column b) (omega arith) (omega arith) e1 e2 in
    let f3 = laid_at_then old o2 o3 p (p + 2 * column_width) (column a ++ column b) (column c) (omega arith) (omega arith) f2 e3 in
    let f4 = laid_at_then old o3 o4 p (p + 3 * column_width) (column a ++ column b ++ column c) (column d) (omega arith) (omega arith) f3 e4 in
    laid_at_then old o4 o5 p (p + count_columns * column_width) (column a ++ column b ++ column c ++ column d) (10 ∷ []) (omega arith) (omega arith) f4 e5
    ∙ ap (laid_at old p) (regroup (column a) (column b) (column c) (column d) (10 ∷ []))
  where
    regroup : (s t u v w : List ℕ) → s ++ t ++ u ++ v ++ w ≡ (s ++ (t ++ (u ++ (v ++ [])))) ++ w
    regroup s t u v w = simp (append_assoc, append-nil)

-- ---- columns one after another ----

-- One number more.
columns-turn : (old out new l : List ℕ) (p i v : ℕ) → length l ≡ i → p + column_width * i ≤ length old → out ≡ laid_at old p (columns l)
    → new ≡ laid_at out (p + column_width * i) (column v)
    → new ≡ laid_at old p (columns (l ++ v ∷ []))
unfolding columns
columns-turn old out new l p i v n h e f =
    laid_at_then old out new p (p + column_width * i) (columns l) (column v) (omega (arith, columns-length l)) h e f
    ∙ ap (laid_at old p) (ap (columns l ++◌) (sym (append-nil (column v))) ∙ sym (columns-append l (v ∷ [])))

-- One word more.
pub words_turn : (old out new words : List ℕ) (p w i v : ℕ) → w + i < length words → p + column_width * i ≤ length old
    → out ≡ laid_at old p (columns (take i (drop w words)))
    → v ≡ get_or words (w + i) 0 → new ≡ laid_at out (p + column_width * i) (column v) → new ≡ laid_at old p (columns (take (i + 1) (drop w words)))
words_turn old out new words p w i v k h e g f =
    columns-turn old out new (take i (drop w words)) p i v (part_length words w i (omega arith)) h e f
    ∙ ap (λ x. laid_at old p (columns (take i (drop w words) ++ x ∷ []))) (g ∙ sym (get_or-drop w words i 0))
    ∙ ap (λ x. laid_at old p (columns x))
    (sym (take-suc (drop w words) i 0 (omega (arith, length-drop w words))) ∙ ap (λ n. take n (drop w words)) (sym (add-one i)))

-- All the words.
pub words_whole : (old out words : List ℕ) (p w i kept : ℕ) → i ≡ kept → out ≡ laid_at old p (columns (take i (drop w words)))
    → out ≡ laid_at old p (columns (take kept (drop w words)))
words_whole old out words p w i kept h e = e ∙ ap (λ n. laid_at old p (columns (take n (drop w words)))) h

-- The same of a slice of words: one more.
pub slice_turn : (old out new words : List ℕ) (p i v : ℕ) → i < length words → p + column_width * length words ≤ length old
    → out ≡ laid_at old p (columns (take i words))
    → v ≡ get_or words i 0 → new ≡ laid_at out (p + column_width * i) (column v) → new ≡ laid_at old p (columns (take (i + 1) words))
slice_turn old out new words p i v k h e g f =
    columns-turn old out new (take i words) p i v (length-take-le i words (omega arith)) (omega arith) e f
    ∙ ap (λ x. laid_at old p (columns (take i words ++ x ∷ []))) g
    ∙ ap (λ x. laid_at old p (columns x)) (sym (take-suc words i 0 k) ∙ ap (λ n. take n words) (sym (add-one i)))

-- None yet.
pub slice_start : (old words : List ℕ) (p : ℕ) → old ≡ laid_at old p (columns (take 0 words))
unfolding columns
slice_start old words p = sym (laid_at_none old p)

-- All the words.
pub slice_whole : (old out words : List ℕ) (p i : ℕ) → length words ≤ i → out ≡ laid_at old p (columns (take i words)) → out ≡ laid_at old p (columns words)
slice_whole old out words p i h e = e ∙ ap (λ l. laid_at old p (columns l)) (take_all i words h)

-- ---- records ----

-- Words, zeros and a newline.
pub record_laid :
    (old o1 o2 o3 words : List ℕ) (p w kept fill : ℕ) {q : ℕ} → fill ≤ most_columns → w + kept ≤ length words → p + line_width kept fill ≤ length old
    → o1 ≡ laid_at old p (columns (take kept (drop w words))) → o2 ≡ laid_at o1 (p + column_width * kept) (columns (take fill (replicate most_columns 0)))
    → q ≡ column_width * (kept + fill) → o3 ≡ laid_at o2 (p + q) (10 ∷ []) → o3 ≡ laid_at old p (line (take kept (drop w words) ++ replicate fill 0))
unfolding line
record_laid old o1 o2 o3 words p w kept fill enough k h e1 e2 at-end e3 =
    let l = take kept (drop w words) in
    let z = replicate {A = ℕ} fill 0 in
    let n = columns-length l ∙ ap (column_width *◌) (part_length words w kept k) in
    let j = columns-length z ∙ ap (column_width *◌) (length-replicate {A = ℕ} fill 0) in
    let g = e2 ∙ ap (λ x. laid_at o1 (p + column_width * kept) (columns x)) (first-zeros fill most_columns enough) in
    let f2 = laid_at_then old o1 o2 p (p + column_width * kept) (columns l) (columns z) (omega arith) (omega arith) e1 g
    ∙ ap (laid_at old p) (sym (columns-append l z)) in
    let r = ap length (columns-append l z) ∙ length-append (columns l) (columns z) in
    laid_at_then old o2 o3 p _ (columns (l ++ z)) (10 ∷ []) (omega arith) (omega arith) f2 e3

-- The same of words in a slice, where the newline is set.
pub record_set :
    (old o1 o2 l z : List ℕ) (p kept fill q : ℕ) → z ≡ replicate fill 0 → length l ≡ kept → p + line_width kept fill ≤ length old
    → o1 ≡ laid_at old p (columns l) → o2 ≡ laid_at o1 (p + column_width * kept) (columns z)
    → q ≡ column_width * (kept + fill) → set o2 (p + q) 10 ≡ laid_at old p (line (l ++ replicate fill 0))
unfolding line
record_set old o1 o2 l y p kept fill q zeros n h e1 g at-end =
    let z = replicate {A = ℕ} fill 0 in
    let j = columns-length z ∙ ap (column_width *◌) (length-replicate {A = ℕ} fill 0) in
    let i = columns-length l ∙ ap (column_width *◌) n in
    let k = g ∙ ap (λ x. laid_at o1 (p + column_width * kept) (columns x)) zeros in
    let f2 = laid_at_then old o1 o2 p (p + column_width * kept) (columns l) (columns z) (omega arith) (omega arith) e1 k
    ∙ ap (laid_at old p) (sym (columns-append l z)) in
    let r = ap length (columns-append l z) ∙ length-append (columns l) (columns z) in
    let m : length o2 ≡ length old = ap length f2 ∙ laid_at-length old p (columns (l ++ z)) (omega arith) in
    laid_at_then old o2 (set o2 (p + q) 10) p (p + q) (columns (l ++ z)) (10 ∷ []) (omega arith) (omega arith) f2 (laid_at-set o2 (p + q) 10 (omega arith))

-- Room for n parts of k is room for one and for those after it.
pub room-turn : (a k i n len : ℕ) → i < n → a + k * (n - i) ≤ len → a + k + k * (n - (i + 1)) ≤ len
room-turn a k i n len lt h =
    let z : n - i ≡ suc (n - (i + 1)) = omega arith in
    let e : k * suc (n - (i + 1)) ≡ k + k * (n - (i + 1)) = omega arith in
    omega (arith, ap (k *◌) z)

-- None is written yet.
pub room-start : (a k n len : ℕ) → a + k * n ≤ len → a + k * (n - 0) ≤ len
room-start a k n len h = let z : n - 0 ≡ n = omega arith in omega (arith, ap (k *◌) z)

-- All lines are left to write.
pub lines_start : (old words : List ℕ) (p kept fill n : ℕ) → laid_at old p (lines kept fill (n - 0) (drop 0 words)) ≡ laid_at old p (lines kept fill n words)
lines_start old words p kept fill n = let z : n - 0 ≡ n = omega arith in ap (λ m. laid_at old p (lines kept fill m words)) z

-- The same by the place of the first.
pub lines_unwritten : (old words : List ℕ) (p w kept fill n : ℕ)
    → laid_at old (p + w * 0) (lines kept fill (n - 0) (drop (kept * 0) words)) ≡ laid_at old p (lines kept fill n words)
lines_unwritten old words p w kept fill n =
    let z : n - 0 ≡ n = omega arith in
    let y : p + w * 0 ≡ p = omega arith in
    let x : kept * 0 ≡ 0 = omega arith in
    rw (z, y, x) refl

-- One record of n more; what is left to write is the lines after it.
pub lines-turn : (old new words : List ℕ) (at w kept fill i n : ℕ) {width : ℕ} → width ≡ line_width kept fill → i < n → w + kept ≤ length words
    → at + line_width kept fill ≤ length old → new ≡ laid_at old at (line (take kept (drop w words) ++ replicate fill 0))
    → laid_at new (at + width) (lines kept fill (n - (i + 1)) (drop (w + kept) words)) ≡ laid_at old at (lines kept fill (n - i) (drop w words))
unfolding lines
lines-turn old new words at w kept fill i n wide lt k h e =
    let one = line (take kept (drop w words) ++ replicate fill 0) in
    let W : ℕ = line_width kept fill in
    let m = n - (i + 1) in
    let z : suc m ≡ n - i = omega arith in
    let s : length one ≡ W = line-length (take kept (drop w words) ++ replicate fill 0)
    ∙ omega (arith, length-append (take kept (drop w words)) (replicate fill 0), part_length words w kept k, length-replicate {A = ℕ} fill 0) in
    ap (λ x. laid_at new (at + x) (lines kept fill m (drop (w + kept) words))) wide
    ∙ ap₂ (λ x y. laid_at x (at + W) (lines kept fill m y)) e (sym (drop-drop kept w words))
    ∙ laid_at_next old at (at + W) one (lines kept fill m (drop kept (drop w words))) (omega arith) h
    ∙ ap (λ x. laid_at old at (lines kept fill x (drop w words))) z

-- Record i.
pub record_size : (words : List ℕ) (kept i n : ℕ) → i < n → kept * n ≤ length words → length (take (kept * i + kept - kept * i) (drop (kept * i) words)) ≡ kept
record_size words kept i n lt h =
    let z : kept * i + kept - kept * i ≡ kept = omega arith in
    rw z (part_length words (kept * i) kept (part_at kept n i (length words) lt h))

-- The same of record i.
pub lines_more : (old new words : List ℕ) (p kept fill i n m : ℕ) {width : ℕ} → width ≡ line_width kept fill → m ≡ kept → i < n → kept * n ≤ length words
    → p + line_width kept fill * n ≤ length old → new ≡ laid_at old (p + width * i) (line (take m (drop (kept * i) words) ++ replicate fill 0))
    → laid_at new (p + width * (i + 1)) (lines kept fill (n - (i + 1)) (drop (kept * (i + 1)) words))
    ≡ laid_at old (p + width * i) (lines kept fill (n - i) (drop (kept * i) words))
lines_more old new words p kept fill i n m {width = width} wide all lt k h e =
    let x : kept * (i + 1) ≡ kept * i + kept = omega arith in
    let y : p + width * (i + 1) ≡ p + width * i + width = omega arith in
    let z : width * i ≡ line_width kept fill * i = ap (λ w. w * i) wide in
    let r : p + line_width kept fill * i + line_width kept fill ≤ length old = room_at p (line_width kept fill) n i (length old) lt h in
    rw (x, y) (lines-turn old new words (p + width * i) (kept * i) kept fill i n wide lt (part_at kept n i (length words) lt k) (omega arith) (rw all at e))

-- No record is left.
pub lines-whole : (old out words rest : List ℕ) (p at kept fill n left : ℕ) → left ≤ 0
    → laid_at out at (lines kept fill left rest) ≡ laid_at old p (lines kept fill n words)
    → out ≡ laid_at old p (lines kept fill n words)
unfolding lines
lines-whole old out words rest p at kept fill n zero h e = sym (laid_at_none out at) ∙ e
lines-whole old out words rest p at kept fill n (suc left) h e = absurd (omega arith)

-- ---- bytes copied ----

-- One byte more.
pub bytes-turn : (old out bytes : List ℕ) (p i : ℕ) → i < length bytes → p + i < length old → out ≡ laid_at old p (take i bytes)
    → set out (p + i) (get_or bytes i 0) ≡ laid_at old p (take (i + 1) bytes)
bytes-turn old out bytes p i lt h e =
    ap (λ x. set x (p + i) (get_or bytes i 0)) e
    ∙ laid_at-snoc old p (p + i) (take i bytes) (get_or bytes i 0) (omega (arith, length-take-le i bytes (omega arith))) h
    ∙ ap (laid_at old p) (sym (take-suc bytes i 0 lt) ∙ ap (λ n. take n bytes) (sym (add-one i)))

-- All of them.
pub bytes_whole : (old out bytes : List ℕ) (p i : ℕ) → length bytes ≤ i → out ≡ laid_at old p (take i bytes) → out ≡ laid_at old p bytes
bytes_whole old out bytes p i h e = e ∙ ap (laid_at old p) (take_all i bytes h)

-- Bytes in the place of as many.
pub bytes-laid : (old bytes : List ℕ) (p k : ℕ) → k ≡ length bytes → put_mid p k old bytes ≡ laid_at old p bytes
unfolding laid_at
bytes-laid old bytes p k e =
    sym (append_assoc (take p old) bytes (drop k (drop p old))) ∙ ap (λ l. take p old ++ bytes ++ l) (drop-drop k p old ∙ ap (λ n. drop (p + n) old) e)
