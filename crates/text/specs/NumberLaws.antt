-- Laws of numbers: what is left of a text without its leading zeros, and when two numbers are equal.
use Rattle.std.specs.Prelude.{◌≡◌, refl, List, [], ◌∷◌, ◌++◌, Bool, true, false, not, ◌&&◌, eqb}
use Rattle.std.specs.Prelude.{length, take, drop, get_or, replicate, ℕ, suc, zero, ◌+◌, ◌-◌, ◌<◌, ◌≤◌}
use Rattle.std.specs.List.{list_all}
use Rattle.std.proofs.Common.{ap, sym, ◌∙◌, eqb→eq, take-take, drop-drop, length-drop, arith}
use Rattle.std.proofs.lemmas.Bool.{false≢true}
use borrow.Author.Tests.{ne_eqb}
use Rattle.term_spec.proofs.BoolLaws.{true-T}
use Rattle.term_spec.specs.Text.{every, zero_digit, is_zero, stripped, text_at}
use Rattle.term_spec.specs.Value.{num, canon}
use Rattle.term_spec.proofs.ValueLaws.{is_no, alike}
use Rattle.term_spec.proofs.ListLaws.{drop-take, part_length}
use Rattle.text.specs.Texts.{texts_equal, numbers_equal}
use Rattle.text.specs.TextLaws.{text_first, every_all, unfolded}

-- What is stripped of a text: nothing where its first digit is no zero, and a zero before other digits.
stripped-digit : (c : ℕ) (l : List ℕ) → is_zero c ≡ false → stripped (c ∷ l) ≡ c ∷ l
unfolding stripped
stripped-digit c [] e = refl
stripped-digit c (d ∷ l) e = rw (stripped, e) refl

stripped_zero : (c : ℕ) (l : List ℕ) → is_zero c ≡ true → 1 ≤ length l → stripped (c ∷ l) ≡ stripped l
unfolding stripped
stripped_zero c [] e h = absurd (omega arith)
stripped_zero c (d ∷ l) e h = rw (stripped, e) refl

-- A text is some zeros, and what is left when it is stripped: a digit at least, if the text has one.
record Split (x : List ℕ) : Type 0 where
  zeros : ℕ
  front : x ≡ replicate zeros zero_digit ++ stripped x
  long : length x ≡ zeros + length (stripped x)
  digit : 1 ≤ length x → 1 ≤ length (stripped x)

split : (x : List ℕ) → Split x
unfolding stripped
split [] = record { zeros = 0; front = refl; long = refl; digit = λ h. h }
split (c ∷ []) = record { zeros = 0; front = refl; long = refl; digit = λ h. h }
split (c ∷ d ∷ l) = go (is_zero c) refl (split (d ∷ l))
  where
    go : (b : Bool) → is_zero c ≡ b → Split (d ∷ l) → Split (c ∷ d ∷ l)
    go true e z =
        let same = eqb→eq c zero_digit (true-T _ e) in
        let w = z.long in
        rw same (record { zeros = suc z.zeros; front = ap (zero_digit ∷◌) z.front; long = omega arith; digit = λ h. z.digit (omega arith) })
    go false e z = let q = stripped-digit c (d ∷ l) e in record { zeros = 0; front = sym q; long = rw q (omega arith); digit = λ h. rw q h }

-- So texts of one length are the same where they are the same stripped.
stripped-same : (x y : List ℕ) → length x ≡ length y → stripped x ≡ stripped y → x ≡ y
stripped-same x y h e =
    let v = split x in
    let w = split y in
    let left-alike = ap length e in
    let zeros-alike : v.zeros ≡ w.zeros = omega arith in
    v.front ∙ rw (zeros-alike, e) (sym w.front)

-- Where the first d bytes of a text are zeros with more digits after them, they are stripped; ..
zeros-stripped : (d : ℕ) (x : List ℕ) → d < length x → every is_zero (take d x) ≡ true → stripped x ≡ stripped (drop d x)
unfolding every
zeros-stripped zero x h e = refl
zeros-stripped (suc d) [] h e = absurd (omega arith)
zeros-stripped (suc d) (c ∷ l) h e = go (is_zero c) refl (zeros-stripped d l (omega arith))
  where
    go : (b : Bool) → is_zero c ≡ b → (every is_zero (take d l) ≡ true → stripped l ≡ stripped (drop d l)) → stripped (c ∷ l) ≡ stripped (drop d l)
    go true q ih = stripped_zero c l q (omega arith) ∙ ih (sym (ap (◌&& every is_zero (take d l)) q) ∙ e)
    go false q ih = absurd (false≢true (sym (ap (◌&& every is_zero (take d l)) q) ∙ e))

-- .. and where a text is d bytes shorter when it is stripped, its first d bytes are zeros.
stripped-zeros : (d : ℕ) (x : List ℕ) → length (stripped x) + d ≤ length x → every is_zero (take d x) ≡ true
unfolding every stripped
stripped-zeros zero x h = refl
stripped-zeros (suc d) [] h = refl
stripped-zeros (suc d) (c ∷ []) h = absurd (omega arith)
stripped-zeros (suc d) (c ∷ e ∷ l) h = go (is_zero c) refl (stripped-zeros d (e ∷ l))
  where
    go : (b : Bool) → is_zero c ≡ b → (length (stripped (e ∷ l)) + d ≤ length (e ∷ l) → every is_zero (take d (e ∷ l)) ≡ true)
        → is_zero c && every is_zero (take d (e ∷ l)) ≡ true
    go true q ih = let z = ap length (stripped_zero c (e ∷ l) q (omega arith)) in rw q (ih (omega arith))
    go false q ih = let z = ap length (stripped-digit c (e ∷ l) q) in absurd (omega arith)

-- Numbers as values: they may be swapped; of one length they are compared as they are.
pub numbers_sym : (x y : List ℕ) → numbers_equal x y ≡ numbers_equal y x
unfolding numbers_equal
numbers_sym x y = alike _ _ (λ q. sym q) (λ q. sym q)

pub numbers_alike : (x y : List ℕ) → length x ≡ length y → numbers_equal x y ≡ texts_equal false x y
unfolding numbers_equal texts_equal canon
numbers_alike x y h = rw (unfolded x, unfolded y) (alike _ _ (λ q. stripped-same x y h (cc)) (λ q. ap (λ z. num (stripped z)) q))

-- A number with a digit is not the empty text.
numbers_none : (x y : List ℕ) → 1 ≤ length x → length y ≡ 0 → numbers_equal x y ≡ false
unfolding numbers_equal canon
numbers_none x y h k = is_no _ (λ q.
    let e : stripped x ≡ stripped y = cc in
    let f = ap length e in
    let v = (split x).digit h in
    let w = (split y).long in
    omega arith)

-- The longer of two: with d bytes more that are no zeros it is another; with d zeros more it is the other where what follows them is.
numbers_longer : (d : ℕ) (x y : List ℕ) → length y + d ≡ length x → every is_zero (take d x) ≡ false → numbers_equal x y ≡ false
unfolding numbers_equal canon
numbers_longer d x y h k = is_no _ (λ q.
    let e : stripped x ≡ stripped y = cc in
    let f = ap length e in
    let w = (split y).long in
    false≢true (sym k ∙ stripped-zeros d x (omega arith)))

numbers_zeros : (d : ℕ) (x y : List ℕ) → d < length x → every is_zero (take d x) ≡ true → numbers_equal x y ≡ numbers_equal (drop d x) y
unfolding numbers_equal canon
numbers_zeros d x y h k = rw (zeros-stripped d x h k)

-- Two numbers in the names: of one length; and the first longer: the other empty, the surplus bytes not all zeros, the first byte none, all of them zeros.
module _ (names : List ℕ) (o n p m : ℕ) (v : o + n ≤ length names) (w : p + m ≤ length names) where
  pub numbers_same : n ≡ m → numbers_equal (text_at names o n) (text_at names p m) ≡ texts_equal false (text_at names o n) (text_at names p n)
  numbers_same e =
      numbers_alike _ _ (part_length names o n v ∙ e ∙ sym (part_length names p m w))
      ∙ ap (λ k. texts_equal false (text_at names o n) (text_at names p k)) (sym e)

  module _ (h : m < n) where
    more : length (text_at names p m) + (n - m) ≡ length (text_at names o n)
    more = let a = part_length names o n v in let b = part_length names p m w in omega arith

    front : take (n - m) (text_at names o n) ≡ text_at names o (n - m)
    front = take-take (n - m) n (drop o names) (omega arith)

    back : drop (n - m) (text_at names o n) ≡ text_at names (o + (n - m)) m
    back = let e : n - (n - m) ≡ m = omega arith in drop-take (n - m) n (drop o names) ∙ rw (e, drop-drop (n - m) o names) refl

    pub numbers_empty : m ≡ 0 → numbers_equal (text_at names o n) (text_at names p m) ≡ false
    numbers_empty e =
        let a = part_length names o n v in
        let b = part_length names p m w in
        numbers_none (text_at names o n) (text_at names p m) (omega arith) (omega arith)

    pub numbers_apart : every is_zero (text_at names o (n - m)) ≡ false → numbers_equal (text_at names o n) (text_at names p m) ≡ false
    numbers_apart k = numbers_longer (n - m) _ _ more (ap (every is_zero) front ∙ k)

    pub numbers_digit : (get_or names o 0 ≡ zero_digit → ⊥) → numbers_equal (text_at names o n) (text_at names p m) ≡ false
    unfolding every
    numbers_digit k = numbers_apart (rw (text_first names o (n - m) (omega arith) (omega arith), every, ne_eqb (get_or names o 0) zero_digit k) refl)

    pub numbers_left : (m ≡ 0 → ⊥) → every is_zero (text_at names o (n - m)) ≡ true
        → numbers_equal (text_at names o n) (text_at names p m) ≡ texts_equal false (text_at names (o + (n - m)) m) (text_at names p m)
    numbers_left z k =
        let a = part_length names o n v in
        let long = part_length names (o + (n - m)) m (omega arith) ∙ sym (part_length names p m w) in
        numbers_zeros (n - m) _ _ (omega arith) (ap (every is_zero) front ∙ k) ∙ ap (λ t. numbers_equal t (text_at names p m)) back ∙ numbers_alike _ _ long

-- Of the longer of two, the surplus bytes are all zeros and the others are the other number, which is not empty.
pub numbers_stripped :
    (x y : List ℕ) → length y < length x
    → numbers_equal x y ≡ not (eqb (length y) 0) && list_all is_zero (take (length x - length y) x) && texts_equal false (drop (length x - length y) x) y
numbers_stripped x [] h = numbers_none x [] (omega arith) refl
numbers_stripped x (c ∷ y) h = go (list_all is_zero (take d x)) refl
  where
    d : ℕ
    d = length x - length (c ∷ y)

    some : not (eqb (length (c ∷ y)) 0) ≡ true
    some = ap not (ne_eqb _ _ (λ e. omega arith))

    go : (b : Bool) → list_all is_zero (take d x) ≡ b → numbers_equal x (c ∷ y) ≡ not (eqb (length (c ∷ y)) 0) && b && texts_equal false (drop d x) (c ∷ y)
    go true k =
        numbers_zeros d x (c ∷ y) (omega arith) (sym (every_all _ _) ∙ k) ∙ numbers_alike _ _ (length-drop d x ∙ (omega arith)) ∙ rw some refl
    go false k = numbers_longer d x (c ∷ y) (omega arith) (sym (every_all _ _) ∙ k) ∙ rw some refl
