-- Reading records after records were written: the laws that see where a record's words lie, once for every kind of record.
use Rattle.std.specs.Prelude.{◌≡◌, get_or, ℕ, suc, zero, ◌+◌, ◌*◌, ◌-◌, ◌/◌, ◌%◌, ◌≤◌, ◌<◌}
use Rattle.std.proofs.Math.Path.{refl, ap, ap₂, sym}
use Rattle.std.proofs.Common.{◌∙◌, take-add, le-div_iff_mul-le}
use mathlib.Core.List.{List, [], ◌∷◌, ◌++◌, append_assoc, append-nil}
use Rattle.std.proofs.Math.ListN.{length, take, drop, length-append, length-drop, take-append-drop}
use Rattle.std.proofs.lemmas.List.{take-append-le, drop-append-le}
use Rattle.std.proofs.Math.Seq.{take_at, drop_at, drop-drop, drop-append-add, drop-length, length-take-le}
use native.Mathlib.Omega.{arith}
use Rattle.std.proofs.Math.Nat.{suc-mul, add-mul, mul-le-mul_right}
use Rattle.term_spec.proofs.ListLaws.{entry_next}
use Rattle.term_spec.specs.Words.{Layout, Lies, decode, record_at, encode, count, whole, records, write}
use Rattle.term_spec.specs.Term.{term_of, term_layout, run_of, run_layout}

-- A record's words are as many as its width, and mean the record.
pub record Lays {A : Type 0} (L : Layout A) : Type 0 where
  pub some_words : 1 ≤ L.width
  pub sized : (r : A) → length (L.words r) ≡ L.width
  pub reads : (r : A) → L.read (L.words r) ≡ r

pub term_lays : Lays term_layout
unfolding term_of
term_lays = record { some_words = omega arith; sized = λ r. refl; reads = λ r. refl }

pub run_lays : Lays run_layout
unfolding run_of
run_lays = record { some_words = omega arith; sized = λ r. refl; reads = λ r. refl }

-- A record read loses nothing of its words.
abbrev pub Keeps : {A : Type 0} → Layout A → Type 0
Keeps L = (w : List ℕ) → length w ≡ L.width → L.words (L.read w) ≡ w

pub term-keeps : Keeps term_layout
unfolding term_of
term-keeps [] h = absurd (omega arith)
term-keeps (a ∷ []) h = absurd (omega arith)
term-keeps (a ∷ b ∷ []) h = absurd (omega arith)
term-keeps (a ∷ b ∷ c ∷ []) h = absurd (omega arith)
term-keeps (a ∷ b ∷ c ∷ d ∷ []) h = absurd (omega arith)
term-keeps (a ∷ b ∷ c ∷ d ∷ e ∷ []) h = refl
term-keeps (a ∷ b ∷ c ∷ d ∷ e ∷ f ∷ w) h = absurd (omega arith)

part_of_sum : (k n w : ℕ) → suc k * w ≤ n → (w ≤ n) × (k * w ≤ n - w)
part_of_sum k n w h = let e = suc-mul k w in (omega arith, omega arith)

pub decode-length : {A : Type 0} (L : Layout A) (n : ℕ) (w : List ℕ) → length (decode L n w) ≡ n
unfolding decode
decode-length L zero w = refl
decode-length L (suc n) w = ap suc (decode-length L n (drop L.width w))

-- the words after i records of those after the first
next_words : (k i : ℕ) (w : List ℕ) → drop (i * k) (drop k w) ≡ drop (suc i * k) w
next_words k i w = let z : k + i * k ≡ suc i * k = omega (arith, suc-mul i k) in drop-drop (i * k) k w ∙ ap (λ n. drop n w) z

-- the records after s of them are those of the words after s records
pub decode-drop : {A : Type 0} (L : Layout A) (n s : ℕ) (w : List ℕ) → drop s (decode L n w) ≡ decode L (n - s) (drop (s * L.width) w)
unfolding decode
decode-drop L n zero w = let z : n - zero ≡ n = omega arith in let y : zero * L.width ≡ zero = omega arith in rw (z, y) refl
decode-drop L zero (suc s) w = let z : zero - suc s ≡ zero = omega arith in rw z refl
decode-drop L (suc n) (suc s) w =
    let z : suc n - suc s ≡ n - s = omega arith in
    decode-drop L n s (drop L.width w) ∙ ap (decode L (n - s)) (next_words L.width s w) ∙ rw z refl

record_after : {A : Type 0} (L : Layout A) (i : ℕ) (w : List ℕ) → record_at L (drop L.width w) i ≡ record_at L w (suc i)
unfolding record_at
record_after L i w = ap (λ v. L.read (take L.width v)) (next_words L.width i w)

-- record i of the words after s records is record s + i
pub record_drop : {A : Type 0} (L : Layout A) (s i : ℕ) (w : List ℕ) → record_at L (drop (s * L.width) w) i ≡ record_at L w (s + i)
unfolding record_at
record_drop L s i w =
    let z : s * L.width + i * L.width ≡ (s + i) * L.width = sym (add-mul s i L.width) in
    ap (λ v. L.read (take L.width v)) (drop-drop (i * L.width) (s * L.width) w ∙ ap (λ k. drop k w) z)

first_record : {A : Type 0} (L : Layout A) (w : List ℕ) → L.read (take L.width w) ≡ record_at L w zero
unfolding record_at
first_record L w = let z : zero * L.width ≡ zero = omega arith in ap (λ k. L.read (take L.width (drop k w))) (sym z)

-- entry i of the records read is record i
pub decode-at : {A : Type 0} (L : Layout A) (n i : ℕ) (w : List ℕ) (d : A) → i < n → get_or (decode L n w) i d ≡ record_at L w i
unfolding decode
decode-at L zero i w d h = absurd (omega arith)
decode-at L (suc n) zero w d h = first_record L w
decode-at L (suc n) (suc i) w d h = decode-at L n i (drop L.width w) d (omega arith) ∙ record_after L i w

-- Record i of the first n, and those after it; none are left after all n.
module _ {A : Type 0} (L : Layout A) (n : ℕ) (w : List ℕ) (i : ℕ) where
  pub record_next : {r : A} → i < n → r ≡ record_at L w i → drop i (decode L n w) ≡ r ∷ drop (i + 1) (decode L n w)
  record_next {r} h e =
      entry_next (decode L n w) i (L.read []) (rw decode-length h) ∙ ap (◌∷ drop (i + 1) (decode L n w)) (decode-at L n i w (L.read []) h ∙ sym e)

  pub records_done : i ≡ n → drop i (decode L n w) ≡ []
  records_done e = ap (λ k. drop k (decode L n w)) (e ∙ sym (decode-length L n w)) ∙ drop-length (decode L n w)

-- one record more
pub decode-snoc : {A : Type 0} (L : Layout A) (n : ℕ) (w : List ℕ) → decode L (suc n) w ≡ decode L n w ++ (record_at L w n ∷ [])
unfolding decode
decode-snoc L zero w = ap (◌∷ []) (first_record L w)
decode-snoc L (suc n) w =
    ap (L.read (take L.width w) ∷◌) (decode-snoc L n (drop L.width w) ∙ ap (λ r. decode L n (drop L.width w) ++ (r ∷ [])) (record_after L n w))

-- the records below i are the first i of them
pub decode-below : {A : Type 0} (L : Layout A) (n i : ℕ) (w : List ℕ) → i ≤ n → take i (decode L n w) ≡ decode L i w
unfolding decode
decode-below L n zero w h = refl
decode-below L zero (suc i) w h = absurd (omega arith)
decode-below L (suc n) (suc i) w h = ap (L.read (take L.width w) ∷◌) (decode-below L n i (drop L.width w) (omega arith))

-- a part of the records is the records from its start on
pub decode-part : {A : Type 0} (L : Layout A) (n a b : ℕ) (w : List ℕ) → a + b ≤ n → take b (drop a (decode L n w)) ≡ decode L b (drop (a * L.width) w)
decode-part L n a b w h = ap (take b) (decode-drop L n a w) ∙ decode-below L (n - a) b (drop (a * L.width) w) (omega arith)

-- the first n records lie in the first n times width words
pub decode-append : {A : Type 0} (L : Layout A) (n : ℕ) (w x : List ℕ) → Lies L w n → decode L n (w ++ x) ≡ decode L n w
unfolding decode
decode-append L zero w x h = refl
decode-append L (suc n) w x h =
    let (p, q) = part_of_sum n (length w) L.width h in
    ap₂ (λ y z. L.read y ∷ decode L n z) (take-append-le L.width w x p) (drop-append-le L.width w x p)
    ∙ ap (L.read (take L.width w) ∷◌) (decode-append L n (drop L.width w) x (rw length-drop q))

pub decode-take : {A : Type 0} (L : Layout A) (n : ℕ) (w : List ℕ) → Lies L w n → decode L n (take (n * L.width) w) ≡ decode L n w
decode-take L n w h =
    sym (decode-append L n (take (n * L.width) w) (drop (n * L.width) w) (omega (arith, length-take-le (n * L.width) w h)))
    ∙ ap (decode L n) (take-append-drop (n * L.width) w)

-- records after other words
pub decode-after : {A : Type 0} (L : Layout A) (n m : ℕ) (w x : List ℕ) → length w ≡ n * L.width → decode L (n + m) (w ++ x) ≡ decode L n w ++ decode L m x
unfolding decode
decode-after L zero m [] x e = let z : zero + m ≡ m = omega arith in ap (λ y. decode L y x) z
decode-after L zero m (a ∷ w) x e = absurd (omega arith)
decode-after L (suc n) m w x e =
    let (p, q) = part_of_sum n (length w) L.width (omega arith) in
    let z : suc n + m ≡ suc (n + m) = omega arith in
    let l : length (drop L.width w) ≡ n * L.width = length-drop L.width w ∙ omega (arith, suc-mul n L.width) in
    ap (λ y. decode L y (w ++ x)) z
    ∙ ap₂ (λ y u. L.read y ∷ decode L (n + m) u) (take-append-le L.width w x p) (drop-append-le L.width w x p)
    ∙ ap (L.read (take L.width w) ∷◌) (decode-after L n m (drop L.width w) x l)

-- the words of the first n records are the first n times width words
pub encode-decode : {A : Type 0} (L : Layout A) → Keeps L → (n : ℕ) (w : List ℕ) → Lies L w n → encode L (decode L n w) ≡ take (n * L.width) w
unfolding encode decode
encode-decode L keeps zero w h = let z : zero * L.width ≡ zero = omega arith in ap (λ m. take m w) (sym z)
encode-decode L keeps (suc n) w h =
    let (p, q) = part_of_sum n (length w) L.width h in
    let z : L.width + n * L.width ≡ suc n * L.width = omega (arith, suc-mul n L.width) in
    ap₂ ◌++◌ (keeps (take L.width w) (length-take-le L.width w p)) (encode-decode L keeps n (drop L.width w) (rw length-drop q))
    ∙ sym (take-add L.width (n * L.width) w) ∙ ap (λ m. take m w) z

module _ {A : Type 0} (L : Layout A) (lays : Lays L) where
  pub encode-length : (rs : List A) → length (encode L rs) ≡ length rs * L.width
  unfolding encode
  encode-length [] = omega arith
  encode-length (r ∷ rs) = length-append (L.words r) (encode L rs) ∙ omega (arith, lays.sized r, encode-length rs, suc-mul (length rs) L.width)

  -- what was written is read back
  pub decode-encode : (rs : List A) (x : List ℕ) → decode L (length rs) (encode L rs ++ x) ≡ rs
  unfolding encode decode
  decode-encode [] x = refl
  decode-encode (r ∷ rs) x =
      let e = append_assoc (L.words r) (encode L rs) x in
      ap₂ (λ y z. L.read y ∷ decode L (length rs) z)
      (ap (take L.width) e ∙ take_at (L.words r) (encode L rs ++ x) L.width (lays.sized r))
      (ap (drop L.width) e ∙ drop_at (L.words r) (encode L rs ++ x) L.width (lays.sized r))
      ∙ ap₂ ◌∷◌ (lays.reads r) (decode-encode rs x)

  pub encode-append : (rs qs : List A) → encode L (rs ++ qs) ≡ encode L rs ++ encode L qs
  unfolding encode
  encode-append [] qs = refl
  encode-append (r ∷ rs) qs = ap (L.words r ++◌) (encode-append rs qs) ∙ sym (append_assoc (L.words r) (encode L rs) (encode L qs))

  -- the records before, then those written
  pub decode-write : (w : List ℕ) (i : ℕ) (rs : List A) → Lies L w i → decode L (i + length rs) (write L w i rs) ≡ decode L i w ++ rs
  unfolding write
  decode-write w i rs h =
      ap (decode L (i + length rs)) (append_assoc (take (i * L.width) w) (encode L rs) _)
      ∙ decode-after L i (length rs) (take (i * L.width) w) (encode L rs ++ drop ((i + length rs) * L.width) w) (length-take-le (i * L.width) w h)
      ∙ ap₂ ◌++◌ (decode-take L i w h) (decode-encode rs _)

  pub write-length : (w : List ℕ) (i : ℕ) (rs : List A) → Lies L w (i + length rs) → length (write L w i rs) ≡ length w
  unfolding write
  write-length w i rs h =
      let p : i * L.width ≤ (i + length rs) * L.width = mul-le-mul_right L.width (omega arith) in
      let q : (i + length rs) * L.width ≡ i * L.width + length rs * L.width = add-mul i (length rs) L.width in
      length-append (take (i * L.width) w ++ encode L rs) (drop ((i + length rs) * L.width) w)
      ∙ omega (arith, length-append (take (i * L.width) w) (encode L rs), length-take-le (i * L.width) w (omega arith), encode-length rs, length-drop ((i + length rs) * L.width) w)

  -- records written, then others after them
  pub write-append : (w : List ℕ) (i : ℕ) (rs qs : List A) → Lies L w (i + length rs) → write L (write L w i rs) (i + length rs) qs ≡ write L w i (rs ++ qs)
  unfolding write
  write-append w i rs qs h =
      let a = take (i * L.width) w ++ encode L rs in
      let d = drop ((i + length rs) * L.width) w in
      let s : (i + length rs) * L.width ≡ i * L.width + length rs * L.width = add-mul i (length rs) L.width in
      let l : length a ≡ (i + length rs) * L.width =
      length-append (take (i * L.width) w) (encode L rs) ∙ omega (arith, length-take-le (i * L.width) w (omega arith), encode-length rs) in
      let m : (i + length rs + length qs) * L.width ≡ length a + length qs * L.width = add-mul (i + length rs) (length qs) L.width ∙ omega arith in
      let k : (i + length rs) * L.width + length qs * L.width ≡ (i + length (rs ++ qs)) * L.width =
      sym (add-mul (i + length rs) (length qs) L.width) ∙ ap (◌* L.width) (omega (arith, length-append rs qs)) in
      ap₂ (λ x y. x ++ encode L qs ++ y) (take_at a d ((i + length rs) * L.width) l)
      (ap (λ n. drop n (a ++ d)) m ∙ drop-append-add a d (length qs * L.width) ∙ drop-drop (length qs * L.width) ((i + length rs) * L.width) w ∙ ap (λ n. drop n w) k)
      ∙ ap (◌++ drop ((i + length (rs ++ qs)) * L.width) w)
      (append_assoc (take (i * L.width) w) (encode L rs) (encode L qs) ∙ ap (take (i * L.width) w ++◌) (sym (encode-append rs qs)))

  pub write_none : (w : List ℕ) (i : ℕ) → write L w i [] ≡ w
  unfolding write encode
  write_none w i =
      let z : i + length {A = A} [] ≡ i = omega arith in
      ap (◌++ drop ((i + length {A = A} []) * L.width) w) (append-nil (take (i * L.width) w)) ∙ ap (λ n. take (i * L.width) w ++ drop (n * L.width) w) z ∙ take-append-drop (i * L.width) w

  -- a count of whole records
  pub count_fits : (w : List ℕ) (n : ℕ) → n ≤ count L w → Lies L w n
  unfolding count
  count_fits w n h = (le-div_iff_mul-le lays.some_words).0 h

  pub count_same : (w x : List ℕ) → length w ≡ length x → count L w ≡ count L x
  unfolding count
  count_same w x e = ap (λ n. n / L.width) e

  pub whole_same : (w x : List ℕ) → length w ≡ length x → whole L w ≡ whole L x
  unfolding whole
  whole_same w x e = ap (λ n. lib.Dec.eqb (n % L.width) 0) e

  pub records-length : (w : List ℕ) → length (records L w) ≡ count L w
  unfolding records
  records-length w = decode-length L (count L w) w
