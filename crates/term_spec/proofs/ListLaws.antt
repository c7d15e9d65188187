-- Laws of lists that the library does not have.
use Rattle.std.specs.Prelude.{◌≡◌, refl, ◌⊎◌, length, get_or, take, drop, replicate, ℕ, suc, zero, ◌+◌, ◌-◌, ◌≤◌, ◌<◌}
use Rattle.std.proofs.Common.{ap, ap₂, sym, ◌∙◌, inl, inr, length-drop, drop-cons, take-take, length-take-le, add-zero, add-one, arith}
use mathlib.Core.List.Memᴰ
use mathlib.Core.List.{List, [], ◌∷◌, ◌++◌, map, Memᴰ}
use Rattle.std.proofs.Math.Option.{some}
use Rattle.std.proofs.Math.ListN.{get_elem?}
use Rattle.std.proofs.lemmas.List.{take-append-le, drop-append-le}
use Rattle.std.proofs.Math.Seq.{take-nil, take-append-add, drop-append-add}
use Rattle.term_spec.specs.ListLaws.{numbers_from}

-- Every entry of a table of zeros is 0, and so is what is read past it.
pub zeros-at : (n i : ℕ) → get_or {A = ℕ} (replicate n 0) i 0 ≡ 0
zeros-at zero i = refl
zeros-at (suc n) zero = refl
zeros-at (suc n) (suc i) = zeros-at n i

pub map_numbers : (f : ℕ → ℕ) (a n k : ℕ) → k < n → get_or (map f (numbers_from a n)) k 0 ≡ f (a + k)
map_numbers f a zero k h = absurd (omega arith)
map_numbers f a (suc n) zero h = ap f (sym (add-zero a))
map_numbers f a (suc n) (suc k) h = map_numbers f (suc a) n k (omega arith) ∙ ap f (omega arith)

pub map-take : {A B : Type 0} (f : A → B) (n : ℕ) (l : List A) → map f (take n l) ≡ take n (map f l)
map-take f zero l = refl
map-take f (suc n) [] = refl
map-take f (suc n) (x ∷ l) = ap (f x ∷◌) (map-take f n l)

pub map-drop : {A B : Type 0} (f : A → B) (n : ℕ) (l : List A) → map f (drop n l) ≡ drop n (map f l)
map-drop f zero l = refl
map-drop f (suc n) [] = refl
map-drop f (suc n) (x ∷ l) = map-drop f n l

-- An entry of a list and those after it, and the same of what they are mapped to.
pub entry_next : {A : Type 0} (l : List A) (i : ℕ) (d : A) → i < length l → drop i l ≡ get_or l i d ∷ drop (i + 1) l
entry_next l i d h = drop-cons l i d h ∙ ap (λ n. get_or l i d ∷ drop n l) (sym (add-one i))

pub map_next : {A B : Type 0} (f : A → B) (l : List A) (i : ℕ) {y : A} → drop i l ≡ y ∷ drop (i + 1) l → drop i (map f l) ≡ f y ∷ drop (i + 1) (map f l)
map_next f l i {y} e = sym (map-drop f i l) ∙ ap (map f) e ∙ ap (f y ∷◌) (map-drop f (i + 1) l)

pub map-map : {A B C : Type 0} (g : B → C) (f : A → B) (l : List A) → map g (map f l) ≡ map (λ x. g (f x)) l
map-map g f [] = refl
map-map g f (x ∷ l) = ap (g (f x) ∷◌) (map-map g f l)

pub take_within : {A : Type 0} (k n : ℕ) (l : List A) → k ≤ length (take n l) → take k l ≡ take k (take n l)
take_within zero n l h = refl
take_within {A} (suc k) n [] h = absurd (omega (arith, ap length (take-nil {A = A} n)))
take_within (suc k) zero (x ∷ l) h = absurd (omega arith)
take_within (suc k) (suc n) (x ∷ l) h = ap (x ∷◌) (take_within k n l (omega arith))

pub drop-take : {A : Type 0} (k n : ℕ) (l : List A) → drop k (take n l) ≡ take (n - k) (drop k l)
drop-take zero n l = let z : n - zero ≡ n = omega arith in rw z refl
drop-take (suc k) zero l = let z : zero - suc k ≡ zero = omega arith in rw z refl
drop-take (suc k) (suc n) [] = sym (take-nil (suc n - suc k))
drop-take (suc k) (suc n) (x ∷ l) = let z : suc n - suc k ≡ n - k = omega arith in rw z (drop-take k n l)

-- A part of a list, of a beginning of it, and of a longer list.
pub part-below : {A : Type 0} (X : List A) (a b s : ℕ) → a + b ≤ s → take b (drop a (take s X)) ≡ take b (drop a X)
part-below X a b s h = rw drop-take (take-take b (s - a) (drop a X) (omega arith))

pub part-kept : {A : Type 0} (X Y : List A) (s n : ℕ) → s + n ≤ length X → take n (drop s (X ++ Y)) ≡ take n (drop s X)
part-kept X Y s n h = ap (take n) (drop-append-le s X Y (omega arith)) ∙ take-append-le n (drop s X) Y (rw length-drop (omega arith))

pub part_length : {A : Type 0} (X : List A) (s n : ℕ) → s + n ≤ length X → length (take n (drop s X)) ≡ n
part_length X s n h = length-take-le n (drop s X) (rw length-drop (omega arith))

-- The n entries from s on, as the slice from s to s + n has them.
pub part_slice : {A : Type 0} (X : List A) (s n : ℕ) → take (s + n - s) (drop s X) ≡ take n (drop s X)
part_slice X s n = let z : s + n - s ≡ n = omega arith in rw z refl

-- take and drop over a cut beginning and what follows it.
pub take_left : {X : Type 0} (n b : ℕ) (A C : List X) → n ≤ b → b ≤ length A → take n (take b A ++ C) ≡ take n A
take_left n b A C h k = take-append-le n (take b A) C (rw (length-take-le b A k) h) ∙ take-take n b A h

pub take-right : {X : Type 0} (n b : ℕ) (A C : List X) → b ≤ n → b ≤ length A → take n (take b A ++ C) ≡ take b A ++ take (n - b) C
take-right n b A C h k =
    let e : n ≡ length (take b A) + (n - b) = omega (arith, length-take-le b A k) in
    ap (λ z. take z (take b A ++ C)) e ∙ take-append-add (take b A) C (n - b)

pub drop-left : {X : Type 0} (k b : ℕ) (A C : List X) → k ≤ b → b ≤ length A → drop k (take b A ++ C) ≡ take (b - k) (drop k A) ++ C
drop-left k b A C h q = drop-append-le k (take b A) C (rw (length-take-le b A q) h) ∙ ap (◌++ C) (drop-take k b A)

pub drop-right : {X : Type 0} (k b : ℕ) (A C : List X) → b ≤ k → b ≤ length A → drop k (take b A ++ C) ≡ drop (k - b) C
drop-right k b A C h q =
    let e : k ≡ length (take b A) + (k - b) = omega (arith, length-take-le b A q) in
    ap (λ z. drop z (take b A ++ C)) e ∙ drop-append-add (take b A) C (k - b)

-- A property of every entry.
unfoldable pub All : {A : Type 0} → (A → Type 0) → List A → Type 0
All P [] = Unit {0}
All P (x ∷ l) = P x × All P l

pub all_snoc : {A : Type 0} (P : A → Type 0) (l : List A) (x : A) → All P l → P x → All P (l ++ (x ∷ []))
unfolding All
all_snoc P [] x h k = (k, tt)
all_snoc P (y ∷ l) x h k = (h.0, all_snoc P l x h.1 k)

pub all_take : {A : Type 0} (P : A → Type 0) (n : ℕ) (l : List A) → All P l → All P (take n l)
unfolding All
all_take P zero l h = tt
all_take P (suc n) [] h = tt
all_take P (suc n) (x ∷ l) h = (h.0, all_take P n l h.1)

pub all_weaken : {A : Type 0} (P Q : A → Type 0) (l : List A) → ((x : A) → P x → Q x) → All P l → All Q l
unfolding All
all_weaken P Q [] f h = tt
all_weaken P Q (x ∷ l) f h = (f x h.0, all_weaken P Q l f h.1)

pub all_one : {A : Type 0} (P : A → Type 0) (x : A) → P x → All P (x ∷ [])
unfolding All
all_one P x h = (h, tt)

pub all-at : {A : Type 0} (P : A → Type 0) (l : List A) (x : A) → All P l → Memᴰ x l → P x
unfolding All
all-at P [] x a m = absurd (Memᴰ.not-nil m)
all-at {A} P (y ∷ l) x a m = go (λ k. all-at P l x a.1 k) (Memᴰ.cases_cons m)
  where
    go : (Memᴰ x l → P x) → (x ≡ y) ⊎ Memᴰ x l → P x
    go rec (inl e) = rw e a.0
    go rec (inr k) = rec k

pub maps_same : {A B : Type 0} (P : A → Type 0) (f g : A → B) (l : List A) → All P l → ((x : A) → P x → f x ≡ g x) → map f l ≡ map g l
unfolding All
maps_same P f g [] a h = refl
maps_same P f g (x ∷ l) a h = ap₂ ◌∷◌ (h x a.0) (maps_same P f g l a.1 h)

-- Places and membership.
pub mem_at : {A : Type 0} {x : A} (l : List A) (i : ℕ) → get_elem? l i ≡ some x → Memᴰ x l
mem_at [] i e = absurd (let z : ◌≡◌ {A = ℕ} 0 1 = cc in omega arith)
mem_at {x = x} (y ∷ l) zero e = let z : x ≡ y = cc in Memᴰ.head z
mem_at (y ∷ l) (suc i) e = Memᴰ.tail (mem_at l i e)

pub take-at? : {A : Type 0} (n : ℕ) (l : List A) (i : ℕ) {x : A} → get_elem? (take n l) i ≡ some x → get_elem? l i ≡ some x
take-at? zero l i e = cc
take-at? (suc n) [] i e = e
take-at? (suc n) (y ∷ l) zero e = e
take-at? (suc n) (y ∷ l) (suc i) e = take-at? n l i e

pub mem_map : {A B : Type 0} (f : A → B) (l : List A) {y : B} → Memᴰ y (map f l) → (x : A) × Memᴰ x l × (f x ≡ y)
mem_map f [] m = absurd (Memᴰ.not-nil m)
mem_map {A} f (z ∷ l) {y} m = go (λ k. mem_map f l k) (Memᴰ.cases_cons m)
  where
    go : (Memᴰ y (map f l) → (x : A) × Memᴰ x l × (f x ≡ y)) → (y ≡ f z) ⊎ Memᴰ y (map f l) → (x : A) × Memᴰ x (z ∷ l) × (f x ≡ y)
    go rec (inl e) = (z, Memᴰ.head refl, sym e)
    go rec (inr k) = let (x, i, e) = rec k in (x, Memᴰ.tail i, e)

pub prefix_take : {A : Type 0} (n : ℕ) (l : List A) → take n l ≡ take (length (take n l)) l
prefix_take zero l = refl
prefix_take (suc n) [] = refl
prefix_take (suc n) (x ∷ l) = ap (x ∷◌) (prefix_take n l)
