-- Laws of the places of a rope's terms: they lie in the store, and the terms of a node are those at its places.
use Rattle.std.specs.Prelude.{◌≡◌, refl, List, [], ◌∷◌, ◌++◌, map, get_or, set, take}
use Rattle.std.proofs.Common.{ap, ap₂, sym, ◌∙◌, inl, inr, length-append, add-zero, add-one, arith}
use Rattle.std.proofs.lemmas.List.{map-append, length-map, get_or_at}
use Rattle.std.proofs.Math.ListN.{length, drop}
use Rattle.std.proofs.lemmas.List.Edits.{sets}
use Rattle.std.proofs.Math.Seq.{append_snoc}
use Prim.Native.Nat.{ℕ, suc, zero, ◌+◌, ◌-◌, ◌≤◌, ◌<◌}
use Rattle.term_spec.specs.ListLaws.{numbers_from}
use Rattle.term_spec.proofs.ListLaws.{All, all_take, map-take, map-drop}
use Rattle.view_spec.specs.Node.{Node, node_at, meaning, GoodNodes}
use Rattle.view_spec.proofs.NodeLaws.{NodeAt, node_at_lem, meaning_nil, meaning-cons, meaning-concat}
use Rattle.places.specs.CopyLaws.{sets-snoc}

-- ---- numbers from s on ----

pub up_length : (s n : ℕ) → length (numbers_from s n) ≡ n
up_length s zero = refl
up_length s (suc n) = ap suc (up_length (suc s) n)

up_take : (s n k : ℕ) → k ≤ n → take k (numbers_from s n) ≡ numbers_from s k
up_take s n zero h = refl
up_take s zero (suc k) h = absurd (omega arith)
up_take s (suc n) (suc k) h = ap (s ∷◌) (up_take (suc s) n k (omega arith))

up_drop : (s n a : ℕ) → drop a (numbers_from s n) ≡ numbers_from (s + a) (n - a)
up_drop s n zero = let z : n - zero ≡ n = omega arith in rw (add-zero s, z) refl
up_drop s zero (suc a) = let z : zero - suc a ≡ zero = omega arith in rw z refl
up_drop s (suc n) (suc a) =
    let y : suc s + a ≡ s + suc a = omega arith in
    let z : n - a ≡ suc n - suc a = omega arith in
    up_drop (suc s) n a ∙ ap₂ numbers_from y z

-- A part of them.
pub up_part : (n a k : ℕ) → a + k ≤ n → take k (drop a (numbers_from 0 n)) ≡ numbers_from a k
up_part n a k h = let z : 0 + a ≡ a = omega arith in ap (take k) (up_drop 0 n a) ∙ up_take (0 + a) (n - a) k (omega arith) ∙ ap (λ s. numbers_from s k) z

up_snoc : (s n : ℕ) → numbers_from s (suc n) ≡ numbers_from s n ++ ((s + n) ∷ [])
up_snoc s zero = ap (◌∷ []) (sym (add-zero s))
up_snoc s (suc n) = let z : suc s + n ≡ s + suc n = omega arith in ap (s ∷◌) (up_snoc (suc s) n ∙ ap (λ k. numbers_from (suc s) n ++ (k ∷ [])) z)

-- One number more is set.
pub up_next : (before after : List ℕ) (to s i : ℕ) → after ≡ sets before to (numbers_from s i)
    → set after (to + i) (s + i) ≡ sets before to (numbers_from s (i + 1))
up_next before after to s i e =
    ap (λ w. set w (to + i) (s + i)) e
    ∙ ap (λ k. set (sets before to (numbers_from s i)) (to + k) (s + i)) (sym (up_length s i))
    ∙ sym (sets-snoc before to (numbers_from s i) (s + i))
    ∙ ap (sets before to) (sym (up_snoc s i) ∙ ap (numbers_from s) (sym (add-one i)))

-- ---- the terms of a node are those at its places ----

-- What a node gives over a list that is mapped.
module _ {X Y : Type 0} (f : X → Y) (xs : List X) (ns : List Node) (good : GoodNodes (length xs) ns) where
  map-upto : (n i : ℕ) → i < n → i < length ns → meaning (map f xs) ns i ≡ map f (meaning xs ns i)
  map-upto zero i h lt = absurd (omega arith)
  map-upto (suc n) i h lt = go (λ j. map-upto n j) (node_at_lem (length xs) ns i good lt) (node_at_lem (length (map f xs)) ns i (rw length-map good) lt)
    where
      go : ((j : ℕ) → j < n → j < length ns → meaning (map f xs) ns j ≡ map f (meaning xs ns j)) → NodeAt (length xs) ns i → NodeAt (length (map f xs)) ns i
          → meaning (map f xs) ns i ≡ map f (meaning xs ns i)
      go rec (inl m) w = meaning_nil (map f xs) ns i lt m.kind0 ∙ sym (ap (map f) (meaning_nil xs ns i lt m.kind0))
      go rec (inr (inl m)) (inl v) = absurd (omega (arith, m.kind1, v.kind0))
      go rec (inr (inl m)) (inr (inr v)) = absurd (omega (arith, m.kind1, v.kind2))
      go rec (inr (inl m)) (inr (inl v)) =
          let b = (node_at ns i).b in
          let a = (node_at ns i).a in
          let tail = rec (node_at ns i).c (omega (arith, m.tail_low)) (omega (arith, m.tail_low)) in
          meaning-cons (map f xs) ns i lt v
          ∙ ap₂ ◌++◌ (sym (map-take f b (drop a xs) ∙ ap (take b) (map-drop f a xs))) tail
          ∙ sym (map-append f (take b (drop a xs)) (meaning xs ns (node_at ns i).c))
          ∙ sym (ap (map f) (meaning-cons xs ns i lt m))
      go rec (inr (inr m)) w =
          let b = (node_at ns i).b in
          let A = meaning xs ns (node_at ns i).a in
          let left = rec (node_at ns i).a (omega (arith, m.left_low)) (omega (arith, m.left_low)) in
          let right = rec (node_at ns i).c (omega (arith, m.right_low)) (omega (arith, m.right_low)) in
          meaning-concat (map f xs) ns i lt m
          ∙ ap₂ ◌++◌ (ap (take b) left ∙ sym (map-take f b A)) right
          ∙ sym (map-append f (take b A) (meaning xs ns (node_at ns i).c))
          ∙ sym (ap (map f) (meaning-concat xs ns i lt m))

  pub meaning-map : (i : ℕ) → i < length ns → meaning (map f xs) ns i ≡ map f (meaning xs ns i)
  meaning-map i lt = map-upto (suc i) i (omega arith) lt

-- A list is its entries at all places.
all-places : {X : Type 0} (d : X) (front xs : List X) (s : ℕ) → length front ≡ s → map (λ p. get_or (front ++ xs) p d) (numbers_from s (length xs)) ≡ xs
all-places d front [] s e = refl
all-places {X} d front (x ∷ xs) s e =
    let l : length (front ++ (x ∷ [])) ≡ suc s = rw length-append (omega arith) in
    ap₂ ◌∷◌ (get_or_at front x xs d s e)
    (ap (λ w. map (λ p. get_or w p d) (numbers_from (suc s) (length xs))) (sym (append_snoc front x xs)) ∙ all-places d (front ++ (x ∷ [])) xs (suc s) l)

pub meaning-picked : {X : Type 0} (d : X) (xs : List X) (ns : List Node) (i : ℕ) → GoodNodes (length xs) ns → i < length ns
    → meaning xs ns i ≡ map (λ p. get_or xs p d) (meaning (numbers_from 0 (length xs)) ns i)
meaning-picked d xs ns i good lt =
    ap (λ w. meaning w ns i) (sym (all-places d [] xs 0 refl))
    ∙ meaning-map (λ p. get_or xs p d) (numbers_from 0 (length xs)) ns (rw up_length good) i lt

-- ---- the places lie in the store ----

all_drop : {A : Type 0} (P : A → Type 0) (n : ℕ) (l : List A) → All P l → All P (drop n l)
unfolding All
all_drop P zero l h = h
all_drop P (suc n) [] h = tt
all_drop P (suc n) (x ∷ l) h = all_drop P n l h.1

all_append : {A : Type 0} (P : A → Type 0) (l m : List A) → All P l → All P m → All P (l ++ m)
unfolding All
all_append P [] m h k = k
all_append P (x ∷ l) m h k = (h.0, all_append P l m h.1 k)

all_get_d : {A : Type 0} (P : A → Type 0) (l : List A) (d : A) (i : ℕ) → All P l → i < length l → P (get_or l i d)
unfolding All
all_get_d P [] d i a h = absurd (omega arith)
all_get_d P (x ∷ l) d zero a h = a.0
all_get_d P (x ∷ l) d (suc i) a h = all_get_d P l d i a.1 (omega arith)

up_below : (s n end : ℕ) → s + n ≤ end → All (◌< end) (numbers_from s n)
unfolding All
up_below s zero end h = tt
up_below s (suc n) end h = (omega arith, up_below (suc s) n end (omega arith))

-- What holds of every entry of a list holds of each that a node gives.
module _ {X : Type 0} (P : X → Type 0) (xs : List X) (ns : List Node) (good : GoodNodes (length xs) ns) (all : All P xs) where
  all-upto : (n i : ℕ) → i < n → i < length ns → All P (meaning xs ns i)
  unfolding All
  all-upto zero i h lt = absurd (omega arith)
  all-upto (suc n) i h lt = go (λ j. all-upto n j) (node_at_lem (length xs) ns i good lt)
    where
      go : ((j : ℕ) → j < n → j < length ns → All P (meaning xs ns j)) → NodeAt (length xs) ns i → All P (meaning xs ns i)
      go rec (inl m) = rw (meaning_nil xs ns i lt m.kind0) tt
      go rec (inr (inl m)) =
          let b = (node_at ns i).b in
          let R = drop (node_at ns i).a xs in
          let C = meaning xs ns (node_at ns i).c in
          let tail = rec (node_at ns i).c (omega (arith, m.tail_low)) (omega (arith, m.tail_low)) in
          rw (meaning-cons xs ns i lt m) (all_append P (take b R) C (all_take P b R (all_drop P (node_at ns i).a xs all)) tail)
      go rec (inr (inr m)) =
          let b = (node_at ns i).b in
          let A = meaning xs ns (node_at ns i).a in
          let C = meaning xs ns (node_at ns i).c in
          let left = rec (node_at ns i).a (omega (arith, m.left_low)) (omega (arith, m.left_low)) in
          let right = rec (node_at ns i).c (omega (arith, m.right_low)) (omega (arith, m.right_low)) in
          rw (meaning-concat xs ns i lt m) (all_append P (take b A) C (all_take P b A left) right)

pub places-below : (terms : ℕ) (ns : List Node) (i : ℕ) → GoodNodes terms ns → i < length ns
    → (j : ℕ) → j < length (meaning (numbers_from 0 terms) ns i) → get_or (meaning (numbers_from 0 terms) ns i) j 0 < terms
places-below terms ns i good lt j h =
    all_get_d (◌< terms) (meaning (numbers_from 0 terms) ns i) 0 j
    (all-upto (◌< terms) (numbers_from 0 terms) ns (rw up_length good) (up_below 0 terms terms (omega arith)) (suc i) i (omega arith) lt) h
