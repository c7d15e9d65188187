-- The plain listing is in strictly rising order, so each candidate stands there once, and its field and place tell it from every other.
use Rattle.std.specs.Prelude.{◌≡◌, refl, ◌⊎◌, ◌↔◌, length, ℕ, suc, zero, ◌≤◌, ◌<◌, max}
use Rattle.std.proofs.Common.{ap, sym, ◌∙◌, inl, inr, arith}
use mathlib.Core.List.Memᴰ
use mathlib.Core.List.{List, [], ◌∷◌, ◌++◌, Memᴰ}
use Rattle.std.proofs.Math.Option.{Option, some, none}
use Rattle.std.proofs.Math.ListN.{get_elem?, get_or-append}
use Rattle.std.proofs.Math.Decide.{dec_lt}
use Rattle.term_spec.specs.Value.{Value, contents, same?, sames?, takes?}
use Rattle.term_spec.proofs.ListLaws.{mem_at}
use Rattle.match_spec.specs.Element.{Element, lit, opening, closing, call, one, many, Level, Levels, Env, entry}
use Rattle.match_spec.specs.Consistent.{note, open_lengths, Lex, Before, Sorted}
use Rattle.match_spec.specs.Listing.{guard, each, bind_if, bind, first, enter, leave, cuts, finish, candidates}
use Rattle.match_spec.proofs.SoundLaws.{Numbered, mem_each, bound_known, bound-new, mem_bind, still, grown, sound, Bound}

-- ---- lists in order, and what the parts of the listing make of them ----

sorted-append : {A : Type 0} (R : A → A → Type 0) (a b : List A) → Sorted R a → Sorted R b → ((x y : A) → Memᴰ x a → Memᴰ y b → R x y) → Sorted R (a ++ b)
unfolding Sorted
sorted-append R [] b s t h = t
sorted-append {A} R (x ∷ a) b s t h = (λ y m. go y (Memᴰ.append_cases a m), sorted-append R a b s.1 t (λ u v m n. h u v (Memᴰ.tail m) n))
  where
    go : (y : A) → Memᴰ y a ⊎ Memᴰ y b → R x y
    go y (inl m) = s.0 y m
    go y (inr m) = h x y (Memᴰ.head refl) m

sorted-map : {A : Type 0} (R S : A → A → Type 0) (l : List A) → ((x y : A) → Memᴰ x l → Memᴰ y l → R x y → S x y) → Sorted R l → Sorted S l
unfolding Sorted
sorted-map R S [] h s = tt
sorted-map R S (x ∷ l) h s =
    (λ y m. h x y (Memᴰ.head refl) (Memᴰ.tail m) (s.0 y m), sorted-map R S l (λ u v m n r. h u v (Memᴰ.tail m) (Memᴰ.tail n) r) s.1)

sorted-guard : {A P : Type 0} (R : A → A → Type 0) (l : List A) (d : Dec P) → (P → Sorted R l) → Sorted R (guard d l)
unfolding Sorted guard
sorted-guard R l (yes h) s = s h
sorted-guard R l (no h) s = tt

sorted-each : {A B : Type 0} (R : B → B → Type 0) (f : List A → List A → List B) (l : List A) → ((a b : List A) → Sorted R (f a b))
    → ((a b a' b' : List A) (x y : B) → length a < length a' → Memᴰ x (f a b) → Memᴰ y (f a' b') → R x y) → Sorted R (each f l)
unfolding Sorted each
sorted-each R f [] s h = s [] []
sorted-each R f (v ∷ l) s h = sorted-append R (f [] (v ∷ l)) (each (λ a b. f (v ∷ a) b) l) (s [] (v ∷ l))
    (sorted-each R (λ a b. f (v ∷ a) b) l (λ a b. s (v ∷ a) b) (λ a b a' b' x y lt. h (v ∷ a) b (v ∷ a') b' x y (omega arith)))
    (λ x y m n. let (a, b, e, k) = mem_each (λ a b. f (v ∷ a) b) l n in h [] (v ∷ l) (v ∷ a) b x y (omega arith) m k)

sorted-first : {B : Type 0} (R : B → B → Type 0) (ls : Levels) (f : Value → Levels → List B) → ((v : Value) (st : Levels) → Sorted R (f v st))
    → Sorted R (first ls f)
unfolding Sorted first
sorted-first R [] f h = tt
sorted-first R ([] ∷ st) f h = tt
sorted-first R ((v ∷ c) ∷ st) f h = h v (c ∷ st)

sorted-enter : {B : Type 0} (R : B → B → Type 0) (o : Option Level) (f : Level → List B) → ((l : Level) → Sorted R (f l)) → Sorted R (enter o f)
unfolding Sorted enter
sorted-enter R none f h = tt
sorted-enter R (some l) f h = h l

sorted-leave : {B : Type 0} (R : B → B → Type 0) (ls : Levels) (f : Levels → List B) → ((st : Levels) → Sorted R (f st)) → Sorted R (leave ls f)
unfolding Sorted leave
sorted-leave R [] f h = tt
sorted-leave R ([] ∷ []) f h = tt
sorted-leave R ([] ∷ (c ∷ st)) f h = h (c ∷ st)
sorted-leave R ((v ∷ c) ∷ st) f h = tt

sorted-finish : (R : Env → Env → Type 0) (ls : Levels) (env : Env) → Sorted R (finish ls env)
unfolding Sorted finish
sorted-finish R [] env = tt
sorted-finish R ([] ∷ []) env = (λ y m. absurd (Memᴰ.not-nil m), tt)
sorted-finish R ([] ∷ (c ∷ st)) env = tt
sorted-finish R ((v ∷ c) ∷ st) env = tt

sorted-bind : {A : Type 0} (R : A → A → Type 0) (f : Env → List A) (n : ℕ) (x : Level) (env : Env) → n ≤ length env
    → ((env' : Env) → Bound n x env env' → Sorted R (f env')) → Sorted R (bind n x f env)
unfolding bind bind_if
sorted-bind R f n x env le h = go (dec_lt n (length env))
  where
    go : (d : Dec (n < length env)) → Sorted R (bind_if n x f env d)
    go (yes i) = sorted-guard R (f env) (sames? (entry env n) x) (λ e. h env (bound_known n x env i e))
    go (no i) = h (env ++ (x ∷ [])) (bound-new n x env (omega arith))

many_less : (p : List (Element ℕ)) (n k : ℕ) (A B : Env) → k ≤ n → length (entry A n) < length (entry B n) → Before (many n ∷ p) k A B
unfolding Before open_lengths note Lex
many_less p n k A B le lt = go (dec_lt n k)
  where
    go : (d : Dec (n < k))
        → Lex (note d (length (entry A n)) (open_lengths p (max k (suc n)) A)) (note d (length (entry B n)) (open_lengths p (max k (suc n)) B))
    go (yes h) = absurd (omega arith)
    go (no h) = inl lt

many_same : (p : List (Element ℕ)) (n k : ℕ) (A B : Env) → entry A n ≡ entry B n → Before p (max k (suc n)) A B → Before (many n ∷ p) k A B
unfolding Before open_lengths note Lex
many_same p n k A B e r = go (dec_lt n k)
  where
    go : (d : Dec (n < k))
        → Lex (note d (length (entry A n)) (open_lengths p (max k (suc n)) A)) (note d (length (entry B n)) (open_lengths p (max k (suc n)) B))
    go (yes h) = r
    go (no h) = inr (ap length e, r)

same_known : {A : Env} (n : ℕ) (env : Env) → n < length env → (new : Env) × (A ≡ env ++ new) → entry A n ≡ entry env n
same_known n env lt (new, e) = rw e (get_or-append env new [] n lt)

many_apart : (p : List (Element ℕ)) (n : ℕ) (env : Env) (st : Levels) → n ≤ length env → Numbered p (max (length env) (suc n)) → (a b a' b' : Level) (x y : Env)
    → length a < length a'
    → Memᴰ x (bind n a (λ e. candidates p (b ∷ st) e) env) → Memᴰ y (bind n a' (λ e. candidates p (b' ∷ st) e) env) → Before (many n ∷ p) (length env) x y
many_apart p n env st le counted a b a' b' x y lt m k =
    let (e₁, b₁, m₁) = mem_bind n a env le m in
    let (e₂, b₂, m₂) = mem_bind n a' env le k in
    let s₁ = sound p (b ∷ st) e₁ (rw b₁.size counted) m₁ in
    let s₂ = sound p (b' ∷ st) e₂ (rw b₂.size counted) m₂ in
    let v₁ = still e₁ b₁ s₁.keeps in
    let v₂ = still e₂ b₂ s₂.keeps in
    go v₁ v₂ (grown e₁ b₁ s₁.keeps) (grown e₂ b₂ s₂.keeps) (dec_lt n (length env))
  where
    go : entry x n ≡ a → entry y n ≡ a' → (new : Env) × (x ≡ env ++ new) → (new : Env) × (y ≡ env ++ new) → Dec (n < length env)
        → Before (many n ∷ p) (length env) x y
    go v w g h (yes i) = absurd (let z : length a ≡ length a' = cc (same_known n env i g, same_known n env i h) in omega arith)
    go v w g h (no i) = many_less p n (length env) x y (omega arith) (rw (v, w) lt)

many_within : (p : List (Element ℕ)) (n : ℕ) (a : Level) (env : Env) (st : Levels) (env' : Env) → Bound n a env env' → Numbered p (max (length env) (suc n))
    → Sorted (Before p (length env')) (candidates p st env') → Sorted (Before (many n ∷ p) (length env)) (candidates p st env')
many_within p n a env st env' b counted s = sorted-map _ _ (candidates p st env')
    (λ x y m k r. many_same p n (length env) x y (val x m ∙ sym (val y k)) (rw b.size at r)) s
  where
    val : (x : Env) → Memᴰ x (candidates p st env') → entry x n ≡ a
    val x m = still env' b (sound p st env' (rw b.size counted) m).keeps

sorted-cuts : {B : Type 0} (R : B → B → Type 0) (ls : Levels) (f : Level → Levels → List B) → ((a : Level) (st : Levels) → Sorted R (f a st))
    → ((st : Levels) (a b a' b' : Level) (x y : B) → length a < length a' → Memᴰ x (f a (b ∷ st)) → Memᴰ y (f a' (b' ∷ st)) → R x y) → Sorted R (cuts ls f)
unfolding Sorted cuts
sorted-cuts R [] f s h = tt
sorted-cuts R (c ∷ st) f s h = sorted-each R (λ a b. f a (b ∷ st)) c (λ a b. s a (b ∷ st)) (h st)

-- (c) the listing is in strictly rising order of the open_lengths of the open e-variables
pub sorted : (p : List (Element ℕ)) (ls : Levels) (env : Env) → Numbered p (length env) → Sorted (Before p (length env)) (candidates p ls env)
unfolding Numbered candidates Before open_lengths Sorted
sorted [] ls env counted = sorted-finish _ ls env
sorted (lit v ∷ p) ls env counted = sorted-first _ ls _ (λ w st. sorted-guard _ _ (same? v w) (λ e. sorted p st env counted))
sorted (opening ∷ p) ls env counted = sorted-first _ ls _ (λ w st. sorted-enter _ (contents w) _ (λ l. sorted p (l ∷ st) env counted))
sorted (closing ∷ p) ls env counted = sorted-leave _ ls _ (λ st. sorted p st env counted)
sorted (call ∷ p) ls env counted = tt
sorted (one k n ∷ p) ls env counted =
    sorted-first _ ls _
    (λ w st. sorted-guard _ _ (takes? k w)
    (λ t. sorted-bind _ _ n (w ∷ []) env counted.0 (λ env' b. rw b.size at (sorted p st env' (rw b.size counted.1)))))
sorted (many n ∷ p) ls env counted =
    sorted-cuts _ ls _
    (λ a st. sorted-bind _ _ n a env counted.0 (λ env' b. many_within p n a env st env' b counted.1 (sorted p st env' (rw b.size counted.1))))
    (λ st. many_apart p n env st counted.0 counted.1)

pub lex_irrefl : (l : List ℕ) → Lex l l → ⊥
unfolding Lex
lex_irrefl [] h = h
lex_irrefl (x ∷ l) (inl h) = omega arith
lex_irrefl (x ∷ l) (inr h) = lex_irrefl l h.1

-- An element of such a list has one place.
pub sorted_once : {A : Type 0} (R : A → A → Type 0) → ((x : A) → R x x → ⊥) → (l : List A) (i j : ℕ) {x : A} → Sorted R l → get_elem? l i ≡ some x
    → get_elem? l j ≡ some x → i ≡ j
unfolding Sorted
sorted_once R irr [] i j s e q = cc
sorted_once R irr (y ∷ l) zero zero s e q = refl
sorted_once R irr (y ∷ l) zero (suc j) {x} s e q = let z : y ≡ x = cc in absurd (irr x (rw z at (s.0 x (mem_at l j q))))
sorted_once R irr (y ∷ l) (suc i) zero {x} s e q = let z : y ≡ x = cc in absurd (irr x (rw z at (s.0 x (mem_at l i e))))
sorted_once R irr (y ∷ l) (suc i) (suc j) s e q = ap suc (sorted_once R irr l i j s.1 e q)

-- Two candidates under one pattern agree exactly when their fields do and they stand at the same place.
pub same_place : (p : List (Element ℕ)) (F G : Level) (env : Env) (i j : ℕ) (A B : Env) → Numbered p (length env)
    → get_elem? (candidates p (F ∷ []) env) i ≡ some A → get_elem? (candidates p (G ∷ []) env) j ≡ some B → (A ≡ B) ↔ ((F ≡ G) × (i ≡ j))
unfolding Before
same_place p F G env i j A B counted a b = (λ e. (fields e, places e (fields e)), λ (q, k). back q k)
  where
    fields : A ≡ B → F ≡ G
    fields e = let x = sound p (F ∷ []) env counted (mem_at _ i a) in let y = sound p (G ∷ []) env counted (mem_at _ j b) in cc

    back : F ≡ G → i ≡ j → A ≡ B
    back q k = let z : some A ≡ some B = sym a ∙ (rw (q, k) b) in cc

    places : A ≡ B → F ≡ G → i ≡ j
    places e q =
        sorted_once (Before p (length env)) (λ x. lex_irrefl (open_lengths p (length env) x)) (candidates p (F ∷ []) env) i j (sorted p (F ∷ []) env counted) a
        (rw (e, q) b)
