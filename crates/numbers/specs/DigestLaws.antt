-- Laws of digests: they are below the prime, a list's is had from those of its parts, and leading zeros change none. And laws of the marks.
use Rattle.std.specs.Prelude.{◌≡◌, Bool, take, drop, get_or, set, replicate}
use Rattle.std.proofs.Math.Path.{refl, ap, sym}
use Rattle.std.proofs.Common.{◌∙◌, ⊎_elim, le-leb, eqb→eq, length-set, length-drop, pow-add, take-add, take-suc}
use Rattle.std.proofs.Common.{get_or-drop, get_or-set_same, get_or-set_other, eq-or-lt_of_le, add-mul, mul_comm, mul-le-mul, pow-suc, add-one}
use mathlib.Core.List.{List, [], ◌∷◌, ◌++◌, map, map-append}
use Rattle.std.proofs.Math.Bool.{true, false}
use Rattle.std.proofs.lemmas.Bool.{lt-leb}
use Rattle.std.proofs.Math.ListN.{length, length-replicate}
use Rattle.std.proofs.lemmas.List.{take-set-le}
use Prim.Native.Nat.{ℕ, suc, ◌+◌, ◌*◌, ◌-◌, ◌/◌, ◌%◌, ◌^◌, ◌<◌, ◌≤◌}
use Rattle.std.proofs.Math.Nat.{add_assoc, mul_assoc, pow-zero, pow-succ', div-add-mod, mul-add-mod_self_left, mod-add-mod, add-mod-mod}
use native.Mathlib.Omega.{arith}
use Rattle.term_spec.proofs.BoolLaws.{true-T}
use Rattle.term_spec.proofs.ListLaws.{zeros-at, part_length}
use Rattle.term_spec.specs.Text.{lower, zero_digit, is_zero, stripped, text_at}
use Rattle.numbers.specs.Digest.{prime, stride, more, digest_from, digest, digit, Marked}

-- ---- arithmetic modulo the prime ----

-- A factor may be taken modulo m, also in a sum.
pub mod_times : (a b m : ℕ) → (a % m * b) % m ≡ (a * b) % m
mod_times a b m =
    let whole : a * b ≡ m * (a / m * b) + a % m * b = ap (◌* b) (sym (div-add-mod a m)) ∙ add-mul _ _ _ ∙ ap (◌+ a % m * b) (mul_assoc _ _ _) in
    sym (ap (◌% m) whole ∙ mul-add-mod_self_left m _ _)

pub times_mod : (a b m : ℕ) → (a * (b % m)) % m ≡ (a * b) % m
times_mod a b m = ap (◌% m) (mul_comm _ _) ∙ mod_times b a m ∙ ap (◌% m) (mul_comm _ _)

times_plus : (a b c m : ℕ) → (a % m * b + c) % m ≡ (a * b + c) % m
times_plus a b c m = sym (mod-add-mod _ m c) ∙ ap (λ z. (z + c) % m) (mod_times a b m) ∙ mod-add-mod _ m c

-- The product of two numbers below the prime, which fits a word of 64 bits.
pub product_fits : (a b : ℕ) → a < prime → b < prime → a * b ≤ prime * prime
product_fits a b h k = mul-le-mul {n₁ = a} {m₁ = b} {n₂ = prime} {m₂ = prime} (omega arith) (omega arith)

-- A power of the base by squaring, h being that of half the exponent.
module _ (base n h : ℕ) (e : h ≡ base ^ (n / 2) % prime) where
  square : h * h % prime ≡ base ^ (n / 2 + n / 2) % prime
  square =
      let half = base ^ (n / 2) in
      rw e (mod_times half (half % prime) prime ∙ times_mod half half prime) ∙ ap (◌% prime) (sym (pow-add base (n / 2) (n / 2)))

  pub power_even : n % 2 ≡ 0 → h * h % prime ≡ base ^ n % prime
  power_even z = let twice : n / 2 + n / 2 ≡ n = omega arith in square ∙ ap (λ k. base ^ k % prime) twice

  pub power_odd : (n % 2 ≡ 0 → ⊥) → h * h % prime * base % prime ≡ base ^ n % prime
  power_odd z =
      let twice : suc (n / 2 + n / 2) ≡ n = omega arith in
      ap (λ x. x * base % prime) square ∙ mod_times _ base prime ∙ ap (◌% prime) (sym (pow-suc base (n / 2 + n / 2))) ∙ ap (λ k. base ^ k % prime) twice

-- A sum without its first part, modulo the prime.
pub minus_mod : (x d : ℕ) → d < prime → ((x + d) % prime + (prime - x % prime)) % prime ≡ d
minus_mod x d h = omega arith

-- ---- digests ----

module _ (base : ℕ) where
  digest_from-below : (h : ℕ) (l : List ℕ) → h < prime → digest_from base h l < prime
  unfolding digest_from more
  digest_from-below h [] k = k
  digest_from-below h (x ∷ l) k = digest_from-below (more base h x) l (omega arith)

  pub digest-below : (l : List ℕ) → digest base l < prime
  digest-below l = digest_from-below 0 l (omega arith)

  pub below-prime : {h : ℕ} (l : List ℕ) → h ≡ digest base l → h < prime
  below-prime l e = let b = digest-below l in omega arith

  pub more-below : {r : ℕ} (h x : ℕ) → r ≡ more base h x → r < prime
  unfolding more
  more-below h x e = omega arith

  -- The digest of a list that goes on, and of one with one number more.
  digest_from-append : (h : ℕ) (a b : List ℕ) → digest_from base h (a ++ b) ≡ digest_from base (digest_from base h a) b
  unfolding digest_from
  digest_from-append h [] b = refl
  digest_from-append h (x ∷ a) b = digest_from-append (more base h x) a b

  pub digest-more : (l : List ℕ) (x : ℕ) → digest base (l ++ (x ∷ [])) ≡ more base (digest base l) x
  unfolding digest_from
  digest-more l x = digest_from-append 0 l (x ∷ [])

  -- One number more of a list, and one byte more of a text.
  pub digest_next : (l : List ℕ) (i : ℕ) → i < length l → digest base (take (i + 1) l) ≡ more base (digest base (take i l)) (get_or l i 0)
  digest_next l i h = ap (digest base) (rw (add-one, take-suc l i 0)) ∙ digest-more _ _

  pub bytes_next : (f : ℕ → ℕ) (text : List ℕ) (i : ℕ) → i < length text
      → digest base (map f (take (i + 1) text)) ≡ more base (digest base (map f (take i text))) (f (get_or text i 0))
  bytes_next f text i h =
      let longer : take (i + 1) text ≡ take i text ++ (get_or text i 0 ∷ []) = rw (add-one, take-suc text i 0) in
      ap (λ t. digest base (map f t)) longer ∙ ap (digest base) (map-append f (take i text) _) ∙ digest-more _ _

  pub text_next : (f : ℕ → ℕ) (names : List ℕ) (o i : ℕ) → o + i < length names
      → digest base (map f (text_at names o (i + 1))) ≡ more base (digest base (map f (text_at names o i))) (f (get_or names (o + i) 0))
  text_next f names o i h =
      let within : i < length (drop o names) = rw length-drop (omega arith) in
      bytes_next f (drop o names) i within ∙ ap (λ c. more base (digest base (map f (text_at names o i))) (f c)) (get_or-drop o names i 0)

  -- What a list goes on from is multiplied by the base for each of its numbers.
  digest_from-parts : (h : ℕ) (b : List ℕ) → h < prime → digest_from base h b ≡ (h * base ^ length b + digest base b) % prime
  unfolding digest_from more
  digest_from-parts h [] k = rw pow-zero (omega arith)
  digest_from-parts h (x ∷ b) k =
      let B = base ^ length b in
      let rest = digest base b in
      let y = x % prime in
      let ahead = digest_from-parts (more base h x) b (omega arith) in
      let first : more base 0 x ≡ y = omega arith in
      let alone = digest_from-parts (more base 0 x) b (omega arith) ∙ ap (λ z. (z * B + rest) % prime) first in
      let moved = mul_assoc h base B ∙ ap (h *◌) (sym (pow-succ' base (length b))) in
      let sides = ap (◌+ rest) (add-mul (h * base) y B ∙ ap (◌+ y * B) moved) ∙ add_assoc _ (y * B) rest in
      ahead ∙ times_plus (h * base + y) B rest prime ∙ ap (◌% prime) sides
      ∙ sym (ap (λ z. (h * base ^ suc (length b) + z) % prime) alone ∙ add-mod-mod _ _ prime)

  pub digest-parts : (a b : List ℕ) → digest base (a ++ b) ≡ (digest base a * base ^ length b + digest base b) % prime
  digest-parts a b = digest_from-append 0 a b ∙ digest_from-parts (digest base a) b (digest-below a)

  -- Leading zeros count for nothing.
  pub digest-stripped : (l : List ℕ) → digest base (map digit (stripped l)) ≡ digest base (map digit l)
  unfolding stripped digest_from more
  digest-stripped [] = refl
  digest-stripped (c ∷ []) = refl
  digest-stripped (c ∷ d ∷ l) = go (is_zero c) refl (digest-stripped (d ∷ l))
    where
      go : (b : Bool) → is_zero c ≡ b → digest base (map digit (stripped (d ∷ l))) ≡ digest base (map digit (d ∷ l))
          → digest base (map digit (stripped (c ∷ d ∷ l))) ≡ digest base (map digit (c ∷ d ∷ l))
      go true e ih =
          let nothing : more base 0 0 ≡ 0 = omega arith in
          rw (stripped, e) (ih ∙ sym (rw (eqb→eq c zero_digit (true-T _ e), nothing) refl))
      go false e ih = rw (stripped, e) refl

  -- The digest of a part, from those of two beginnings.
  pub digest-rest : (l : List ℕ) (s n : ℕ) → s + n ≤ length l
      → (digest base (take (s + n) l) + (prime - (digest base (take s l) * (base ^ n % prime)) % prime)) % prime ≡ digest base (take n (drop s l))
  digest-rest l s n h =
      let front = digest base (take s l) in
      let rest = take n (drop s l) in
      let parts = digest-parts (take s l) rest ∙ ap (λ k. (front * base ^ k + digest base rest) % prime) (part_length l s n h) in
      let whole = ap (digest base) (take-add s n l) ∙ parts in
      rw (whole, times_mod front (base ^ n) prime) (minus_mod (front * base ^ n) (digest base rest) (digest-below rest))

-- ---- lowering ----

-- A byte before the capitals, one after them, and a capital.
pub lower-before : (c : ℕ) → c < 65 → lower c ≡ c
unfolding lower
lower-before c h = rw (lower, lt-leb 65 c h)

pub lower-after : (c : ℕ) → 90 < c → lower c ≡ c
unfolding lower
lower-after c h = rw (lower, le-leb 65 c (omega arith), lt-leb c 90 h)

pub lower_capital : (c : ℕ) → 65 ≤ c → c ≤ 90 → lower c ≡ c + 32
unfolding lower
lower_capital c h k = rw (lower, le-leb 65 c h, le-leb c 90 k)

-- ---- marks ----

module _ {base : ℕ} where
  -- At first the one mark is that of no numbers.
  pub marked_none : (numbers : List ℕ) (m : ℕ) → 0 < m → Marked base numbers (replicate m 0) 0
  unfolding digest_from
  marked_none numbers m h = record { room = rw length-replicate (omega arith); mark = λ j k. zeros-at m j ∙ none j k }
    where
      none : (j : ℕ) → j * stride ≤ 0 → 0 ≡ digest base (take (j * stride) numbers)
      none j k = let e : j * stride ≡ 0 = omega arith in rw e refl

  -- Marks look only below k.
  pub marked_set : {numbers marks : List ℕ} {k : ℕ} → Marked base numbers marks k → (v : ℕ) → Marked base (set numbers k v) marks k
  marked_set {numbers} {marks} {k} known v =
      record { room = known.room; mark = λ j h. known.mark j h ∙ ap (digest base) (sym (take-set-le (j * stride) numbers k v h)) }

  -- Fewer numbers have no other marks.
  pub marked_below : {numbers marks : List ℕ} {k : ℕ} → Marked base numbers marks k → (i : ℕ) → i ≤ k → Marked base numbers marks i
  marked_below known i h = let r = known.room in record { room = omega arith; mark = λ j g. known.mark j (omega arith) }

  -- One number more: without a mark, and with one.
  pub marked_next : {numbers marks : List ℕ} {k : ℕ} → Marked base numbers marks k → ((k + 1) % stride ≡ 0 → ⊥) → Marked base numbers marks (k + 1)
  marked_next known h = let r = known.room in record { room = omega arith; mark = λ j g. known.mark j (omega arith) }

  pub marked_write : {numbers marks : List ℕ} {k : ℕ} → Marked base numbers marks k → (k + 1) % stride ≡ 0 → (k + 1) / stride < length marks
      → Marked base numbers (set marks ((k + 1) / stride) (digest base (take (k + 1) numbers))) (k + 1)
  marked_write {numbers} {marks} {k} known h r =
      record { room = rw length-set r; mark = λ j g. ⊎_elim (new j) (old j) (eq-or-lt_of_le (omega arith)) }
    where
      at : ℕ
      at = (k + 1) / stride

      sum : ℕ
      sum = digest base (take (k + 1) numbers)

      old : (j : ℕ) → j < at → get_or (set marks at sum) j 0 ≡ digest base (take (j * stride) numbers)
      old j g = get_or-set_other marks at j sum 0 (λ e. omega arith) ∙ known.mark j (omega arith)

      new : (j : ℕ) → j ≡ at → get_or (set marks at sum) j 0 ≡ digest base (take (j * stride) numbers)
      new j e = let f : at * stride ≡ k + 1 = omega arith in rw (e, f) (get_or-set_same marks at sum 0 r)
