-- What holds while terms are numbered, one after another: before the first, with one more, and after the last.
use Rattle.std.specs.Prelude.{◌≡◌, refl, List, length, set, take, drop, Bool, true, false, ℕ, ◌+◌, ◌/◌, ◌%◌, ◌<◌, ◌≤◌}
use Rattle.std.proofs.Common.{ap, sym, ◌∙◌, length-set, take-suc-set, drop-set-lt, add-one, arith}
use Rattle.term_spec.specs.Term.{limit}
use Rattle.numbers.specs.Digest.{prime, stride, more, digest_from, digest, Marked}
use Rattle.numbers.specs.DigestLaws.{digest-below, digest-more, marked_set, marked_next, marked_write}
use Rattle.numbers.specs.Numbers.{Numbers, Tables}
use Rattle.numbers.specs.NumbersLaws.{never}

-- The first k terms have their numbers, whose digest is `sum`; there is room for a mark of every so many, and what is past the used
-- terms is as before.
pub record Numbering (base : ℕ) (names w : List ℕ) (used : ℕ) (before lent numbers marks heads earlier : List ℕ) (sum k : ℕ) : Type 0 where
  pub within : k ≤ used
  pub tables : Tables base names w used k numbers heads earlier
  pub marked : Marked base numbers marks k
  pub marks_room : limit / stride < length marks
  pub marks_size : length marks ≡ length lent
  pub summed : sum ≡ digest base (take k numbers)
  pub rest : drop used numbers ≡ drop used before
  pub size : length numbers ≡ length before

pub numbering_start : {base : ℕ} {names w : List ℕ} {used : ℕ} {numbers marks heads earlier : List ℕ} → Tables base names w used 0 numbers heads earlier
    → Marked base numbers marks 0 → limit / stride < length marks → Numbering base names w used numbers marks numbers marks heads earlier 0 0
unfolding digest_from
numbering_start tables marked room = record {
  within = omega arith;
  tables = tables;
  marked = marked;
  marks_room = room;
  marks_size = refl;
  summed = refl;
  rest = refl;
  size = refl;
}

module _ {base : ℕ} {names w : List ℕ} {used : ℕ} {before lent numbers marks heads earlier : List ℕ} {sum k : ℕ}
    (was : Numbering base names w used before lent numbers marks heads earlier sum k) where
  pub sum_below : sum < prime
  sum_below = omega (arith, was.summed, digest-below base (take k numbers))

  -- Every term has its number.
  pub numbering_done : used ≤ k → Numbers names w used used numbers
  numbering_done h = let le = was.within in let e : k ≡ used = omega arith in rw e at was.tables.known

  -- Term k gets the number n.
  module _ (n : ℕ) {sum' : ℕ} (inside : k < used) (told : sum' ≡ more base sum n) where
    next_sum : sum' ≡ digest base (take (k + 1) (set numbers k n))
    next_sum =
        let room = was.tables.room in
        let lt : k < length numbers = omega arith in
        told ∙ ap (λ z. more base z n) was.summed ∙ sym (digest-more base (take k numbers) n)
        ∙ ap (digest base) (sym (take-suc-set numbers k n lt) ∙ ap (λ z. take z (set numbers k n)) (sym (add-one k)))

    pub next_below : sum' < prime
    next_below = omega (arith, next_sum, digest-below base (take (k + 1) (set numbers k n)))

    pub next_rest : drop used (set numbers k n) ≡ drop used before
    next_rest = drop-set-lt used numbers k n inside ∙ was.rest

    pub next_size : length (set numbers k n) ≡ length before
    next_size = length-set numbers k n ∙ was.size

    module _ {heads' earlier' : List ℕ} (tables : Tables base names w used (k + 1) (set numbers k n) heads' earlier') where
      next : {marks' : List ℕ} → length marks' ≡ length marks → Marked base (set numbers k n) marks' (k + 1)
          → Numbering base names w used before lent (set numbers k n) marks' heads' earlier' sum' (k + 1)
      next e marked =
          let room = was.marks_room in
          record {
            within = omega arith;
            tables = tables;
            marked = marked;
            marks_room = omega arith;
            marks_size = e ∙ was.marks_size;
            summed = next_sum;
            rest = next_rest;
            size = next_size;
          }

      -- without a mark
      pub numbering_next : ((k + 1) % stride ≡ 0 → ⊥) → Numbering base names w used before lent (set numbers k n) marks heads' earlier' sum' (k + 1)
      numbering_next h = next refl (marked_next (marked_set was.marked n) h)

      -- with one
      pub numbering_marked : (k + 1) % stride ≡ 0
          → Numbering base names w used before lent (set numbers k n) (set marks ((k + 1) / stride) sum') heads' earlier' sum' (k + 1)
      numbering_marked h =
          let room = was.marks_room in
          let few = was.tables.few in
          next (length-set marks ((k + 1) / stride) sum') (rw next_sum (marked_write (marked_set was.marked n) h (omega arith)))

-- ---- attempts ----

-- How many attempts can follow, `left` being how many are left before the last: none once the numbering is done.
abbrev pub attempts : Bool → ℕ → ℕ
attempts true left = 0
attempts false left = left + 1

-- An attempt more, after which fewer are left, unless it is the last one.
pub attempts_fall : (done now : Bool) (left next : ℕ) → done ≡ false → (now ≡ false → next < left) → attempts now next < attempts done left
attempts_fall true now left next e fewer = never refl e
attempts_fall false true left next e fewer = omega arith
attempts_fall false false left next e fewer = let lt = fewer refl in omega arith
