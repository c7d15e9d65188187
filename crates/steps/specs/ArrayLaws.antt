-- Runs kept in an array of words, two words each: the last of them, one more of them, and those that a write leaves alone.
use Rattle.std.specs.Prelude.{◌≡◌, refl, length, get_or, take, set, ℕ, suc, zero, ◌+◌, ◌-◌, ◌*◌, ◌<◌, ◌≤◌}
use Rattle.std.proofs.Common.{ap, ap₂, sym, ◌∙◌, length-set, get_or-set_same, get_or-set_other, set-set, take_at, arith}
use mathlib.Core.List.{List, [], ◌∷◌, ◌++◌}
use Rattle.std.proofs.lemmas.List.{set-get_or, set_comm}
use Rattle.std.proofs.Math.Numerals.{add-one}
use Rattle.term_spec.specs.Words.{decode, record_at}
use Rattle.term_spec.proofs.WordsLaws.{decode-at, decode-below, decode-length, decode-snoc}
use Rattle.term_spec.specs.Term.{Run, no_run, run_layout}
use Rattle.term_spec.specs.Words.{Lies, write}
use Rattle.term_spec.proofs.WordsLaws.{run_lays}
use Rattle.words.specs.RecordLaws.{run_read, record_written}
use Rattle.steps.specs.State.{stack_of, Restores}

-- Run i is its two words.
pub run_at : (w : List ℕ) (i : ℕ) {a b : ℕ} → a ≡ get_or w (2 * i) 0 → b ≡ get_or w (2 * i + 1) 0
    → ◌≡◌ {A = Run} (record { start = a; len = b }) (record_at run_layout w i)
run_at w i p q =
    let e : 2 * i ≡ i * 2 = omega arith in
    run_read w i (rw e at p) (rw e at q)

pub entry_at : (w : List ℕ) (n i : ℕ) {a b : ℕ} → i < n → a ≡ get_or w (2 * i) 0 → b ≡ get_or w (2 * i + 1) 0
    → record { start = a; len = b } ≡ get_or (decode run_layout n w) i no_run
entry_at w n i h p q = run_at w i p q ∙ sym (decode-at run_layout n i w no_run h)

-- A write above a run leaves it.
run-kept : (w : List ℕ) (d i v : ℕ) → 2 * d + 2 ≤ i → record_at run_layout (set w i v) d ≡ record_at run_layout w d
run-kept w d i v h =
    let x : 2 * d ≡ i → ⊥ = λ q. omega arith in
    let y : 2 * d + 1 ≡ i → ⊥ = λ q. omega arith in
    sym (run_at (set w i v) d (sym (get_or-set_other w i (2 * d) v 0 x)) (sym (get_or-set_other w i (2 * d + 1) v 0 y))) ∙ run_at w d refl refl

stack_kept : (w : List ℕ) (d i v : ℕ) → 2 * d ≤ i → stack_of d (set w i v) ≡ stack_of d w
unfolding stack_of
stack_kept w zero i v h = refl
stack_kept w (suc d) i v h = ap₂ ◌∷◌ (run-kept w d i v (omega arith)) (stack_kept w d i v (omega arith))

entries_kept : (w : List ℕ) (n i v : ℕ) → 2 * n ≤ i → decode run_layout n (set w i v) ≡ decode run_layout n w
unfolding decode
entries_kept w zero i v h = refl
entries_kept w (suc n) i v h =
    decode-snoc run_layout n (set w i v)
    ∙ ap₂ (λ x y. x ++ (y ∷ [])) (entries_kept w n i v (omega arith)) (run-kept w n i v (omega arith))
    ∙ sym (decode-snoc run_layout n w)

-- A run written is two words.
pub run_written : (w : List ℕ) (i : ℕ) (r : Run) → Lies run_layout w (i + 1) → write run_layout w i (r ∷ []) ≡ set (set w (2 * i) r.start) (2 * i + 1) r.len
run_written w i r h =
    let e : 2 * i ≡ i * 2 = omega arith in
    rw e (sym (record_written run_layout run_lays w i r h))

-- Two words written are a run.
module _ (w : List ℕ) (i a b : ℕ) (h : 2 * i + 1 < length w) where
  run-set : record_at run_layout (set (set w (2 * i) a) (2 * i + 1) b) i ≡ record { start = a; len = b }
  run-set =
      let x : 2 * i ≡ 2 * i + 1 → ⊥ = λ q. omega arith in
      let y : 2 * i + 1 < length (set w (2 * i) a) = rw length-set h in
      sym (run_at (set (set w (2 * i) a) (2 * i + 1) b) i
      (sym (get_or-set_other (set w (2 * i) a) (2 * i + 1) (2 * i) b 0 x ∙ get_or-set_same w (2 * i) a 0 (omega arith)))
      (sym (get_or-set_same (set w (2 * i) a) (2 * i + 1) b 0 y)))

  pub stack_more : stack_of (i + 1) (set (set w (2 * i) a) (2 * i + 1) b) ≡ record { start = a; len = b } ∷ stack_of i w
  unfolding stack_of
  stack_more = rw add-one (ap₂ ◌∷◌ run-set (stack_kept (set w (2 * i) a) i (2 * i + 1) b (omega arith) ∙ stack_kept w i (2 * i) a (omega arith)))

  pub entries_more : decode run_layout (i + 1) (set (set w (2 * i) a) (2 * i + 1) b) ≡ decode run_layout i w ++ (record { start = a; len = b } ∷ [])
  entries_more =
      rw add-one
      (decode-snoc run_layout i _
      ∙ ap₂ (λ x y. x ++ (y ∷ [])) (entries_kept (set w (2 * i) a) i (2 * i + 1) b (omega arith) ∙ entries_kept w i (2 * i) a (omega arith)) run-set)

-- The last run, and those before it.
pub stack_less : (w : List ℕ) (d : ℕ) {a b : ℕ} → 1 ≤ d → a ≡ get_or w (2 * (d - 1)) 0 → b ≡ get_or w (2 * (d - 1) + 1) 0
    → stack_of d w ≡ record { start = a; len = b } ∷ stack_of (d - 1) w
unfolding stack_of
stack_less w d h p q = let e : d ≡ suc (d - 1) = omega arith in ap (λ n. stack_of n w) e ∙ ap (◌∷ stack_of (d - 1) w) (sym (run_at w (d - 1) p q))

pub stack_less_run : (w : List ℕ) (d : ℕ) {r : Run} → 1 ≤ d → r ≡ record_at run_layout w (d - 1) → stack_of d w ≡ r ∷ stack_of (d - 1) w
unfolding stack_of
stack_less_run w d h e = let n : d ≡ suc (d - 1) = omega arith in ap (λ n. stack_of n w) n ∙ ap (◌∷ stack_of (d - 1) w) (sym e)

-- Fewer of the same entries are the same, and so are those that one more was added to.
pub entries_fewer : (v w : List ℕ) (n m : ℕ) → n ≤ m → decode run_layout m v ≡ decode run_layout m w → decode run_layout n v ≡ decode run_layout n w
entries_fewer v w n m h e = sym (decode-below run_layout m n v h) ∙ ap (take n) e ∙ decode-below run_layout m n w h

pub entries_less : (v w : List ℕ) (n : ℕ) (r : Run) → decode run_layout (n + 1) v ≡ decode run_layout n w ++ (r ∷ [])
    → decode run_layout n v ≡ decode run_layout n w
entries_less v w n r e =
    sym (decode-below run_layout (n + 1) n v (omega arith)) ∙ ap (take n) e ∙ take_at (decode run_layout n w) (r ∷ []) n (decode-length run_layout n w)

-- ---- a run put back ----

pub restores-same : (d : ℕ) (w : List ℕ) → Restores d w w
unfolding Restores
restores-same d w = rw (set-get_or, set-get_or) refl

pub restores-two : (d : ℕ) (w : List ℕ) (a b : ℕ) → Restores d w (set (set w (2 * d) a) (2 * d + 1) b)
unfolding Restores
restores-two d w a b =
    let n : 2 * d + 1 ≡ 2 * d → ⊥ = λ q. omega arith in
    let x = get_or w (2 * d) 0 in
    let y = get_or w (2 * d + 1) 0 in
    ap (λ l. set l (2 * d + 1) y) (set_comm (set w (2 * d) a) (2 * d + 1) (2 * d) b x n)
    ∙ set-set (set (set w (2 * d) a) (2 * d) x) (2 * d + 1) b y
    ∙ ap (λ l. set l (2 * d + 1) y) (set-set w (2 * d) a x ∙ set-get_or w (2 * d) 0)
    ∙ set-get_or w (2 * d + 1) 0
