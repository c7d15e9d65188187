-- Laws of a list of runs for the code that reads it from the first to the last: what is left from run i on comes to the same as the whole.
use Rattle.std.specs.Prelude.{◌≡◌, List, [], ◌∷◌, Bool, true, false, get_or, suc, zero, ◌&&◌, T, leb, length, drop, ℕ, ◌+◌, ◌*◌, ◌/◌, ◌%◌, ◌≤◌, ◌<◌}
use Rattle.std.proofs.Math.Path.{refl, sym}
use borrow.Author.Tests.{le-leb, lt-leb, eq-eqb, ne_eqb}
use Rattle.std.proofs.Common.{ap, ◌∙◌, arith}
use Rattle.std.proofs.lemmas.List.Sums.{sum_by-cons}
use Rattle.std.specs.Bool.{MatchBool}
use Rattle.std.specs.List.{range_with_len, sum_by, AllWithin, HoldsAt}
use Rattle.std.proofs.lemmas.List.FromFn.{length-range_with_len, get_or-range_with_len}
use Rattle.term_spec.proofs.BoolLaws.{both_of}
use Rattle.term_spec.specs.Words.{AtMost, record_at, records, count, whole}
use Rattle.term_spec.proofs.WordsLaws.{run_lays, record_next, records_done, records-length}
use Rattle.term_spec.specs.Term.{Run, run_layout, run_rule, runs_rule, limit, run_list_limit}
use Rattle.term_spec.proofs.TermLaws.{run_facts}
use Rattle.view_spec.specs.Build.{total}

and_false : (a b : Bool) → b ≡ false → a && b ≡ false
and_false true b e = e
and_false false b e = refl

module _ (w : List ℕ) where
  pub uneven : (length w % run_layout.width ≡ 0 → ⊥) → false ≡ whole run_layout w && leb (count run_layout w) run_list_limit
  unfolding whole
  uneven n = simp (ne_eqb _ _ n)

  pub even : length w % run_layout.width ≡ 0 → leb (length w / run_layout.width) run_list_limit ≡ whole run_layout w && leb (count run_layout w) run_list_limit
  unfolding whole count
  even e = simp (eq-eqb _ _ e)

  size : length (records run_layout w) ≡ length w / run_layout.width
  unfolding count
  size = records-length run_layout run_lays w

  -- run i, and those after it
  pub runs_next : (i : ℕ) {r : Run} → i < length w / run_layout.width → r ≡ record_at run_layout w i → drop i (records run_layout w) ≡ r ∷ drop (i + 1) (records run_layout w)
  unfolding records count
  runs_next i h e = record_next run_layout (length w / run_layout.width) w i h e

  pub runs_done : drop (length w / run_layout.width) (records run_layout w) ≡ []
  unfolding records count
  runs_done = records_done run_layout (length w / run_layout.width) w (length w / run_layout.width) refl

  -- ---- every run inside ----

  module _ (terms : ℕ) where
    -- what is left of the rule at run i: true at the end, false at a run that ends later, and the rule of the others at one that does not
    pub inside-all : (i : ℕ) → i ≡ length w / run_layout.width
        → runs_rule terms (drop i (records run_layout w)) ≡ runs_rule terms (records run_layout w)
        → true ≡ runs_rule terms (records run_layout w)
    unfolding runs_rule
    inside-all i e h = rw (e, runs_done) at h

    module _ (i : ℕ) {r : Run} (lt : i < length w / run_layout.width) (e : r ≡ record_at run_layout w i)
        (h : runs_rule terms (drop i (records run_layout w)) ≡ runs_rule terms (records run_layout w)) where
      pub inside_not : terms < r.start + r.len → false ≡ runs_rule terms (records run_layout w)
      unfolding runs_rule run_rule
      inside_not k = rw (runs_next i lt e, lt-leb (r.start + r.len) terms k) at h

      pub inside_next : r.start + r.len ≤ terms → runs_rule terms (drop (i + 1) (records run_layout w)) ≡ runs_rule terms (records run_layout w)
      unfolding runs_rule run_rule
      inside_next k = rw (runs_next i lt e, le-leb (r.start + r.len) terms k) at h

    -- What a run's rule decides, one by one.
    abbrev pub Ends : Bool → ℕ → Type 0
    Ends b k = run_rule terms (record_at run_layout w k) ≡ b

    next_rule : (i : ℕ) {b : Bool} → i < length w / run_layout.width → Ends b i
        → runs_rule terms (drop i (records run_layout w)) ≡ b && runs_rule terms (drop (i + 1) (records run_layout w))
    unfolding runs_rule
    next_rule i lt e = rw (runs_next i lt refl, ← e) refl

    each_ends : (n i : ℕ) → i + n ≡ length w / run_layout.width → ((k : ℕ) → k < length w / run_layout.width → Ends true k)
        → runs_rule terms (drop i (records run_layout w)) ≡ true
    unfolding runs_rule
    each_ends zero i e h = let z : i ≡ length w / run_layout.width = omega arith in rw (z, runs_done) refl
    each_ends (suc n) i e h = next_rule i {b = true} (omega arith) (h i (omega arith)) ∙ each_ends n (i + 1) (omega arith) h

    one_past : (n i k : ℕ) → i + n ≡ k → k < length w / run_layout.width → Ends false k → runs_rule terms (drop i (records run_layout w)) ≡ false
    one_past zero i k e lt h = let z : i ≡ k = omega arith in next_rule i {b = false} (omega arith) (rw z h)
    one_past (suc n) i k e lt h = next_rule i (omega arith) refl ∙ and_false _ _ (one_past n (i + 1) k (omega arith) lt h)

    placed : (k : ℕ) → k < length w / run_layout.width → get_or (range_with_len 0 (length w / run_layout.width)) k 0 ≡ k
    placed k lt = get_or-range_with_len 0 (length w / run_layout.width) k 0 lt ∙ omega arith

    -- What a test of each of them in turn comes to.
    pub each_tested : (r : Bool)
        → MatchBool r (AllWithin (Ends true) (range_with_len 0 (length w / run_layout.width)) 0 (length (range_with_len 0 (length w / run_layout.width))))
        ((k : ℕ) × (k < length (range_with_len 0 (length w / run_layout.width))) × HoldsAt (Ends false) (range_with_len 0 (length w / run_layout.width)) k)
        → r ≡ runs_rule terms (records run_layout w)
    each_tested true h =
        sym (each_ends (length w / run_layout.width) 0 (omega arith)
        (λ k lt. let e = placed k lt in rw e at (h k 0 (omega arith) (rw length-range_with_len lt))))
    each_tested false (k, lt, h) =
        let l : k < length w / run_layout.width = rw length-range_with_len at lt in
        let e = placed k l in
        sym (one_past k 0 k (omega arith) l (rw e at (h 0)))

  -- ---- their terms together ----

  -- the terms before run i and those of the runs from it on come to the total
  pub total-all : (i : ℕ) {sum : ℕ} → i ≡ length w / run_layout.width → sum + total (drop i (records run_layout w)) ≡ total (records run_layout w) → sum ≡ total (records run_layout w)
  unfolding total
  total-all i e h = omega (arith, rw (e, runs_done) at h)

  pub total-start : 0 + total (drop 0 (records run_layout w)) ≡ total (records run_layout w)
  total-start = omega arith

  pub total_next : {i : ℕ} (sum : ℕ) {r : Run} → i < length w / run_layout.width → r ≡ record_at run_layout w i → sum + total (drop i (records run_layout w)) ≡ total (records run_layout w)
      → sum + r.len + total (drop (i + 1) (records run_layout w)) ≡ total (records run_layout w)
  unfolding total
  total_next {i} sum lt e h = omega (arith, rw (runs_next i lt e) at h)

  pub total_here : {i : ℕ} (sum : ℕ) {r : Run} → i < length w / run_layout.width → r ≡ record_at run_layout w i → sum + total (drop i (records run_layout w)) ≡ total (records run_layout w)
      → sum + r.len ≤ total (records run_layout w)
  total_here sum lt e h = omega (arith, total_next sum lt e h)

  -- the length of run i
  abbrev pub length_of : ℕ → ℕ
  length_of i = (record_at run_layout w i).len

  lengths_from : (n i : ℕ) → i + n ≡ length w / run_layout.width → sum_by length_of (range_with_len i n) ≡ total (drop i (records run_layout w))
  unfolding total
  lengths_from zero i e = let z : i ≡ length w / run_layout.width = omega arith in rw (z, runs_done) refl
  lengths_from (suc n) i e =
      sum_by-cons length_of i (range_with_len (i + 1) n) ∙ ap (length_of i +◌) (lengths_from n (i + 1) (omega arith))
      ∙ sym (ap total (runs_next i (omega arith) refl))

  pub lengths_sum : sum_by length_of (range_with_len 0 (length w / run_layout.width)) ≡ total (records run_layout w)
  lengths_sum = lengths_from (length w / run_layout.width) 0 (omega arith)

-- Runs inside so many terms hold at most so many each.
total_most : (terms : ℕ) (rs : List Run) → terms ≤ limit → T (runs_rule terms rs) → total rs ≤ length rs * limit
unfolding total runs_rule
total_most terms [] u h = omega arith
total_most terms (r ∷ rs) u h =
    let (x, y) = both_of (run_rule terms r) (runs_rule terms rs) h in
    omega (arith, run_facts terms r x, total_most terms rs u y)

pub total_low : (w : List ℕ) (terms : ℕ) → terms ≤ limit → AtMost run_layout w run_list_limit → T (runs_rule terms (records run_layout w)) → total (records run_layout w) ≤ 4194304
total_low w terms u l h = omega (arith, total_most terms (records run_layout w) u h, size w)
