-- Records that have a run: the runs of a slice's records, entry by entry, and what a test of each of them in turn comes to.
use Rattle.std.specs.Prelude.{◌≡◌, refl, List, [], ◌∷◌, Bool, true, false, ◌&&◌, ℕ, suc, zero, ◌<◌, ◌/◌, map, length, get_or}
use Rattle.std.proofs.Common.{ap, sym, ◌∙◌, arith}
use Rattle.std.specs.Bool.{MatchBool}
use Rattle.std.specs.List.{range_with_len, AllWithin, HoldsAt}
use Rattle.std.proofs.lemmas.List.{length-map, get_or-map}
use Rattle.std.proofs.lemmas.List.FromFn.{length-range_with_len, get_or-range_with_len}
use Rattle.term_spec.specs.Words.{Layout, record_at, records, count}
use Rattle.term_spec.proofs.WordsLaws.{decode-at, decode-length}
use Rattle.term_spec.specs.Term.{Run, run_rule, runs_rule}

-- What stands past the last entry.
abbrev pub no_run : Run
no_run = record { start = 0; len = 0 }

-- ---- the runs of a slice's records ----

module _ {A : Type 0} (L : Layout A) (w : List ℕ) where
  pub records_counted : length (records L w) ≡ length w / L.width
  unfolding records count
  records_counted = decode-length L (length w / L.width) w

  pub records_entry : (i : ℕ) {r : A} → i < length w / L.width → r ≡ record_at L w i → (d : A) → get_or (records L w) i d ≡ r
  unfolding records count
  records_entry i lt e d = decode-at L (length w / L.width) i w d lt ∙ sym e

-- The same where the runs are a part of the records.
module _ {A : Type 0} (L : Layout A) (of : A → Run) (w : List ℕ) where
  pub runs_counted : length (map of (records L w)) ≡ length w / L.width
  runs_counted = length-map (records L w) of ∙ records_counted L w

  pub runs_entry : (i : ℕ) {r : A} → i < length w / L.width → r ≡ record_at L w i → (d : Run) → get_or (map of (records L w)) i d ≡ of r
  runs_entry i lt e d =
      let n = records_counted L w in
      get_or-map of (records L w) i (L.read []) d (omega arith) ∙ ap of (records_entry L w i lt e (L.read []))

-- ---- their rule ----

module _ (terms : ℕ) where
  all_end : (rs : List Run) → ((k : ℕ) → k < length rs → run_rule terms (get_or rs k no_run) ≡ true) → runs_rule terms rs ≡ true
  unfolding runs_rule
  all_end [] h = refl
  all_end (r ∷ rs) h = rw (h 0 (omega arith)) (all_end rs (λ k lt. h (suc k) (omega arith)))

  and_false : (a b : Bool) → b ≡ false → a && b ≡ false
  and_false true b e = e
  and_false false b e = refl

  one_past : (rs : List Run) (k : ℕ) → k < length rs → run_rule terms (get_or rs k no_run) ≡ false → runs_rule terms rs ≡ false
  unfolding runs_rule
  one_past [] k lt h = absurd (omega arith)
  one_past (r ∷ rs) zero lt h = rw h refl
  one_past (r ∷ rs) (suc k) lt h = and_false (run_rule terms r) (runs_rule terms rs) (one_past rs k (omega arith) h)

  module _ (rs : List Run) (n : ℕ) (size : length rs ≡ n) where
    -- What the rule of entry k decides.
    abbrev pub Ends : Bool → ℕ → Type 0
    Ends b k = k < n → run_rule terms (get_or rs k no_run) ≡ b

    placed : (k : ℕ) → k < n → get_or (range_with_len 0 n) k 0 ≡ k
    placed k lt = get_or-range_with_len 0 n k 0 lt ∙ omega arith

    -- What a test of each of them in turn comes to.
    pub each_tested : (r : Bool)
        → MatchBool r (AllWithin (Ends true) (range_with_len 0 n) 0 (length (range_with_len 0 n)))
        ((k : ℕ) × (k < length (range_with_len 0 n)) × HoldsAt (Ends false) (range_with_len 0 n) k)
        → r ≡ runs_rule terms rs
    each_tested true h =
        sym (all_end rs (λ k lt.
        let l : k < n = omega arith in
        let e = placed k l in
        (rw e at (h k 0 (omega arith) (rw length-range_with_len l))) l))
    each_tested false (k, lt, h) =
        let l : k < n = rw length-range_with_len at lt in
        let e = placed k l in
        sym (one_past rs k (omega arith) ((rw e at (h 0)) l))
