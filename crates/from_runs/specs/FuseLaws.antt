-- Laws of fusing from the last run to the first: the runs left of those from i on, one step at a time, and how many they are.
use Rattle.std.specs.Prelude.{◌≡◌, Option, None, Some, ℕ, suc, zero, ◌+◌, ◌-◌, ◌/◌, ◌≤◌, ◌<◌}
use Rattle.std.proofs.Math.Path.{refl, ap, sym}
use Rattle.std.proofs.Common.{◌∙◌}
use mathlib.Core.List.{List, [], ◌∷◌}
use Rattle.std.proofs.Math.ListN.{length, drop}
use Rattle.std.proofs.Math.Decide.{ℕ_discrete}
use native.Mathlib.Omega.{arith}
use Rattle.term_spec.specs.Words.{record_at, records, count}
use Rattle.term_spec.specs.Term.{Run, run_layout}
use Rattle.words.specs.declared.Run.{Run as CodeRun}
use Rattle.words.specs.Records.{as_run}
use Rattle.view_spec.specs.Build.{if_dec, fuse_head, fuse_onto, fuse}
use Rattle.view_spec.proofs.PlanLaws.{if_yes, if_no}
use Rattle.from_runs.specs.RunLaws.{runs_next, runs_done}

-- ---- the runs left of those from i on ----

-- The runs left of those from i on.
unfoldable pub left : List ℕ → ℕ → List Run
left w i = fuse (drop i (records run_layout w))

pub left_end : (w : List ℕ) → left w (length w / run_layout.width) ≡ []
unfolding left count fuse
left_end w = ap fuse (runs_done w)

pub left-all : (w : List ℕ) → left w 0 ≡ fuse (records run_layout w)
unfolding left
left-all w = refl

module _ (w : List ℕ) (k : ℕ) (p : 0 < k) (h : k ≤ length w / run_layout.width) {r : Run} (e : r ≡ record_at run_layout w (k - 1)) where
  opened : left w (k - 1) ≡ if_dec (ℕ_discrete r.len 0) (left w k) (fuse_onto r (left w k))
  unfolding left records count fuse
  opened =
      let z : k - 1 + 1 ≡ k = omega arith in
      let d : drop (k - 1) (records run_layout w) ≡ r ∷ drop k (records run_layout w) =
      runs_next w (k - 1) (omega arith) e ∙ ap (λ n. r ∷ drop n (records run_layout w)) z in
      ap fuse d

  -- an empty run is skipped
  pub left_skip : r.len ≡ 0 → left w (k - 1) ≡ left w k
  left_skip q = opened ∙ if_yes (ℕ_discrete r.len 0) _ _ q

  -- another goes before the rest
  pub left_onto : 1 ≤ r.len → left w (k - 1) ≡ fuse_onto r (left w k)
  left_onto q = opened ∙ if_no (ℕ_discrete r.len 0) _ _ (λ z. omega arith)

-- ---- the first of the runs left ----

-- The first run starts where `next` does; there is none if there is no next.
unfoldable pub Starts : List Run → Option CodeRun → Type 0
Starts [] next = next ≡ None
Starts (q ∷ qs) next = (r : CodeRun) × (next ≡ Some r) × (q.start ≡ r.start)

-- The length of the first run; 0 if there is none.
unfoldable pub first_len : List Run → ℕ
first_len [] = 0
first_len (q ∷ qs) = q.len

-- The runs after the first.
unfoldable pub others : List Run → List Run
others [] = []
others (q ∷ qs) = qs

pub others-length : (qs : List Run) {next : Option CodeRun} (s : CodeRun) → Starts qs next → next ≡ Some s → suc (length (others qs)) ≡ length qs
unfolding Starts others
others-length [] s h e = absurd (cc)
others-length (q ∷ qs) s h e = refl

module _ (r : Run) (s : CodeRun) where
  -- it is fused where it ends where the next one starts
  pub onto_next : (q : Run) (qs : List Run) → q.start ≡ s.start → r.start + r.len ≡ s.start
      → fuse_onto r (q ∷ qs) ≡ record { start = r.start; len = r.len + q.len } ∷ qs
  unfolding fuse_onto fuse_head
  onto_next q qs h e = go (ℕ_discrete (r.start + r.len) q.start)
    where
      go : (d : Dec (r.start + r.len ≡ q.start)) → fuse_head d r q qs ≡ record { start = r.start; len = r.len + q.len } ∷ qs
      go (yes x) = refl
      go (no x) = absurd (x (e ∙ sym h))

  -- and so where the first of those left starts there
  pub onto_fuse : {next : Option CodeRun} (qs : List Run) → Starts qs next → next ≡ Some s → r.start + r.len ≡ s.start
      → fuse_onto r qs ≡ record { start = r.start; len = r.len + first_len qs } ∷ others qs
  unfolding Starts first_len others
  onto_fuse [] h p e = absurd (cc)
  onto_fuse (q ∷ qs) (t, f, same) p e =
      let run : t ≡ s = cc in
      onto_next q qs (same ∙ ap (λ (c : CodeRun). c.start) run) e

module _ (r : Run) {next : Option CodeRun} where
  -- and stands by itself elsewhere
  pub onto_part : (qs : List Run) → Starts qs next → ((q : CodeRun) → next ≡ Some q → r.start + r.len ≡ q.start → ⊥) → fuse_onto r qs ≡ r ∷ qs
  unfolding Starts fuse_onto fuse_head
  onto_part [] h p = refl
  onto_part (q ∷ qs) (s, e, same) p = go (ℕ_discrete (r.start + r.len) q.start)
    where
      go : (d : Dec (r.start + r.len ≡ q.start)) → fuse_head d r q qs ≡ r ∷ (q ∷ qs)
      go (yes x) = absurd (p s e (x ∙ same))
      go (no x) = refl

  -- fused or not, it is the first, and as many come after it
  pub onto_starts : (qs : List Run) (s : CodeRun) → Starts qs next → next ≡ Some s → r.start + r.len ≡ s.start
      → (length (fuse_onto r qs) ≡ length qs) × ((c : CodeRun) → r.start ≡ c.start → Starts (fuse_onto r qs) (Some c))
  unfolding Starts
  onto_starts [] s h e z = cc
  onto_starts (q ∷ qs) s (t, f, same) e z =
      let run : t ≡ s = cc in
      let is : t.start ≡ s.start = ap (λ (c : CodeRun). c.start) run in
      let o = onto_next r s q qs (same ∙ is) z in
      rw o (refl, λ c k. (c, refl, k))

-- ---- how many they are ----

onto_longer : (r : Run) (qs : List Run) → length qs ≤ length (fuse_onto r qs)
unfolding fuse_onto fuse_head
onto_longer r [] = omega arith
onto_longer r (q ∷ qs) = go (ℕ_discrete (r.start + r.len) q.start)
  where
    go : (d : Dec (r.start + r.len ≡ q.start)) → length (q ∷ qs) ≤ length (fuse_head d r q qs)
    go (yes x) = omega arith
    go (no x) = omega arith

fuse_longer : (r : Run) (rs : List Run) → length (fuse rs) ≤ length (fuse (r ∷ rs))
unfolding fuse if_dec
fuse_longer r rs = go (ℕ_discrete r.len 0)
  where
    go : (d : Dec (r.len ≡ 0)) → length (fuse rs) ≤ length (if_dec d (fuse rs) (fuse_onto r (fuse rs)))
    go (yes x) = omega arith
    go (no x) = onto_longer r (fuse rs)

drop_shorter : (i : ℕ) (rs : List Run) → length (fuse (drop i rs)) ≤ length (fuse rs)
drop_shorter zero rs = omega arith
drop_shorter (suc i) [] = omega arith
drop_shorter (suc i) (r ∷ rs) = omega (arith, drop_shorter i rs, fuse_longer r rs)

pub left_shorter : (w : List ℕ) (i : ℕ) → length (left w i) ≤ length (fuse (records run_layout w))
unfolding left
left_shorter w i = drop_shorter i (records run_layout w)

-- ---- counting them ----

-- What the count keeps: so many are left of the runs from i on, and the first starts where `next` does.
pub record Counted (w : List ℕ) (i made : ℕ) (next : Option CodeRun) : Type 0 where
  pub within : made + i ≤ length w / run_layout.width
  pub made_is : made ≡ length (left w i)
  pub starts : Starts (left w i) next

pub count-start : (w : List ℕ) → Counted w (length w / run_layout.width) 0 None
unfolding Starts
count-start w = record { within = omega arith; made_is = rw (left_end w) refl; starts = rw (left_end w) refl }

module _ (w : List ℕ) (k made : ℕ) (next : Option CodeRun) (c : Counted w k made next) where
  pub count_end : k ≤ 0 → made ≡ length (fuse (records run_layout w))
  count_end h = let z : k ≡ 0 = omega arith in c.made_is ∙ ap (λ i. length (left w i)) z ∙ ap length (left-all w)

  module _ (p : 0 < k) (r : CodeRun) (e : as_run r ≡ record_at run_layout w (k - 1)) where
    low : k ≤ length w / run_layout.width
    low = omega (arith, c.within)

    pub count_skip : r.len ≡ 0 → Counted w (k - 1) made next
    count_skip q =
        let s = left_skip w k p low e q in
        record { within = omega (arith, c.within); made_is = c.made_is ∙ ap length (sym s); starts = rw s c.starts }

    pub count-fuse : (n : CodeRun) → (1 ≤ r.len) × (next ≡ Some n) × (r.start + r.len ≡ n.start) → Counted w (k - 1) made (Some r)
    count-fuse n (some, is, ends) =
        let s = left_onto w k p low e some in
        let o = onto_starts (as_run r) (left w k) n c.starts is ends in
        record {
          within = omega (arith, c.within);
          made_is = c.made_is ∙ sym o.0 ∙ ap length (sym s);
          starts = rw s (o.1 r refl);
        }

    pub count-part : (1 ≤ r.len) × ((q : CodeRun) → next ≡ Some q → r.start + r.len ≡ q.start → ⊥) → Counted w (k - 1) (made + 1) (Some r)
    unfolding Starts
    count-part (some, apart) =
        let s = left_onto w k p low e some ∙ onto_part (as_run r) (left w k) c.starts apart in
        record {
          within = omega (arith, c.within);
          made_is = omega (arith, c.made_is, ap length s);
          starts = rw s (r, refl, refl);
        }
