-- Laws of the deepest bracket of a run, and of the tables that have it for each block: one law for both sizes of block.
use Rattle.std.specs.Prelude.{◌≡◌, refl, List, [], ◌∷◌, ◌++◌, true, length, drop, set, replicate}
use Rattle.std.proofs.Math.Path.{ap}
use Rattle.std.proofs.Common.{ap₂, sym, ◌∙◌, get_or-set_same, suc-mul, mul-le-mul_right}
use Rattle.std.proofs.Math.ListN.{get_or}
use Rattle.std.proofs.Math.Seq.{get_or-set_other}
use Rattle.std.proofs.lemmas.List.{set-get_or}
use Prim.Native.Nat.{ℕ, suc, zero, ◌+◌, ◌*◌, ◌-◌, ◌/◌, ◌<◌, ◌≤◌, max, min}
use Rattle.std.proofs.Math.Decide.{ℕ_discrete, dec_lt}
use native.Mathlib.Omega.{arith}
use Rattle.term_spec.proofs.BoolLaws.{true-T}
use Rattle.term_spec.proofs.ListLaws.{zeros-at}
use Rattle.term_spec.specs.Words.{decode, record_at}
use Rattle.term_spec.proofs.WordsLaws.{decode-snoc, record_drop}
use Rattle.term_spec.specs.Term.{Term, term_layout, bracket_kind, depth_limit, depth_k, deepest, term_rule}
use Rattle.term_spec.proofs.TermLaws.{bracket_of, rule_by_kind}
use Rattle.value.specs.Check.{run_of}
use Rattle.value.specs.CheckLaws.{depth_bracket, depth_other}
use Rattle.value.specs.Blocks.{spec_low_block, spec_high_block, Whole, Blocks, deepened, Filled, Tables}

-- ---- the deepest bracket of a run ----

pub deepest_none : (w : List ℕ) (s : ℕ) → 0 ≡ deepest (run_of w s 0)
unfolding deepest run_of decode
deepest_none w s = refl

deepest-snoc : (ts : List Term) (t : Term) → deepest (ts ++ (t ∷ [])) ≡ max (deepest ts) (depth_k t.kind t)
unfolding deepest
deepest-snoc [] t = omega arith
deepest-snoc (u ∷ ts) t = omega (arith, deepest-snoc ts t)

-- a run with one term more
run-snoc : (w : List ℕ) (s i : ℕ) → run_of w s (suc i) ≡ run_of w s i ++ (record_at term_layout w (s + i) ∷ [])
unfolding run_of
run-snoc w s i = decode-snoc term_layout i (drop (s * term_layout.width) w) ∙ ap (λ t. decode term_layout i (drop (s * term_layout.width) w) ++ (t ∷ [])) (record_drop term_layout s i w)

-- the depth of term i
abbrev depth_at : List ℕ → ℕ → ℕ
depth_at w i = depth_k (record_at term_layout w i).kind (record_at term_layout w i)

deepest-more : (w : List ℕ) (s i : ℕ) → deepest (run_of w s (suc i)) ≡ max (deepest (run_of w s i)) (depth_at w (s + i))
deepest-more w s i = ap deepest (run-snoc w s i) ∙ deepest-snoc (run_of w s i) (record_at term_layout w (s + i))

-- a run in two parts
deepest-add : (w : List ℕ) (s i m : ℕ) → deepest (run_of w s (i + m)) ≡ max (deepest (run_of w s i)) (deepest (run_of w (s + i) m))
deepest-add w s i zero = let z : i + zero ≡ i = omega arith in rw z (omega (arith, deepest_none w (s + i)))
deepest-add w s i (suc m) =
    let z : i + suc m ≡ suc (i + m) = omega arith in
    let y : s + (i + m) ≡ s + i + m = omega arith in
    rw z (omega (arith, deepest-more w s (i + m), deepest-more w (s + i) m, deepest-add w s i m, ap (depth_at w) y))

pub deepest-parts : (w : List ℕ) (s i m : ℕ) {deep d more : ℕ} → deep ≡ deepest (run_of w s i) → d ≡ deepest (run_of w (s + i) m)
    → more ≡ max deep d → more ≡ deepest (run_of w s (i + m))
deepest-parts w s i m p q e = e ∙ ap₂ max p q ∙ sym (deepest-add w s i m)

pub deepest-one : (w : List ℕ) (p : ℕ) (t : Term) {d : ℕ} → t ≡ record_at term_layout w p → d ≡ depth_k t.kind t → d ≡ deepest (run_of w p 1)
deepest-one w p t e q =
    let z : p + 0 ≡ p = omega arith in
    q ∙ ap (λ u. depth_k u.kind u) e ∙ omega (arith, deepest-more w p 0, deepest_none w p, ap (depth_at w) z)

-- ---- reading the tables ----

pub whole_block : (w : List ℕ) (m i : ℕ) (table : List ℕ) (k p : ℕ) → Whole w m i table → k * m ≡ p → p + m ≤ i → get_or table k 0 ≡ deepest (run_of w p m)
whole_block w m i table k p h e l = h.holds k (omega arith) ∙ ap (λ q. deepest (run_of w q m)) e

whole_below : {w : List ℕ} {m i j : ℕ} {table : List ℕ} → Whole w m i table → j ≤ i → Whole w m j table
whole_below h l = record { long = omega (arith, h.long); holds = λ k q. h.holds k (omega arith) }

pub blocks_below : {w : List ℕ} {i j : ℕ} {low high : List ℕ} → Blocks w i low high → j ≤ i → Blocks w j low high
blocks_below b l = record { lows = whole_below b.lows l; highs = whole_below b.highs l }

-- ---- filling them ----

-- an entry that is as deep already is left
pub deepened_none : (table : List ℕ) (k : ℕ) {d : ℕ} → d ≤ get_or table k 0 → table ≡ deepened table k d
unfolding deepened
deepened_none table k {d} h = let z : max (get_or table k 0) d ≡ get_or table k 0 = omega arith in rw (z, set-get_or) refl

pub deepened-more : (table : List ℕ) (k : ℕ) {d : ℕ} → get_or table k 0 < d → set table k d ≡ deepened table k d
unfolding deepened
deepened-more table k {d} h = let z : max (get_or table k 0) d ≡ d = omega arith in rw z refl

pub ruleset deepened_one = (deepened_none, deepened-more)

filled_none : (w : List ℕ) (m n : ℕ) → Filled w m 0 (replicate n 0)
unfolding Filled
filled_none w m n k = let z : min m (0 - k * m) ≡ 0 = omega arith in zeros-at n k ∙ rw z (deepest_none w (k * m))

module _ (w : List ℕ) (m i j : ℕ) (table : List ℕ) (d : ℕ) (f : Filled w m i table) (low : j * m ≤ i) (high : i < j * m + m) where
  -- the block of term i has one term more, each other block has those that it had
  block_same : d ≡ depth_at w i → max (get_or table j 0) d ≡ deepest (run_of w (j * m) (min m (i + 1 - j * m)))
  unfolding Filled
  block_same e =
      let z : min m (i + 1 - j * m) ≡ suc (min m (i - j * m)) = omega arith in
      let y : j * m + min m (i - j * m) ≡ i = omega arith in
      rw z (omega (arith, f j, deepest-more w (j * m) (min m (i - j * m)), ap (depth_at w) y))

  block_other : (k : ℕ) → (k ≡ j → ⊥) → min m (i - k * m) ≡ min m (i + 1 - k * m)
  block_other k h = go (dec_lt k j)
    where
      go : Dec (k < j) → min m (i - k * m) ≡ min m (i + 1 - k * m)
      go (yes l) = omega (arith, suc-mul k m, mul-le-mul_right m l)
      go (no l) = let s : suc j ≤ k = omega (arith, h) in omega (arith, suc-mul j m, mul-le-mul_right m s)

  filled_more : j < length table → d ≡ depth_at w i → Filled w m (i + 1) (deepened table j d)
  unfolding deepened Filled
  filled_more l e k = go (ℕ_discrete k j)
    where
      go : Dec (k ≡ j) → get_or (set table j (max (get_or table j 0) d)) k 0 ≡ deepest (run_of w (k * m) (min m (i + 1 - k * m)))
      go (yes p) = rw p (get_or-set_same table j (max (get_or table j 0) d) 0 l ∙ block_same e)
      go (no p) = get_or-set_other table j k (max (get_or table j 0) d) 0 p ∙ f k ∙ ap (λ x. deepest (run_of w (k * m) x)) (block_other k p)

filled-whole : {w : List ℕ} {m i : ℕ} {table : List ℕ} → Filled w m i table → i ≤ length table * m → Whole w m i table
unfolding Filled
filled-whole {w} {m} {i} f h = record {
  long = h;
  holds = λ k l. let z : min m (i - k * m) ≡ m = omega arith in f k ∙ ap (λ x. deepest (run_of w (k * m) x)) z;
}

-- ---- the two tables, over the terms checked ----

module _ (w : List ℕ) where
  pub tables_none : (n m : ℕ) → Tables w 0 (replicate n 0) (replicate m 0)
  tables_none n m = record { lows = filled_none w spec_low_block n; highs = filled_none w spec_high_block m }

  pub tables_blocks : {i : ℕ} {low high : List ℕ} → Tables w i low high → i ≤ length low * spec_low_block → i ≤ length high * spec_high_block → Blocks w i low high
  tables_blocks f l h = record { lows = filled-whole f.lows l; highs = filled-whole f.highs h }

  pub tables_more : {i : ℕ} {t : Term} {low high low' high' : List ℕ} → Tables w i low high → i < length low * spec_low_block → i < length high * spec_high_block → t ≡ record_at term_layout w i
      → low' ≡ deepened low (i / spec_low_block) (depth_k t.kind t) → high' ≡ deepened high (i / spec_high_block) (depth_k t.kind t) → Tables w (i + 1) low' high'
  tables_more {i} f l h e p q =
      let d = ap (λ u. depth_k u.kind u) e in
      rw (p, q) (record {
        lows = filled_more w spec_low_block i (i / spec_low_block) _ _ f.lows (omega arith) (omega arith) (omega arith) d;
        highs = filled_more w spec_high_block i (i / spec_high_block) _ _ f.highs (omega arith) (omega arith) (omega arith) d;
      })

-- a term that keeps the rule is at most 255 deep, so that a byte has its depth
pub depth_small : (names : List ℕ) (below : List Term) (t : Term) → true ≡ term_rule names below t → depth_k t.kind t ≤ depth_limit
depth_small names below t h = go (ℕ_discrete t.kind bracket_kind)
  where
    go : Dec (t.kind ≡ bracket_kind) → depth_k t.kind t ≤ depth_limit
    go (yes e) = omega (arith, depth_bracket t.kind t e, (bracket_of t.kind names below t e (rule_by_kind names below t (true-T _ (sym h)))).shallow)
    go (no n) = omega (arith, depth_other t.kind t n)
