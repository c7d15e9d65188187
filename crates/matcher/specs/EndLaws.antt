-- Where a level or the pattern ends: what the walk finds there, and that a known e-variable that ends its level with another number of terms
-- finds nothing.
use Rattle.std.proofs.Math.Path.{◌≡◌, refl, ap, sym}
use Rattle.std.proofs.Common.{◌∙◌, subst, arith}
use mathlib.Core.List.{List, [], ◌∷◌}
use Rattle.std.proofs.Math.Option.{Option, some, none}
use Rattle.std.specs.Prelude.{Bool, true, get_or, ℕ, ◌+◌, ◌-◌, ◌<◌, ◌≤◌}
use Rattle.std.proofs.Math.ListN.{length, length-append}
use Rattle.std.proofs.lemmas.List.{length-map}
use Rattle.std.proofs.Math.Decide.{dec_lt}
use Rattle.term_spec.proofs.ListLaws.{part_length}
use Rattle.term_spec.specs.Term.{Term, Run, no_run, part}
use Rattle.term_spec.specs.Value.{values, canon}
use Rattle.term_spec.proofs.TermLaws.{values_length}
use Rattle.match_spec.specs.Element.{Element, lit, opening, closing, call, one, many, Level}
use Rattle.match_spec.specs.Listing.{enter}
use Rattle.match_spec.specs.Walk.{Event, hit, Reading, runs, cells_of, strip, ends, if_empty, finish_walk, leave_level, top_level, spread, walk}
use Rattle.match_spec.proofs.WalkLaws.{strip-sound}
use Rattle.match_spec.proofs.RunLaws.{Inside}
use Rattle.steps.specs.Stays.{Sound, Stays}

-- ---- what the cells of a run inside the terms are ----

pub cells_size : (names : List ℕ) (ts : List Term) (r : Run) → Inside (length ts) r → length (cells_of names ts r) ≡ r.len
unfolding cells_of
cells_size names ts r h =
    length-map (part (values names ts) r) canon ∙ part_length (values names ts) r.start r.len (omega (arith, values_length names ts))

-- a level with terms left gives nothing where it has to end
more_left : (c : Level) (l : List (Event (List Run))) → 1 ≤ length c → if_empty c l ≡ []
unfolding if_empty
more_left [] l h = absurd (omega arith)
more_left (v ∷ c) l h = refl

-- ---- the end of the pattern ----

module _ (names : List ℕ) (ts : List Term) (m : ℕ) (r : Run) (env : List Run) where
  open_end : (st : List Run) → length st ≡ 0 → walk (runs names ts) [] (r ∷ st) env ≡ if_empty (cells_of names ts r) (hit env ∷ [])
  unfolding walk finish_walk
  open_end [] e = refl
  open_end (q ∷ st) e = absurd (omega arith)

  none_left : (c : Level) (l : List (Event (List Run))) → length c ≡ 0 → if_empty c l ≡ l
  unfolding if_empty
  none_left [] l h = refl
  none_left (v ∷ c) l h = absurd (omega arith)

  module _ (p : List (Element ℕ)) (e : p ≡ []) (st : List Run) (s : Stays (length ts) p m r st env) where
    end_around : length st ≡ 0
    unfolding Sound
    end_around = (subst (λ z. Sound z (length st) (length env) m) e s.sound).0

    pub end_all : length env ≡ m
    unfolding Sound
    end_all = (subst (λ z. Sound z (length st) (length env) m) e s.sound).1

    pub end_more : (r.len ≡ 0 → ⊥) → walk (runs names ts) p (r ∷ st) env ≡ []
    end_more h = ap (λ z. walk (runs names ts) z (r ∷ st) env) e ∙ open_end st end_around
        ∙ more_left (cells_of names ts r) _ (omega (arith, cells_size names ts r s.level_in))

    pub end_hit : r.len ≡ 0 → walk (runs names ts) p (r ∷ st) env ≡ hit env ∷ []
    end_hit h = ap (λ z. walk (runs names ts) z (r ∷ st) env) e ∙ open_end st end_around
        ∙ none_left (cells_of names ts r) _ (cells_size names ts r s.level_in ∙ h)

-- ---- a known e-variable that ends its level ----

module _ (names : List ℕ) (ts : List Term) (r : Run) (st env : List Run) (some : 1 ≤ length (cells_of names ts r)) where
  -- a level that ends with terms left has no candidate
  ends_early : (p : List (Element ℕ)) → ends p ≡ true → walk (runs names ts) p (r ∷ st) env ≡ []
  unfolding walk ends finish_walk leave_level
  ends_early [] e = go st
    where
      go : (us : List Run) → finish_walk (runs names ts) (r ∷ us) env ≡ []
      go [] = more_left (cells_of names ts r) _ some
      go (q ∷ us) = refl
  ends_early (lit v ∷ p) e = let z : ◌≡◌ {A = ℕ} 0 1 = cc in absurd (omega arith)
  ends_early (opening ∷ p) e = let z : ◌≡◌ {A = ℕ} 0 1 = cc in absurd (omega arith)
  ends_early (closing ∷ p) e = go st
    where
      go : (us : List Run) → leave_level (runs names ts) (r ∷ us) (λ z. walk (runs names ts) p z env) ≡ []
      go [] = refl
      go (q ∷ us) = more_left (cells_of names ts r) _ some
  ends_early (call ∷ p) e = let z : ◌≡◌ {A = ℕ} 0 1 = cc in absurd (omega arith)
  ends_early (one k n ∷ p) e = let z : ◌≡◌ {A = ℕ} 0 1 = cc in absurd (omega arith)
  ends_early (many n ∷ p) e = let z : ◌≡◌ {A = ℕ} 0 1 = cc in absurd (omega arith)

-- a known e-variable takes its own terms
spread_known : {P : Type 0} (rd : Reading Run) (d : Dec P) (b : Bool) (x : Run) (p : List (Element ℕ)) (env : List Run) (r : Run)
    (f : Run → List Run → List (Event (List Run))) → P
    → spread rd d b x p env r f ≡ enter (strip (rd.cells x) (rd.cells r)) (λ t. f (rd.back (length (rd.cells x)) r) env)
unfolding spread
spread_known rd (yes h) b x p env r f k = refl
spread_known rd (no h) b x p env r f k = absurd (h k)

module _ (names : List ℕ) (ts : List Term) (p : List (Element ℕ)) (x : ℕ) (r : Run) (st env : List Run) (inside : Inside (length ts) r) (e : ends p ≡ true)
    (known : x < length env) (v-in : Inside (length ts) (get_or env x no_run)) (apart : (get_or env x no_run).len ≡ r.len → ⊥) where
  abbrev known_run : Run
  known_run = get_or env x no_run

  -- what is left of the level after the variable's terms, if they fit
  after_known : (o : Option Level) → strip (cells_of names ts known_run) (cells_of names ts r) ≡ o
      → let own = length (cells_of names ts known_run) in
      enter o (λ t. walk (runs names ts) p (record { start = r.start + own; len = r.len - own } ∷ st) env) ≡ []
  unfolding enter
  after_known none q = refl
  after_known (some t) q =
      let l : length (cells_of names ts r) ≡ length (cells_of names ts known_run) + length t =
      ap length (strip-sound (cells_of names ts known_run) (cells_of names ts r) t q) ∙ length-append (cells_of names ts known_run) t in
      let a = cells_size names ts r inside in
      let b = cells_size names ts known_run v-in in
      let n : r.len ≡ length (cells_of names ts known_run) → ⊥ = λ z. apart (sym b ∙ sym z) in
      let own = length (cells_of names ts known_run) in
      ends_early names ts _ st env (omega (arith, cells_size names ts (record { start = r.start + own; len = r.len - own }) (omega arith))) p e

  pub known_apart : walk (runs names ts) (many x ∷ p) (r ∷ st) env ≡ []
  unfolding walk top_level
  known_apart =
      spread_known (runs names ts) (dec_lt x (length env)) (ends p) known_run p env r _ known
      ∙ after_known (strip (cells_of names ts known_run) (cells_of names ts r)) refl
