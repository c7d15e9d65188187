-- The walk is one turn and then going on; and what a turn keeps: the runs stay inside the terms, the brackets and the names in step with
-- the pattern.
use Rattle.std.specs.Prelude.{◌≡◌, Bool, get_or}
use Rattle.std.proofs.Math.Path.{refl, ap, sym}
use Rattle.std.proofs.Common.{◌∙◌}
use mathlib.Core.List.{List, [], ◌∷◌, ◌++◌}
use Rattle.std.proofs.Math.Option.{Option, some, none}
use Rattle.std.proofs.Math.Bool.{true, false}
use Rattle.std.proofs.Math.ListN.{length, length-append}
use Prim.Native.Nat.{ℕ, suc, zero, ◌+◌, ◌-◌, ◌<◌, ◌≤◌, max}
use Rattle.std.proofs.Math.Decide.{dec_lt}
use native.Mathlib.Omega.{arith}
use Rattle.term_spec.proofs.ListLaws.{All, all_snoc}
use Rattle.term_spec.proofs.ValueLaws.{bracketed-contents}
use Rattle.term_spec.specs.Term.{Term, Run}
use Rattle.term_spec.proofs.TermLaws.{Valid}
use Rattle.term_spec.specs.Value.{Value, contents, same?, sames?, takes?}
use Rattle.match_spec.specs.Element.{Element, lit, opening, closing, call, one, many, Level}
use Rattle.match_spec.specs.Listing.{guard, enter}
use Rattle.match_spec.specs.Walk.{Event, reached, Reading, runs, cells_of, strip, ends, with_head, take_first, if_empty, leave_level, bind_run, top_level, spread}
use Rattle.match_spec.specs.Walk.{walk}
use Rattle.match_spec.proofs.WalkLaws.{strip-sound}
use Rattle.match_spec.proofs.RunLaws.{Inside, inner_inside, cells_few}
use Rattle.steps.specs.Turn.{Turn, stop, next, called, turn_if, turn_enter, turn_head, turn_empty, turn_first, turn_leave, turn_bind, turn_spread, turn_top}
use Rattle.steps.specs.Turn.{turn, one_split, onward}
use Rattle.steps.specs.Stays.{Sound, Stays, Kept, Grows}

-- ---- one turn, and then going on ----

module _ {R : Type 0} (rd : Reading R) (p : List (Element ℕ)) where
  on_stop : onward rd p stop ≡ []
  unfolding onward
  on_stop = refl

  on_next : (ls env : List R) → walk rd p ls env ≡ onward rd p (next ls env)
  unfolding onward
  on_next ls env = refl

  on_if : {P : Type 0} (d : Dec P) (l : List (Event (List R))) (t : Turn R) → l ≡ onward rd p t → guard d l ≡ onward rd p (turn_if d t)
  unfolding guard turn_if
  on_if (yes h) l t e = e
  on_if (no h) l t e = sym on_stop

  on_enter : (o : Option (List Value)) (l : List (Event (List R))) (t : Turn R) → l ≡ onward rd p t → enter o (λ z. l) ≡ onward rd p (turn_enter o t)
  unfolding enter turn_enter
  on_enter none l t e = sym on_stop
  on_enter (some z) l t e = e

  on_head : (c : Level) (f : Value → List (Event (List R))) (g : Value → Turn R) → ((v : Value) → f v ≡ onward rd p (g v))
      → with_head c f ≡ onward rd p (turn_head c g)
  unfolding with_head turn_head
  on_head [] f g h = sym on_stop
  on_head (v ∷ c) f g h = h v

  on_first : (ls : List R) (f : Value → R → List R → List (Event (List R))) (g : Value → R → List R → Turn R)
      → ((v : Value) (r : R) (st : List R) → f v r st ≡ onward rd p (g v r st)) → take_first rd ls f ≡ onward rd p (turn_first rd ls g)
  unfolding take_first turn_first
  on_first [] f g h = sym on_stop
  on_first (r ∷ st) f g h = on_head (rd.cells r) _ _ (λ v. h v r (rd.back 1 r ∷ st))

  on_empty : (c : Level) (l : List (Event (List R))) (t : Turn R) → l ≡ onward rd p t → if_empty c l ≡ onward rd p (turn_empty c t)
  unfolding if_empty turn_empty
  on_empty [] l t e = e
  on_empty (v ∷ c) l t e = sym on_stop

  on_leave : (ls env : List R) → leave_level rd ls (λ st. walk rd p st env) ≡ onward rd p (turn_leave rd ls env)
  unfolding leave_level turn_leave
  on_leave [] env = sym on_stop
  on_leave (r ∷ []) env = sym on_stop
  on_leave (r ∷ (q ∷ st)) env = on_empty (rd.cells r) _ _ (on_next (q ∷ st) env)

  on_bind : (n : ℕ) (x : R) (st env : List R) (d : Dec (n < length env)) → bind_run rd n x (λ e. walk rd p st e) env d ≡ onward rd p (turn_bind rd n x st env d)
  unfolding bind_run turn_bind
  on_bind n x st env (yes h) = on_if (sames? (rd.cells (get_or env n rd.nothing)) (rd.cells x)) _ _ (on_next st env)
  on_bind n x st env (no h) = on_next st (env ++ (x ∷ []))

  on_spread : {P : Type 0} (d : Dec P) (last : Bool) (x : R) (env : List R) (r : R) (st : List R)
      → spread rd d last x p env r (λ q e. walk rd p (q ∷ st) e) ≡ onward rd p (turn_spread rd d last x env r st)
  unfolding spread turn_spread onward one_split
  on_spread (yes h) last x env r st = on_enter (strip (rd.cells x) (rd.cells r)) _ _ (on_next _ env)
  on_spread (no h) true x env r st = refl
  on_spread (no h) false x env r st = refl

  on_top_lem : (ls : List R) (f : R → List R → List (Event (List R))) (g : R → List R → Turn R)
      → ((r : R) (st : List R) → f r st ≡ onward rd p (g r st)) → top_level ls f ≡ onward rd p (turn_top ls g)
  unfolding top_level turn_top
  on_top_lem [] f g h = sym on_stop
  on_top_lem (r ∷ st) f g h = h r st

  on_called : reached ∷ [] ≡ onward rd p called
  unfolding onward
  on_called = refl

  pub walk_turn : (e : Element ℕ) (ls env : List R) → walk rd (e ∷ p) ls env ≡ onward rd p (turn rd e (ends p) ls env)
  unfolding walk turn
  walk_turn (lit v) ls env = on_first ls _ _ (λ w r st. on_if (same? v w) _ _ (on_next st env))
  walk_turn opening ls env = on_first ls _ _ (λ w r st. on_enter (contents w) _ _ (on_next (rd.inner r ∷ st) env))
  walk_turn closing ls env = on_leave ls env
  walk_turn call ls env = on_called
  walk_turn (one k n) ls env = on_first ls _ _ (λ w r st. on_if (takes? k w) _ _ (on_bind n (rd.front 1 r) st env (dec_lt n (length env))))
  walk_turn (many n) ls env = on_top_lem ls _ _ (λ r st. on_spread (dec_lt n (length env)) (ends p) (get_or env n rd.nothing) env r st)

-- ---- what a turn keeps ----

pub sound_most : (p : List (Element ℕ)) (d b m : ℕ) → Sound p d b m → b ≤ m
unfolding Sound
sound_most [] d b m h = omega arith
sound_most (lit v ∷ p) d b m h = sound_most p d b m h
sound_most (opening ∷ p) d b m h = sound_most p (suc d) b m h.1
sound_most (closing ∷ p) zero b m h = absurd h
sound_most (closing ∷ p) (suc d) b m h = sound_most p d b m h
sound_most (call ∷ p) d b m h = sound_most p d b m h
sound_most (one k n ∷ p) d b m h = omega (arith, sound_most p d (max b (suc n)) m h.1)
sound_most (many n ∷ p) d b m h = omega (arith, sound_most p d (max b (suc n)) m h.1)

module _ (names : List ℕ) (ts : List Term) (valid : Valid ts) (p : List (Element ℕ)) (m : ℕ) (r : Run) (st env : List Run) where
  abbrev K : Turn Run → Type 0
  K t = Kept (length ts) p m r st env t

  abbrev rd : Reading Run
  rd = runs names ts

  kept_stop : K stop
  unfolding Kept
  kept_stop = tt

  kept_next : (q : Run) (us new : List Run) → Stays (length ts) p m q us new → K (next (q ∷ us) new)
  unfolding Kept
  kept_next q us new h = h

  kept_if : {P : Type 0} (d : Dec P) (t : Turn Run) → K t → K (turn_if d t)
  unfolding turn_if
  kept_if (yes h) t k = k
  kept_if (no h) t k = kept_stop

  kept-enter : (o : Option (List Value)) (t : Turn Run) → ((l : List Value) → o ≡ some l → K t) → K (turn_enter o t)
  unfolding turn_enter
  kept-enter none t k = kept_stop
  kept-enter (some l) t k = k l refl

  kept_head : (c : Level) (f : Value → Turn Run) → ((v : Value) (l : Level) → c ≡ v ∷ l → K (f v)) → K (turn_head c f)
  unfolding turn_head
  kept_head [] f k = kept_stop
  kept_head (v ∷ c) f k = k v c refl

  kept-first : (f : Value → Run → List Run → Turn Run)
      → ((v : Value) (l : Level) → cells_of names ts r ≡ v ∷ l → K (f v r (record { start = r.start + 1; len = r.len - 1 } ∷ st)))
      → K (turn_first rd (r ∷ st) f)
  unfolding turn_first
  kept-first f k = kept_head (cells_of names ts r) _ k

  -- a level that shows a term has one
  some_left : (v : Value) (l : Level) → cells_of names ts r ≡ v ∷ l → 1 ≤ r.len
  some_left v l e = omega (arith, cells_few names ts r, ap length e)

  module _ (inside : Inside (length ts) r) (around : All (Inside (length ts)) st) (entries : All (Inside (length ts)) env) (few : length st ≤ 32) where
    -- k terms of the level are passed
    passed_in : (k : ℕ) → k ≤ r.len → Inside (length ts) (record { start = r.start + k; len = r.len - k })
    passed_in k h = omega arith

    kept-bind : (n : ℕ) → n ≤ length env → Sound p (length st) (max (length env) (suc n)) m → 1 ≤ r.len → (d : Dec (n < length env))
        → K (turn_bind rd n (record { start = r.start; len = 1 }) (record { start = r.start + 1; len = r.len - 1 } ∷ st) env d)
    unfolding turn_bind
    kept-bind n le s h (yes lt) =
        let z : max (length env) (suc n) ≡ length env = omega arith in
        kept_if (sames? (cells_of names ts (get_or env n rd.nothing)) (cells_of names ts (record { start = r.start; len = 1 }))) _
        (kept_next _ _ _ (record { level_in = passed_in 1 h; around_in = around; entries_in_lem = entries; shallow = few; sound = rw z at s }))
    kept-bind n le s h (no lt) =
        let z : max (length env) (suc n) ≡ length (env ++ (record { start = r.start; len = 1 } ∷ [])) = rw length-append (omega arith) in
        kept_next _ _ _ (record {
          level_in = passed_in 1 h;
          around_in = around;
          entries_in_lem = all_snoc (Inside (length ts)) env _ entries (omega arith);
          shallow = few;
          sound = rw z at s;
        })

    kept-spread : (n : ℕ) → n ≤ length env → Sound p (length st) (max (length env) (suc n)) m → (last : Bool) (x : Run) (d : Dec (n < length env))
        → K (turn_spread rd d last x env r st)
    unfolding turn_spread Kept
    kept-spread n le s last x (yes lt) =
        let z : max (length env) (suc n) ≡ length env = omega arith in
        kept-enter (strip (cells_of names ts x) (cells_of names ts r)) _ (λ l e.
        let h : length (cells_of names ts x) ≤ r.len =
        omega (arith, cells_few names ts r, ap length (strip-sound (cells_of names ts x) (cells_of names ts r) l e), length-append (cells_of names ts x) l) in
        kept_next _ _ _ (record { level_in = passed_in _ h; around_in = around; entries_in_lem = entries; shallow = few; sound = rw z at s }))
    kept-spread n le s true x (no lt) =
        let z : max (length env) (suc n) ≡ length (env ++ (r ∷ [])) = rw length-append (omega arith) in
        record {
          level_in = passed_in _ (cells_few names ts r);
          around_in = around;
          entries_in_lem = all_snoc (Inside (length ts)) env r entries inside;
          shallow = few;
          sound = rw z at s;
        }
    kept-spread n le s false x (no lt) =
        let z : max (length env) (suc n) ≡ suc (length env) = omega arith in
        record { level = refl; around = refl; entries = refl; sound = rw z at s }

    -- the level ends
    kept-leave : (us : List Run) → All (Inside (length ts)) us → length us ≤ 32 → Sound (closing ∷ p) (length us) (length env) m → K (turn_leave rd (r ∷ us) env)
    unfolding turn_leave turn_empty Sound All
    kept-leave [] a l s = absurd s
    kept-leave (q ∷ us) a l s = go (cells_of names ts r)
      where
        go : (c : Level) → K (turn_empty c (next (q ∷ us) env))
        go [] = kept_next q us env (record { level_in = a.0; around_in = a.1; entries_in_lem = entries; shallow = omega arith; sound = s })
        go (v ∷ c) = kept_stop

pub turn-kept : (names : List ℕ) (ts : List Term) → Valid ts → (e : Element ℕ) (p : List (Element ℕ)) (m : ℕ) (last : Bool) (r : Run) (st env : List Run)
    → Stays (length ts) (e ∷ p) m r st env → Kept (length ts) p m r st env (turn (runs names ts) e last (r ∷ st) env)
unfolding turn Sound turn_top Kept All
turn-kept names ts valid (lit v) p m last r st env s =
    kept-first names ts valid p m r st env _ (λ w l e. kept_if names ts valid p m r st env (same? v w) _
    (kept_next names ts valid p m r st env _ _ _ (record {
      level_in = passed_in names ts valid p m r st env s.level_in s.around_in s.entries_in_lem s.shallow 1
          (some_left names ts valid p m r st env w l e);
      around_in = s.around_in;
      entries_in_lem = s.entries_in_lem;
      shallow = s.shallow;
      sound = s.sound;
    })))
turn-kept names ts valid opening p m last r st env s =
    kept-first names ts valid p m r st env _ (λ w l e. kept-enter names ts valid p m r st env (contents w) _ (λ z q.
    kept_next names ts valid p m r st env _ _ _ (record {
      level_in = inner_inside names ts valid r z l (e ∙ ap (◌∷ l) (bracketed-contents w z q));
      around_in = (
        passed_in names ts valid p m r st env s.level_in s.around_in s.entries_in_lem s.shallow 1 (some_left names ts valid p m r st env w l e),
        s.around_in,
      );
      entries_in_lem = s.entries_in_lem;
      shallow = s.sound.0;
      sound = s.sound.1;
    })))
turn-kept names ts valid closing p m last r st env s =
    kept-leave names ts valid p m r st env s.level_in s.around_in s.entries_in_lem s.shallow st s.around_in s.shallow s.sound
turn-kept names ts valid call p m last r st env s = tt
turn-kept names ts valid (one k n) p m last r st env s =
    kept-first names ts valid p m r st env _ (λ w l e. kept_if names ts valid p m r st env (takes? k w) _
    (kept-bind names ts valid p m r st env s.level_in s.around_in s.entries_in_lem s.shallow n s.sound.0 s.sound.1
    (some_left names ts valid p m r st env w l e) (dec_lt n (length env))))
turn-kept names ts valid (many n) p m last r st env s =
    kept-spread names ts valid p m r st env s.level_in s.around_in s.entries_in_lem s.shallow n s.sound.0 s.sound.1
    last _ (dec_lt n (length env))

-- ---- entries are only added ----

module _ {R : Type 0} (rd : Reading R) (env : List R) where
  grows_stop : Grows {R = R} (length env) stop
  unfolding Grows
  grows_stop = tt

  grows_same : (ls : List R) → Grows (length env) (next ls env)
  unfolding Grows
  grows_same ls = omega arith

  grows_one : (ls : List R) (x : R) → Grows (length env) (next ls (env ++ (x ∷ [])))
  unfolding Grows
  grows_one ls x = rw length-append (omega arith)

  grows_if : {P : Type 0} (d : Dec P) (t : Turn R) → Grows (length env) t → Grows (length env) (turn_if d t)
  unfolding turn_if
  grows_if (yes h) t k = k
  grows_if (no h) t k = grows_stop

  grows-enter : (o : Option (List Value)) (t : Turn R) → Grows (length env) t → Grows (length env) (turn_enter o t)
  unfolding turn_enter
  grows-enter none t k = grows_stop
  grows-enter (some l) t k = k

  grows_head : (c : Level) (f : Value → Turn R) → ((v : Value) → Grows (length env) (f v)) → Grows (length env) (turn_head c f)
  unfolding turn_head
  grows_head [] f k = grows_stop
  grows_head (v ∷ c) f k = k v

  grows-first : (ls : List R) (f : Value → R → List R → Turn R) → ((v : Value) (r : R) (st : List R) → Grows (length env) (f v r st))
      → Grows (length env) (turn_first rd ls f)
  unfolding turn_first
  grows-first [] f k = grows_stop
  grows-first (r ∷ st) f k = grows_head (rd.cells r) _ (λ v. k v r (rd.back 1 r ∷ st))

  grows_empty : (c : Level) (ls : List R) → Grows (length env) (turn_empty c (next ls env))
  unfolding turn_empty
  grows_empty [] ls = grows_same ls
  grows_empty (v ∷ c) ls = grows_stop

  grows-leave : (ls : List R) → Grows (length env) (turn_leave rd ls env)
  unfolding turn_leave
  grows-leave [] = grows_stop
  grows-leave (r ∷ []) = grows_stop
  grows-leave (r ∷ (q ∷ st)) = grows_empty (rd.cells r) (q ∷ st)

  grows-bind : (n : ℕ) (x : R) (st : List R) (d : Dec (n < length env)) → Grows (length env) (turn_bind rd n x st env d)
  unfolding turn_bind
  grows-bind n x st (yes h) = grows_if (sames? (rd.cells (get_or env n rd.nothing)) (rd.cells x)) _ (grows_same st)
  grows-bind n x st (no h) = grows_one st x

  grows-spread : {P : Type 0} (d : Dec P) (last : Bool) (x r : R) (st : List R) → Grows (length env) (turn_spread rd d last x env r st)
  unfolding turn_spread Grows
  grows-spread (yes h) last x r st = grows-enter (strip (rd.cells x) (rd.cells r)) _ (grows_same (rd.back (length (rd.cells x)) r ∷ st))
  grows-spread (no h) true x r st = grows_one (rd.back (length (rd.cells r)) r ∷ st) r
  grows-spread (no h) false x r st = tt

  grows-top : (ls : List R) (g : R → List R → Turn R) → ((r : R) (st : List R) → Grows (length env) (g r st)) → Grows (length env) (turn_top ls g)
  unfolding turn_top
  grows-top [] g k = grows_stop
  grows-top (r ∷ st) g k = k r st

  pub turn-grows : (e : Element ℕ) (last : Bool) (ls : List R) → Grows (length env) (turn rd e last ls env)
  unfolding turn Grows
  turn-grows (lit v) last ls = grows-first ls _ (λ w r st. grows_if (same? v w) _ (grows_same st))
  turn-grows opening last ls = grows-first ls _ (λ w r st. grows-enter (contents w) _ (grows_same (rd.inner r ∷ st)))
  turn-grows closing last ls = grows-leave ls
  turn-grows call last ls = tt
  turn-grows (one k n) last ls = grows-first ls _ (λ w r st. grows_if (takes? k w) _ (grows-bind n _ st (dec_lt n (length env))))
  turn-grows (many n) last ls = grows-top ls _ (λ r st. grows-spread (dec_lt n (length env)) last _ r st)
