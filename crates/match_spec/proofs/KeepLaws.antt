-- What the walk keeps: a property of the levels going in, passed on by how they are read, and one of lists of events.
use Rattle.std.specs.Prelude.{◌≡◌, Bool, get_or}
use Rattle.std.proofs.Math.Path.{refl, ap}
use Rattle.std.proofs.Common.{◌∙◌, length-append, arith}
use mathlib.Core.List.{List, [], ◌∷◌, ◌++◌, map}
use Rattle.std.proofs.Math.Option.{Option, some, none}
use Rattle.std.proofs.Math.Bool.{true, false}
use Rattle.std.proofs.Math.ListN.{length}
use Prim.Native.Nat.{ℕ, suc, zero, ◌≤◌, ◌<◌}
use Rattle.std.proofs.Math.Decide.{dec_lt}
use Rattle.term_spec.specs.Value.{Value, bracketed, contents, same?, sames?, takes?}
use Rattle.term_spec.proofs.ListLaws.{All, all_snoc}
use Rattle.term_spec.proofs.ValueLaws.{bracketed-contents}
use Rattle.match_spec.specs.Element.{Element, lit, opening, closing, call, one, many, Level}
use Rattle.match_spec.specs.Listing.{guard, enter}
use Rattle.match_spec.specs.Walk.{Event, hit, tried, reached, Reading, strip, rigid_fits, ends, upto, when, with_head}
use Rattle.match_spec.specs.Walk.{if_empty, take_first, leave_level, finish_walk, bind_run, top_level, spread, walk, hits}
use Rattle.match_spec.proofs.WalkLaws.{strip-sound}

-- A pattern with a Call or Block.
unfoldable pub HasCall : {N : Type 0} → List (Element N) → Type 0
HasCall [] = ⊥
HasCall (lit v ∷ p) = HasCall p
HasCall (opening ∷ p) = HasCall p
HasCall (closing ∷ p) = HasCall p
HasCall (call ∷ p) = Unit {0}
HasCall (one k n ∷ p) = HasCall p
HasCall (many n ∷ p) = HasCall p

-- P goes over from a level to what is read of it.
pub record Kept {R : Type 0} (rd : Reading R) (P : R → Type 0) : Type 0 where
  pub front_kept : (k : ℕ) (r : R) → k ≤ length (rd.cells r) → P r → P (rd.front k r)
  pub back_kept : (k : ℕ) (r : R) → k ≤ length (rd.cells r) → P r → P (rd.back k r)
  pub inner_kept : (r : R) (l c : Level) → rd.cells r ≡ bracketed l ∷ c → P r → P (rd.inner r)

-- D holds of the events of a candidate whose entries have P, and goes over from parts to the whole.
pub record Closed {R : Type 0} (P : R → Type 0) (D : List (Event (List R)) → Type 0) : Type 0 where
  pub empty_has : D []
  pub candidate_has : (env : List R) → All P env → D (hit env ∷ [])
  pub split_has : (l : List (Event (List R))) → D l → D (tried ∷ l)
  pub append_has : (a b : List (Event (List R))) → D a → D b → D (a ++ b)

module _ {R : Type 0} (rd : Reading R) (P : R → Type 0) (D : List (Event (List R)) → Type 0) (kept : Kept rd P) (closed : Closed P D) where
  all-upto : (f : ℕ → List (Event (List R))) (m : ℕ) → ((k : ℕ) → k ≤ m → D (f k)) → D (upto f m)
  unfolding upto
  all-upto f zero h = h zero (omega arith)
  all-upto f (suc m) h = closed.append_has (f zero) _ (h zero (omega arith)) (all-upto (λ k. f (suc k)) m (λ k le. h (suc k) (omega arith)))

  all-guard : {Q : Type 0} (d : Dec Q) (l : List (Event (List R))) → D l → D (guard d l)
  unfolding guard
  all-guard (yes h) l k = k
  all-guard (no h) l k = closed.empty_has

  all-when : (b : Bool) (l : List (Event (List R))) → D l → D (when b (tried ∷ l))
  unfolding when
  all-when true l k = closed.split_has l k
  all-when false l k = closed.empty_has

  all-enter : (o : Option Level) (f : Level → List (Event (List R))) → ((l : Level) → o ≡ some l → D (f l)) → D (enter o f)
  unfolding enter
  all-enter none f h = closed.empty_has
  all-enter (some l) f h = h l refl

  all_first : (ls : List R) (f : Value → R → List R → List (Event (List R)))
      → ((v : Value) (c : Level) (r : R) (st : List R) → rd.cells r ≡ v ∷ c → P r → All P (rd.back 1 r ∷ st) → D (f v r (rd.back 1 r ∷ st))) → All P ls
      → D (take_first rd ls f)
  unfolding take_first with_head All
  all_first [] f h a = closed.empty_has
  all_first (r ∷ st) f h a = go (rd.cells r) refl
    where
      go : (c : Level) → rd.cells r ≡ c → D (with_head c (λ v. f v r (rd.back 1 r ∷ st)))
      go [] e = closed.empty_has
      go (v ∷ c) e = h v c r st e a.0 (kept.back_kept 1 r (rw e (omega arith)) a.0, a.1)

  all_empty : (c : Level) (l : List (Event (List R))) → D l → D (if_empty c l)
  unfolding if_empty
  all_empty [] l h = h
  all_empty (v ∷ c) l h = closed.empty_has

  all-leave : (ls : List R) (f : List R → List (Event (List R))) → ((st : List R) → All P st → D (f st)) → All P ls → D (leave_level rd ls f)
  unfolding leave_level All
  all-leave [] f h a = closed.empty_has
  all-leave (r ∷ []) f h a = closed.empty_has
  all-leave (r ∷ (q ∷ st)) f h a = all_empty (rd.cells r) _ (h (q ∷ st) a.1)

  all-finish : (ls env : List R) → All P env → D (finish_walk rd ls env)
  unfolding finish_walk
  all-finish [] env a = closed.empty_has
  all-finish (r ∷ []) env a = all_empty (rd.cells r) _ (closed.candidate_has env a)
  all-finish (r ∷ (q ∷ st)) env a = closed.empty_has

  all-bind : (n : ℕ) (x : R) (f : List R → List (Event (List R))) (env : List R) (d : Dec (n < length env)) → P x → All P env
      → ((e : List R) → All P e → D (f e)) → D (bind_run rd n x f env d)
  unfolding bind_run
  all-bind n x f env (yes h) px a i = all-guard (sames? (rd.cells (get_or env n rd.nothing)) (rd.cells x)) (f env) (i env a)
  all-bind n x f env (no h) px a i = i (env ++ (x ∷ [])) (all_snoc P env x a px)

  all-spread : {Q : Type 0} (d : Dec Q) (e : Bool) (x : R) (p : List (Element ℕ)) (env : List R) (r : R) (f : R → List R → List (Event (List R))) → P r
      → All P env
      → ((q : R) (v : List R) → P q → All P v → D (f q v)) → D (spread rd d e x p env r f)
  unfolding spread
  all-spread (yes h) e x p env r f pr a i =
      all-enter (strip (rd.cells x) (rd.cells r)) _ (λ t z. i (rd.back (length (rd.cells x)) r) env (kept.back_kept _ r (shorter t z) pr) a)
    where
      shorter : (t : Level) → strip (rd.cells x) (rd.cells r) ≡ some t → length (rd.cells x) ≤ length (rd.cells r)
      shorter t z = rw (strip-sound (rd.cells x) (rd.cells r) t z, length-append) (omega arith)
  all-spread (no h) true x p env r f pr a i =
      i (rd.back (length (rd.cells r)) r) (env ++ (r ∷ [])) (kept.back_kept _ r (omega arith) pr) (all_snoc P env r a pr)
  all-spread (no h) false x p env r f pr a i = all-upto _ (length (rd.cells r))
      (λ k le. all-when (rigid_fits p zero (map rd.cells env) (rd.cells (rd.back k r))) _
      (i (rd.back k r) (env ++ (rd.front k r ∷ [])) (kept.back_kept k r le pr) (all_snoc P env (rd.front k r) a (kept.front_kept k r le pr))))

  all-top : (ls : List R) (f : R → List R → List (Event (List R))) → ((r : R) (st : List R) → P r → All P st → D (f r st)) → All P ls → D (top_level ls f)
  unfolding top_level All
  all-top [] f h a = closed.empty_has
  all-top (r ∷ st) f h a = h r st a.0 a.1

  -- Such a property holds of all the walk's events, if it holds of a call reached where the pattern has one.
  pub walk_has : (p : List (Element ℕ)) (ls env : List R) → (HasCall p → D (reached ∷ [])) → All P ls → All P env → D (walk rd p ls env)
  unfolding walk All HasCall
  walk_has [] ls env s a b = all-finish ls env b
  walk_has (lit v ∷ p) ls env s a b = all_first ls _ (λ w c r st e pr q. all-guard (same? v w) _ (walk_has p (rd.back 1 r ∷ st) env s q b)) a
  walk_has (opening ∷ p) ls env s a b = all_first ls _ (λ w c r st e pr q. all-enter (contents w) _
      (λ l z. walk_has p (rd.inner r ∷ (rd.back 1 r ∷ st)) env s (kept.inner_kept r l c (e ∙ ap (◌∷ c) (bracketed-contents w l z)) pr, q) b)) a
  walk_has (closing ∷ p) ls env s a b = all-leave ls _ (λ st q. walk_has p st env s q b) a
  walk_has (call ∷ p) ls env s a b = s tt
  walk_has (one k n ∷ p) ls env s a b = all_first ls _ (λ w c r st e pr q. all-guard (takes? k w) _
      (all-bind n (rd.front 1 r) _ env (dec_lt n (length env)) (kept.front_kept 1 r (rw e (omega arith)) pr) b
      (λ v z. walk_has p (rd.back 1 r ∷ st) v s q z))) a
  walk_has (many n ∷ p) ls env s a b = all-top ls _ (λ r st pr q.
      all-spread (dec_lt n (length env)) (ends p) (get_or env n rd.nothing) p env r _ pr b (λ u v pu pv. walk_has p (u ∷ st) v s (pu, q) pv)) a

-- A property that goes over from levels to what is read of them holds of every entry of every candidate.
pub walk-keeps : {R : Type 0} (rd : Reading R) (P : R → Type 0) → Kept rd P → (p : List (Element ℕ)) (ls env : List R) → All P ls → All P env
    → All (All P) (hits (walk rd p ls env))
unfolding All hits
walk-keeps {R} rd P kept p ls env a b = walk_has rd P (λ l. All (All P) (hits l)) kept
    (record { empty_has = tt; candidate_has = λ v h. (h, tt); split_has = λ l h. h; append_has = both }) p ls env (λ h. tt) a b
  where
    both : (a b : List (Event (List R))) → All (All P) (hits a) → All (All P) (hits b) → All (All P) (hits (a ++ b))
    both [] b h k = k
    both (hit B ∷ a) b h k = (h.0, both a b h.1 k)
    both (tried ∷ a) b h k = both a b h k
    both (reached ∷ a) b h k = both a b h k
