-- The walk with its projection lists what the plain listing does, in the same order, whatever its levels are read from.
use Rattle.std.proofs.Math.Path.{◌≡◌, refl, ap, ap₂, sym}
use Rattle.std.proofs.Common.{◌∙◌, length-append}
use mathlib.Core.List.{List, [], ◌∷◌, ◌++◌, map, append-nil, head-eq_of_cons-eq, tail-eq_of_cons-eq, nil≢cons, cons≢nil, Memᴰ}
use Rattle.std.proofs.Math.Option.{Option, some, none}
use Rattle.std.specs.Prelude.{Bool, get_or, take, drop}
use Rattle.std.proofs.Math.Bool.{true, false}
use Rattle.std.proofs.Math.ListN.{length, length-map, get_or-append}
use Rattle.std.proofs.Math.Seq.{drop-length, drop-append_seam}
use Prim.Native.Nat.{ℕ, suc, zero, ◌≤◌, ◌<◌, max}
use Rattle.std.proofs.Math.Decide.{dec_lt}
use native.Mathlib.Omega.{arith}
use Rattle.term_spec.specs.Value.{Value, bracketed, contents, same?, sames?, takes?}
use Rattle.term_spec.proofs.ValueLaws.{contents-bracketed, bracketed-contents}
use Rattle.match_spec.specs.Element.{Element, lit, opening, closing, call, one, many, Level, Levels, Env, put, Ones, entry}
use Rattle.match_spec.specs.Listing.{guard, each, bind_if, bind, first, enter, leave, cuts, finish, candidates}
use Rattle.match_spec.specs.Walk.{Event, hit, tried, reached, Reading, strip, if_fits, at_head, through, if_known, rigid_fits, ends, upto}
use Rattle.match_spec.specs.Walk.{when, with_head, if_empty, take_first, leave_level, finish_walk, bind_run, top_level, spread, walk, hits}
use Rattle.match_spec.proofs.SoundLaws.{Numbered, bound-new, grown, sound}
use Rattle.match_spec.proofs.CompleteLaws.{on_top_inv, wrap_inv, push_inv}

-- What a reading of levels must keep to.
pub record Reads {R : Type 0} (rd : Reading R) : Type 0 where
  pub front_law : (k : ℕ) (r : R) → k ≤ length (rd.cells r) → rd.cells (rd.front k r) ≡ take k (rd.cells r)
  pub back_law : (k : ℕ) (r : R) → k ≤ length (rd.cells r) → rd.cells (rd.back k r) ≡ drop k (rd.cells r)
  pub inner_law : (r : R) (l c : Level) → rd.cells r ≡ bracketed l ∷ c → rd.cells (rd.inner r) ≡ l
  pub nothing_law : rd.cells rd.nothing ≡ []

-- ---- projection ----

strip_is : (x t : Level) → strip x (x ++ t) ≡ some t
unfolding strip
strip_is [] t = refl
strip_is (v ∷ x) t = go (same? v v) (strip_is x t)
  where
    go : (d : Dec (v ≡ v)) → strip x (x ++ t) ≡ some t → ◌≡◌ {A = Option Level} (elim d [ yes h ↦ strip x (x ++ t) | no h ↦ none ]) (some t)
    go (yes h) e = e
    go (no h) e = absurd (h refl)

fits_yes : {P : Type 0} {b : Bool} (d : Dec P) → P → b ≡ true → if_fits d b ≡ true
unfolding if_fits
fits_yes (yes h) p e = e
fits_yes (no h) p e = absurd (h p)

known_yes : {P : Type 0} {b : Bool} (d : Dec P) → (P → b ≡ true) → if_known d b ≡ true
unfolding if_known
known_yes (yes h) e = e h
known_yes (no h) e = refl

at_head_lem : {c t : Level} (f : Value → Level → Bool) (v : Value) → c ≡ v ∷ t → f v t ≡ true → at_head c f ≡ true
unfolding at_head
at_head_lem f v e q = rw e q

through_some : {o : Option Level} (f : Level → Bool) (l : Level) → o ≡ some l → f l ≡ true → through o f ≡ true
unfolding through
through_some f l e q = rw e q

pub strip-at : {c : Level} (x t : Level) → c ≡ x ++ t → strip x c ≡ some t
strip-at x t e = rw e (strip_is x t)

known_value : {B : Env} (n : ℕ) (env : Env) → (new : Env) × (B ≡ env ++ new) → n < length env → entry env n ≡ entry B n
known_value n env (new, e) h = sym (rw e (get_or-append env new [] n h))

-- Where the rest of a pattern fits, its rigid run does: projection loses nothing. The levels pre are those being passed over.
pub put-ahead : (p : List (Element ℕ)) (pre : Levels) (env : Env) (c : Level) (st : Levels) {B : Env} → (new : Env) × (B ≡ env ++ new) → Ones p (entry B)
    → put p (entry B) ≡ pre ++ (c ∷ st) → rigid_fits p (length pre) env c ≡ true
unfolding put Ones rigid_fits
put-ahead [] pre env c st ks os e = refl
put-ahead (lit v ∷ p) [] env c st {B} ks os e =
    let (t, q, z) = on_top_inv (v ∷◌) (put p (entry B)) e in
    at_head_lem _ v z (fits_yes (same? v v) refl (put-ahead p [] env t st ks os q))
put-ahead (lit v ∷ p) (x ∷ pre) env c st {B} ks os e = let (t, q, z) = on_top_inv (v ∷◌) (put p (entry B)) e in put-ahead p (t ∷ pre) env c st ks os q
put-ahead (opening ∷ p) [] env c st {B} ks os e =
    let (l, t, q, z) = wrap_inv (put p (entry B)) e in
    at_head_lem _ (bracketed l) z (through_some _ l (contents-bracketed l) (put-ahead p (l ∷ []) env t st ks os q))
put-ahead (opening ∷ p) (x ∷ pre) env c st {B} ks os e = let (l, t, q, z) = wrap_inv (put p (entry B)) e in put-ahead p (l ∷ (t ∷ pre)) env c st ks os q
put-ahead (closing ∷ p) [] env c st ks os e = refl
put-ahead (closing ∷ p) (x ∷ pre) env c st {B} ks os e = let (t, r, q, z, y) = push_inv (put p (entry B)) e in put-ahead p pre env c st ks os (q ∙ sym y)
put-ahead (call ∷ p) [] env c st ks os e = refl
put-ahead (call ∷ p) (x ∷ pre) env c st ks os e = absurd (nil≢cons e)
put-ahead (one k n ∷ p) [] env c st {B} ks os e =
    let (t, q, z) = on_top_inv (entry B n ++◌) (put p (entry B)) e in
    let (w, v, k') = os.0 in
    at_head_lem _ w (z ∙ ap (◌++ t) v) (fits_yes (takes? k w) k' (put-ahead p [] env t st ks os.1 q))
put-ahead (one k n ∷ p) (x ∷ pre) env c st {B} ks os e =
    let (t, q, z) = on_top_inv (entry B n ++◌) (put p (entry B)) e in put-ahead p (t ∷ pre) env c st ks os.1 q
put-ahead (many n ∷ p) [] env c st {B} ks os e =
    let (t, q, z) = on_top_inv (entry B n ++◌) (put p (entry B)) e in
    known_yes (dec_lt n (length env))
    (λ h. through_some _ t (strip-at (entry env n) t (z ∙ ap (◌++ t) (sym (known_value n env ks h)))) (put-ahead p [] env t st ks os q))
put-ahead (many n ∷ p) (x ∷ pre) env c st {B} ks os e = let (t, q, z) = on_top_inv (entry B n ++◌) (put p (entry B)) e in put-ahead p (t ∷ pre) env c st ks os q

pub strip-sound : (x c t : Level) → strip x c ≡ some t → c ≡ x ++ t
unfolding strip
strip-sound [] c t e = cc
strip-sound (v ∷ x) [] t e = cc
strip-sound (v ∷ x) (w ∷ c) t e = go (same? v w) (strip-sound x c t) e
  where
    go : (d : Dec (v ≡ w)) → (strip x c ≡ some t → c ≡ x ++ t) → (elim d as (λ z. Option Level) [ yes h ↦ strip x c | no h ↦ none ]) ≡ some t
        → w ∷ c ≡ v ∷ (x ++ t)
    go (yes q) ih k = ap₂ ◌∷◌ (sym q) (ih k)
    go (no q) ih k = cc

-- ---- every cut, and where only one of them counts ----

each_none : {A : Type 0} (g : Level → Level → List A) (c : Level) → ((a b : Level) → g a b ≡ []) → each g c ≡ []
unfolding each
each_none g [] h = h [] []
each_none g (v ∷ c) h = rw (h [] (v ∷ c)) (each_none (λ a b. g (v ∷ a) b) c (λ a b. h (v ∷ a) b))

each_same : {A : Type 0} (f g : Level → Level → List A) (c : Level) → ((a b : Level) → f a b ≡ g a b) → each f c ≡ each g c
unfolding each
each_same f g [] h = h [] []
each_same f g (v ∷ c) h = ap₂ ◌++◌ (h [] (v ∷ c)) (each_same (λ a b. f (v ∷ a) b) (λ a b. g (v ∷ a) b) c (λ a b. h (v ∷ a) b))

-- An e-variable that ends its level.
each_last : {A : Type 0} (g : Level → Level → List A) (c : Level) → ((a b : Level) (w : Value) → g a (w ∷ b) ≡ []) → each g c ≡ g c []
unfolding each
each_last g [] h = refl
each_last g (v ∷ c) h = rw (h [] c v) (each_last (λ a b. g (v ∷ a) b) c (λ a b w. h (v ∷ a) b w))

guard_no : {A P : Type 0} (d : Dec P) (l : List A) → (P → ⊥) → guard d l ≡ []
unfolding guard
guard_no (yes h) l n = absurd (n h)
guard_no (no h) l n = refl

guard_iff : {A P Q : Type 0} (d : Dec P) (e : Dec Q) (l : List A) → (P → Q) → (Q → P) → guard d l ≡ guard e l
unfolding guard
guard_iff (yes h) (yes k) l f g = refl
guard_iff (yes h) (no k) l f g = absurd (k (f h))
guard_iff (no h) (yes k) l f g = absurd (h (g k))
guard_iff (no h) (no k) l f g = refl

guard_yes : {A P : Type 0} (d : Dec P) (l : List A) → P → guard d l ≡ l
unfolding guard
guard_yes (yes h) l p = refl
guard_yes (no h) l p = absurd (h p)

-- A known e-variable.
each_known : {A : Type 0} (x c : Level) (g : Level → List A) → each (λ a b. guard (sames? x a) (g b)) c ≡ enter (strip x c) g
unfolding each enter strip
each_known [] [] g = guard_yes (sames? [] []) (g []) refl
each_known [] (w ∷ c) g =
    ap₂ ◌++◌ (guard_yes (sames? [] []) (g (w ∷ c)) refl) (each_none _ c (λ a b. guard_no (sames? [] (w ∷ a)) (g b) nil≢cons)) ∙ append-nil (g (w ∷ c))
each_known (v ∷ x) [] g = guard_no (sames? (v ∷ x) []) (g []) cons≢nil
each_known (v ∷ x) (w ∷ c) g =
    ap (◌++ each (λ a b. guard (sames? (v ∷ x) (w ∷ a)) (g b)) c) (guard_no (sames? (v ∷ x) []) (g (w ∷ c)) cons≢nil) ∙ go (same? v w) (each_known x c g)
  where
    go : (d : Dec (v ≡ w)) → each (λ a b. guard (sames? x a) (g b)) c ≡ enter (strip x c) g
        → each (λ a b. guard (sames? (v ∷ x) (w ∷ a)) (g b)) c ≡ enter (elim d as (λ z. Option Level) [ yes h ↦ strip x c | no h ↦ none ]) g
    go (yes e) ih = each_same _ _ c (λ a b. guard_iff (sames? (v ∷ x) (w ∷ a)) (sames? x a) (g b) tail-eq_of_cons-eq (λ q. ap₂ ◌∷◌ e q)) ∙ ih
    go (no n) ih = each_none _ c (λ a b. guard_no (sames? (v ∷ x) (w ∷ a)) (g b) (λ q. n (head-eq_of_cons-eq q)))

ends_empty : (p : List (Element ℕ)) → ends p ≡ true → (w : Value) (c : Level) (st : Levels) (env : Env) → candidates p ((w ∷ c) ∷ st) env ≡ []
unfolding ends candidates finish leave
ends_empty [] e w c st env = refl
ends_empty (lit v ∷ p) e w c st env = cc
ends_empty (opening ∷ p) e w c st env = cc
ends_empty (closing ∷ p) e w c st env = refl
ends_empty (call ∷ p) e w c st env = refl
ends_empty (one k n ∷ p) e w c st env = cc
ends_empty (many n ∷ p) e w c st env = cc

pub empty : {A : Type 0} (l : List A) → ((x : A) → Memᴰ x l → ⊥) → l ≡ []
empty [] h = refl
empty (x ∷ l) h = absurd (h x (Memᴰ.head refl))

each-upto : {A B : Type 0} (g : List A → List A → List B) (c : List A) → each g c ≡ upto (λ k. g (take k c) (drop k c)) (length c)
unfolding each upto
each-upto g [] = refl
each-upto g (v ∷ c) = ap (g [] (v ∷ c) ++◌) (each-upto (λ a b. g (v ∷ a) b) c)

upto-same : {B : Type 0} (f g : ℕ → List B) (m : ℕ) → ((k : ℕ) → k ≤ m → f k ≡ g k) → upto f m ≡ upto g m
unfolding upto
upto-same f g zero h = h zero (omega arith)
upto-same f g (suc m) h = ap₂ ◌++◌ (h zero (omega arith)) (upto-same (λ k. f (suc k)) (λ k. g (suc k)) m (λ k le. h (suc k) (omega arith)))

-- Where the rigid run does not fit, there is no candidate.
skipped : (p : List (Element ℕ)) (n : ℕ) (a b : Level) (st : Levels) (env : Env) → n ≡ length env → Numbered p (max (length env) (suc n))
    → rigid_fits p zero env b ≡ false → candidates p (b ∷ st) (env ++ (a ∷ [])) ≡ []
skipped p n a b st env le counted no-fit = empty _ (λ B m. go B m)
  where
    go : (B : Env) → Memᴰ B (candidates p (b ∷ st) (env ++ (a ∷ []))) → ⊥
    go B m =
        let bd = bound-new n a env le in
        let x = sound p (b ∷ st) (env ++ (a ∷ [])) (rw bd.size counted) m in
        let t : rigid_fits p zero env b ≡ true = put-ahead p [] env b st (grown _ bd x.keeps) x.ones x.gives in
        let z : ◌≡◌ {A = ℕ} 0 1 = cc in omega arith

-- ---- what the walk lists, by what its levels show ----

module _ {R : Type 0} (rd : Reading R) (ok : Reads rd) where
  abbrev S : List R → Env
  S l = map rd.cells l

  abbrev shows : List (Event (List R)) → List Env
  shows l = map S (hits l)

  shows-append : (a b : List (Event (List R))) → shows (a ++ b) ≡ shows a ++ shows b
  unfolding hits
  shows-append [] b = refl
  shows-append (hit B ∷ a) b = ap (S B ∷◌) (shows-append a b)
  shows-append (tried ∷ a) b = shows-append a b
  shows-append (reached ∷ a) b = shows-append a b

  shows-guard : {P : Type 0} (d : Dec P) (l : List (Event (List R))) (m : List Env) → shows l ≡ m → shows (guard d l) ≡ guard d m
  unfolding hits guard
  shows-guard (yes h) l m e = e
  shows-guard (no h) l m e = refl

  shows-upto : (f : ℕ → List (Event (List R))) (m : ℕ) → shows (upto f m) ≡ upto (λ k. shows (f k)) m
  unfolding upto
  shows-upto f zero = refl
  shows-upto f (suc m) = shows-append (f zero) (upto (λ k. f (suc k)) m) ∙ ap (shows (f zero) ++◌) (shows-upto (λ k. f (suc k)) m)

  shows-enter : (o : Option Level) (f : Level → List (Event (List R))) (g : Level → List Env) → ((l : Level) → o ≡ some l → shows (f l) ≡ g l)
      → shows (enter o f) ≡ enter o g
  unfolding hits enter
  shows-enter none f g h = refl
  shows-enter (some l) f g h = h l refl

  shows_first : (ls : List R) (f : Value → R → List R → List (Event (List R))) (g : Value → Levels → List Env)
      → ((v : Value) (c : Level) (r : R) (st : List R) → rd.cells r ≡ v ∷ c → rd.cells (rd.back 1 r) ≡ c → shows (f v r (rd.back 1 r ∷ st)) ≡ g v (c ∷ S st))
      → shows (take_first rd ls f) ≡ first (S ls) g
  unfolding hits take_first first with_head
  shows_first [] f g h = refl
  shows_first (r ∷ st) f g h = go (rd.cells r) refl
    where
      go : (c : Level) → rd.cells r ≡ c → shows (with_head c (λ v. f v r (rd.back 1 r ∷ st))) ≡ first (c ∷ S st) g
      go [] e = refl
      go (v ∷ c) e = h v c r st e (ok.back_law 1 r (rw e (omega arith)) ∙ rw e refl)

  shows-leave : (ls : List R) (f : List R → List (Event (List R))) (g : Levels → List Env) → ((st : List R) → shows (f st) ≡ g (S st))
      → shows (leave_level rd ls f) ≡ leave (S ls) g
  unfolding hits leave_level leave if_empty
  shows-leave [] f g h = refl
  shows-leave (r ∷ []) f g h = go (rd.cells r)
    where
      go : (c : Level) → ◌≡◌ {A = List Env} [] (leave (c ∷ []) g)
      go [] = refl
      go (v ∷ c) = refl
  shows-leave (r ∷ (q ∷ st)) f g h = go (rd.cells r)
    where
      go : (c : Level) → shows (if_empty c (f (q ∷ st))) ≡ leave (c ∷ S (q ∷ st)) g
      go [] = h (q ∷ st)
      go (v ∷ c) = refl

  shows-finish : (ls env : List R) → shows (finish_walk rd ls env) ≡ finish (S ls) (S env)
  unfolding hits finish_walk finish if_empty
  shows-finish [] env = refl
  shows-finish (r ∷ []) env = go (rd.cells r)
    where
      go : (c : Level) → shows (if_empty c (hit env ∷ [])) ≡ finish (c ∷ []) (S env)
      go [] = refl
      go (v ∷ c) = refl
  shows-finish (r ∷ (q ∷ st)) env = go (rd.cells r)
    where
      go : (c : Level) → ◌≡◌ {A = List Env} [] (finish (c ∷ S (q ∷ st)) (S env))
      go [] = refl
      go (v ∷ c) = refl

  S-snoc : (env : List R) (x : R) (y : Level) → rd.cells x ≡ y → S (env ++ (x ∷ [])) ≡ S env ++ (y ∷ [])
  S-snoc [] x y e = ap (◌∷ []) e
  S-snoc (z ∷ env) x y e = ap (rd.cells z ∷◌) (S-snoc env x y e)

  S-at : (env : List R) (n : ℕ) → rd.cells (get_or env n rd.nothing) ≡ entry (S env) n
  S-at [] n = ok.nothing_law
  S-at (y ∷ env) zero = refl
  S-at (y ∷ env) (suc n) = S-at env n

  longer : (env : List R) (x : R) (n : ℕ) → n ≤ length env → (n < length env → ⊥) → length (env ++ (x ∷ [])) ≡ max (length env) (suc n)
  longer env x n le h = simp length-append (omega arith)

  shows-bind : (n : ℕ) (x : R) (y : Level) (f : List R → List (Event (List R))) (g : Env → List Env) (env : List R) (d : Dec (n < length env))
      (d' : Dec (n < length (S env)))
      → n ≤ length env → rd.cells x ≡ y → ((e : List R) → length e ≡ max (length env) (suc n) → shows (f e) ≡ g (S e))
      → shows (bind_run rd n x f env d) ≡ bind_if n y g (S env) d'
  unfolding bind_run bind_if
  shows-bind n x y f g env (yes h) (yes k) le e i = rw (S-at, e) (shows-guard (sames? (entry (S env) n) y) (f env) (g (S env)) (i env (omega arith)))
  shows-bind n x y f g env (yes h) (no k) le e i = absurd (omega (arith, length-map env rd.cells))
  shows-bind n x y f g env (no h) (yes k) le e i = absurd (omega (arith, length-map env rd.cells))
  shows-bind n x y f g env (no h) (no k) le e i = i (env ++ (x ∷ [])) (longer env x n le h) ∙ ap g (S-snoc env x y e)

  -- What holds of the rest of a pattern, wherever it stands.
  abbrev Lists : List (Element ℕ) → Type 0
  Lists p = (ls env : List R) → Numbered p (length env) → shows (walk rd p ls env) ≡ candidates p (S ls) (S env)

  -- A split gone into, and one that the projection passes over.
  shows_split : (p : List (Element ℕ)) (n : ℕ) (st env : List R) (r : R) → n ≡ length env → Numbered p (max (length env) (suc n)) → Lists p → (k : ℕ)
      → k ≤ length (rd.cells r)
      → shows (when (rigid_fits p zero (S env) (rd.cells (rd.back k r))) (tried ∷ walk rd p (rd.back k r ∷ st) (env ++ (rd.front k r ∷ []))))
      ≡ candidates p (drop k (rd.cells r) ∷ S st) (S env ++ (take k (rd.cells r) ∷ []))
  unfolding when hits
  shows_split p n st env r new counted ih k le = rw (ok.back_law k r le) (go (rigid_fits p zero (S env) (drop k (rd.cells r))) refl)
    where
      go : (t : Bool) → rigid_fits p zero (S env) (drop k (rd.cells r)) ≡ t
          → shows (when t (tried ∷ walk rd p (rd.back k r ∷ st) (env ++ (rd.front k r ∷ []))))
          ≡ candidates p (drop k (rd.cells r) ∷ S st) (S env ++ (take k (rd.cells r) ∷ []))
      go true q = ih (rd.back k r ∷ st) (env ++ (rd.front k r ∷ [])) (rw (longer env (rd.front k r) n (omega arith) (λ h. omega arith)) counted)
          ∙ ap₂ (λ c e. candidates p (c ∷ S st) e) (ok.back_law k r le) (S-snoc env (rd.front k r) _ (ok.front_law k r le))
      go false q = sym (skipped p n (take k (rd.cells r)) (drop k (rd.cells r)) (S st) (S env) (rw length-map new) (rw length-map counted) q)

  shows-spread : (p : List (Element ℕ)) (n : ℕ) (st env : List R) (r : R) → n ≤ length env → Numbered p (max (length env) (suc n)) → Lists p
      → (d : Dec (n < length env)) (d' : Dec (n < length (S env))) (e : Bool) → ends p ≡ e
      → shows (spread rd d e (get_or env n rd.nothing) p env r (λ q v. walk rd p (q ∷ st) v))
      ≡ each (λ a b. bind_if n a (λ v. candidates p (b ∷ S st) v) (S env) d') (rd.cells r)
  unfolding spread bind_if
  shows-spread p n st env r le counted ih (yes h) (no k) e q = absurd (omega (arith, length-map env rd.cells))
  shows-spread p n st env r le counted ih (no h) (yes k) e q = absurd (omega (arith, length-map env rd.cells))
  shows-spread p n st env r le counted ih (yes h) (yes k) e q =
      rw S-at (shows-enter (strip (entry (S env) n) (rd.cells r)) _ (λ c. candidates p (c ∷ S st) (S env))
      (λ t z. ih (rd.back (length (entry (S env) n)) r ∷ st) env (let z : length env ≡ max (length env) (suc n) = omega arith in rw z counted)
      ∙ ap (λ c. candidates p (c ∷ S st) (S env)) (rest t z))
      ∙ sym (each_known (entry (S env) n) (rd.cells r) (λ c. candidates p (c ∷ S st) (S env))))
    where
      rest : (t : Level) → strip (entry (S env) n) (rd.cells r) ≡ some t → rd.cells (rd.back (length (entry (S env) n)) r) ≡ t
      rest t z = let w = strip-sound (entry (S env) n) (rd.cells r) t z in
          ok.back_law (length (entry (S env) n)) r (rw (w, length-append) (omega arith)) ∙ rw w (drop-append_seam (entry (S env) n) t)
  shows-spread p n st env r le counted ih (no h) (no k) true q =
      ih (rd.back (length (rd.cells r)) r ∷ st) (env ++ (r ∷ [])) (rw (longer env r n le h) counted)
      ∙ ap₂ (λ c v. candidates p (c ∷ S st) v) (ok.back_law (length (rd.cells r)) r (omega arith) ∙ drop-length (rd.cells r)) (S-snoc env r _ refl)
      ∙ sym (each_last (λ a b. candidates p (b ∷ S st) (S env ++ (a ∷ []))) (rd.cells r) (λ a b w. ends_empty p q w b (S st) (S env ++ (a ∷ []))))
  shows-spread p n st env r le counted ih (no h) (no k) false q =
      shows-upto _ (length (rd.cells r)) ∙ upto-same _ _ (length (rd.cells r)) (shows_split p n st env r (omega arith) counted ih)
      ∙ sym (each-upto (λ a b. candidates p (b ∷ S st) (S env ++ (a ∷ []))) (rd.cells r))

  shows_many : (n : ℕ) (p : List (Element ℕ)) (ls env : List R) → n ≤ length env → Numbered p (max (length env) (suc n)) → Lists p
      → shows (top_level ls (λ r st. spread rd (dec_lt n (length env)) (ends p) (get_or env n rd.nothing) p env r (λ q v. walk rd p (q ∷ st) v)))
      ≡ cuts (S ls) (λ a rest. bind n a (λ v. candidates p rest v) (S env))
  unfolding top_level cuts bind hits
  shows_many n p [] env le counted ih = refl
  shows_many n p (r ∷ st) env le counted ih = shows-spread p n st env r le counted ih (dec_lt n (length env)) (dec_lt n (length (S env))) (ends p) refl

  lists : (p : List (Element ℕ)) → Lists p
  unfolding Numbered walk candidates hits bind
  lists [] ls env counted = shows-finish ls env
  lists (lit v ∷ p) ls env counted =
      shows_first ls _ _ (λ w c r st e q. shows-guard (same? v w) _ _ (lists p (rd.back 1 r ∷ st) env counted ∙ ap (λ z. candidates p (z ∷ S st) (S env)) q))
  lists (opening ∷ p) ls env counted = shows_first ls _ _ (λ w c r st e q. shows-enter (contents w) _ _
      (λ l z. lists p (rd.inner r ∷ (rd.back 1 r ∷ st)) env counted
      ∙ ap₂ (λ a b. candidates p (a ∷ (b ∷ S st)) (S env)) (ok.inner_law r l c (e ∙ ap (◌∷ c) (bracketed-contents w l z))) q))
  lists (closing ∷ p) ls env counted = shows-leave ls _ _ (λ st. lists p st env counted)
  lists (call ∷ p) ls env counted = refl
  lists (one k n ∷ p) ls env counted = shows_first ls _ _ (λ w c r st e q. shows-guard (takes? k w) _ _
      (shows-bind n (rd.front 1 r) (w ∷ []) _ _ env (dec_lt n (length env)) (dec_lt n (length (S env))) counted.0
      (ok.front_law 1 r (rw e (omega arith)) ∙ rw e refl)
      (λ v z. lists p (rd.back 1 r ∷ st) v (rw z counted.1) ∙ ap (λ z. candidates p (z ∷ S st) (S v)) q)))
  lists (many n ∷ p) ls env counted = shows_many n p ls env counted.0 counted.1 (lists p)

pub walk-lists : {R : Type 0} (rd : Reading R) → Reads rd → (p : List (Element ℕ)) (ls env : List R) → Numbered p (length env)
    → map (map rd.cells) (hits (walk rd p ls env)) ≡ candidates p (map rd.cells ls) (map rd.cells env)
walk-lists rd ok p ls env counted = lists rd ok p ls env counted
