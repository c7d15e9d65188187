-- Every consistent extension is in the plain listing.
use Rattle.std.specs.Prelude.{◌≡◌, refl, length, ℕ, suc, ◌≤◌, max}
use Rattle.std.proofs.Common.{ap, sym, ◌∙◌, length-append, arith}
use mathlib.Core.List.{List, [], ◌∷◌, ◌++◌, append-nil, nil≢cons, Memᴰ}
use Rattle.std.proofs.Math.Option.{Option, some}
use Rattle.term_spec.specs.Value.{Value, bracketed, contents, same?, takes?}
use Rattle.term_spec.proofs.ValueLaws.{contents-bracketed}
use Rattle.match_spec.specs.Element.{Element, lit, opening, closing, call, one, many, Level, Levels, Env, on_top, wrap, push, put, Ones, entry}
use Rattle.match_spec.specs.Listing.{first, enter, leave, cuts, finish, candidates}
use Rattle.match_spec.proofs.SoundLaws.{after, Numbered, guard_mem, each_mem, bind_mem, Extends}

-- ---- what the levels were before one element was put in front ----

pub on_top_inv : {c : Level} {st : Levels} (f : Level → Level) (X : Levels) → on_top f X ≡ c ∷ st → (t : Level) × (X ≡ t ∷ st) × (c ≡ f t)
unfolding on_top
on_top_inv f [] e = absurd (nil≢cons e)
on_top_inv f (t ∷ r) e = (t, cc, cc)

pub wrap_inv : {c : Level} {st : Levels} (X : Levels) → wrap X ≡ c ∷ st → (l : Level) × (t : Level) × (X ≡ l ∷ (t ∷ st)) × (c ≡ bracketed l ∷ t)
unfolding wrap
wrap_inv [] e = absurd (nil≢cons e)
wrap_inv (l ∷ []) e = absurd (nil≢cons e)
wrap_inv (l ∷ (t ∷ r)) e = (l, t, cc, cc)

pub push_inv : {c : Level} {st : Levels} (X : Levels) → push X ≡ c ∷ st → (t : Level) × (r : Levels) × (X ≡ t ∷ r) × (c ≡ []) × (st ≡ t ∷ r)
unfolding push
push_inv [] e = absurd (nil≢cons e)
push_inv (t ∷ r) e = (t, r, refl, cc, cc)

after_le : (p : List (Element ℕ)) (k : ℕ) → k ≤ after p k
unfolding after
after_le [] k = omega arith
after_le (lit v ∷ p) k = after_le p k
after_le (opening ∷ p) k = after_le p k
after_le (closing ∷ p) k = after_le p k
after_le (call ∷ p) k = after_le p k
after_le (one a n ∷ p) k = omega (arith, after_le p (max k (suc n)))
after_le (many n ∷ p) k = omega (arith, after_le p (max k (suc n)))

finish_mem : {B env : Env} {ls : Levels} → ls ≡ [] ∷ [] → B ≡ env → Memᴰ B (finish ls env)
unfolding finish
finish_mem e q = rw e (Memᴰ.head q)

no_more : {B : Env} (env new : Env) → B ≡ env ++ new → length B ≡ length env → B ≡ env
no_more env [] e l = e ∙ append-nil env
no_more env (y ∷ new) e l = absurd (let z = ap length e in omega (arith, simp length-append at z))

first_mem : {B : Type 0} {x : B} {c t : Level} {st : Levels} (f : Value → Levels → List B) (v : Value) → c ≡ v ∷ t → Memᴰ x (f v (t ∷ st))
    → Memᴰ x (first (c ∷ st) f)
unfolding first
first_mem f v e m = rw e m

enter_mem : {B : Type 0} {x : B} (o : Option Level) (l : Level) (f : Level → List B) → o ≡ some l → Memᴰ x (f l) → Memᴰ x (enter o f)
unfolding enter
enter_mem o l f e m = rw e m

cuts_mem : {B : Type 0} {x : B} {c : Level} {st : Levels} (f : Level → Levels → List B) (a b : Level) → c ≡ a ++ b → Memᴰ x (f a (b ∷ st))
    → Memᴰ x (cuts (c ∷ st) f)
unfolding cuts
cuts_mem {st} f a b e m = rw e (each_mem (λ s t. f s (t ∷ st)) a b m)

leave_mem : {B : Type 0} {x : B} {c t : Level} {st r : Levels} (f : Levels → List B) → c ≡ [] → st ≡ t ∷ r → Memᴰ x (f (t ∷ r)) → Memᴰ x (leave (c ∷ st) f)
unfolding leave
leave_mem f e q m = rw (e, q) m

-- Every consistent extension is listed.
pub complete : (p : List (Element ℕ)) (c : Level) (st : Levels) (env : Env) {B : Env} → Numbered p (length env) → Extends p (c ∷ st) env B
    → Memᴰ B (candidates p (c ∷ st) env)
unfolding Numbered candidates put Ones after
complete [] c st env counted x = let (new, e) = x.keeps in finish_mem (sym x.gives) (no_more env new e x.names)
complete (lit v ∷ p) c st env {B} counted x =
    let (t, q, e) = on_top_inv (v ∷◌) (put p (entry B)) x.gives in
    first_mem _ v e (guard_mem (same? v v) refl (complete p t st env counted (record { keeps = x.keeps; names = x.names; ones = x.ones; gives = q })))
complete (opening ∷ p) c st env {B} counted x =
    let (l, t, q, e) = wrap_inv (put p (entry B)) x.gives in
    first_mem _ (bracketed l) e
    (enter_mem (contents (bracketed l)) l _ (contents-bracketed l)
    (complete p l (t ∷ st) env counted (record { keeps = x.keeps; names = x.names; ones = x.ones; gives = q })))
complete (closing ∷ p) c st env {B} counted x =
    let (t, r, q, e, z) = push_inv (put p (entry B)) x.gives in
    leave_mem _ e z (complete p t r env counted (record { keeps = x.keeps; names = x.names; ones = x.ones; gives = q }))
complete (call ∷ p) c st env counted x = absurd (nil≢cons x.gives)
complete (one k n ∷ p) c st env {B} counted x =
    let (t, q, e) = on_top_inv (entry B n ++◌) (put p (entry B)) x.gives in
    let (w, v, tk) = x.ones.0 in
    first_mem _ w (e ∙ ap (◌++ t) v) (guard_mem (takes? k w) tk
    (bind_mem n (w ∷ []) env B counted.0 x.keeps v (omega (arith, x.names, after_le p (max (length env) (suc n))))
    (λ env' b ks. complete p t st env' (rw b.size counted.1) (record { keeps = ks; names = rw b.size x.names; ones = x.ones.1; gives = q }))))
complete (many n ∷ p) c st env {B} counted x =
    let (t, q, e) = on_top_inv (entry B n ++◌) (put p (entry B)) x.gives in
    cuts_mem _ (entry B n) t e
    (bind_mem n (entry B n) env B counted.0 x.keeps refl (omega (arith, x.names, after_le p (max (length env) (suc n))))
    (λ env' b ks. complete p t st env' (rw b.size counted.1) (record { keeps = ks; names = rw b.size x.names; ones = x.ones; gives = q })))
