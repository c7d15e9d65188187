-- Each binding set that the plain listing has is a consistent extension, over levels of brackets and entries by number.
use Rattle.std.specs.Prelude.{◌≡◌, refl, ◌⊎◌, T, length, ℕ, suc, ◌≤◌, ◌<◌, max}
use Rattle.std.proofs.Common.{ap, sym, ◌∙◌, inl, inr, length-append, arith}
use mathlib.Core.List.Memᴰ
use mathlib.Core.List.{List, [], ◌∷◌, ◌++◌, append_assoc, append-nil, Memᴰ}
use Rattle.std.proofs.Math.Option.{Option, some, none}
use Rattle.std.proofs.Math.ListN.{get_or-append}
use Rattle.std.proofs.Math.Seq.{get_or-append_seam, append_snoc}
use Rattle.std.proofs.Math.Decide.{dec_lt}
use Rattle.term_spec.specs.Value.{Value, bracketed, contents, same?, sames?, Single, takes, takes?}
use Rattle.term_spec.proofs.ValueLaws.{bracketed-contents}
use Rattle.match_spec.specs.Element.{Element, lit, opening, closing, call, one, many, Level, Levels, Env, on_top, wrap, push, put, Ones, entry}
use Rattle.match_spec.specs.Listing.{guard, each, bind_if, bind, first, enter, leave, cuts, finish, candidates}

-- How many entries are known after a pattern, k before it.
unfoldable pub after : List (Element ℕ) → ℕ → ℕ
after [] k = k
after (lit v ∷ p) k = after p k
after (opening ∷ p) k = after p k
after (closing ∷ p) k = after p k
after (call ∷ p) k = after p k
after (one a n ∷ p) k = after p (max k (suc n))
after (many n ∷ p) k = after p (max k (suc n))

-- Entries are numbered by first occurrence, k of them known before: so the known ones are always the first.
unfoldable pub Numbered : List (Element ℕ) → ℕ → Type 0
Numbered [] k = Unit {0}
Numbered (lit v ∷ p) k = Numbered p k
Numbered (opening ∷ p) k = Numbered p k
Numbered (closing ∷ p) k = Numbered p k
Numbered (call ∷ p) k = Numbered p k
Numbered (one a n ∷ p) k = (n ≤ k) × Numbered p (max k (suc n))
Numbered (many n ∷ p) k = (n ≤ k) × Numbered p (max k (suc n))

-- B extends the entries env and, put into the pattern, gives the levels ls.
pub record Extends (p : List (Element ℕ)) (ls : Levels) (env B : Env) : Type 0 where
  pub keeps : (new : Env) × (B ≡ env ++ new)
  pub names : length B ≡ after p (length env)
  pub ones : Ones p (entry B)
  pub gives : put p (entry B) ≡ ls

-- ---- what is in a list that the parts of the listing make ----

mem_guard : {A P : Type 0} {x : A} {l : List A} (d : Dec P) → Memᴰ x (guard d l) → P × Memᴰ x l
unfolding guard
mem_guard (yes h) m = (h, m)
mem_guard (no h) m = absurd (Memᴰ.not-nil m)

pub guard_mem : {A P : Type 0} {x : A} {l : List A} (d : Dec P) → P → Memᴰ x l → Memᴰ x (guard d l)
unfolding guard
guard_mem (yes h) p m = m
guard_mem (no h) p m = absurd (h p)

pub mem_each : {A B : Type 0} {x : B} (f : List A → List A → List B) (l : List A) → Memᴰ x (each f l)
    → (a : List A) × (b : List A) × (l ≡ a ++ b) × Memᴰ x (f a b)
unfolding each
mem_each f [] m = ([], [], refl, m)
mem_each {A} {B} {x} f (v ∷ l) m = go (Memᴰ.append_cases (f [] (v ∷ l)) m) (λ k. mem_each (λ a b. f (v ∷ a) b) l k)
  where
    go : Memᴰ x (f [] (v ∷ l)) ⊎ Memᴰ x (each (λ a b. f (v ∷ a) b) l)
        → (Memᴰ x (each (λ a b. f (v ∷ a) b) l) → (a : List A) × (b : List A) × (l ≡ a ++ b) × Memᴰ x (f (v ∷ a) b))
        → (a : List A) × (b : List A) × (v ∷ l ≡ a ++ b) × Memᴰ x (f a b)
    go (inl k) ih = ([], v ∷ l, refl, k)
    go (inr k) ih = let r = ih k in (v ∷ r.0, r.1, ap (v ∷◌) r.2, r.3)

pub each_mem : {A B : Type 0} {x : B} (f : List A → List A → List B) (a b : List A) → Memᴰ x (f a b) → Memᴰ x (each f (a ++ b))
unfolding each
each_mem f [] [] m = m
each_mem f [] (v ∷ b) m = Memᴰ.append_left _ m
each_mem f (v ∷ a) b m = Memᴰ.append_right (f [] (v ∷ (a ++ b))) (each_mem (λ s t. f (v ∷ s) t) a b m)

mem_first : {B : Type 0} {x : B} (f : Value → Levels → List B) (ls : Levels) → Memᴰ x (first ls f)
    → (v : Value) × (c : Level) × (st : Levels) × (ls ≡ (v ∷ c) ∷ st) × Memᴰ x (f v (c ∷ st))
unfolding first
mem_first f [] m = absurd (Memᴰ.not-nil m)
mem_first f ([] ∷ st) m = absurd (Memᴰ.not-nil m)
mem_first f ((v ∷ c) ∷ st) m = (v, c, st, refl, m)

mem_enter : {B : Type 0} {x : B} {f : Level → List B} (o : Option Level) → Memᴰ x (enter o f) → (l : Level) × (o ≡ some l) × Memᴰ x (f l)
unfolding enter
mem_enter none m = absurd (Memᴰ.not-nil m)
mem_enter (some l) m = (l, refl, m)

mem_leave : {B : Type 0} {x : B} (f : Levels → List B) (ls : Levels) → Memᴰ x (leave ls f)
    → (c : Level) × (st : Levels) × (ls ≡ [] ∷ (c ∷ st)) × Memᴰ x (f (c ∷ st))
unfolding leave
mem_leave f [] m = absurd (Memᴰ.not-nil m)
mem_leave f ([] ∷ []) m = absurd (Memᴰ.not-nil m)
mem_leave f ([] ∷ (c ∷ st)) m = (c, st, refl, m)
mem_leave f ((v ∷ c) ∷ st) m = absurd (Memᴰ.not-nil m)

mem_cuts : {B : Type 0} {x : B} (f : Level → Levels → List B) (ls : Levels) → Memᴰ x (cuts ls f)
    → (a : Level) × (b : Level) × (st : Levels) × (ls ≡ (a ++ b) ∷ st) × Memᴰ x (f a (b ∷ st))
unfolding cuts
mem_cuts f [] m = absurd (Memᴰ.not-nil m)
mem_cuts f (c ∷ st) m = let r = mem_each (λ a b. f a (b ∷ st)) c m in (r.0, r.1, st, ap (◌∷ st) r.2, r.3)

mem_finish : {B : Env} {env : Env} (ls : Levels) → Memᴰ B (finish ls env) → (ls ≡ [] ∷ []) × (B ≡ env)
unfolding finish
mem_finish [] m = absurd (Memᴰ.not-nil m)
mem_finish ([] ∷ []) m = (refl, Memᴰ.eq_of_singleton m)
mem_finish ([] ∷ (c ∷ st)) m = absurd (Memᴰ.not-nil m)
mem_finish ((v ∷ c) ∷ st) m = absurd (Memᴰ.not-nil m)

-- ---- binding an entry ----

-- env' is env with entry n holding x.
pub record Bound (n : ℕ) (x : Level) (env env' : Env) : Type 0 where
  pub size : length env' ≡ max (length env) (suc n)
  pub value : entry env' n ≡ x
  pub grows : (new : Env) × (env' ≡ env ++ new)

pub bound_known : (n : ℕ) (x : Level) (env : Env) → n < length env → entry env n ≡ x → Bound n x env env
bound_known n x env h e = record { size = omega arith; value = e; grows = ([], sym (append-nil env)) }

pub bound-new : (n : ℕ) (x : Level) (env : Env) → n ≡ length env → Bound n x env (env ++ (x ∷ []))
bound-new n x env e = record { size = simp length-append (omega arith); value = rw e (get_or-append_seam env x [] []); grows = (x ∷ [], refl) }

pub mem_bind : {A : Type 0} {y : A} {f : Env → List A} (n : ℕ) (x : Level) (env : Env) → n ≤ length env → Memᴰ y (bind n x f env)
    → (env' : Env) × Bound n x env env' × Memᴰ y (f env')
unfolding bind bind_if
mem_bind {A} {y} {f} n x env le m = go (dec_lt n (length env)) m
  where
    go : (d : Dec (n < length env)) → Memᴰ y (bind_if n x f env d) → (env' : Env) × Bound n x env env' × Memᴰ y (f env')
    go (yes h) k = let g = mem_guard (sames? (entry env n) x) k in (env, bound_known n x env h g.0, g.1)
    go (no h) k = (env ++ (x ∷ []), bound-new n x env (omega arith), k)

pub bind_mem : {A : Type 0} {y : A} {f : Env → List A} (n : ℕ) (x : Level) (env B : Env) → n ≤ length env
    → (new : Env) × (B ≡ env ++ new) → entry B n ≡ x → n < length B
    → ((env' : Env) → Bound n x env env' → (new : Env) × (B ≡ env' ++ new) → Memᴰ y (f env')) → Memᴰ y (bind n x f env)
unfolding bind bind_if
bind_mem {A} {y} {f} n x env B le (new, e) v lt k = go (dec_lt n (length env))
  where
    tail : (w : Env) → B ≡ env ++ w → n ≡ length env → (rest : Env) × (B ≡ (env ++ (x ∷ [])) ++ rest)
    tail [] q r = let z = ap length q in absurd (omega (arith, simp length-append at z))
    tail (z ∷ w) q r = (w, rw append_snoc (cc (get_or-append_seam env z w [])))

    old : n < length env → entry env n ≡ x
    old h = sym (get_or-append env new [] n h) ∙ (rw e at v)

    go : (d : Dec (n < length env)) → Memᴰ y (bind_if n x f env d)
    go (yes h) = guard_mem (sames? (entry env n) x) (old h) (k env (bound_known n x env h (old h)) (new, e))
    go (no h) = k (env ++ (x ∷ [])) (bound-new n x env (omega arith)) (tail new e (omega arith))

-- ---- how an extension for the rest of a pattern becomes one for the whole ----

put-bound : (n : ℕ) {x c : Level} {st : Levels} (p : List (Element ℕ)) (B : Env) → entry B n ≡ x → put p (entry B) ≡ c ∷ st
    → on_top (entry B n ++◌) (put p (entry B)) ≡ (x ++ c) ∷ st
unfolding on_top
put-bound n p B v e = rw (v, e) refl

pub still : {n : ℕ} {x : Level} {env : Env} {B : Env} (env' : Env) → Bound n x env env' → (new : Env) × (B ≡ env' ++ new) → entry B n ≡ x
still {n} {x} {env} {B} env' b (new, e) = rw e (get_or-append env' new [] n (omega arith) ∙ b.value)

pub grown : {n : ℕ} {x : Level} {env : Env} {B : Env} (env' : Env) → Bound n x env env' → (new : Env) × (B ≡ env' ++ new) → (new : Env) × (B ≡ env ++ new)
grown {n} {x} {env} {B} env' b (new, e) = let (more, q) = b.grows in (more ++ new, e ∙ ap (◌++ new) q ∙ append_assoc env more new)

step_lit : {p : List (Element ℕ)} {v w : Value} {c : Level} {ls st : Levels} {env B : Env} → v ≡ w → ls ≡ (w ∷ c) ∷ st → Extends p (c ∷ st) env B
    → Extends (lit v ∷ p) ls env B
unfolding put Ones after on_top
step_lit e q x = record { keeps = x.keeps; names = x.names; ones = x.ones; gives = cc }

step-open : {p : List (Element ℕ)} {w : Value} {l c : Level} {ls st : Levels} {env B : Env} → w ≡ bracketed l → ls ≡ (w ∷ c) ∷ st
    → Extends p (l ∷ (c ∷ st)) env B
    → Extends (opening ∷ p) ls env B
unfolding put Ones after wrap
step-open e q x = record { keeps = x.keeps; names = x.names; ones = x.ones; gives = cc }

step_close : {p : List (Element ℕ)} {c : Level} {ls st : Levels} {env B : Env} → ls ≡ [] ∷ (c ∷ st) → Extends p (c ∷ st) env B → Extends (closing ∷ p) ls env B
unfolding put Ones after push
step_close q x = record { keeps = x.keeps; names = x.names; ones = x.ones; gives = cc }

step-one : {p : List (Element ℕ)} {k : Single} {n : ℕ} {w : Value} {c : Level} {ls st : Levels} {env B : Env} (env' : Env) → T (takes k w) → ls ≡ (w ∷ c) ∷ st
    → Bound n (w ∷ []) env env' → Extends p (c ∷ st) env' B → Extends (one k n ∷ p) ls env B
unfolding put Ones after
step-one {p} {n} {w} {B} env' t q b x =
    let v = still env' b x.keeps in
    record { keeps = grown env' b x.keeps; names = rw b.size at x.names; ones = ((w, v, t), x.ones); gives = put-bound n p B v x.gives ∙ sym q }

step_many : {p : List (Element ℕ)} {n : ℕ} {a c : Level} {ls st : Levels} {env B : Env} (env' : Env) → ls ≡ (a ++ c) ∷ st
    → Bound n a env env' → Extends p (c ∷ st) env' B → Extends (many n ∷ p) ls env B
unfolding put Ones after
step_many {p} {n} {B} env' q b x =
    record { keeps = grown env' b x.keeps; names = rw b.size at x.names; ones = x.ones; gives = put-bound n p B (still env' b x.keeps) x.gives ∙ sym q }

stop : {ls : Levels} {env B : Env} → (ls ≡ [] ∷ []) × (B ≡ env) → Extends [] ls env B
unfolding put Ones after
stop {env = env} (q, e) = record { keeps = ([], e ∙ sym (append-nil env)); names = ap length e; ones = tt; gives = sym q }

-- Each listed binding set is a consistent extension.
pub sound : (p : List (Element ℕ)) (ls : Levels) (env : Env) {B : Env} → Numbered p (length env) → Memᴰ B (candidates p ls env) → Extends p ls env B
unfolding Numbered candidates
sound [] ls env counted m = stop (mem_finish ls m)
sound (lit v ∷ p) ls env counted m =
    let (w, c, st, e, k) = mem_first _ ls m in
    let (q, i) = mem_guard (same? v w) k in
    step_lit q e (sound p (c ∷ st) env counted i)
sound (opening ∷ p) ls env counted m =
    let (w, c, st, e, k) = mem_first _ ls m in
    let (l, q, i) = mem_enter (contents w) k in
    step-open (bracketed-contents w l q) e (sound p (l ∷ (c ∷ st)) env counted i)
sound (closing ∷ p) ls env counted m =
    let (c, st, e, k) = mem_leave _ ls m in
    step_close e (sound p (c ∷ st) env counted k)
sound (call ∷ p) ls env counted m = absurd (Memᴰ.not-nil m)
sound (one t n ∷ p) ls env counted m =
    let (w, c, st, e, k) = mem_first _ ls m in
    let (q, i) = mem_guard (takes? t w) k in
    let (env', b, j) = mem_bind n (w ∷ []) env counted.0 i in
    step-one env' q e b (sound p (c ∷ st) env' (rw b.size counted.1) j)
sound (many n ∷ p) ls env counted m =
    let (a, c, st, e, k) = mem_cuts _ ls m in
    let (env', b, j) = mem_bind n a env counted.0 k in
    step_many env' e b (sound p (c ∷ st) env' (rw b.size counted.1) j)
