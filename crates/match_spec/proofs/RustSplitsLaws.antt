-- The walk goes into exactly the splits of matcher.rs, in the same order.
use Rattle.std.specs.Prelude.{◌≡◌, refl, List, [], ◌∷◌, ◌++◌, map, Bool, true, false, ◌&&◌, length, drop, ℕ, suc, zero, ◌+◌, ◌-◌, ◌≤◌, ◌<◌}
use Rattle.std.proofs.Common.{ap, ap₂, sym, ◌∙◌, append_assoc, append-nil, length-drop, drop_of_length-le, drop-drop, add-one, arith}
use Rattle.std.proofs.Math.Option.{Option, some, none}
use Rattle.std.proofs.Math.ListN.{get_elem?}
use Rattle.std.proofs.Math.Decide.{ℕ_discrete, dec_lt}
use Rattle.term_spec.specs.Value.{Value, contents, same?, Single, takes, takes?, decided}
use Rattle.match_spec.specs.Element.{Element, lit, opening, closing, call, one, many, Level, Env, entry}
use Rattle.match_spec.specs.Walk.{Event, tried, Reading, strip, if_fits, at_head, through, if_known, rigid_fits, upto, when, spread}
use Rattle.match_spec.specs.RustSplits.{LevelItem, literal, brackets, single, expression, call_or_block, items_from, level_items, if_bound, bound}
use Rattle.match_spec.specs.RustSplits.{length_if, determinate_width, keep_if, rigid_prefix, or_zero, run_width, said, unless, with_some, is_some}
use Rattle.match_spec.specs.RustSplits.{all_below, same_term, terms_match, item_matches, rigid_run_matches, splits, splits_for, expression_splits, joined}

-- A run at the front of the terms c, with no position: what lies between the walk's test and that of matcher.rs.
match_run : List LevelItem → Env → Level → Bool
match_run [] env c = true
match_run (literal v ∷ run) env c = at_head c (λ w r. said (same? v w) && match_run run env r)
match_run (brackets ∷ run) env c = at_head c (λ w r. is_some (contents w) && match_run run env r)
match_run (single k n ∷ run) env c = at_head c (λ w r. takes k w && match_run run env r)
match_run (expression n ∷ run) env c = through (bound env n) (λ x. through (strip x c) (λ r. match_run run env r))
match_run (call_or_block ∷ run) env c = false

-- ---- the walk's test is the run's ----

if_said : {P : Type 0} (d : Dec P) (b : Bool) → if_fits d b ≡ (said d && b)
unfolding if_fits said
if_said (yes h) b = refl
if_said (no h) b = refl

if_takes : (k : Single) (w : Value) (b : Bool) → if_fits (takes? k w) b ≡ (takes k w && b)
unfolding takes? if_fits decided
if_takes k w b = go (takes k w)
  where
    go : (t : Bool) → if_fits (decided t) b ≡ (t && b)
    go true = refl
    go false = refl

through_some : (o : Option Level) (b : Bool) → through o (λ l. b) ≡ (is_some o && b)
unfolding through is_some
through_some none b = refl
through_some (some l) b = refl

heads-same : (f g : Value → Level → Bool) (c : Level) → ((w : Value) (r : Level) → f w r ≡ g w r) → at_head c f ≡ at_head c g
unfolding at_head
heads-same f g [] h = refl
heads-same f g (w ∷ c) h = h w c

bound_yes : (env : Env) (n : ℕ) → n < length env → bound env n ≡ some (entry env n)
unfolding bound if_bound
bound_yes env n h = go (dec_lt n (length env))
  where
    go : (d : Dec (n < length env)) → if_bound d (entry env n) ≡ some (entry env n)
    go (yes k) = refl
    go (no k) = absurd (k h)

-- An e-variable of the run, bound or open.
known_run : (n : ℕ) (run : List LevelItem) (env : Env) (c : Level) (f : Level → Bool) → ((r : Level) → f r ≡ match_run run env r)
    → if_known (dec_lt n (length env)) (through (strip (entry env n) c) f) ≡ match_run (keep_if (length_if (bound env n)) (expression n) run) env c
unfolding if_known through match_run keep_if length_if bound if_bound
known_run n run env c f e = go (dec_lt n (length env))
  where
    step : (o : Option Level) → through o f ≡ through o (λ r. match_run run env r)
    step none = refl
    step (some r) = e r

    go : (d : Dec (n < length env))
        → if_known d (through (strip (entry env n) c) f) ≡ match_run (keep_if (length_if (if_bound d (entry env n))) (expression n) run) env c
    go (yes h) = step (strip (entry env n) c) ∙ sym (ap (λ o. through o (λ x. through (strip x c) (λ r. match_run run env r))) (bound_yes env n h))
    go (no h) = refl

-- The run after an e-variable, at any depth of the brackets being passed over.
fits-run : (p : List (Element ℕ)) (d : ℕ) (env : Env) (c : Level) → rigid_fits p d env c ≡ match_run (rigid_prefix (items_from p d) env) env c
unfolding rigid_fits items_from rigid_prefix determinate_width keep_if match_run
fits-run [] d env c = refl
fits-run (lit v ∷ p) zero env c = heads-same _ _ c (λ w r. if_said (same? v w) _ ∙ ap (said (same? v w) &&◌) (fits-run p zero env r))
fits-run (lit v ∷ p) (suc d) env c = fits-run p (suc d) env c
fits-run (opening ∷ p) zero env c = heads-same _ _ c (λ w r. through_some (contents w) _ ∙ ap (is_some (contents w) &&◌) (fits-run p (suc zero) env r))
fits-run (opening ∷ p) (suc d) env c = fits-run p (suc (suc d)) env c
fits-run (closing ∷ p) zero env c = refl
fits-run (closing ∷ p) (suc d) env c = fits-run p d env c
fits-run (call ∷ p) zero env c = refl
fits-run (call ∷ p) (suc d) env c = fits-run p (suc d) env c
fits-run (one k n ∷ p) zero env c = heads-same _ _ c (λ w r. if_takes k w _ ∙ ap (takes k w &&◌) (fits-run p zero env r))
fits-run (one k n ∷ p) (suc d) env c = fits-run p (suc d) env c
fits-run (many n ∷ p) zero env c = known_run n (rigid_prefix (items_from p zero) env) env c _ (λ r. fits-run p zero env r)
fits-run (many n ∷ p) (suc d) env c = fits-run p (suc d) env c

-- ---- the test of matcher.rs is the run's ----

term-at : (c : Level) (k : ℕ) → k < length c → (w : Value) × (get_elem? c k ≡ some w) × (drop k c ≡ w ∷ drop (suc k) c)
term-at [] k h = absurd (omega arith)
term-at (w ∷ c) zero h = (w, refl, refl)
term-at (w ∷ c) (suc k) h = term-at c k (omega arith)

at_drop : (c : Level) (n k : ℕ) → get_elem? c (n + k) ≡ get_elem? (drop n c) k
at_drop c zero k = let z : zero + k ≡ k = omega arith in ap (get_elem? c) z
at_drop [] (suc n) k = refl
at_drop (w ∷ c) (suc n) k = let z : suc n + k ≡ suc (n + k) = omega arith in ap (get_elem? (w ∷ c)) z ∙ at_drop c n k

-- An item one wide.
one_wide : (c : Level) (k : ℕ) (f : Value → Bool) (b : Bool) (g : Level → Bool) → k ≤ length c → (k + 1 ≤ length c → b ≡ g (drop (k + 1) c))
    → unless (dec_lt (length c) (k + 1)) (with_some (get_elem? c k) f && b) ≡ at_head (drop k c) (λ w r. f w && g r)
unfolding unless with_some at_head
one_wide c k f b g le e = go (dec_lt (length c) (k + 1))
  where
    go : (d : Dec (length c < k + 1)) → unless d (with_some (get_elem? c k) f && b) ≡ at_head (drop k c) (λ w r. f w && g r)
    go (yes h) = let le : length c ≤ k = omega arith in let z : drop k c ≡ [] = drop_of_length-le c le in rw z refl
    go (no h) =
        let (w, a, t) = term-at c k (omega arith) in
        let q : b ≡ g (drop (suc k) c) = e (omega arith) ∙ ap (λ j. g (drop j c)) (add-one k) in
        ap (λ o. with_some o f && b) a ∙ ap (f w &&◌) q ∙ sym (ap (λ l. at_head l (λ v r. f v && g r)) t)

strip-short : (x c : Level) → length c < length x → strip x c ≡ none
unfolding strip
strip-short [] c h = absurd (omega arith)
strip-short (v ∷ x) [] h = refl
strip-short (v ∷ x) (w ∷ c) h = go (same? v w) (strip-short x c (omega arith))
  where
    go : (d : Dec (v ≡ w)) → strip x c ≡ none → ◌≡◌ {A = Option Level} (elim d [ yes e ↦ strip x c | no e ↦ none ]) none
    go (yes e) q = q
    go (no e) q = refl

strip-terms : (x c : Level) (b : Bool) (g : Level → Bool) → b ≡ g (drop (length x) c)
    → (all_below (length x) (λ k. same_term (get_elem? x k) (get_elem? c k)) && b) ≡ through (strip x c) g
unfolding all_below same_term with_some through strip said
strip-terms [] c b g e = e
strip-terms (v ∷ x) [] b g e = refl
strip-terms (v ∷ x) (w ∷ c) b g e = go (same? v w) (strip-terms x c b g e)
  where
    rest : Bool
    rest = all_below (length x) (λ k. same_term (get_elem? x k) (get_elem? c k))

    go : (d : Dec (v ≡ w)) → (rest && b) ≡ through (strip x c) g
        → ((said d && rest) && b) ≡ through (elim d as (λ z. Option Level) [ yes h ↦ strip x c | no h ↦ none ]) g
    go (yes h) q = q
    go (no h) q = refl

all_same : (m : ℕ) (f g : ℕ → Bool) → ((k : ℕ) → f k ≡ g k) → all_below m f ≡ all_below m g
unfolding all_below
all_same zero f g h = refl
all_same (suc m) f g h = ap₂ ◌&&◌ (h zero) (all_same m (λ k. f (suc k)) (λ k. g (suc k)) (λ k. h (suc k)))

-- A bound e-variable.
value_wide : (c : Level) (k : ℕ) (x : Level) (b : Bool) (g : Level → Bool) → k ≤ length c → (k + length x ≤ length c → b ≡ g (drop (k + length x) c))
    → unless (dec_lt (length c) (k + length x)) (terms_match c k (length x) x && b) ≡ through (strip x (drop k c)) g
unfolding unless said through terms_match
value_wide c k x b g le e = go (dec_lt (length c) (k + length x)) (ℕ_discrete (length x) (length x))
  where
    terms : Bool
    terms = all_below (length x) (λ j. same_term (get_elem? x j) (get_elem? c (k + j)))

    go : (d : Dec (length c < k + length x)) (s : Dec (length x ≡ length x)) → unless d ((said s && terms) && b) ≡ through (strip x (drop k c)) g
    go (yes h) s = sym (ap (λ o. through o g) (strip-short x (drop k c) (omega (arith, length-drop k c))))
    go (no h) (no s) = absurd (s refl)
    go (no h) (yes s) =
        ap (◌&& b) (all_same (length x) _ _ (λ j. ap (same_term (get_elem? x j)) (at_drop c k j)))
        ∙ strip-terms x (drop k c) b g (e (omega arith) ∙ ap g (sym (drop-drop (length x) k c)))

value_at : (o : Option Level) (c : Level) (k : ℕ) (f : ℕ → Bool) (g : Level → Bool) → k ≤ length c → ((j : ℕ) → j ≤ length c → f j ≡ g (drop j c))
    → with_some (length_if o) (λ w. unless (dec_lt (length c) (k + w)) (with_some o (λ x. terms_match c k w x) && f (k + w)))
    ≡ through o (λ x. through (strip x (drop k c)) g)
unfolding with_some length_if through
value_at none c k f g h e = refl
value_at (some x) c k f g h e = value_wide c k x (f (k + length x)) g h (λ q. e (k + length x) q)

-- From a position on is the same as at the front of what follows the position.
run_at : (run : List LevelItem) (env : Env) (c : Level) (k : ℕ) → k ≤ length c → rigid_run_matches c k run env ≡ match_run run env (drop k c)
unfolding rigid_run_matches match_run determinate_width with_some item_matches
run_at [] env c k h = refl
run_at (literal v ∷ run) env c k h = one_wide c k _ _ _ h (λ q. run_at run env c (k + 1) q)
run_at (brackets ∷ run) env c k h = one_wide c k _ _ _ h (λ q. run_at run env c (k + 1) q)
run_at (single s n ∷ run) env c k h = one_wide c k _ _ _ h (λ q. run_at run env c (k + 1) q)
run_at (expression n ∷ run) env c k h =
    value_at (bound env n) c k (λ j. rigid_run_matches c j run env) (λ r. match_run run env r) h (λ j q. run_at run env c j q)
run_at (call_or_block ∷ run) env c k h = refl

-- ---- a run needs room for its width; one 0 wide fits everywhere ----

and_false : (a b : Bool) → b ≡ false → (a && b) ≡ false
and_false true b e = e
and_false false b e = refl

strip-length : (x c r : Level) → strip x c ≡ some r → length c ≡ length x + length r
unfolding strip
strip-length [] c r e = let z : length c ≡ length r = cc in omega arith
strip-length (v ∷ x) [] r e = cc
strip-length (v ∷ x) (w ∷ c) r e = go (same? v w) (λ q. strip-length x c r q) e
  where
    go : (d : Dec (v ≡ w)) → (strip x c ≡ some r → length c ≡ length x + length r)
        → elim d as (λ z. Option Level) [ yes h ↦ strip x c | no h ↦ none ] ≡ some r → suc (length c) ≡ suc (length x) + length r
    go (yes h) ih q = let z : length c ≡ length x + length r = ih q in omega arith
    go (no h) ih q = cc

-- so matcher.rs need not look past the length less the width
no_room : (run : List LevelItem) (env : Env) (c : Level) → length c < run_width run env → match_run run env c ≡ false
unfolding run_width determinate_width or_zero match_run at_head through length_if
no_room [] env c h = absurd (omega arith)
no_room (literal v ∷ run) env [] h = refl
no_room (literal v ∷ run) env (w ∷ c) h = and_false (said (same? v w)) _ (no_room run env c (omega arith))
no_room (brackets ∷ run) env [] h = refl
no_room (brackets ∷ run) env (w ∷ c) h = and_false (is_some (contents w)) _ (no_room run env c (omega arith))
no_room (single k n ∷ run) env [] h = refl
no_room (single k n ∷ run) env (w ∷ c) h = and_false (takes k w) _ (no_room run env c (omega arith))
no_room (expression n ∷ run) env c h = value (λ r l. no_room run env r l) (bound env n) h
  where
    rest : ((r : Level) → length r < run_width run env → match_run run env r ≡ false)
        → (x : Level) → length c < length x + run_width run env → (o : Option Level) → strip x c ≡ o → through o (λ r. match_run run env r) ≡ false
    rest ih x l none e = refl
    rest ih x l (some r) e = ih r (omega (arith, strip-length x c r e))

    value : ((r : Level) → length r < run_width run env → match_run run env r ≡ false)
        → (o : Option Level) → length c < or_zero (length_if o) + run_width run env → through o (λ x. through (strip x c) (λ r. match_run run env r)) ≡ false
    value ih none l = refl
    value ih (some x) l = rest ih x l (strip x c) refl
no_room (call_or_block ∷ run) env c h = refl

-- so a run 0 wide needs no test
no_width : (l : List LevelItem) (env : Env) (c : Level) → run_width (rigid_prefix l env) env ≡ zero → match_run (rigid_prefix l env) env c ≡ true
unfolding rigid_prefix keep_if run_width determinate_width or_zero match_run length_if through strip
no_width [] env c e = refl
no_width (literal v ∷ l) env c e = absurd (omega arith)
no_width (brackets ∷ l) env c e = absurd (omega arith)
no_width (single k n ∷ l) env c e = absurd (omega arith)
no_width (expression n ∷ l) env c e = go (λ q. no_width l env c q) (bound env n) refl e
  where
    run : List LevelItem
    run = rigid_prefix l env

    go : (run_width run env ≡ zero → match_run run env c ≡ true) → (o : Option Level) → bound env n ≡ o
        → run_width (keep_if (length_if o) (expression n) run) env ≡ zero → match_run (keep_if (length_if o) (expression n) run) env c ≡ true
    go ih none q z = refl
    go ih (some []) q z = ap (λ o. through o (λ x. through (strip x c) (λ r. match_run run env r))) q ∙ ih (omega arith)
    go ih (some (v ∷ x)) q z = absurd (omega (arith, ap (λ o. or_zero (length_if o)) q))
no_width (call_or_block ∷ l) env c e = refl

-- ---- the splits ----

splits-same : (f g : ℕ → Bool) (m : ℕ) → ((k : ℕ) → k ≤ m → f k ≡ g k) → splits f m ≡ splits g m
unfolding splits
splits-same f g zero h = ap (λ b. when b (zero ∷ [])) (h zero (omega arith))
splits-same f g (suc m) h = ap₂ (λ l b. l ++ when b (suc m ∷ [])) (splits-same f g m (λ k le. h k (omega arith))) (h (suc m) (omega arith))

-- past the last split nothing is added
splits-more : (f : ℕ → Bool) (m j : ℕ) → ((k : ℕ) → m < k → k ≤ m + j → f k ≡ false) → splits f m ≡ splits f (m + j)
unfolding splits when
splits-more f m zero h = let z : m ≡ m + zero = omega arith in ap (splits f) z
splits-more f m (suc j) h =
    let z : suc (m + j) ≡ m + suc j = omega arith in
    splits-more f m j (λ k a b. h k a (omega arith))
    ∙ sym (append-nil (splits f (m + j)))
    ∙ ap (λ b. splits f (m + j) ++ when b (suc (m + j) ∷ [])) (sym (h (suc (m + j)) (omega arith) (omega arith)))
    ∙ ap (splits f) z

-- The three cases of expression_splits: no run, a run 0 wide, a wider one.
run-splits : (run : List LevelItem) (w : ℕ) (env : Env) (c : Level) → w ≡ run_width run env → (w ≡ zero → (d : Level) → match_run run env d ≡ true)
    → splits_for c run w env ≡ splits (λ k. match_run run env (drop k c)) (length c)
unfolding splits_for match_run
run-splits [] w env c e z = refl
run-splits (i ∷ run) zero env c e z = splits-same _ _ (length c) (λ k le. sym (z refl (drop k c)))
run-splits (i ∷ run) (suc w) env c e z =
    let last : (length c - suc w) + (length c - (length c - suc w)) ≡ length c = omega arith in
    splits-same _ _ (length c - suc w) (λ k le. run_at (i ∷ run) env c k (omega arith))
    ∙ splits-more _ (length c - suc w) (length c - (length c - suc w)) (λ k a b. no_room (i ∷ run) env (drop k c) (omega (arith, length-drop k c)))
    ∙ ap (splits _) last

-- The splits of matcher.rs are those where the walk's test holds.
pub rust_splits : (p : List (Element ℕ)) (env : Env) (c : Level)
    → expression_splits c (level_items p) env ≡ splits (λ k. rigid_fits p zero env (drop k c)) (length c)
unfolding expression_splits level_items
rust_splits p env c =
    run-splits (rigid_prefix (items_from p zero) env) _ env c refl (λ e d. no_width (items_from p zero) env d e)
    ∙ splits-same _ _ (length c) (λ k le. sym (fits-run p zero env (drop k c)))

-- ---- the walk ----

upto-last : {B : Type 0} (f : ℕ → List B) (m : ℕ) → upto f (suc m) ≡ upto f m ++ f (suc m)
unfolding upto
upto-last f zero = refl
upto-last f (suc m) = ap (f zero ++◌) (upto-last (λ k. f (suc k)) m) ∙ sym (append_assoc (f zero) (upto (λ k. f (suc k)) m) (f (suc (suc m))))

upto-same : {B : Type 0} (f g : ℕ → List B) (m : ℕ) → ((k : ℕ) → k ≤ m → f k ≡ g k) → upto f m ≡ upto g m
unfolding upto
upto-same f g zero h = h zero (omega arith)
upto-same f g (suc m) h = ap₂ ◌++◌ (h zero (omega arith)) (upto-same (λ k. f (suc k)) (λ k. g (suc k)) m (λ k le. h (suc k) (omega arith)))

joined-append : {A B : Type 0} (f : A → List B) (l m : List A) → joined f (l ++ m) ≡ joined f l ++ joined f m
unfolding joined
joined-append f [] m = refl
joined-append f (x ∷ l) m = ap (f x ++◌) (joined-append f l m) ∙ sym (append_assoc (f x) (joined f l) (joined f m))

joined-when : {B : Type 0} (f : ℕ → List B) (b : Bool) (k : ℕ) → joined f (when b (k ∷ [])) ≡ when b (f k)
unfolding joined when
joined-when f true k = append-nil (f k)
joined-when f false k = refl

upto-splits : {B : Type 0} (t : ℕ → Bool) (f : ℕ → List B) (m : ℕ) → upto (λ k. when (t k) (f k)) m ≡ joined f (splits t m)
unfolding upto splits
upto-splits t f zero = sym (joined-when f (t zero) zero)
upto-splits t f (suc m) =
    upto-last (λ k. when (t k) (f k)) m
    ∙ ap₂ ◌++◌ (upto-splits t f m) (sym (joined-when f (t (suc m)) (suc m)))
    ∙ sym (joined-append f (splits t m) (when (t (suc m)) (suc m ∷ [])))

-- An open e-variable that does not end its level is tried at the splits of matcher.rs, in their order.
pub spread-splits : {R P : Type 0} (rd : Reading R) (h : P → ⊥) (x : R) (p : List (Element ℕ)) (env : List R) (r : R) (f : R → List R → List (Event (List R)))
    → ((k : ℕ) → k ≤ length (rd.cells r) → rd.cells (rd.back k r) ≡ drop k (rd.cells r))
    → spread rd (no h) false x p env r f
    ≡ joined (λ k. tried ∷ f (rd.back k r) (env ++ (rd.front k r ∷ []))) (expression_splits (rd.cells r) (level_items p) (map rd.cells env))
unfolding spread
spread-splits {R} rd h x p env r f back =
    upto-same _ _ (length (rd.cells r)) (λ k le. ap (λ c. when (rigid_fits p zero (map rd.cells env) c) (go_on k)) (back k le))
    ∙ upto-splits (λ k. rigid_fits p zero (map rd.cells env) (drop k (rd.cells r))) go_on (length (rd.cells r))
    ∙ ap (joined go_on) (sym (rust_splits p (map rd.cells env) (rd.cells r)))
  where
    go_on : ℕ → List (Event (List R))
    go_on k = tried ∷ f (rd.back k r) (env ++ (rd.front k r ∷ []))
