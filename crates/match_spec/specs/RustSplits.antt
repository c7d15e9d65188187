-- The splits that matcher.rs tries for an open e-variable, as that file finds them: to be read beside it. The walk is held against them.
use Rattle.std.specs.Prelude.{List, [], ◌∷◌, ◌++◌, Bool, true, false, ◌&&◌, length, ℕ, suc, zero, ◌+◌, ◌-◌}
use Rattle.std.proofs.Math.Option.{Option, some, none}
use Rattle.std.proofs.Math.ListN.{get_elem?}
use Rattle.std.proofs.Math.Decide.{ℕ_discrete, dec_lt}
use Rattle.term_spec.specs.Value.{Value, contents, same?, Single, takes}
use Rattle.match_spec.specs.Element.{Element, lit, opening, closing, call, one, many, Level, Env, entry}
use Rattle.match_spec.specs.Walk.{when}

-- ---- the pattern of one level ----

-- matcher.rs has a pattern as a tree: a bracket is one item of its level, whatever stands in it. A single has its variable's entry too,
-- which nothing below looks at.
pub data LevelItem : Type 0 where
  literal : Value → LevelItem
  brackets : LevelItem
  single : Single → ℕ → LevelItem
  expression : ℕ → LevelItem
  call_or_block : LevelItem

-- The items up to the end of the level that a flat pattern starts in; d counts the brackets that are being passed over.
unfoldable pub items_from : List (Element ℕ) → ℕ → List LevelItem
items_from [] d = []
items_from (lit v ∷ p) zero = literal v ∷ items_from p zero
items_from (lit v ∷ p) (suc d) = items_from p (suc d)
items_from (opening ∷ p) zero = brackets ∷ items_from p (suc zero)
items_from (opening ∷ p) (suc d) = items_from p (suc (suc d))
items_from (closing ∷ p) zero = []
items_from (closing ∷ p) (suc d) = items_from p d
items_from (call ∷ p) zero = call_or_block ∷ items_from p zero
items_from (call ∷ p) (suc d) = items_from p (suc d)
items_from (one k n ∷ p) zero = single k n ∷ items_from p zero
items_from (one k n ∷ p) (suc d) = items_from p (suc d)
items_from (many n ∷ p) zero = expression n ∷ items_from p zero
items_from (many n ∷ p) (suc d) = items_from p (suc d)

unfoldable pub level_items : List (Element ℕ) → List LevelItem
level_items p = items_from p zero

-- ---- bindings ----

unfoldable pub if_bound : {P : Type 0} → Dec P → Level → Option Level
if_bound (yes h) x = some x
if_bound (no h) x = none

-- The value that the bindings have for entry n, if it is bound.
unfoldable pub bound : Env → ℕ → Option Level
bound env n = if_bound (dec_lt n (length env)) (entry env n)

unfoldable pub length_if : Option Level → Option ℕ
length_if none = none
length_if (some x) = some (length x)

-- ---- widths (determinate_width, rigid_prefix_len) ----

-- determinate_width: how many terms an item takes, where that is known without choosing a split.
unfoldable pub determinate_width : LevelItem → Env → Option ℕ
determinate_width (literal v) env = some 1
determinate_width brackets env = some 1
determinate_width (single k n) env = some 1
determinate_width (expression n) env = length_if (bound env n)
determinate_width call_or_block env = none

unfoldable pub keep_if : Option ℕ → LevelItem → List LevelItem → List LevelItem
keep_if none i l = []
keep_if (some w) i l = i ∷ l

-- rigid_prefix_len, and the items that it counts: those before the first without a width.
unfoldable pub rigid_prefix : List LevelItem → Env → List LevelItem
rigid_prefix [] env = []
rigid_prefix (i ∷ l) env = keep_if (determinate_width i env) i (rigid_prefix l env)

unfoldable pub or_zero : Option ℕ → ℕ
or_zero none = zero
or_zero (some w) = w

-- The width of a run, as expression_splits sums it up.
unfoldable pub run_width : List LevelItem → Env → ℕ
run_width [] env = zero
run_width (i ∷ l) env = or_zero (determinate_width i env) + run_width l env

-- ---- a run at a position (rigid_run_matches) ----

unfoldable pub said : {P : Type 0} → Dec P → Bool
said (yes h) = true
said (no h) = false

unfoldable pub unless : {P : Type 0} → Dec P → Bool → Bool
unless (yes h) b = false
unless (no h) b = b

unfoldable pub with_some : {A : Type 0} → Option A → (A → Bool) → Bool
with_some none f = false
with_some (some x) f = f x

unfoldable pub is_some : {A : Type 0} → Option A → Bool
is_some none = false
is_some (some x) = true

-- Whether f holds at all numbers below m: the loop over offsets.
unfoldable pub all_below : ℕ → (ℕ → Bool) → Bool
all_below zero f = true
all_below (suc m) f = f zero && all_below m (λ k. f (suc k))

-- Whether there is a term at both places and it is the same (terms here are canonical forms, so equal terms are the same).
unfoldable pub same_term : Option Value → Option Value → Bool
same_term a b = with_some a (λ v. with_some b (λ w. said (same? v w)))

-- The terms x of a bound e-variable, w wide, at a position, offset by offset.
unfoldable pub terms_match : Level → ℕ → ℕ → Level → Bool
terms_match c at w x = said (ℕ_discrete (length x) w) && all_below w (λ k. same_term (get_elem? x k) (get_elem? c (at + k)))

-- One item, w wide, at a position: a literal by equality, a bracket by being one, a single by the kinds that it takes (its entry's value
-- plays no part), a bound e-variable term by term. The terms read are there, since the width was held against the length before.
unfoldable pub item_matches : Level → ℕ → ℕ → LevelItem → Env → Bool
item_matches c at w (literal v) env = with_some (get_elem? c at) (λ t. said (same? v t))
item_matches c at w brackets env = with_some (get_elem? c at) (λ t. is_some (contents t))
item_matches c at w (single k n) env = with_some (get_elem? c at) (λ t. takes k t)
item_matches c at w (expression n) env = with_some (bound env n) (λ x. terms_match c at w x)
item_matches c at w call_or_block env = false

-- rigid_run_matches: the items one after another from a position on; an item without a width, or one that goes past the end, does not match.
unfoldable pub rigid_run_matches : Level → ℕ → List LevelItem → Env → Bool
rigid_run_matches c at [] env = true
rigid_run_matches c at (i ∷ run) env =
    with_some (determinate_width i env) (λ w. unless (dec_lt (length c) (at + w)) (item_matches c at w i env && rigid_run_matches c (at + w) run env))

-- ---- the splits (expression_splits) ----

-- The numbers k from 0 up to and with m where f k is true, rising.
unfoldable pub splits : (ℕ → Bool) → ℕ → List ℕ
splits f zero = when (f zero) (zero ∷ [])
splits f (suc m) = splits f m ++ when (f (suc m)) (suc m ∷ [])

-- From a run and its width: every split if there is no run or it is 0 wide, else those that leave room for the run and where it matches.
unfoldable pub splits_for : Level → List LevelItem → ℕ → Env → List ℕ
splits_for c [] w env = splits (λ k. true) (length c)
splits_for c (i ∷ run) zero env = splits (λ k. true) (length c)
splits_for c (i ∷ run) (suc w) env = splits (λ k. rigid_run_matches c k (i ∷ run) env) (length c - suc w)

-- expression_splits, of an e-variable that has these items after it in its level.
unfoldable pub expression_splits : Level → List LevelItem → Env → List ℕ
expression_splits c items env = splits_for c (rigid_prefix items env) (run_width (rigid_prefix items env) env) env

-- f at each entry of a list, joined: what going into the splits one by one gives.
unfoldable pub joined : {A B : Type 0} → (A → List B) → List A → List B
joined f [] = []
joined f (x ∷ l) = f x ++ joined f l
