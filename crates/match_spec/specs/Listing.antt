-- The plain listing: every way to cut, bind or check, shortest first, with no projection. The walk is held against it.
use Rattle.std.specs.Prelude.{List, [], ◌∷◌, ◌++◌, length, ℕ, ◌<◌}
use Rattle.std.proofs.Math.Option.{Option, some, none}
use Rattle.std.proofs.Math.Decide.{dec_lt}
use Rattle.term_spec.specs.Value.{Value, contents, same?, sames?, takes?}
use Rattle.match_spec.specs.Element.{Element, lit, opening, closing, call, one, many, Level, Levels, Env, entry}

-- A list, if a decision says yes.
unfoldable pub guard : {A P : Type 0} → Dec P → List A → List A
guard (yes h) l = l
guard (no h) l = []

-- f at each way to cut a list in two, the shorter front first.
unfoldable pub each : {A B : Type 0} → (List A → List A → List B) → List A → List B
each f [] = f [] []
each f (v ∷ l) = f [] (v ∷ l) ++ each (λ a b. f (v ∷ a) b) l

-- Entry n gets the terms x: a known entry must have them, a new one is added.
unfoldable pub bind_if : {B : Type 0} (n : ℕ) → Level → (Env → List B) → (env : Env) → Dec (n < length env) → List B
bind_if n x f env (yes h) = guard (sames? (entry env n) x) (f env)
bind_if n x f env (no h) = f (env ++ (x ∷ []))

-- Entry n gets the terms x.
unfoldable pub bind : {B : Type 0} → ℕ → Level → (Env → List B) → Env → List B
bind n x f env = bind_if n x f env (dec_lt n (length env))

-- The first term of the innermost level, and what is left.
unfoldable pub first : {B : Type 0} → Levels → (Value → Levels → List B) → List B
first [] f = []
first ([] ∷ st) f = []
first ((v ∷ c) ∷ st) f = f v (c ∷ st)

-- Goes on with what there is, if there is something.
unfoldable pub enter : {B : Type 0} → Option (List Value) → (Level → List B) → List B
enter none f = []
enter (some l) f = f l

-- The innermost level ends, with another around it.
unfoldable pub leave : {B : Type 0} → Levels → (Levels → List B) → List B
leave [] f = []
leave ([] ∷ []) f = []
leave ([] ∷ (c ∷ st)) f = f (c ∷ st)
leave ((v ∷ c) ∷ st) f = []

-- Every cut of the innermost level.
unfoldable pub cuts : {B : Type 0} → Levels → (Level → Levels → List B) → List B
cuts [] f = []
cuts (c ∷ st) f = each (λ a b. f a (b ∷ st)) c

-- The pattern ends: the entries, if the only level does too.
unfoldable pub finish : Levels → Env → List Env
finish [] env = []
finish ([] ∷ []) env = env ∷ []
finish ([] ∷ (c ∷ st)) env = []
finish ((v ∷ c) ∷ st) env = []

-- The plain listing of a pattern over levels, from the entries known so far.
unfoldable pub candidates : List (Element ℕ) → Levels → Env → List Env
candidates [] ls env = finish ls env
candidates (lit v ∷ p) ls env = first ls (λ w rest. guard (same? v w) (candidates p rest env))
candidates (opening ∷ p) ls env = first ls (λ w rest. enter (contents w) (λ l. candidates p (l ∷ rest) env))
candidates (closing ∷ p) ls env = leave ls (λ rest. candidates p rest env)
candidates (call ∷ p) ls env = []
candidates (one k n ∷ p) ls env = first ls (λ w rest. guard (takes? k w) (bind n (w ∷ []) (λ e. candidates p rest e) env))
candidates (many n ∷ p) ls env = cuts ls (λ a rest. bind n a (λ e. candidates p rest e) env)
