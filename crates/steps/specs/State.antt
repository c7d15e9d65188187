-- Where the walk stands, as the code keeps it, and the pattern as the code reads it.
use Rattle.std.specs.Prelude.{◌≡◌, Bool, true, List, [], ◌∷◌, T, length, get_or, set, drop, ℕ, suc, zero, ◌+◌, ◌-◌, ◌*◌, ◌<◌, ◌≤◌}
use Rattle.term_spec.proofs.ListLaws.{All}
use Rattle.term_spec.specs.Words.{Lies, decode, record_at, records, count}
use Rattle.value.specs.Equal.{TermStore}
use Rattle.term_spec.specs.Term.{Run, limit, no_run, run_layout, term_layout}
use Rattle.match_spec.specs.Element.{Element, lit, opening, closing, call, one, many, canon_e, Level}
use Rattle.match_spec.specs.Pattern.{Item, Name, element, item_layout, pattern_rule, pattern_limit, nesting_limit, name_limit, expression_variable_kind}
use Rattle.match_spec.specs.Walk.{Reading, runs, cells_of}
use Rattle.match_spec.proofs.RunLaws.{Inside}
use Rattle.steps.specs.Turn.{Turn, stop, next, split, called, turn}
use Rattle.steps.specs.declared.State.{State}
use Rattle.steps.specs.declared.Turned.{Turned}
use Rattle.steps.specs.declared.Turned.TheVariants.{Stop, Next, Split, Call}

-- Words for a level at each depth, and for the place after the deepest.
abbrev pub LevelRoom : List ℕ → Type 0
LevelRoom w = Lies run_layout w (nesting_limit + 1)

-- Words for an entry of each name.
abbrev pub EntryRoom : List ℕ → Type 0
EntryRoom w = Lies run_layout w name_limit

-- The state after k terms of the innermost level are passed.
abbrev pub passing : State → ℕ → State
passing s k = record { start = s.start + k; len = s.len - k; depth = s.depth; bound = s.bound }

-- The state after k terms are given to the next entry.
abbrev pub giving : State → ℕ → State
giving s k = record { start = s.start + k; len = s.len - k; depth = s.depth; bound = s.bound + 1 }

-- What is left of the innermost level.
abbrev pub left_of : State → Run
left_of s = record { start = s.start; len = s.len }

-- The first k terms of a run, and those after them.
abbrev pub front_of : ℕ → Run → Run
front_of k r = record { start = r.start; len = k }

abbrev pub back_of : ℕ → Run → Run
back_of k r = record { start = r.start + k; len = r.len - k }

-- The first d runs of a slice, the last of them first.
unfoldable pub stack_of : ℕ → List ℕ → List Run
stack_of zero w = []
stack_of (suc d) w = record_at run_layout w d ∷ stack_of d w

-- The first n runs of a slice, the first of them first.
abbrev pub entries_in : ℕ → List ℕ → List Run
entries_in n w = decode run_layout n w

-- A place of the walk: a state (what the code passes by value), and the words that hold the levels around and the entries.
pub record Place : Type 0 where
  pub start : ℕ
  pub len : ℕ
  pub depth : ℕ
  pub bound : ℕ
  pub levels : List ℕ
  pub binds : List ℕ

-- The place of a state over such words.
abbrev pub spec_place_of : State → List ℕ → List ℕ → Place
spec_place_of s lv bd = record { start = s.start; len = s.len; depth = s.depth; bound = s.bound; levels = lv; binds = bd }

-- The innermost level: what is left of it.
abbrev pub level_of : Place → Run
level_of s = record { start = s.start; len = s.len }

-- The levels, innermost first.
abbrev pub levels_of : Place → List Run
levels_of s = level_of s ∷ stack_of s.depth s.levels

-- The entries that are known.
abbrev pub entries_of : Place → List Run
entries_of s = entries_in s.bound s.binds

-- The runs of a term store, as the walk reads them.
abbrev pub store_runs : List ℕ → List ℕ → ℕ → Reading Run
store_runs names terms used = runs names (decode term_layout used terms)

-- What a run of a term store shows.
abbrev pub cells_in : List ℕ → List ℕ → ℕ → Run → Level
cells_in names terms used = cells_of names (decode term_layout used terms)

-- The turn of the specification for an element at a place; `last` says whether its level ends after it.
abbrev pub turn_at : List ℕ → List ℕ → ℕ → Element ℕ → Bool → Place → Turn Run
turn_at names terms used e last s = turn (store_runs names terms used) e last (levels_of s) (entries_of s)

-- What the code says that a record does, as a turn at the place that the walk is at after it.
unfoldable pub turn_as : Turned → Place → Turn Run
turn_as Stop s = stop
turn_as (Next t) s = next (levels_of s) (entries_of s)
turn_as (Split t) s = split (level_of s) (stack_of s.depth s.levels) (entries_of s)
turn_as Call s = called

-- What the code says that a record does, as a turn, over the words that it leaves.
unfoldable pub turn_of : Turned → List ℕ → List ℕ → Turn Run
turn_of Stop lv bd = stop
turn_of (Next s) lv bd = next (levels_of (spec_place_of s lv bd)) (entries_of (spec_place_of s lv bd))
turn_of (Split s) lv bd = split (left_of s) (stack_of s.depth lv) (entries_of (spec_place_of s lv bd))
turn_of Call lv bd = called

-- The term store is within its rules and its limit, and a run lies within the used terms.
pub record RunReady (names terms : List ℕ) (used : ℕ) (r : Run) : Type 0 where
  pub store : TermStore names terms used
  pub few : used ≤ limit
  pub inside : r.start + r.len ≤ used

-- So with some number of used terms, and with some names: for code that reads neither.
pub record InStore (names terms : List ℕ) (r : Run) : Type 0 where
  pub used : ℕ
  pub ready : RunReady names terms used r

pub record InTerms (terms : List ℕ) (r : Run) : Type 0 where
  pub names : List ℕ
  pub in_store_lem : InStore names terms r

-- The entries' runs end within the used terms, and their words are there.
pub record Known (used n : ℕ) (w : List ℕ) : Type 0 where
  pub entries_in_lem : All (Inside used) (entries_in n w)
  pub bound : n ≤ name_limit
  pub room : EntryRoom w

-- All runs end within the used terms, and what is kept fits its words.
pub record Stands (used : ℕ) (s : Place) : Type 0 where
  pub levels_in : All (Inside used) (levels_of s)
  pub known : Known used s.bound s.binds
  pub depth : s.depth ≤ nesting_limit
  pub room : LevelRoom s.levels

-- Record d of `before`, written over that of `after`, gives `before`.
unfoldable pub Restores : ℕ → List ℕ → List ℕ → Type 0
Restores d before after = set (set after (2 * d) (get_or before (2 * d) 0)) (2 * d + 1) (get_or before (2 * d + 1) 0) ≡ before

-- What a turn leaves of the levels' words: record d may differ where it goes on, and nothing else.
pub record LevelsKept (d : ℕ) (m : Turned) (before after : List ℕ) : Type 0 where
  pub back : Restores d before after
  pub same : ((s : State) → m ≡ Next s → ⊥) → after ≡ before

-- A known e-variable that ends its level, with another number of terms than are left of it.
pub record EndsApart (kind x : ℕ) (last : Bool) (bound len : ℕ) (w : List ℕ) : Type 0 where
  pub many : kind ≡ expression_variable_kind
  pub ends : last ≡ true
  pub known : x < bound
  pub apart : (get_or (entries_in bound w) x no_run).len ≡ len → ⊥

-- An element that names by text, with the number x for its name.
unfoldable pub renamed : ℕ → Element Name → Element ℕ
renamed x (lit v) = lit v
renamed x opening = opening
renamed x closing = closing
renamed x call = call
renamed x (one k n) = one k x
renamed x (many n) = many x

-- A pattern record with its name's number, as the walk takes it.
unfoldable pub coded : List ℕ → Item → ℕ → Element ℕ
coded names t x = renamed x (canon_e (element names t))

-- A pattern with the numbers of its names.
unfoldable pub coded_all : List ℕ → List Item → List ℕ → List (Element ℕ)
coded_all names [] xs = []
coded_all names (t ∷ ts) xs = coded names t (get_or xs 0 0) ∷ coded_all names ts (drop 1 xs)

-- The pattern of the words, with the numbers of its names.
abbrev pub pattern_in : List ℕ → List ℕ → List ℕ → List (Element ℕ)
pattern_in names pattern numbers = coded_all names (records item_layout pattern) numbers

-- A pattern within its rules and limit, with a number for each record.
pub record PatternReady (names pattern numbers : List ℕ) : Type 0 where
  pub rule : T (pattern_rule names (records item_layout pattern))
  pub short : length pattern < (pattern_limit + 1) * item_layout.width
  pub numbered : count item_layout pattern ≤ length numbers

-- What the record asks of the state: room for one level more, a level to leave, a number that is known or the next.
unfoldable pub Fine : ℕ → ℕ → ℕ → ℕ → Type 0
Fine zero x d b = Unit {0}
Fine (suc zero) x d b = Unit {0}
Fine (suc (suc zero)) x d b = Unit {0}
Fine (suc (suc (suc zero))) x d b = d < nesting_limit
Fine (suc (suc (suc (suc zero)))) x d b = 1 ≤ d
Fine (suc (suc (suc (suc (suc zero))))) x d b = (x ≤ b) × (x < name_limit)
Fine (suc (suc (suc (suc (suc (suc zero)))))) x d b = (x ≤ b) × (x < name_limit)
Fine (suc (suc (suc (suc (suc (suc (suc zero))))))) x d b = (x ≤ b) × (x < name_limit)
Fine (suc (suc (suc (suc (suc (suc (suc (suc k)))))))) x d b = Unit {0}
