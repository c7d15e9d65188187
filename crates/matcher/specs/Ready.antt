-- What the walk in code asks for and leaves, and how its tally and the slots' words stand for the progress of the specification.
use Rattle.std.specs.Prelude.{◌≡◌, List, Bool, true, false, length, drop, ℕ, ◌+◌, ◌*◌, ◌<◌, ◌≤◌}
use Rattle.term_spec.specs.Words.{count}
use Rattle.term_spec.specs.Term.{Run, limit, run_layout}
use Rattle.match_spec.specs.Element.{Element}
use Rattle.match_spec.specs.Pattern.{item_layout, name_limit}
use Rattle.match_spec.specs.Walk.{Event, Reading, walk}
use Rattle.match_spec.specs.Answer.{Status as SpecStatus, going, done, full, called, Progress, Wanted, allOfThem, headOnly, absorb}
use Rattle.calls_spec.specs.Demand3.{read_slots}
use Rattle.value.specs.Equal.{TermStore}
use Rattle.steps.specs.Turn.{onward}
use Rattle.steps.specs.State.{Place, store_runs, level_of, stack_of, levels_of, entries_of, entries_in}
use Rattle.steps.specs.State.{turn_of, pattern_in, LevelRoom, EntryRoom, Restores, PatternReady}
use Rattle.steps.specs.Stays.{Stays, Kept, Grows}
use Rattle.steps.specs.declared.State.{State}
use Rattle.steps.specs.declared.Turned.{Turned}
use Rattle.steps.specs.declared.Turned.TheVariants.{Next}
use Rattle.matcher.specs.declared.Status.{Status}
use Rattle.matcher.specs.declared.Status.TheVariants.{Going, Done, Full, Called}
use Rattle.matcher.specs.declared.Goal.{Goal}
use Rattle.matcher.specs.declared.Tally.{Tally}

-- ---- what the walk reads and leaves as it is ----

-- The names, the terms with how many are used, the pattern, and the numbers of its names.
pub record Given : Type 0 where
  pub names : List ℕ
  pub terms : List ℕ
  pub used : ℕ
  pub pattern : List ℕ
  pub numbers : List ℕ

-- They, from the lent slices.
abbrev pub given_of : List ℕ → List ℕ → ℕ → List ℕ → List ℕ → Given
given_of names terms used pattern numbers = record { names = names; terms = terms; used = used; pattern = pattern; numbers = numbers }

-- The runs of the terms.
abbrev pub reading_of : Given → Reading Run
reading_of v = store_runs v.names v.terms v.used

-- The pattern from record p on, with the numbers of its names.
abbrev pub pattern_from : Given → ℕ → List (Element ℕ)
pattern_from v p = drop p (pattern_in v.names v.pattern v.numbers)

-- The events of the specification's walk from record p on, at a place.
abbrev pub events_from : Given → ℕ → Place → List (Event (List Run))
events_from v p s = walk (reading_of v) (pattern_from v p) (levels_of s) (entries_of s)

-- ---- where the walk may stand ----

-- The stores and the pattern are within their rules, and the walk may stand where it does, before record p, with m names.
pub record Ready (v : Given) (p m : ℕ) (s : Place) : Type 0 where
  pub store : TermStore v.names v.terms v.used
  pub few : v.used ≤ limit
  pub pattern : PatternReady v.names v.pattern v.numbers
  pub here : p ≤ count item_layout v.pattern
  pub stays : Stays v.used (pattern_from v p) m (level_of s) (stack_of s.depth s.levels) (entries_of s)
  pub names_few : m ≤ name_limit
  pub level-room : LevelRoom s.levels
  pub entry-room : EntryRoom s.binds

-- So with some number of names, and record p is there: it may take its turn.
pub record CanTurn (v : Given) (p : ℕ) (s : Place) : Type 0 where
  pub entries : ℕ
  pub ready : Ready v p entries s
  pub there : p < count item_layout v.pattern

-- ---- the turn that a record has taken ----

-- At the place s it does m, and leaves the words lv of the levels and bd of the entries.
pub record TurnTaken (v : Given) (p : ℕ) (s : Place) (m : Turned) (lv bd : List ℕ) : Type 0 where
  pub there : p < count item_layout v.pattern
  pub events : events_from v p s ≡ onward (reading_of v) (pattern_from v (p + 1)) (turn_of m lv bd)
  pub kept : (n : ℕ) → Ready v p n s → Kept v.used (pattern_from v (p + 1)) n (level_of s) (stack_of s.depth s.levels) (entries_of s) (turn_of m lv bd)
  pub grows : Grows (length (entries_of s)) (turn_of m lv bd)
  pub back : Restores s.depth s.levels lv
  pub same : ((a : State) → m ≡ Next a → ⊥) → lv ≡ s.levels
  pub entries_same : entries_in s.bound bd ≡ entries_of s

-- ---- the slots ----

-- Candidates of m entries each, from the slots' words.
abbrev pub candidates_in : ℕ → ℕ → List ℕ → List (List Run)
candidates_in m c w = read_slots c m w

-- A tally's reason to stop, as the specification has it.
unfoldable pub status_of : Status → SpecStatus
status_of Going = going
status_of Done = done
status_of Full = full
status_of Called = called

-- What has been written and how it stands.
abbrev pub progress_of : ℕ → Tally → List ℕ → Progress (List Run)
progress_of m f w = record { written = candidates_in m f.count w; status = status_of f.stop }

-- The whole list, or its head alone.
unfoldable pub wanted_of : Bool → Wanted
wanted_of true = headOnly
wanted_of false = allOfThem

-- The words of a slot of m entries.
abbrev pub slot_words : ℕ → ℕ
slot_words m = m * run_layout.width

-- So many slots as the goal says are there, no more of them are written than that, and nothing has stopped the listing.
pub record SlotsReady (g : Goal) (f : Tally) (slots : List ℕ) : Type 0 where
  pub room : g.cap * slot_words g.entries ≤ length slots
  pub most : f.count ≤ g.cap
  pub goes : f.stop ≡ Going

-- No more than the slots are written, and the words after them are as they were.
pub record Filled (m cap : ℕ) (f r : Tally) (before after : List ℕ) : Type 0 where
  pub more : f.count ≤ r.count
  pub most : r.count ≤ cap
  pub rest : drop (r.count * slot_words m) after ≡ drop (r.count * slot_words m) before

-- The events are taken in: from the tally f and the slots' words before to the tally r and the words after.
pub record Written (g : Goal) (events : List (Event (List Run))) (f r : Tally) (before after : List ℕ) : Type 0 where
  pub taken : progress_of g.entries r after ≡ absorb (wanted_of g.head) g.cap events (progress_of g.entries f before)
  pub filled : Filled g.entries g.cap f r before after

-- What the walk from the place s leaves: the events taken in, the words of the levels as they were, and the entries that were known.
pub record Walked (g : Goal) (events : List (Event (List Run))) (f r : Tally) (before after : List ℕ) (s : Place) (levels binds : List ℕ) : Type 0 where
  pub written : Written g events f r before after
  pub levels-same : levels ≡ s.levels
  pub entries_same : entries_in s.bound binds ≡ entries_of s
