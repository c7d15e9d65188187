-- Laws of the loop over the splits of an open e-variable: where the walk may go on at a split, and what each exit of the loop leaves.
use Rattle.std.specs.Prelude.{◌≡◌, List, [], ◌∷◌, ◌++◌, Bool, true, false, length, ℕ, suc, ◌+◌, ◌-◌, ◌<◌, ◌≤◌, Option, Some, None}
use Rattle.std.proofs.Math.Path.{refl, ap, subst}
use Rattle.std.proofs.Common.{ap₂, sym, ◌∙◌, length-append, arith}
use Rattle.term_spec.proofs.ListLaws.{All, all_snoc}
use Rattle.term_spec.proofs.WordsLaws.{decode-length}
use Rattle.term_spec.specs.Term.{Run, run_layout}
use Rattle.match_spec.specs.Pattern.{name_limit, nesting_limit}
use Rattle.match_spec.specs.Walk.{Event, tried, upto, when, walk}
use Rattle.match_spec.proofs.RunLaws.{Inside}
use Rattle.steps.specs.Turn.{next, one_split, onward}
use Rattle.steps.specs.Stays.{Sound, Stays, KeepsPlace, Kept}
use Rattle.steps.specs.TurnLaws.{sound_most}
use Rattle.steps.specs.ArrayLaws.{entries_fewer, entries_less}
use Rattle.steps.specs.State.{Place, spec_place_of, left_of, front_of, back_of, giving, stack_of, level_of, levels_of, entries_in, entries_of}
use Rattle.steps.specs.State.{turn_of, LevelRoom, EntryRoom, Known}
use Rattle.steps.specs.declared.State.{State}
use Rattle.steps.specs.declared.Turned.{Turned}
use Rattle.steps.specs.declared.Turned.TheVariants.{Split}
use Rattle.matcher.specs.declared.Status.TheVariants.{Going}
use Rattle.rigid.specs.Fit.{split_fits, FirstFit, FirstOf}
use Rattle.matcher.specs.declared.Goal.{Goal}
use Rattle.matcher.specs.declared.Tally.{Tally}
use Rattle.matcher.specs.Ready.{Given, reading_of, pattern_from, events_from, Ready, TurnTaken, SlotsReady, Walked}
use Rattle.matcher.specs.EndLaws.{cells_size}
use Rattle.matcher.specs.FoldLaws.{written_same, Looping, loop_start, loop_done, loop_into, loop_stops, loop_to}
use Rattle.matcher.specs.WalkedLaws.{terms_of, size_of, split_levels, moved_on}

-- The events of the split at which k terms go to the e-variable, p being its record and `at` its place.
abbrev pub split_events : Given → ℕ → Place → ℕ → List (Event (List Run))
split_events v p at k = one_split (reading_of v) (pattern_from v (p + 1)) (level_of at) (stack_of at.depth at.levels) (entries_of at) k

-- Whether the rigid run after it fits there, with the entries of `binds`.
abbrev pub fits_there : Given → ℕ → Place → List ℕ → ℕ → Bool
fits_there v p at binds k = split_fits v.names v.terms v.used v.pattern v.numbers (p + 1) at.bound binds (level_of at) k

-- The loop from the tally f and the slots' words `before`: the splits before k are taken in, the rigid run fits at k, and levels and entries
-- show what they did.
pub record Splitting (v : Given) (p : ℕ) (g : Goal) (at : Place) (f : Tally) (before levels binds slots : List ℕ) (got : Tally) (k : ℕ) : Type 0 where
  pub loop : Looping g (split_events v p at) at.len f before got slots k
  pub fits : k ≤ at.len → fits_there v p at at.binds k ≡ true
  pub levels-same : levels ≡ at.levels
  pub entries_same : entries_in at.bound binds ≡ entries_of at
  pub binds_length : length binds ≡ length at.binds
  pub slots_length : length slots ≡ length before

-- So where the rigid run fits next, or nowhere.
abbrev pub SplittingAt : Given → ℕ → Goal → Place → Tally → List ℕ → List ℕ → List ℕ → List ℕ → Tally → Option ℕ → Type 0
SplittingAt v p g at f before levels binds slots got None = Splitting v p g at f before levels binds slots got (at.len + 1)
SplittingAt v p g at f before levels binds slots got (Some k) = Splitting v p g at f before levels binds slots got k × (k ≤ at.len)

-- How many splits are left.
abbrev pub splits_left : ℕ → Option ℕ → ℕ
splits_left n None = 0
splits_left n (Some k) = n + 1 - k

module _ (v : Given) (p : ℕ) (at : Place) where
  split_not : (k : ℕ) → fits_there v p at at.binds k ≡ false → split_events v p at k ≡ []
  unfolding one_split when
  split_not k e = rw e refl

  split_into : (k : ℕ) → fits_there v p at at.binds k ≡ true
      → let ls = back_of k (level_of at) ∷ stack_of at.depth at.levels in
      let env = entries_of at ++ (front_of k (level_of at) ∷ []) in
      split_events v p at k ≡ tried ∷ walk (reading_of v) (pattern_from v (p + 1)) ls env
  unfolding one_split when
  split_into k e = rw e refl

  -- words that show the same entries fit the same
  fits-same : (binds : List ℕ) (k : ℕ) → entries_in at.bound binds ≡ entries_of at → fits_there v p at at.binds k ≡ fits_there v p at binds k
  fits-same binds k e = rw e refl

  -- the next split that fits
  module _ (binds : List ℕ) {g : Goal} {f : Tally} {before slots : List ℕ} {got : Tally} {k : ℕ} (same : entries_in at.bound binds ≡ entries_of at)
      (o : Looping g (split_events v p at) at.len f before got slots k) {j : ℕ} (h : FirstFit (fits_there v p at binds) k at.len j) where
    loop_next : Looping g (split_events v p at) at.len f before got slots j
    loop_next = loop_to _ _ _ _ _ _ o h.low h.high (λ i a b. split_not i (fits-same binds i same ∙ h.passed i a b))

    next_fits : j ≤ at.len → fits_there v p at at.binds j ≡ true
    next_fits l = fits-same binds j same ∙ h.fits l

pub splitting_start : (v : Given) (p : ℕ) (g : Goal) (at : Place) (f : Tally) (before : List ℕ) {k : ℕ} → f.stop ≡ Going → f.count ≤ g.cap
    → FirstFit (fits_there v p at at.binds) 0 at.len k → Splitting v p g at f before at.levels at.binds before f k
splitting_start v p g at f before z c h = record {
  loop = loop_next v p at at.binds refl (loop_start _ _ _ _ _ z c) h;
  fits = next_fits v p at at.binds refl (loop_start g (split_events v p at) at.len f before z c) h;
  levels-same = refl;
  entries_same = refl;
  binds_length = refl;
  slots_length = refl;
}

pub splitting_found : (v : Given) (p : ℕ) (g : Goal) (at : Place) (f : Tally) (before : List ℕ) (r : Option ℕ) → f.stop ≡ Going → f.count ≤ g.cap
    → FirstOf (fits_there v p at at.binds) 0 at.len r → SplittingAt v p g at f before at.levels at.binds before f r
splitting_found v p g at f before None z c h = splitting_start v p g at f before z c h
splitting_found v p g at f before (Some k) z c h = (splitting_start v p g at f before z c h.0, h.1)

-- As many slots are there, and no more are written.
pub split_slots : {v : Given} {p : ℕ} {g : Goal} {at : Place} {f : Tally} {before levels binds slots : List ℕ} {got : Tally} {k : ℕ}
    → Splitting v p g at f before levels binds slots got k → SlotsReady g f before → SlotsReady g got slots
split_slots o h = record { room = rw o.slots_length h.room; most = o.loop.filled.most; goes = o.loop.goes }

-- ---- the loop at a turn that splits: a is the state after the turn, lv and bd the words of its levels and entries ----

module _ {v : Given} {p m : ℕ} {s : Place} {w : Turned} {a : State} {lv bd : List ℕ} (y : Ready v p m s)
    (t : TurnTaken v p s w lv bd) (e : w ≡ Split a) where
  abbrev at : Place
  at = spec_place_of a lv bd

  place_kept : KeepsPlace (pattern_from v (p + 1)) m (level_of s) (level_of at) (stack_of s.depth s.levels) (stack_of at.depth at.levels)
      (entries_of s) (entries_of at)
  unfolding turn_of Kept
  place_kept = subst (λ z. Kept v.used (pattern_from v (p + 1)) m (level_of s) (stack_of s.depth s.levels) (entries_of s) (turn_of z lv bd)) e (t.kept m y)

  pub split_inside : a.start + a.len ≤ v.used
  split_inside = subst (λ r. r.start + r.len ≤ v.used) (sym place_kept.level) y.stays.level_in

  pub split_bound : a.bound < name_limit
  split_bound = omega (
    arith,
    sound_most _ _ _ _ place_kept.sound,
    y.names_few,
    decode-length run_layout a.bound bd,
    ap length place_kept.entries,
  )

  split_depth : length (stack_of a.depth lv) ≤ nesting_limit
  split_depth = subst (λ l. length l ≤ nesting_limit) (sym place_kept.around) y.stays.shallow

  around_in : All (Inside v.used) (stack_of a.depth lv)
  around_in = subst (All (Inside v.used)) (sym place_kept.around) y.stays.around_in

  entered : All (Inside v.used) (entries_of at)
  entered = subst (All (Inside v.used)) (sym place_kept.entries) y.stays.entries_in_lem

  -- the entries in words that show the same ones
  pub split_known : (binds : List ℕ) → entries_in a.bound binds ≡ entries_of at → EntryRoom binds → Known v.used a.bound binds
  split_known binds q h = record { entries_in_lem = subst (All (Inside v.used)) (sym q) entered; bound = omega (arith, split_bound); room = h }

  -- words that show the same entries show those from before the record
  split_same : (binds : List ℕ) → entries_in a.bound binds ≡ entries_of at → entries_in s.bound binds ≡ entries_of s
  split_same binds q =
      let n : s.bound ≡ a.bound =
      sym (decode-length run_layout s.bound s.binds) ∙ ap length (sym place_kept.entries) ∙ decode-length run_layout a.bound bd in
      ap (λ k. entries_in k binds) n ∙ q ∙ place_kept.entries

  -- its splits
  turn_split : events_from v p s ≡ upto (split_events v p at) a.len
  unfolding turn_of onward
  turn_split =
      t.events ∙ ap (λ z. onward (reading_of v) (pattern_from v (p + 1)) (turn_of z lv bd)) e
      ∙ ap (upto (split_events v p at)) (cells_size v.names (terms_of v) (level_of at) (rw (size_of v) split_inside))

  -- k terms are given to it
  module _ {g : Goal} {f : Tally} {before levels binds slots : List ℕ} {got : Tally} {k : ℕ} (o : Splitting v p g at f before levels binds slots got k) where
    -- no split is left
    pub splitting_done : a.len < k → Walked g (events_from v p s) f got before slots s levels binds
    splitting_done h = record {
      written = written_same turn_split (loop_done _ _ _ _ _ o.loop h);
      levels-same = o.levels-same ∙ split_levels t e;
      entries_same = split_same binds o.entries_same;
    }

    module _ (h : k ≤ a.len) {n : State} (more : List ℕ) (en : n ≡ giving a k)
        (em : entries_in (a.bound + 1) more ≡ entries_in a.bound binds ++ (front_of k (left_of a) ∷ [])) where
      given-levels : levels_of (spec_place_of n levels more) ≡ back_of k (left_of a) ∷ stack_of a.depth lv
      given-levels = ap₂ (λ z l. levels_of (spec_place_of z l more)) en o.levels-same

      given_entries : entries_of (spec_place_of n levels more) ≡ entries_of at ++ (front_of k (left_of a) ∷ [])
      given_entries = ap (λ z. entries_of (spec_place_of z levels more)) en ∙ em ∙ ap (◌++ (front_of k (left_of a) ∷ [])) o.entries_same

      stays_given : Stays v.used (pattern_from v (p + 1)) m (back_of k (left_of a)) (stack_of a.depth lv) (entries_of at ++ (front_of k (left_of a) ∷ []))
      stays_given = record {
        level_in = omega (arith, split_inside);
        around_in = around_in;
        entries_in_lem = all_snoc (Inside v.used) (entries_of at) (front_of k (left_of a)) entered (omega (arith, split_inside));
        shallow = split_depth;
        sound = subst (λ i. Sound (pattern_from v (p + 1)) (length (stack_of a.depth lv)) i m)
            (ap (λ l. suc (length l)) (sym place_kept.entries) ∙ omega (arith, length-append (entries_of at) (front_of k (left_of a) ∷ [])))
            (subst (λ l. Sound (pattern_from v (p + 1)) (length l) (suc (length (entries_of s))) m) (sym place_kept.around) place_kept.sound);
      }

      -- the walk may go on there
      pub split_ready : LevelRoom levels → EntryRoom more → Ready v (p + 1) m (spec_place_of n levels more)
      unfolding Kept
      split_ready rl rb =
          moved_on y t.there (subst (λ z. Kept v.used (pattern_from v (p + 1)) m (level_of s) (stack_of s.depth s.levels) (entries_of s) z)
          (ap₂ next (sym given-levels) (sym given_entries)) stays_given) rl rb

      given_events : split_events v p at k ≡ tried ∷ events_from v (p + 1) (spec_place_of n levels more)
      given_events =
          split_into v p at k (o.fits h)
          ∙ ap₂ (λ ls env. tried ∷ walk (reading_of v) (pattern_from v (p + 1)) ls env) (sym given-levels) (sym given_entries)

      -- the walk from there is done
      module _ {r : Tally} {after levels-after binds-after : List ℕ}
          (d : Walked g (events_from v (p + 1) (spec_place_of n levels more)) got r slots after (spec_place_of n levels more) levels-after binds-after) where
        pub given-kept : entries_in a.bound binds-after ≡ entries_of at
        given-kept =
            let l : a.bound ≤ n.bound = omega (arith, ap (λ z. z.bound) en) in
            entries_fewer binds-after more a.bound n.bound l d.entries_same ∙ entries_less more binds a.bound _ em ∙ o.entries_same

        -- it stopped the listing
        pub splitting_stops : (r.stop ≡ Going → ⊥) → Walked g (events_from v p s) f r before after s levels-after binds-after
        splitting_stops q = record {
          written = written_same turn_split (loop_stops _ _ _ _ _ o.loop h given_events d.written q);
          levels-same = d.levels-same ∙ o.levels-same ∙ split_levels t e;
          entries_same = split_same binds-after given-kept;
        }

        -- the loop goes on at the next split that fits
        pub splitting_next : r.stop ≡ Going → length binds-after ≡ length binds → length after ≡ length slots
            → {j : ℕ} → FirstFit (fits_there v p at binds-after) (k + 1) a.len j
            → Splitting v p g at f before levels-after binds-after after r j
        splitting_next q lb ls x =
            let into = loop_into _ _ _ _ _ o.loop h given_events d.written q in record {
              loop = loop_next v p at binds-after given-kept into x;
              fits = next_fits v p at binds-after given-kept into x;
              levels-same = d.levels-same ∙ o.levels-same;
              entries_same = given-kept;
              binds_length = lb ∙ o.binds_length;
              slots_length = ls ∙ o.slots_length;
            }

        pub splitting_on : (j : Option ℕ) → r.stop ≡ Going → length binds-after ≡ length binds → length after ≡ length slots
            → FirstOf (fits_there v p at binds-after) (k + 1) a.len j → SplittingAt v p g at f before levels-after binds-after after r j
        splitting_on None q lb ls x = splitting_next q lb ls x
        splitting_on (Some j) q lb ls x = (splitting_next q lb ls x.0, x.1)
