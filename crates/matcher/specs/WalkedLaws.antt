-- Laws of the walk in code: what a record's turn brings, where the walk may go on, and what each exit leaves.
use Rattle.std.proofs.Math.Path.{◌≡◌, ap, ap₂, subst}
use Rattle.std.specs.Prelude.{refl, List, [], ◌∷◌, Bool, T, get_or, ℕ, suc, zero, ◌+◌, ◌*◌, ◌/◌, ◌<◌, ◌≤◌, max}
use Rattle.std.proofs.Common.{sym, ◌∙◌, arith}
use Rattle.std.proofs.Math.ListN.{length, set}
use Rattle.term_spec.proofs.ListLaws.{All}
use Rattle.term_spec.specs.Words.{Lies, decode, record_at, write, count}
use Rattle.term_spec.proofs.WordsLaws.{decode-length}
use Rattle.term_spec.specs.Term.{Term, Run, term_layout, run_layout}
use Rattle.words.specs.declared.Run.{Run as CodeRun}
use Rattle.words.specs.Records.{as_run, SmallRun}
use Rattle.term_spec.proofs.TermLaws.{Valid, valid-terms}
use Rattle.match_spec.specs.Element.{Element, canon_e}
use Rattle.match_spec.specs.Pattern.{Item, item_layout, element_k, element, item_rule_k, name_limit}
use Rattle.match_spec.specs.Walk.{hit, reached, ends, walk}
use Rattle.steps.specs.Turn.{turn, onward}
use Rattle.steps.specs.Stays.{Sound, Stays, Kept, Grows}
use Rattle.steps.specs.TurnLaws.{walk_turn, sound_most, turn-kept, turn-grows}
use Rattle.steps.specs.StepLaws.{entry_in, coded_many}
use Rattle.steps.specs.ArrayLaws.{run_at, run_written, entries_fewer, restores-same}
use Rattle.steps.specs.PatternAtLaws.{pattern_at, pattern_end, pattern_item}
use Rattle.steps.specs.State.{Place, stack_of, level_of, levels_of, entries_in, entries_of}
use Rattle.steps.specs.State.{spec_place_of, turn_of, LevelRoom, EntryRoom, Stands, Restores, LevelsKept, EndsApart, renamed, coded, Fine}
use Rattle.steps.specs.declared.State.{State}
use Rattle.steps.specs.declared.Turned.{Turned}
use Rattle.steps.specs.declared.Turned.TheVariants.{Stop, Next, Split, Call}
use Rattle.matcher.specs.declared.Goal.{Goal}
use Rattle.matcher.specs.declared.Tally.{Tally}
use Rattle.matcher.specs.Ready.{Given, reading_of, pattern_from, events_from, Ready, TurnTaken, Walked}
use Rattle.matcher.specs.EndLaws.{end_all, end_more, end_hit, known_apart}
use Rattle.matcher.specs.FoldLaws.{written_same}

-- ---- what the record asks of the state ----

fine_by : (k : ℕ) (names : List ℕ) (t : Item) (x : ℕ) (p : List (Element ℕ)) (d b m : ℕ)
    → m ≤ name_limit → Sound (renamed x (canon_e (element_k k names t)) ∷ p) d b m → Fine k x d b
unfolding element_k canon_e renamed Sound Fine
fine_by zero names t x p d b m l h = tt
fine_by (suc zero) names t x p d b m l h = tt
fine_by (suc (suc zero)) names t x p d b m l h = tt
fine_by (suc (suc (suc zero))) names t x p d b m l h = h.0
fine_by (suc (suc (suc (suc zero)))) names t x p zero b m l h = absurd h
fine_by (suc (suc (suc (suc zero)))) names t x p (suc d) b m l h = omega arith
fine_by (suc (suc (suc (suc (suc zero))))) names t x p d b m l h = (h.0, omega (arith, sound_most p d (max b (suc x)) m h.1))
fine_by (suc (suc (suc (suc (suc (suc zero)))))) names t x p d b m l h = (h.0, omega (arith, sound_most p d (max b (suc x)) m h.1))
fine_by (suc (suc (suc (suc (suc (suc (suc zero))))))) names t x p d b m l h = (h.0, omega (arith, sound_most p d (max b (suc x)) m h.1))
fine_by (suc (suc (suc (suc (suc (suc (suc (suc k)))))))) names t x p d b m l h = tt

pub sound-fine : (names : List ℕ) (t : Item) (x : ℕ) (p : List (Element ℕ)) (d b m : ℕ)
    → m ≤ name_limit → Sound (coded names t x ∷ p) d b m → Fine t.kind x d b
unfolding coded element
sound-fine names t x p d b m l h = fine_by t.kind names t x p d b m l h

-- ---- where the walk stands ----

stack_size : (d : ℕ) (w : List ℕ) → length (stack_of d w) ≡ d
unfolding stack_of
stack_size zero w = refl
stack_size (suc d) w = ap suc (stack_size d w)

-- A record that is there, by the words.
pub there : (w : List ℕ) (p : ℕ) → p < length w / 4 → p < count item_layout w
unfolding count
there w p h = h

pub not_there : (w : List ℕ) (p : ℕ) → length w / 4 ≤ p → count item_layout w ≤ p
unfolding count
not_there w p h = h

module _ (v : Given) where
  abbrev pub terms_of : List Term
  terms_of = decode term_layout v.used v.terms

  pub size_of : length terms_of ≡ v.used
  size_of = decode-length term_layout v.used v.terms

module _ {v : Given} {p m : ℕ} {s : Place} (y : Ready v p m s) where
  valid_terms_of : Valid (terms_of v)
  valid_terms_of = valid-terms v.names (terms_of v) y.store.good

  pub ready_stands : Stands v.used s
  unfolding All
  ready_stands = record {
    levels_in = (y.stays.level_in, y.stays.around_in);
    known = record {
      entries_in_lem = y.stays.entries_in_lem;
      bound = omega (arith, sound_most _ _ _ _ y.stays.sound, y.names_few, decode-length run_layout s.bound s.binds);
      room = y.entry-room;
    };
    depth = omega (arith, y.stays.shallow, stack_size s.depth s.levels);
    room = y.level-room;
  }

  -- the words of the innermost level's depth are there
  pub depth_room : 2 * s.depth + 2 ≤ length s.levels
  depth_room = omega (arith, ready_stands.depth, y.level-room)

  -- the number of a record that is there
  pub number_there : p < count item_layout v.pattern → p < length v.numbers
  number_there h = omega (arith, y.pattern.numbered)

  -- at the end of the pattern
  module _ (e : count item_layout v.pattern ≤ p) where
    ended : pattern_from v p ≡ []
    ended = pattern_end v.names v.pattern v.numbers p e

    here : Stays (length (terms_of v)) (pattern_from v p) m (level_of s) (stack_of s.depth s.levels) (entries_of s)
    here = rw (size_of v) y.stays

    ready_all : s.bound ≡ m
    ready_all = sym (decode-length run_layout s.bound s.binds) ∙ end_all v.names (terms_of v) m (level_of s) (entries_of s) _ ended _ here

    pub ready_more : (s.len ≡ 0 → ⊥) → events_from v p s ≡ []
    ready_more h = end_more v.names (terms_of v) m (level_of s) (entries_of s) _ ended _ here h

    pub ready_hit : s.len ≡ 0 → events_from v p s ≡ hit (entries_in m s.binds) ∷ []
    ready_hit h = end_hit v.names (terms_of v) m (level_of s) (entries_of s) _ ended _ here h ∙ ap (λ n. hit (entries_in n s.binds) ∷ []) ready_all

-- ---- record p takes its turn ----

module _ (v : Given) (p : ℕ) (s : Place) (lt : p < count item_layout v.pattern) {t : Item} {x : ℕ}
    (et : t ≡ record_at item_layout v.pattern p) (ex : x ≡ get_or v.numbers p 0) where
  after : pattern_from v p ≡ coded v.names t x ∷ pattern_from v (p + 1)
  after = pattern_at v.names v.pattern v.numbers p lt et ex

  module _ {m : ℕ} (y : Ready v p m s) where
    pub ready_item : T (item_rule_k t.kind v.names t)
    ready_item = pattern_item v.names v.pattern v.numbers p y.pattern.rule lt et

    stays_here : Stays v.used (coded v.names t x ∷ pattern_from v (p + 1)) m (level_of s) (stack_of s.depth s.levels) (entries_of s)
    stays_here = subst (λ z. Stays v.used z m (level_of s) (stack_of s.depth s.levels) (entries_of s)) after y.stays

    pub ready_fine : Fine t.kind x s.depth s.bound
    ready_fine = subst (λ d. Fine t.kind x d s.bound) (stack_size s.depth s.levels)
        (subst (λ b. Fine t.kind x (length (stack_of s.depth s.levels)) b) (decode-length run_layout s.bound s.binds)
        (sound-fine v.names t x _ _ _ m y.names_few stays_here.sound))

    -- a known e-variable that ends its level with another number of terms finds nothing
    apart_none : {last : Bool} → EndsApart t.kind x last s.bound s.len s.binds → last ≡ ends (pattern_from v (p + 1)) → events_from v p s ≡ []
    apart_none z el =
        ap (λ l. walk (reading_of v) l (levels_of s) (entries_of s)) after
        ∙ ap (λ c. walk (reading_of v) (c ∷ pattern_from v (p + 1)) (levels_of s) (entries_of s)) (coded_many v.names t x z.many)
        ∙ known_apart v.names (terms_of v) (pattern_from v (p + 1)) x (level_of s) (stack_of s.depth s.levels) (entries_of s)
        (rw (size_of v) y.stays.level_in) (sym el ∙ z.ends) (rw decode-length z.known)
        (rw (size_of v) (entry_in v.used s.bound s.binds x (ready_stands y).known z.known refl)) z.apart

    pub apart-taken : {last : Bool} → EndsApart t.kind x last s.bound s.len s.binds → last ≡ ends (pattern_from v (p + 1))
        → TurnTaken v p s Stop s.levels s.binds
    unfolding turn_of onward Kept Grows
    apart-taken z el = record {
      there = lt;
      events = apart_none z el;
      kept = λ n k. tt;
      grows = tt;
      back = restores-same s.depth s.levels;
      same = λ n. refl;
      entries_same = refl;
    }

  module _ {last : Bool} (el : last ≡ ends (pattern_from v (p + 1))) (m : Turned) (lv bd : List ℕ)
      (em : turn_of m lv bd ≡ turn (reading_of v) (coded v.names t x) last (levels_of s) (entries_of s)) where
    kept-turn : (n : ℕ) → Ready v p n s → Kept v.used (pattern_from v (p + 1)) n (level_of s) (stack_of s.depth s.levels) (entries_of s) (turn_of m lv bd)
    kept-turn n y =
        rw em (rw (size_of v) at (turn-kept v.names (terms_of v) (valid_terms_of y) (coded v.names t x) (pattern_from v (p + 1)) n last
        (level_of s) (stack_of s.depth s.levels) (entries_of s) (rw (size_of v) (stays_here y))))

    -- the walk is the turn, and then going on
    pub turn-taken : LevelsKept s.depth m s.levels lv → entries_in s.bound bd ≡ entries_of s → TurnTaken v p s m lv bd
    turn-taken k n = record {
      there = lt;
      events = ap (λ z. walk (reading_of v) z (levels_of s) (entries_of s)) after
          ∙ walk_turn (reading_of v) (pattern_from v (p + 1)) (coded v.names t x) (levels_of s) (entries_of s)
          ∙ ap (λ b. onward (reading_of v) (pattern_from v (p + 1)) (turn (reading_of v) (coded v.names t x) b (levels_of s) (entries_of s))) (sym el)
          ∙ ap (onward (reading_of v) (pattern_from v (p + 1))) (sym em);
      kept = kept-turn;
      grows = rw em (turn-grows (reading_of v) (entries_of s) (coded v.names t x) last (levels_of s));
      back = k.back;
      same = k.same;
      entries_same = n;
    }

-- ---- what the walk goes on with ----

-- So many levels and entries later.
pub moved_on : {v : Given} {p m : ℕ} {s g : Place} → Ready v p m s → p < count item_layout v.pattern
    → Stays v.used (pattern_from v (p + 1)) m (level_of g) (stack_of g.depth g.levels) (entries_of g)
    → LevelRoom g.levels → EntryRoom g.binds → Ready v (p + 1) m g
moved_on y lt z rl rb = record {
  store = y.store;
  few = y.few;
  pattern = y.pattern;
  here = omega arith;
  stays = z;
  names_few = y.names_few;
  level-room = rl;
  entry-room = rb;
}

-- A run that is read fits where it was.
pub small_read : (w : List ℕ) (i : ℕ) (r : CodeRun) → ((k : ℕ) → get_or w k 0 < 4294967296) → as_run r ≡ record_at run_layout w i → SmallRun r
small_read w i r fits h =
    let e : as_run r ≡ record { start = get_or w (2 * i) 0; len = get_or w (2 * i + 1) 0 } = h ∙ sym (run_at w i refl refl) in
    let s : r.start ≡ get_or w (2 * i) 0 = ap (λ (z : Run). z.start) e in
    let l : r.len ≡ get_or w (2 * i + 1) 0 = ap (λ (z : Run). z.len) e in
    record { start = omega (arith, s, fits (2 * i)); len = omega (arith, l, fits (2 * i + 1)) }

-- The run of a level, put back.
restored : (d : ℕ) (before after : List ℕ) → Restores d before after → Lies run_layout after (d + 1)
    → write run_layout after d (record_at run_layout before d ∷ []) ≡ before
unfolding Restores
restored d before after k h =
    ap (λ r. write run_layout after d (r ∷ [])) (sym (run_at before d refl refl)) ∙ run_written after d _ h ∙ k

module _ {v : Given} {p : ℕ} {s : Place} {m : Turned} {lv bd : List ℕ} (k : TurnTaken v p s m lv bd) where
  pub turn_stop : m ≡ Stop → events_from v p s ≡ []
  unfolding turn_of onward
  turn_stop e = k.events ∙ ap (λ z. onward (reading_of v) (pattern_from v (p + 1)) (turn_of z lv bd)) e

  pub turn_call : m ≡ Call → events_from v p s ≡ reached ∷ []
  unfolding turn_of onward
  turn_call e = k.events ∙ ap (λ z. onward (reading_of v) (pattern_from v (p + 1)) (turn_of z lv bd)) e

  -- a record that does not go on leaves the levels' words
  pub stop_same : m ≡ Stop → lv ≡ s.levels
  stop_same e = k.same (λ a f. let z : ◌≡◌ {A = ℕ} 0 1 = cc in omega arith)

  pub call_same : m ≡ Call → lv ≡ s.levels
  call_same e = k.same (λ a f. let z : ◌≡◌ {A = ℕ} 0 1 = cc in omega arith)

  module _ {a : State} where
    pub split_levels : m ≡ Split a → lv ≡ s.levels
    split_levels e = k.same (λ b f. let z : ◌≡◌ {A = ℕ} 0 1 = cc in omega arith)

    turn_next : m ≡ Next a → events_from v p s ≡ events_from v (p + 1) (spec_place_of a lv bd)
    unfolding turn_of onward
    turn_next e = k.events ∙ ap (λ z. onward (reading_of v) (pattern_from v (p + 1)) (turn_of z lv bd)) e

    pub ready_next : {n : ℕ} → Ready v p n s → m ≡ Next a → LevelRoom lv → EntryRoom bd → Ready v (p + 1) n (spec_place_of a lv bd)
    unfolding turn_of Kept
    ready_next {n} y e rl rb =
        moved_on y k.there
        (subst (λ z. Kept v.used (pattern_from v (p + 1)) n (level_of s) (stack_of s.depth s.levels) (entries_of s) (turn_of z lv bd)) e (k.kept n y)) rl rb

    -- no entry is lost
    next_grows : m ≡ Next a → s.bound ≤ a.bound
    unfolding turn_of Grows
    next_grows e =
        let g : length (entries_of s) ≤ length (entries_of (spec_place_of a lv bd)) = subst (λ z. Grows (length (entries_of s)) (turn_of z lv bd)) e k.grows in
        omega (arith, decode-length run_layout s.bound s.binds, decode-length run_layout a.bound bd)

    -- the walk after it is done, and the run of the level is put back
    pub next_restored : {g : Goal} {f r : Tally} {before after levels binds last : List ℕ} → m ≡ Next a → Lies run_layout lv (s.depth + 1)
        → Walked g (events_from v (p + 1) (spec_place_of a lv bd)) f r before after (spec_place_of a lv bd) levels binds
        → last ≡ write run_layout levels s.depth (record_at run_layout s.levels s.depth ∷ []) → Walked g (events_from v p s) f r before after s last binds
    next_restored e room h q = record {
      written = written_same (turn_next e) h.written;
      levels-same = q ∙ ap (λ l. write run_layout l s.depth (record_at run_layout s.levels s.depth ∷ [])) h.levels-same
          ∙ restored s.depth s.levels lv k.back room;
      entries_same = entries_fewer _ bd s.bound a.bound (next_grows e) h.entries_same ∙ k.entries_same;
    }

    -- the same where the two words of the level are put back
    pub next_walked : {g : Goal} {f r : Tally} {before after levels binds last : List ℕ} {start len : ℕ} → m ≡ Next a
        → start ≡ get_or s.levels (2 * s.depth) 0 → len ≡ get_or s.levels (2 * s.depth + 1) 0
        → Walked g (events_from v (p + 1) (spec_place_of a lv bd)) f r before after (spec_place_of a lv bd) levels binds
        → last ≡ set (set levels (2 * s.depth) start) (2 * s.depth + 1) len → Walked g (events_from v p s) f r before after s last binds
    unfolding Restores
    next_walked {start = start} {len = len} e es el h q = record {
      written = written_same (turn_next e) h.written;
      levels-same = q ∙ ap (λ l. set (set l (2 * s.depth) start) (2 * s.depth + 1) len) h.levels-same
          ∙ ap₂ (λ x y. set (set lv (2 * s.depth) x) (2 * s.depth + 1) y) es el ∙ k.back;
      entries_same = entries_fewer _ bd s.bound a.bound (next_grows e) h.entries_same ∙ k.entries_same;
    }
