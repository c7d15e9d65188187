-- A candidate goes into the next slot of a listing, or finds no slot left.
use Rattle.std.specs.Prelude.{◌≡◌, List, [], ◌∷◌, ◌++◌, Bool, true, false, length, get_or, set, take, drop, ℕ, suc, zero, ◌+◌, ◌-◌, ◌*◌, ◌≤◌, ◌<◌}
use Rattle.std.proofs.Math.Path.{refl, ap, sym}
use Rattle.std.proofs.Common.{ap₂, ◌∙◌, append_assoc, length-drop, length-take-le, take_at, add-one, arith, suc-mul, mul-le-mul_right}
use Rattle.std.proofs.Math.Seq.{paste, paste-zero, paste-suc}
use borrow.Rule.Slice.PartMut.{put_mid}
use borrow.Author.Rules.{rules}
use Rattle.std.proofs.lemmas.Slice.{overwrites}
use Rattle.std.proofs.lemmas.List.Edits.{length-paste, drop-paste}
use Rattle.std.proofs.Math.Decide.{dec_lt}
use Rattle.term_spec.specs.Words.{Layout, decode, encode}
use Rattle.term_spec.proofs.WordsLaws.{decode-take, decode-after}
use Rattle.term_spec.specs.Term.{Run, run_layout}
use Rattle.match_spec.specs.Walk.{hit}
use Rattle.match_spec.specs.Answer.{Wanted, after_one, absorb, absorb_one, write_hit}
use Rattle.match_spec.proofs.AnswerLaws.{write-room, write-full}
use Rattle.calls_spec.specs.Demand3.{read_slots}
use Rattle.matcher.specs.declared.Goal.{Goal}
use Rattle.matcher.specs.declared.Tally.{Tally}
use Rattle.matcher.specs.declared.Status.{Status}
use Rattle.matcher.specs.declared.Status.TheVariants.{Going, Done, Full}
use Rattle.matcher.specs.Ready.{candidates_in, status_of, wanted_of, slot_words, Written}

-- ---- the copy ----

-- i of n words have gone to `base` and after it.
pub record Pasted (before binds : List ℕ) (base n : ℕ) (after : List ℕ) (i : ℕ) : Type 0 where
  pub most : i ≤ n
  pub words : after ≡ paste before base binds i

pub pasted_none : (before binds : List ℕ) (base n : ℕ) → Pasted before binds base n before 0
pasted_none before binds base n = record { most = omega arith; words = paste-zero before base binds }

module _ {before binds : List ℕ} {base n : ℕ} {after : List ℕ} {i : ℕ} (so_far : Pasted before binds base n after i) (fits : base + n ≤ length before)
    (long : n ≤ length binds) where
  pub pasted_length : length after ≡ length before
  pasted_length = ap length so_far.words ∙ length-paste before base binds i (omega (arith, so_far.most)) (omega (arith, so_far.most))

  -- one word more
  pub pasted_next : i < n → Pasted before binds base n (set after (base + i) (get_or binds i 0)) (i + 1)
  pasted_next lt = record {
    most = omega arith;
    words = ap (λ w. set w (base + i) (get_or binds i 0)) so_far.words
        ∙ paste-suc before base binds i 0 (omega arith) (omega arith) ∙ ap (paste before base binds) (sym (add-one i));
  }

-- ---- the slots as records ----

-- A slot is one record, of as many runs as there are entries.
abbrev slot : ℕ → Layout (List Run)
slot m = record { width = m * 2; read = decode run_layout m; words = encode run_layout }

candidates_are : (m c : ℕ) (w : List ℕ) → c * (m * 2) ≤ length w → candidates_in m c w ≡ decode (slot m) c w
unfolding read_slots decode
candidates_are m zero w h = refl
candidates_are m (suc c) w h =
    let e = suc-mul c (m * 2) in
    ap₂ ◌∷◌ (sym (decode-take run_layout m w (omega arith))) (candidates_are m c (drop (m * 2) w) (rw length-drop (omega arith)))

candidates-length : (m c : ℕ) (w : List ℕ) → length (candidates_in m c w) ≡ c
unfolding read_slots
candidates-length m zero w = refl
candidates-length m (suc c) w = ap suc (candidates-length m c (drop (m * 2) w))

-- Where a slot is left, the next one lies within the words.
pub slot_within : (m c cap : ℕ) (w : List ℕ) → cap * (m * 2) ≤ length w → c < cap → c * (m * 2) + m * 2 ≤ length w
slot_within m c cap w h lt = omega (arith, mul-le-mul_right {m = suc c} {n = cap} (m * 2) (omega arith), suc-mul c (m * 2))

-- ---- the words of the entries in the slot after c candidates ----

module _ (m c : ℕ) (before binds : List ℕ) (fits : c * (m * 2) + m * 2 ≤ length before) (long : m * 2 ≤ length binds) where
  abbrev after : List ℕ
  after = paste before (c * (m * 2)) binds (m * 2)

  end : (c + 1) * (m * 2) ≡ c * (m * 2) + m * 2
  end = rw add-one (suc-mul c (m * 2))

  slot-rest : drop ((c + 1) * (m * 2)) after ≡ drop ((c + 1) * (m * 2)) before
  slot-rest = rw end (drop-paste before (c * (m * 2)) binds (m * 2) (omega arith) long)

  slot_read : (x : List ℕ) → decode (slot m) 1 (take (m * 2) binds ++ x) ≡ decode run_layout m binds ∷ []
  unfolding decode
  slot_read x =
      ap (λ w. decode run_layout m w ∷ []) (take_at (take (m * 2) binds) x (m * 2) (length-take-le (m * 2) binds long))
      ∙ ap (◌∷ []) (decode-take run_layout m binds long)

  -- they are one candidate more
  slot-written : candidates_in m (c + 1) after ≡ candidates_in m c before ++ (decode run_layout m binds ∷ [])
  slot-written =
      let h : c * (m * 2) ≤ length before = omega arith in
      candidates_are m (c + 1) after (omega (arith, end, length-paste before (c * (m * 2)) binds (m * 2) fits long))
      ∙ ap (decode (slot m) (c + 1)) (append_assoc (take (c * (m * 2)) before) (take (m * 2) binds) _)
      ∙ decode-after (slot m) c 1 (take (c * (m * 2)) before) _ (length-take-le (c * (m * 2)) before h)
      ∙ ap₂ ◌++◌ (decode-take (slot m) c before h ∙ sym (candidates_are m c before h)) (slot_read _)

-- What is copied to `base` and after it are the first n words of the entries.
pub pasted : (binds before words : List ℕ) (base n : ℕ) → n ≤ length binds → words ≡ take n binds
    → put_mid base (base + n - base) before words ≡ paste before base binds n
pasted binds before words base n long e =
    let z : base + n - base ≡ n = omega arith in
    rw z (search (rules, overwrites))

-- ---- a candidate is taken in ----

absorb_hit : {E : Type 0} (q : Wanted) (cap : ℕ) (B : E) (w : List E) (k : Status) → k ≡ Going
    → absorb q cap (hit B ∷ []) (record { written = w; status = status_of k }) ≡ write_hit q (dec_lt (length w) cap) w B
unfolding absorb absorb_one status_of
absorb_hit q cap B w k e = rw e refl

pub stop_head : {stop : Status} {head : Bool} → stop ≡ Done → head ≡ true → status_of stop ≡ after_one (wanted_of head)
unfolding status_of after_one wanted_of
stop_head s e = rw (s, e) refl

pub stop_all : {stop : Status} {head : Bool} → stop ≡ Going → head ≡ false → status_of stop ≡ after_one (wanted_of head)
unfolding status_of after_one wanted_of
stop_all s e = rw (s, e) refl

-- What the code answers for a candidate.
module _ (g : Goal) (f : Tally) (before : List ℕ) (goes : f.stop ≡ Going) where
  abbrev written_so_far : List (List Run)
  written_so_far = candidates_in g.entries f.count before

  -- no slot is left
  pub emit_full : (B : List Run) → f.count ≤ g.cap → g.cap ≤ f.count → Written g (hit B ∷ []) f (record { stop = Full; count = f.count }) before before
  unfolding status_of
  emit_full B most h = record {
    taken = sym (absorb_hit (wanted_of g.head) g.cap B written_so_far f.stop goes
        ∙ write-full (wanted_of g.head) g.cap written_so_far B (omega (arith, candidates-length g.entries f.count before)));
    filled = record { more = omega arith; most = most; rest = refl };
  }

  -- the next slot has the words of the entries
  pub emit_copied : (stop : Status) (binds : List ℕ) {after : List ℕ} → g.cap * slot_words g.entries ≤ length before
      → slot_words g.entries ≤ length binds → f.count < g.cap
      → after ≡ paste before (f.count * slot_words g.entries) binds (slot_words g.entries)
      → status_of stop ≡ after_one (wanted_of g.head)
      → Written g (hit (decode run_layout g.entries binds) ∷ []) f (record { stop = stop; count = f.count + 1 }) before after
  emit_copied stop binds room long lt ew es =
      let m = g.entries in
      let fits : f.count * (m * 2) + m * 2 ≤ length before = slot_within m f.count g.cap before room lt in
      record {
        taken = ap₂ (λ w t. record { written = w; status = t }) (ap (candidates_in m (f.count + 1)) ew ∙ slot-written m f.count before binds fits long) es
            ∙ sym (write-room (wanted_of g.head) g.cap written_so_far (decode run_layout m binds) (omega (arith, candidates-length m f.count before)))
            ∙ sym (absorb_hit (wanted_of g.head) g.cap (decode run_layout m binds) written_so_far f.stop goes);
        filled = record {
          more = omega arith;
          most = omega arith;
          rest = ap (drop ((f.count + 1) * (m * 2))) ew ∙ slot-rest m f.count before binds fits long;
        };
      }

  -- the same where the words went one by one
  pub emit_written : (stop : Status) {binds after : List ℕ} {i : ℕ} → g.cap * slot_words g.entries ≤ length before
      → slot_words g.entries ≤ length binds → f.count < g.cap
      → Pasted before binds (f.count * slot_words g.entries) (slot_words g.entries) after i → slot_words g.entries ≤ i
      → status_of stop ≡ after_one (wanted_of g.head)
      → Written g (hit (decode run_layout g.entries binds) ∷ []) f (record { stop = stop; count = f.count + 1 }) before after
  emit_written stop {binds} {after} {i} room long lt so_far ended es =
      let e : i ≡ slot_words g.entries = omega (arith, so_far.most) in
      emit_copied stop binds room long lt (so_far.words ∙ ap (paste before (f.count * slot_words g.entries) binds) e) es
