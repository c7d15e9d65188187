-- The slots after a listing: the candidates read from them are those that were written, and the words after them stay.
use Rattle.std.specs.Prelude.{◌≡◌, refl, List, [], ◌∷◌, ◌++◌, length, take, drop, ℕ, suc, zero, ◌+◌, ◌*◌, ◌≤◌}
use Rattle.std.proofs.Common.{ap, ap₂, sym, ◌∙◌, length-append, length-drop, take-append-drop, take-add, suc-mul, mul_assoc, arith}
use Rattle.term_spec.specs.Words.{decode, encode, write}
use Rattle.term_spec.proofs.WordsLaws.{Keeps, run_lays, decode-length, encode-append, encode-decode}
use Rattle.term_spec.specs.Term.{run_of, run_layout}
use Rattle.match_spec.specs.Answer.{spec_slots_in}
use Rattle.calls_spec.specs.Step.{concat, fill_slots}
use Rattle.calls_spec.proofs.LengthLaws.{slots_fit}
use Rattle.calls_spec.specs.Demand3.{read_slots}
use Rattle.matcher.specs.Ready.{candidates_in}

run-keeps : Keeps run_layout
unfolding run_of
run-keeps [] h = absurd (omega arith)
run-keeps (a ∷ []) h = absurd (omega arith)
run-keeps (a ∷ b ∷ []) h = refl
run-keeps (a ∷ b ∷ c ∷ w) h = absurd (omega arith)

pub candidates-length : (m c : ℕ) (w : List ℕ) → length (candidates_in m c w) ≡ c
unfolding read_slots
candidates-length m zero w = refl
candidates-length m (suc c) w = ap suc (candidates-length m c (drop (m * 2) w))

concat-length : (m c : ℕ) (w : List ℕ) → length (concat (candidates_in m c w)) ≡ c * m
unfolding read_slots concat
concat-length m zero w = omega arith
concat-length m (suc c) w =
    length-append (decode run_layout m w) (concat (candidates_in m c (drop (m * 2) w)))
    ∙ ap₂ ◌+◌ (decode-length run_layout m w) (concat-length m c (drop (m * 2) w)) ∙ sym (suc-mul c m ∙ omega arith)

-- the words of the candidates are the first words
candidates_words : (m c : ℕ) (w : List ℕ) → c * (m * 2) ≤ length w → encode run_layout (concat (candidates_in m c w)) ≡ take (c * (m * 2)) w
unfolding read_slots concat encode
candidates_words m zero w h = let z : zero * (m * 2) ≡ 0 = omega arith in ap (λ n. take n w) (sym z)
candidates_words m (suc c) w h =
    let e : suc c * (m * 2) ≡ m * 2 + c * (m * 2) = suc-mul c (m * 2) ∙ omega arith in
    let l : c * (m * 2) ≤ length (drop (m * 2) w) = rw length-drop (omega arith) in
    encode-append run_layout run_lays (decode run_layout m w) (concat (candidates_in m c (drop (m * 2) w)))
    ∙ ap₂ ◌++◌ (encode-decode run_layout run-keeps m w (omega arith)) (candidates_words m c (drop (m * 2) w) l)
    ∙ sym (take-add (m * 2) (c * (m * 2)) w) ∙ ap (λ n. take n w) (sym e)

-- The slots with the candidates filled in.
pub slots_filled : (m c : ℕ) (before after : List ℕ) → c * (m * 2) ≤ length after → drop (c * (m * 2)) after ≡ drop (c * (m * 2)) before
    → after ≡ fill_slots before (candidates_in m c after)
unfolding fill_slots write
slots_filled m c before after h e =
    let z : (0 + length (concat (candidates_in m c after))) * 2 ≡ c * (m * 2) = ap (λ n. (0 + n) * 2) (concat-length m c after) ∙ times c m in
    sym (take-append-drop (c * (m * 2)) after)
    ∙ ap₂ ◌++◌ (sym (candidates_words m c after h)) (e ∙ ap (λ n. drop n before) (sym z))
  where
    times : (c m : ℕ) → (0 + c * m) * 2 ≡ c * (m * 2)
    times zero m = omega arith
    times (suc c) m = omega (arith, suc-mul c m, suc-mul c (m * 2), times c m)

-- Whole slots fit.
pub room_for : (words m : ℕ) → spec_slots_in words m * (m * 2) ≤ words
room_for words m =
    let z : spec_slots_in words m * (m * 2) ≡ spec_slots_in words m * m * 2 = sym (mul_assoc (spec_slots_in words m) m 2) in
    omega (arith, z, slots_fit words m (spec_slots_in words m) (omega arith))
