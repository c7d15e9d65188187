-- Laws of a walk's answer and of the slots, one for each exit.
use Rattle.std.specs.Prelude.{◌≡◌, List, [], ◌∷◌, length}
use Rattle.std.proofs.Math.Path.{refl}
use Prim.Native.Nat.{ℕ, suc, zero, ◌*◌, ◌/◌}
use Rattle.std.proofs.Common.{arith}
use Rattle.match_spec.specs.Answer.{spec_slots_in, number_of}
use Rattle.calls_spec.specs.Step.{Answer, refused, listed, match_answer}
use Rattle.matcher.specs.declared.Status.{Status}
use Rattle.matcher.specs.declared.Status.TheVariants.{Going, Done, Full, Called}
use Rattle.matcher.specs.Ready.{status_of}

-- ---- the slots that fit whole ----

module _ (words : ℕ) where
  pub slots_one : (names : ℕ) → names ≡ 0 → 1 ≡ spec_slots_in words names
  unfolding spec_slots_in
  slots_one names e = rw e refl

  pub slots_more : (names : ℕ) → (names ≡ 0 → ⊥) → words / (2 * names) ≡ spec_slots_in words names
  unfolding spec_slots_in
  slots_more zero h = absurd (h refl)
  slots_more (suc n) h = refl

-- ---- the answer ----

-- What a walk that stopped by s and wrote w answers.
abbrev answered : {E : Type 0} → Status → List E → ℕ → ℕ → Answer
answered s w c k = match_answer (number_of (status_of s) w) c k

module _ {E : Type 0} (w : List E) (c k : ℕ) {s : Status} where
  pub answer-full : s ≡ Full → listed 15 c k ≡ answered s w c k
  unfolding status_of number_of match_answer
  answer-full e = rw e refl

  pub answer_called : s ≡ Called → refused 11 ≡ answered s w c k
  unfolding status_of number_of match_answer
  answer_called e = rw e refl

  pub answer_done : s ≡ Done → listed 0 c k ≡ answered s w c k
  unfolding status_of number_of match_answer
  answer_done e = rw e refl

-- by whether anything was written
none_written : {E : Type 0} (w : List E) (c k : ℕ) → length w ≡ c → c ≡ 0 → refused 10 ≡ answered Going w c k
unfolding status_of number_of match_answer
none_written [] c k l h = refl
none_written (x ∷ w) c k l h = absurd (omega arith)

pub answer_none : {E : Type 0} (w : List E) (c k : ℕ) {s : Status} → s ≡ Going → length w ≡ c → c ≡ 0 → refused 10 ≡ answered s w c k
answer_none w c k e l h = rw e (none_written w c k l h)

some_written : {E : Type 0} (w : List E) (c k : ℕ) → length w ≡ c → (c ≡ 0 → ⊥) → listed 0 c k ≡ answered Going w c k
unfolding status_of number_of match_answer
some_written [] c k l h = absurd (omega arith)
some_written (x ∷ w) c k l h = refl

pub answer_some : {E : Type 0} (w : List E) (c k : ℕ) {s : Status} → s ≡ Going → length w ≡ c → (c ≡ 0 → ⊥) → listed 0 c k ≡ answered s w c k
answer_some w c k e l h = rw e (some_written w c k l h)
