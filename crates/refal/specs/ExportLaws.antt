-- An export after its call: from the call's own equation, and what its answer is told as.
use Rattle.std.specs.Prelude.{◌≡◌, Result, List, Bool}
use Rattle.std.proofs.Math.Path.{ap}
use Rattle.std.proofs.Common.{◌∙◌}
use Prim.Native.Nat.{ℕ}
use Rattle.calls_spec.specs.Store.{Store}
use Rattle.calls_spec.specs.Step.{Answer, After}
use Rattle.equality.specs.Compare.{Comparison}
use Rattle.words.specs.declared.refusal.Refusal.{Refusal}
use Rattle.words.specs.Refusals.{spec_number}
use Rattle.view.specs.declared.Field.{Field}
use Rattle.view.specs.Check.{answer_of, leaves}
use Rattle.view_read.specs.declared.Flat.{Flat}
use Rattle.view_read.specs.Read.{verdict_of, flat_of, flat_by, leaves_work}
use Rattle.view_read.specs.FlatLaws.{flat_told}
use Rattle.listing.specs.declared.Matched.{Matched}
use Rattle.listing.specs.Match.{matched_of, leaves_slots}
use Rattle.sheet_spec.specs.Job.{SheetAnswer}
use Rattle.outputs.specs.SheetOutputs.{written_out, after_write}
use Rattle.outputs.specs.Outputs.{answer_by, verdict_by, matched_by}
use Rattle.outputs.specs.Outputs.{field_out, truth_out, flat_out, list_out, compared_out}
use Rattle.outputs.specs.NumberLaws.{answer_told, verdict_told, compared_told, matched_told, written_told}
use Rattle.refal.specs.Export.{after_field, after_truth, after_flat, after_list}

module _ (a : Answer) {x : After} {s : Store} where
  pub field-left : {t : ℕ × ℕ × ℕ} (n l : ℕ) → leaves a s ≡ x → t ≡ field_out a n l → ◌≡◌ {A = (ℕ × ℕ × ℕ) × Store} (t, s) (after_field x n l)
  unfolding leaves after_field
  field-left n l e p = ap (λ (v : ℕ × ℕ × ℕ). (v, s)) p ∙ ap (λ (z : After). after_field z n l) e

  pub truth_left : {t : ℕ × ℕ} (old : ℕ) → leaves a s ≡ x → t ≡ truth_out a old → ◌≡◌ {A = (ℕ × ℕ) × Store} (t, s) (after_truth x old)
  unfolding leaves after_truth
  truth_left old e p = ap (λ (v : ℕ × ℕ). (v, s)) p ∙ ap (λ (z : After). after_truth z old) e

module _ (a : Answer) {x : After} {s : Store} {w : List ℕ} where
  pub flat_left : {t : ℕ × ℕ × ℕ × ℕ} (i b c : ℕ) → leaves_work a s w ≡ x → t ≡ flat_out a i b c
      → ◌≡◌ {A = (ℕ × ℕ × ℕ × ℕ) × Store × List ℕ} (t, s, w) (after_flat x i b c)
  unfolding leaves_work after_flat
  flat_left i b c e p = ap (λ (v : ℕ × ℕ × ℕ × ℕ). (v, s, w)) p ∙ ap (λ (z : After). after_flat z i b c) e

  pub list_left : {t : ℕ × ℕ × ℕ} (c k : ℕ) → leaves_slots a s w ≡ x → t ≡ list_out a c k → ◌≡◌ {A = (ℕ × ℕ × ℕ) × Store × List ℕ} (t, s, w) (after_list x c k)
  unfolding leaves_slots after_list
  list_left c k e p = ap (λ (v : ℕ × ℕ × ℕ). (v, s, w)) p ∙ ap (λ (z : After). after_list z c k) e

-- A comparison of runs.
pub compared-left : (p : Comparison) {q : Comparison} {t : ℕ × ℕ} (old : ℕ) → p ≡ q → t ≡ compared_out p old → t ≡ compared_out q old
compared-left p old e f = f ∙ ap (λ (v : Comparison). compared_out v old) e

-- A call that writes a text.
pub write-left : (a : SheetAnswer) {x : SheetAnswer × List ℕ} {t : ℕ × ℕ} {o : List ℕ} (old : ℕ) → ◌≡◌ {A = SheetAnswer × List ℕ} (a, o) x
    → t ≡ written_out a old → ◌≡◌ {A = (ℕ × ℕ) × List ℕ} (t, o) (after_write x old)
unfolding after_write
write-left a {x} {t} {o} old e p = ap (λ (v : ℕ × ℕ). (v, o)) p ∙ ap (λ (z : SheetAnswer × List ℕ). after_write z old) e

-- ---- the same, as an export tells it: a refusal of the code by 01's number ----

module _ {x : After} {s : Store} where
  pub field-told : (r : Result Field Refusal) {t : ℕ × ℕ × ℕ} (n l : ℕ) → leaves (answer_of r) s ≡ x → t ≡ field_out (answer_by spec_number r) n l
      → ◌≡◌ {A = (ℕ × ℕ × ℕ) × Store} (t, s) (after_field x n l)
  field-told r n l e p = field-left (answer_of r) n l e (p ∙ ap (λ a. field_out a n l) (answer_told r))

  pub truth-told : (r : Result Bool Refusal) {t : ℕ × ℕ} (old : ℕ) → leaves (verdict_of r) s ≡ x → t ≡ truth_out (verdict_by spec_number r) old
      → ◌≡◌ {A = (ℕ × ℕ) × Store} (t, s) (after_truth x old)
  truth-told r old e p = truth_left (verdict_of r) old e (p ∙ ap (λ a. truth_out a old) (verdict_told r))

module _ {x : After} {s : Store} {w : List ℕ} where
  pub flat-told : (r : Result Flat Refusal) {t : ℕ × ℕ × ℕ × ℕ} (i b c : ℕ) → leaves_work (flat_of r) s w ≡ x → t ≡ flat_out (flat_by spec_number r) i b c
      → ◌≡◌ {A = (ℕ × ℕ × ℕ × ℕ) × Store × List ℕ} (t, s, w) (after_flat x i b c)
  flat-told r i b c e p = flat_left (flat_of r) i b c e (p ∙ ap (λ a. flat_out a i b c) (flat_told r))

  pub list-told : (r : Result Matched Refusal) {t : ℕ × ℕ × ℕ} (c k : ℕ) → leaves_slots (matched_of r) s w ≡ x → t ≡ list_out (matched_by spec_number r) c k
      → ◌≡◌ {A = (ℕ × ℕ × ℕ) × Store × List ℕ} (t, s, w) (after_list x c k)
  list-told r c k e p = list_left (matched_of r) c k e (p ∙ ap (λ a. list_out a c k) (matched_told r))

-- By which the check finds that an export tells what its call does.
pub ruleset exports = (field-told, truth-told, flat-told, list-told, compared_told, written_told)
