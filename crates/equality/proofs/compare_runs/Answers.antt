-- A store that `check_terms` lets pass is one that comparing asks for; each exit is one law of the answer.
use Rattle.std.proofs.Common.{◌≡◌, List, ℕ, arith, refl, sym, ◌∙◌}
use Rattle.std.proofs.lemmas.Result.{err_from_is_err_and}
use Rattle.words.specs.Refusals.{told_number, spec_number}
use Rattle.words.proofs.RefusalLaws.{number_some}
use Rattle.value.specs.Check.{terms_number}
use Rattle.value.specs.EqualLaws.{store_of, store_few}
use Rattle.equality.specs.Compare.{answer_of}
use Rattle.equality.specs.CompareLaws.{compared-refused, compared-first, compared_second, compared_both}
use Rattle.equality.proofs.compare_runs.Goals as goal
use Rattle.equality.proofs.compare_runs.Goals.{then-used-n-via-then-used-n, then-used-n-via-else-used-n+then-used-n-2}
use Rattle.equality.proofs.compare_runs.Goals.{then-used-m-via-then-used-m, then-used-m-via-else-used-m+then-used-m-2}

-- As many terms were checked as there are.
checked : (names w : List ℕ) (used : ℕ) {number k : ℕ} → number ≡ terms_number names w k → k ≡ used → number ≡ terms_number names w used
checked names w used e all = rw (← all) e

pub returns-in_err-check_terms : goal.returns-in_err-check_terms
unfolding answer_of told_number
returns-in_err-check_terms c =
    let e = checked _ _ c.args.used c.in_err-check_terms.ensures (grind arith) in
    let p = err_from_is_err_and c.from_residual.result c.from_residual.ensures.1 in
    rw (p.1, p.2) (compared-refused _ _ _ _ _ _ _ e (number_some _))

pub returns-then-used-n : goal.returns-then-used-n
unfolding answer_of told_number spec_number
returns-then-used-n c =
    let e = checked _ _ c.args.used c.in_ok-check_terms.ensures (grind arith) in
    elim c.then-used-n.branch [
      | then-used-n-via-then-used-n w ↦ compared-first _ _ _ _ _ _ _ e refl (omega arith)
      | then-used-n-via-else-used-n+then-used-n-2 w ↦ compared-first _ _ _ _ _ _ _ e refl (omega arith)
    ]

pub returns-then-used-m : goal.returns-then-used-m
unfolding answer_of told_number spec_number
returns-then-used-m c =
    let e = checked _ _ c.args.used c.in_ok-check_terms.ensures (grind arith) in
    elim c.then-used-m.branch [
      | then-used-m-via-then-used-m w ↦ compared_second _ _ _ _ _ _ _ e refl (omega arith) (omega arith)
      | then-used-m-via-else-used-m+then-used-m-2 w ↦ compared_second _ _ _ _ _ _ _ e refl (omega arith) (omega arith)
    ]

pub invariant_of-store : goal.invariant_of-store
unfolding told_number
invariant_of-store c =
    let e = checked _ _ c.args.used c.in_ok-check_terms.ensures (grind arith) in
    record { good = store_of _ _ _ e refl; few = store_few _ _ _ e refl }

pub returns-then-not-equal_alone : goal.returns-then-not-equal_alone
unfolding answer_of told_number
returns-then-not-equal_alone c =
    let e = checked _ _ c.args.used c.in_ok-check_terms.ensures (grind arith) in
    let told = sym c.if-not-equal_alone.true ∙ c.equal_alone.ensures in
    compared_both _ _ _ _ _ _ _ e refl (omega arith) (omega arith) told

pub returns : goal.returns
unfolding answer_of told_number
returns c =
    let e = checked _ _ c.args.used c.in_ok-check_terms.ensures (grind arith) in
    let told = sym c.if-not-equal_alone.false ∙ c.equal_alone.ensures in
    compared_both _ _ _ _ _ _ _ e refl (omega arith) (omega arith) told
