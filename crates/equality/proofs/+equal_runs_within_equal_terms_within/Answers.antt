-- Each exit is one law of equality.
use Rattle.std.proofs.Common.{◌≡◌, List, true, ℕ, ◌+◌, ◌≤◌, arith, rules, refl, ap, sym, ◌∙◌, eqb-true}
use Rattle.std.proofs.lemmas.Bool.{eqb-false}
use Rattle.value.specs.Equal.{equal_at}
use Rattle.value.specs.EqualLaws.{depth_inside, runs_lengths, runs_same, runs-all, runs_none}
use Rattle.term_spec.specs.Words.{record_at}
use Rattle.term_spec.specs.Term.{term_layout}
use Rattle.words.specs.declared.Term.{Term}
use Rattle.words.specs.Records.{as_term, as_run}
use Rattle.equality.specs.Within.{TermsIn, RunsIn, Tells}
use Rattle.equality.specs.WithinLaws.{tells_different, tells-equal}
use Rattle.equality.specs.TwoLaws.{Two, two_differ, two_chars, two_chars_apart, two_alike, two_inside, two_less, terms-inside}
use Rattle.equality.specs.TwoLaws.{runs_next}
use Rattle.equality.proofs.+equal_runs_within_equal_terms_within.Goals as goal

-- ---- runs ----

pub equal_runs_within-returns-then-first-second : goal.equal_runs_within-returns-then-first-second
unfolding Tells
equal_runs_within-returns-then-first-second t c used lies =
    (sym (runs_lengths _ _ used _ _ _ _ lies.first lies.second (search rules)), omega arith)

pub equal_runs_within-returns-then-first-second-2 : goal.equal_runs_within-returns-then-first-second-2
unfolding Tells
equal_runs_within-returns-then-first-second-2 t c used lies =
    (sym (runs_same _ _ used _ _ _ _ c.if-first-second.false c.if-first-second-2.true), omega arith)

pub equal_runs_within-returns-then-budget-first : goal.equal_runs_within-returns-then-budget-first
unfolding Tells
equal_runs_within-returns-then-budget-first t c used lies = tt

pub equal_runs_within-loop-k-init : goal.equal_runs_within-loop-k-init
equal_runs_within-loop-k-init t c = record { left = omega arith; same = λ used lies. runs-all _ _ used _ _ _ _ c.if-first-second.false }

pub equal_runs_within-equal_terms_within-requires : goal.equal_runs_within-equal_terms_within-requires
equal_runs_within-equal_terms_within-requires t c = (
  omega (arith, c.decreases, depth_inside c.args.terms.now c.args.first.start _ _ c.loop-k-test.true),
  (c.requires.0, terms-inside c.requires.1 c.if-first-second.false c.loop-k-test.true),
)

pub equal_runs_within-overflow_add-result : goal.equal_runs_within-overflow_add-result
equal_runs_within-overflow_add-result t c =
    let inside = terms-inside c.requires.1 c.if-first-second.false c.loop-k-test.true in
    let rest = tells_different (c.equal_terms_within.ensures _ inside) c.in-Different.is in
    omega (arith, rest.1, c.loop-k.invariant.left, c.if-budget-first.false, c.ranges.budget)

pub equal_runs_within-returns-in-Different : goal.equal_runs_within-returns-in-Different
unfolding Tells
equal_runs_within-returns-in-Different t c used lies =
    let inside = terms-inside lies c.if-first-second.false c.loop-k-test.true in
    let rest = tells_different (c.equal_terms_within.ensures _ inside) c.in-Different.is in (
      c.loop-k.invariant.same used lies ∙ runs_next lies c.if-first-second.false c.loop-k-test.true rest.0,
      omega (arith, rest.1, c.loop-k.invariant.left, c.if-budget-first.false),
    )

pub equal_runs_within-returns-in-Spent : goal.equal_runs_within-returns-in-Spent
unfolding Tells
equal_runs_within-returns-in-Spent t c used lies = tt

-- what is told where the runs' terms k are equal
equal_here : (t : ℕ) (c : goal.equal_runs_within-In-Equal t) {used : ℕ}
    → RunsIn c.args.names.now c.args.terms.now (as_run c.args.first) (as_run c.args.second) used
    → (equal_at c.args.names.now c.args.terms.now used (c.args.first.start + c.loop-k.k) (c.args.second.start + c.loop-k.k) ≡ true)
    × (c.in-Equal.rest ≤ c.loop-k.left)
equal_here t c lies = tells-equal (c.equal_terms_within.ensures _ (terms-inside lies c.if-first-second.false c.loop-k-test.true)) c.in-Equal.is

pub equal_runs_within-loop-k-preserved : goal.equal_runs_within-loop-k-preserved
equal_runs_within-loop-k-preserved t c = record {
  left = omega (arith, (equal_here t c c.requires.1).1, c.loop-k.invariant.left);
  same = λ used lies. c.loop-k.invariant.same used lies ∙ runs_next lies c.if-first-second.false c.loop-k-test.true (equal_here t c lies).0;
}

pub equal_runs_within-returns : goal.equal_runs_within-returns
unfolding Tells
equal_runs_within-returns t c used lies =
    (c.loop-k.invariant.same used lies ∙ runs_none _ _ used _ _ _ _ c.loop-k-test.false, omega (arith, c.loop-k.invariant.left))

-- ---- terms ----

-- the two terms, once they are read
abbrev two : {names terms : List ℕ} {i j used : ℕ} {t u : Term} → TermsIn names terms i j used
    → as_term t ≡ record_at term_layout terms i → as_term u ≡ record_at term_layout terms j → Two names terms i j (as_term t) (as_term u) used
two lies left right = record { inside = lies; left = left; right = right }

pub equal_terms_within-returns-then-t-u : goal.equal_terms_within-returns-then-t-u
unfolding Tells
equal_terms_within-returns-then-t-u t c used lies =
    (sym (two_differ (two lies c.get-t.ensures c.get-u.ensures) c.if-t-u.true), omega arith)

pub equal_terms_within-returns-then-t-u-2 : goal.equal_terms_within-returns-then-t-u-2
unfolding Tells
equal_terms_within-returns-then-t-u-2 t c used lies =
    let char = eqb-true _ _ (sym c.is.ensures ∙ c.if-is.true) in
    (two_chars_apart (two lies c.get-t.ensures c.get-u.ensures) char c.if-t-u.false c.if-t-u-2.true, omega arith)

pub equal_terms_within-returns-then-is : goal.equal_terms_within-returns-then-is
unfolding Tells
equal_terms_within-returns-then-is t c used lies =
    let char = eqb-true _ _ (sym c.is.ensures ∙ c.if-is.true) in
    (two_chars (two lies c.get-t.ensures c.get-u.ensures) char c.if-t-u.false c.if-t-u-2.false, omega arith)

pub equal_terms_within-equal_runs_within-requires : goal.equal_terms_within-equal_runs_within-requires
equal_terms_within-equal_runs_within-requires t c =
    let bracket = eqb-true _ _ (sym c.is-2.ensures ∙ c.if-is-2.true) in
    let here = two c.requires.1 c.get-t.ensures c.get-u.ensures in
    let less = two_less here bracket c.if-t-u.false c.contents.ensures c.contents-then-is-2.ensures refl in
    (omega (arith, less, c.decreases), (c.requires.0, two_inside here bracket c.if-t-u.false c.contents.ensures c.contents-then-is-2.ensures))

pub equal_terms_within-returns-then-is-2 : goal.equal_terms_within-returns-then-is-2
equal_terms_within-returns-then-is-2 t c used lies =
    let bracket = eqb-true _ _ (sym c.is-2.ensures ∙ c.if-is-2.true) in
    let here = two lies c.get-t.ensures c.get-u.ensures in
    let inside = two_inside here bracket c.if-t-u.false c.contents.ensures c.contents-then-is-2.ensures in
    rw (two_alike here bracket c.if-t-u.false c.contents.ensures c.contents-then-is-2.ensures) at (c.equal_runs_within.ensures used inside)

pub equal_terms_within-equal_symbols_at-requires-clause-inside : goal.equal_terms_within-equal_symbols_at-requires-clause-inside
equal_terms_within-equal_symbols_at-requires-clause-inside t c = c.requires

pub equal_terms_within-equal_symbols_at-requires-clause-kinds : goal.equal_terms_within-equal_symbols_at-requires-clause-kinds
equal_terms_within-equal_symbols_at-requires-clause-kinds t c = (
  ap (λ w. w.kind) (sym c.get-t.ensures) ∙ c.if-t-u.false ∙ ap (λ w. w.kind) c.get-u.ensures,
  λ e. eqb-false _ _ (sym c.is-2.ensures ∙ c.if-is-2.false) (ap (λ w. w.kind) c.get-t.ensures ∙ e),
)

pub equal_terms_within-returns-then-equal_symbols_at : goal.equal_terms_within-returns-then-equal_symbols_at
unfolding Tells
equal_terms_within-returns-then-equal_symbols_at t c used lies = (sym (c.equal_symbols_at.ensures used lies) ∙ c.if-equal_symbols_at.true, omega arith)

pub equal_terms_within-returns : goal.equal_terms_within-returns
unfolding Tells
equal_terms_within-returns t c used lies = (sym (c.equal_symbols_at.ensures used lies) ∙ c.if-equal_symbols_at.false, omega arith)
