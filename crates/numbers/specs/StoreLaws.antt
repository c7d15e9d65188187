-- Laws of terms of a store for the code that reads them: two of them, and their contents as runs.
use Rattle.std.specs.Prelude.{◌≡◌, List, Option, Some, None, IfSome, ℕ, ◌+◌, ◌<◌, ◌≤◌}
use Rattle.std.proofs.Common.{arith}
use Rattle.term_spec.specs.Words.{record_at}
use Rattle.term_spec.specs.Term.{Term, Run, term_layout, bracket_kind, contents_run, limit}
use Rattle.value.specs.Equal.{TermStore, spec_equal_runs, equal_at}
use Rattle.value.specs.EqualLaws.{texts_at, contents-below, at_differ, at_symbols, at_brackets}
use Rattle.numbers.specs.DigestLaws.{below-prime}

-- A digest is below the prime.
pub ruleset digests_below = (below-prime)

-- Two terms, by their kinds.
pub ruleset two_terms = (texts_at, contents-below, at_differ, at_symbols, at_brackets)

-- Term i is a bracket, whose contents lie below it.
pub contents-inside :
    {names w : List ℕ} {used : ℕ} → TermStore names w used → {i : ℕ} {t : Term} → i < used → t ≡ record_at term_layout w i
    → t.kind ≡ bracket_kind → {r : Run} → r ≡ contents_run t → r.start + r.len ≤ i
contents-inside good inside read bracket e = rw e (contents-below _ _ _ good _ _ inside read bracket)

-- Two brackets are equal if their contents are.
pub contents_equal :
    {names w : List ℕ} {used : ℕ} → TermStore names w used → {i j : ℕ} {t u : Term} → i < used → j < used
    → t ≡ record_at term_layout w i → u ≡ record_at term_layout w j → t.kind ≡ bracket_kind → t.kind ≡ u.kind
    → {r q : Run} → r ≡ contents_run t → q ≡ contents_run u
    → spec_equal_runs names w used r.start r.len q.start q.len ≡ equal_at names w used i j
contents_equal good x y left right bracket same e f = rw (e, f) (at_brackets _ _ _ good _ _ _ _ x y left right bracket same)

-- What is no more than the length of a run is within the limit.
pub few_read : (cost : Option ℕ) (n : ℕ) → 1 + n ≤ limit → IfSome cost (λ r. r ≤ 1 + n) → IfSome cost (λ r. r ≤ limit)
few_read (Some r) n short h = omega arith
few_read None n short h = tt
