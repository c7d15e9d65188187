-- What the checks of a term store answer: 01's numbers 1 and 2, read off the specification's tests.
use Rattle.std.specs.Prelude.{List, [], Bool, true, false, ◌&&◌, leb, length, drop, ℕ, ◌*◌, min}
use Rattle.term_spec.specs.Words.{decode, count, whole}
use Rattle.term_spec.specs.Refusal.{uneven, bad_term}
use Rattle.term_spec.specs.Term.{Term, term_layout, limit, terms_rule}

-- The n terms from s on.
unfoldable pub run_of : List ℕ → ℕ → ℕ → List Term
run_of w s n = decode term_layout n (drop (s * term_layout.width) w)

-- A number, unless the test holds: then what comes next.
unfoldable pub unless : Bool → ℕ → ℕ → ℕ
unless true n next = next
unless false n next = n

-- 1 Uneven, of names and terms: the slice whole, the count within slice and limit, the names within theirs.
unfoldable pub terms_counts : List ℕ → List ℕ → ℕ → Bool
terms_counts names w used = whole term_layout w && leb (length names) limit && leb used (min (count term_layout w) limit)

-- The first of 1 and 2 that applies, or 0.
unfoldable pub terms_number : List ℕ → List ℕ → ℕ → ℕ
terms_number names w used = unless (terms_counts names w used) uneven (unless (terms_rule names [] (decode term_layout used w)) bad_term 0)
