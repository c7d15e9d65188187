-- What equality of terms and runs answers: whether the canonical forms are the same.
use Rattle.std.specs.Prelude.{List, [], Bool, T, length, get_or, ℕ, suc, zero, ◌+◌, ◌≤◌}
use Rattle.term_spec.specs.Words.{Lies, decode}
use Rattle.term_spec.specs.Term.{Term, term_layout, part, terms_rule}
use Rattle.term_spec.specs.Value.{Value, char, value_of, values, canon, forms, same?, sames?, is_yes}

-- A store whose used terms are there and within their rules.
pub record TermStore (names w : List ℕ) (used : ℕ) : Type 0 where
  pub fits : Lies term_layout w used
  pub good : T (terms_rule names [] (decode term_layout used w))

-- The text of an identifier or a number lies in the names.
unfoldable pub InNames : ℕ → List ℕ → Term → Type 0
InNames zero names t = Unit {0}
InNames (suc zero) names t = t.a + t.b ≤ length names
InNames (suc (suc zero)) names t = t.a + t.b ≤ length names
InNames (suc (suc (suc k))) names t = Unit {0}

-- So for two terms.
pub record Texts (names : List ℕ) (t u : Term) : Type 0 where
  pub left : InNames t.kind names t
  pub right : InNames u.kind names u

-- Whether two terms that are no brackets are equal; no term below them plays a part.
unfoldable pub spec_equal_symbols : List ℕ → Term → Term → Bool
spec_equal_symbols names t u = is_yes (same? (canon (value_of names t [])) (canon (value_of names u [])))

-- The values of the used terms.
abbrev pub values_in : List ℕ → List ℕ → ℕ → List Value
values_in names w used = values names (decode term_layout used w)

-- Whether terms i and j are equal.
unfoldable pub equal_at : List ℕ → List ℕ → ℕ → ℕ → ℕ → Bool
equal_at names w used i j = is_yes (same? (canon (get_or (values_in names w used) i (char 0))) (canon (get_or (values_in names w used) j (char 0))))

-- Whether the n terms from s on and the m terms from p on are equal, "term by term".
unfoldable pub spec_equal_runs : List ℕ → List ℕ → ℕ → ℕ → ℕ → ℕ → ℕ → Bool
spec_equal_runs names w used s n p m =
    is_yes (sames? (forms (part (values_in names w used) (record { start = s; len = n }))) (forms (part (values_in names w used) (record { start = p; len = m }))))
