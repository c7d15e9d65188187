-- What the tests of kinds say: a record that is of a kind, and one that is not.
use Rattle.std.specs.Prelude.{◌≡◌, ℕ, Bool, true, false, eqb}
use Rattle.std.proofs.Common.{sym, ◌∙◌}
use borrow.Author.Tests.{eqb-true, eqb-false}

pub of_kind : {kind k : ℕ} {b : Bool} → b ≡ eqb kind k → b ≡ true → kind ≡ k
of_kind e t = eqb-true _ _ (sym e ∙ t)

pub not_of_kind : {kind k : ℕ} {b : Bool} → b ≡ eqb kind k → b ≡ false → kind ≡ k → ⊥
not_of_kind e f = eqb-false _ _ (sym e ∙ f)
