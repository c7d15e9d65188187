-- Terms of two kinds differ, and Chars of two values do.
use Rattle.std.proofs.Common.{◌≡◌, refl, ℕ, true, not, nat_eq, sym, ◌∙◌, eq-eqb, eqb-true, arith}
use Rattle.numbers.specs.NumbersLaws.{never}
use Rattle.equality.specs.TwoLaws.{two_differ, two_chars_apart}
use Rattle.equality.proofs.apart_at_sight.Goals as goal

-- what a test for another number says
differ : (a b : ℕ) → not (nat_eq a b) ≡ true → a ≡ b → ⊥
differ a b told same = never told (rw (eq-eqb a b same) refl)

pub returns-then-t-u : goal.returns-then-t-u
returns-then-t-u c names used lies told = sym (two_differ (record { inside = lies; left = c.get-t.ensures; right = c.get-u.ensures }) c.if-t-u.true)

pub returns-then-is : goal.returns-then-is
returns-then-is c names used lies told =
    let kind = eqb-true _ _ (sym c.is.ensures ∙ c.if-is.true) in
    two_chars_apart (record { inside = lies; left = c.get-t.ensures; right = c.get-u.ensures }) (omega (arith, kind)) c.if-t-u.false (differ _ _ told)
