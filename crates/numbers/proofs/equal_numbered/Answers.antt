-- Runs are equal where nothing tells them apart.
use Rattle.std.proofs.Common.{◌≡◌, refl, ◌∙◌, Bool, true, false, not, ℕ, Option, Some, None, is_some, is_none}
use Rattle.numbers.specs.NumbersLaws.{never}
use Rattle.numbers.proofs.equal_numbered.Goals as goal

none_is : (o : Option ℕ) (b : Bool) → is_some o ≡ not b → b ≡ is_none o
none_is None true h = refl
none_is None false h = never h refl
none_is (Some x) true h = never refl h
none_is (Some x) false h = refl

pub returns : goal.returns
returns c names w used k known first second inside =
    none_is _ _ c.is_none.ensures ∙ c.runs_apart.ensures.1 names w used k known first second inside
