-- What comparing the terms of two nodes asks and answers.
use Rattle.std.specs.Prelude.{◌≡◌, List, map, Bool, false, Option, Some, None, length, get_or, drop, ℕ, ◌<◌, ◌≤◌}
use Rattle.term_spec.specs.Term.{limit}
use Rattle.term_spec.specs.Value.{Value, char}
use Rattle.view_spec.specs.Node.{Node, holds}
use Rattle.view_spec.specs.Read.{equal_terms}
use Rattle.value.specs.Equal.{TermStore}
use Rattle.numbers.specs.Numbers.{Numbers}
use Rattle.rope.specs.Pieces.{ShowBoth}

-- Two nodes have at least n terms each, of so many in a store that is within its rules.
pub record Ropes (names w nodes : List ℕ) (over used f g n : ℕ) : Type 0 where
  pub terms : TermStore names w over
  pub few : over ≤ limit
  pub shows : ShowBoth nodes over used f g n

-- The same where the numbers of these terms are known.
pub record RopesKnown (names w nodes : List ℕ) (over used : ℕ) (numbers : List ℕ) (f g n : ℕ) : Type 0 where
  pub known : Numbers names w over over numbers
  pub few : over ≤ limit
  pub shows : ShowBoth nodes over used f g n

-- The first k words of two lists are places of terms whose numbers are known.
pub record PlacesKnown (names w : List ℕ) (used : ℕ) (numbers first second : List ℕ) (k : ℕ) : Type 0 where
  pub known : Numbers names w used used numbers
  pub long : k ≤ length first
  pub far : k ≤ length second
  pub left : (i : ℕ) → i < k → get_or first i 0 < used
  pub right : (i : ℕ) → i < k → get_or second i 0 < used

-- The values at places.
abbrev pub picked : List Value → List ℕ → List Value
picked vs ps = map (λ p. get_or vs p (char 0)) ps

-- Whether the terms of two nodes after their first `from` and before their first n are equal.
unfoldable pub equal_from : List Value → List Node → ℕ → ℕ → ℕ → ℕ → Bool
equal_from vs ns f g n from =
    equal_terms (drop from (holds vs ns (record { node = f; len = n }))) (drop from (holds vs ns (record { node = g; len = n })))

-- The first n terms of two nodes are not equal, or they are if those after the first `done` are.
unfoldable pub TellsFronts : List Value → List Node → ℕ → ℕ → ℕ → Option ℕ → Type 0
TellsFronts vs ns f g n None = equal_from vs ns f g n 0 ≡ false
TellsFronts vs ns f g n (Some done) = (done ≤ n) × (equal_from vs ns f g n 0 ≡ equal_from vs ns f g n done)
