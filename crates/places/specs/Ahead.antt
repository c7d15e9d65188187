-- The code's pieces and fields, and what waits after a piece, as the specification has them.
use Rattle.std.specs.Prelude.{◌≡◌, List, [], ◌∷◌, ℕ, Option, Some, None}
use Rattle.view_spec.specs.Node.{Field as SpecField}
use Rattle.places.specs.declared.pieces.Field.{Field}
use Rattle.places.specs.declared.pieces.Piece.{Piece}
use Rattle.places.specs.declared.pieces.Ahead.{Ahead}
use Rattle.places.specs.Rest.{Rest, rest}

abbrev pub as_field : Field → SpecField
as_field f = record { node = f.node; len = f.len }

-- The last field is taken off a stack, or there is none.
abbrev pub PoppedOff : List SpecField → Option Field → List SpecField → Type 0
PoppedOff before None after = (before ≡ []) × (after ≡ [])
PoppedOff before (Some f) after = before ≡ as_field f ∷ after

-- A piece that nothing waits after.
abbrev pub alone : Piece → Rest
alone p = rest p.node p.skip p.left []

-- A piece with the fields that wait.
abbrev pub rest_of : {words : ℕ} → Ahead words → Rest
rest_of a = rest a.at.node a.at.skip a.at.left a.later
