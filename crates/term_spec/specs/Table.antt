-- The meaning of a store whose records refer to lower ones only: the list of meanings, built from the start.
use Rattle.std.specs.Prelude.{List, [], ◌∷◌, ◌++◌}

-- f gives a record's meaning from the meanings of the records below it.
unfoldable pub table : {A B : Type 0} → (A → List B → B) → List A → List B → List B
table f [] below = below
table f (r ∷ rs) below = table f rs (below ++ (f r below ∷ []))
