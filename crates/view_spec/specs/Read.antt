-- The calls that read fields: flatten and settling (the same choice), starts_with and equality (01, "View fields").
use Rattle.std.specs.Prelude.{List, [], Bool, true, false, ◌&&◌, eqb, length, take, ℕ}
use Rattle.term_spec.specs.Term.{Term, Run, no_run}
use Rattle.term_spec.specs.Value.{Value, forms, sames?, is_yes, common_prefix}
use Rattle.view_spec.specs.Node.{Node, Field, node_at, holds}

-- Where a field's terms stand in one run: in the store, or nowhere yet.
pub data Place : Type 0 where
  stored : Run → Place
  scattered : Place

-- "the store when the node is one Cons with Nil tail or the length is 0, else a copy"; "length 0 gives start 0".
unfoldable pub place : List Node → Field → Place
place ns f = elim (eqb f.len 0) [
  | true ↦ stored no_run
  | false ↦ elim (eqb (node_at ns f.node).kind 1 && eqb (node_at ns f.node).c 0) [
    | true ↦ stored (record { start = (node_at ns f.node).a; len = f.len })
    | false ↦ scattered
  ]
]

-- The records copied: none, or the field's terms.
unfoldable pub copy_at : Place → List Term → List Node → Field → List Term
copy_at (stored r) ts ns f = []
copy_at scattered ts ns f = holds ts ns f

-- The records that settling or flattening a field copies.
abbrev pub copy : List Term → List Node → Field → List Term
copy ts ns f = copy_at (place ns f) ts ns f

-- 01 calls settling what gives a run for matching: "by the same choice, the copy going after the used terms".
unfoldable pub settled_at : Place → ℕ → Field → Run
settled_at (stored r) used f = r
settled_at scattered used f = record { start = used; len = f.len }

-- The run that settling gives.
abbrev pub settled_run : List Term → List Node → Field → Run
settled_run ts ns f = settled_at (place ns f) (length ts) f

-- How far two lists of terms agree (02: 2.2): "the length of the longest equal beginning", by canonical forms.
unfoldable pub agreement : List Value → List Value → ℕ
agreement x y = common_prefix (forms x) (forms y)

-- Whether two lists of terms are equal, and whether the first starts with the second.
unfoldable pub equal_terms : List Value → List Value → Bool
equal_terms x y = is_yes (sames? (forms x) (forms y))

-- Whether the first list of terms starts with the second.
unfoldable pub starts_with : List Value → List Value → Bool
starts_with x y = is_yes (sames? (take (length y) (forms x)) (forms y))
