-- What the functions that copy the terms of a node answer, and what they leave as it was.
use Rattle.std.specs.Prelude.{◌≡◌, List, map, length, take, drop, ℕ, ◌+◌, ◌*◌}
use Rattle.term_spec.specs.Term.{Term, term_layout}
use Rattle.term_spec.specs.Words.{decode, records, record_at, write}
use Rattle.view_spec.specs.Node.{holds}
use Rattle.nodes.specs.NodeStore.{nodes_in, NodeStore, Reaches}
use Rattle.places.specs.Rest.{field}
use Rattle.rope.specs.Pieces.{Below}

-- The terms at places of a slice.
abbrev pub terms_at : List ℕ → List ℕ → List Term
terms_at w ps = map (record_at term_layout w) ps

-- The terms of a node after its first `from` and before its first `to` are the records of another slice from `from` on.
abbrev pub CopiedOut : List ℕ → List ℕ → ℕ → ℕ → ℕ → ℕ → List ℕ → List ℕ → Type 0
CopiedOut terms nodes node len from to before after =
    (used : ℕ) → Below terms nodes used → Reaches nodes used node len
    → after ≡ write term_layout before from (drop from (holds (records term_layout terms) (nodes_in nodes used) (field node to)))

-- They are the records of their own slice after the used terms and `from` others.
abbrev pub CopiedAfter : List ℕ → ℕ → ℕ → ℕ → ℕ → ℕ → List ℕ → List ℕ → Type 0
CopiedAfter nodes terms-used node len from to before after =
    (used : ℕ) → NodeStore nodes terms-used used → Reaches nodes used node len
    → after ≡ write term_layout before (terms-used + from) (drop from (holds (decode term_layout terms-used before) (nodes_in nodes used) (field node to)))

-- Words of which so many records are as they were still give the used terms.
abbrev pub Kept : (List ℕ → List ℕ) → ℕ → ℕ → Type 0
Kept terms used base =
    (w v : List ℕ) → length w ≡ length v → take (base * term_layout.width) w ≡ take (base * term_layout.width) v
    → (length (terms w) ≡ length (terms v)) × (take (used * term_layout.width) (terms w) ≡ take (used * term_layout.width) (terms v))
