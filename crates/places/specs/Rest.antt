-- What is to be read of a rope next: a piece of a node's terms, then the fields that wait on a stack of words, two words to a field.
use Rattle.std.specs.Prelude.{List, [], ◌∷◌, ◌++◌, length, get_or, take, drop, ℕ, suc, zero, ◌+◌, ◌*◌, ◌-◌, ◌≤◌, ◌<◌}
use Rattle.std.proofs.Math.Decide.{dec_lt}
use Rattle.term_spec.proofs.ListLaws.{All}
use Rattle.view_spec.specs.Build.{if_dec}
use Rattle.view_spec.specs.Node.{Node, Field, node_at, meaning, holds}

-- `left` terms of a node after its first `skip`, then the fields `later`.
pub record Rest : Type 0 where
  pub node : ℕ
  pub skip : ℕ
  pub left : ℕ
  pub later : List Field

abbrev pub rest : ℕ → ℕ → ℕ → List Field → Rest
rest i k m fs = record { node = i; skip = k; left = m; later = fs }

abbrev pub field : ℕ → ℕ → Field
field i n = record { node = i; len = n }

-- The fields on a stack of so many, the last one first.
unfoldable pub waiting : List ℕ → ℕ → List Field
waiting w zero = []
waiting w (suc d) = field (get_or w (d * 2) 0) (get_or w (d * 2 + 1) 0) ∷ waiting w d

-- The terms of fields, one after another.
unfoldable pub gives : {X : Type 0} → List X → List Node → List Field → List X
gives xs ns [] = []
gives xs ns (f ∷ fs) = holds xs ns f ++ gives xs ns fs

-- The terms that are to be read next.
abbrev pub remain : {X : Type 0} → List X → List Node → Rest → List X
remain xs ns r = take r.left (drop r.skip (meaning xs ns r.node)) ++ gives xs ns r.later

-- A field that waits is one of the store's, and not empty.
pub record Waits (ns : List Node) (f : Field) : Type 0 where
  pub low : f.node < length ns
  pub some : 1 ≤ f.len
  pub reached : f.len ≤ (node_at ns f.node).reach

-- There is a term to read, and the piece and the fields lie in the store.
pub record Ready (ns : List Node) (r : Rest) : Type 0 where
  pub low : r.node < length ns
  pub some : 1 ≤ r.left
  pub reached : r.skip + r.left ≤ (node_at ns r.node).reach
  pub later : All (Waits ns) r.later

-- The first of the fields becomes the piece, or, where there is none, what is given.
unfoldable pub popped : List Field → Rest → Rest
popped [] again = again
popped (f ∷ fs) again = rest f.node 0 f.len fs

-- What is to be read after k terms of the piece.
unfoldable pub passed : Rest → ℕ → Rest → Rest
passed r k again = if_dec (dec_lt k r.left) (rest r.node (r.skip + k) (r.left - k) r.later) (popped r.later again)

-- The piece taken into the left of its node n, a Concat; where it goes on in the right, that waits.
unfoldable pub entered : Rest → Node → Rest
entered r n =
    let here = n.b - r.skip in
    if_dec (dec_lt here r.left) (rest n.a r.skip here (field n.c (r.left - here) ∷ r.later)) (rest n.a r.skip r.left r.later)
