-- The places of a rope's terms: the terms that a node gives over the list of all places of the store. And what the functions that read them
-- keep in words: a stack of fields, and a table of the nodes that were read.
use Rattle.std.specs.Prelude.{◌≡◌, List, [], length, get_or, set, take, drop, ℕ, suc, zero, ◌+◌, ◌*◌, ◌/◌, ◌%◌, ◌≤◌}
use Rattle.term_spec.specs.ListLaws.{numbers_from}
use Rattle.view_spec.specs.Node.{Node, meaning}
use Rattle.nodes.specs.NodeStore.{nodes_in, NodeStore, AnyStore, Reaches}
use Rattle.places.specs.declared.pieces.Piece.{Piece}
use Rattle.places.specs.Rest.{Rest, rest}

-- The most terms of a part.
abbrev pub part : ℕ
part = 4096

-- A node of some store has at least n terms after its first `skip`.
pub record ShowsPart (nodes : List ℕ) (node skip n : ℕ) : Type 0 where
  pub used : ℕ
  pub store : AnyStore nodes used
  pub reaches : Reaches nodes used node (skip + n)

-- The places of the n terms of a node after its first `skip`.
abbrev pub wanted : ℕ → List Node → ℕ → ℕ → ℕ → List ℕ
wanted terms ns node skip n = take n (drop skip (meaning (numbers_from 0 terms) ns node))

-- They are the first n words, and the others are as they were.
abbrev pub PartRead : List ℕ → ℕ → ℕ → ℕ → List ℕ → List ℕ → Type 0
PartRead nodes node skip n before after =
    (drop n after ≡ drop n before) × (length after ≡ length before)
    × ((used terms : ℕ) → NodeStore nodes terms used → Reaches nodes used node (skip + n) → take n after ≡ wanted terms (nodes_in nodes used) node skip n)

-- Nothing is left of a piece, and no field waits.
abbrev pub emptied : Piece → Rest
emptied p = rest p.node p.skip 0 []

-- ---- what was read of each node ----

-- An entry of the table: the place among the part's terms where those of the node begin, times this number, plus how many they are.
abbrev pub seen_unit : ℕ
seen_unit = 65536

abbrev pub entry_of : ℕ → ℕ → ℕ
entry_of from len = from * seen_unit + len

abbrev pub entry_from : ℕ → ℕ
entry_from e = e / seen_unit

abbrev pub entry_len : ℕ → ℕ
entry_len e = e % seen_unit

-- The terms of a piece are read next, after `done` others: that is noted where it is a beginning of its node's.
unfoldable pub noted : List ℕ → ℕ → ℕ → ℕ → List ℕ
noted seen node zero e = set seen node e
noted seen node (suc skip) e = seen

-- The terms of a piece stand among the first `done`, from `from` on, by the table.
pub record Before (seen : List ℕ) (node skip left done from : ℕ) : Type 0 where
  pub start : skip ≡ 0
  pub place : entry_from (get_or seen node 0) ≡ from
  pub enough : left ≤ entry_len (get_or seen node 0)
  pub there : from + left ≤ done
