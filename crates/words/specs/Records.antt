-- The structs of this crate as the specification's records.
use Rattle.std.specs.Prelude.{◌<◌, ◌^◌}
use Rattle.term_spec.specs.Term.{Term as SpecTerm, Run as SpecRun}
use Rattle.view_spec.specs.Node.{Node as SpecNode}
use Rattle.words.specs.declared.Term.{Term}
use Rattle.words.specs.declared.Node.{Node}
use Rattle.words.specs.declared.Run.{Run}

-- A term of the code, as the specification has it.
abbrev pub as_term : Term → SpecTerm
as_term t = record { kind = t.kind; a = t.a; b = t.b; c = t.c; d = t.d }

-- Every field fits a word.
pub record Small (t : Term) : Type 0 where
  pub kind : t.kind < 2 ^ 32
  pub a : t.a < 2 ^ 32
  pub b : t.b < 2 ^ 32
  pub c : t.c < 2 ^ 32
  pub d : t.d < 2 ^ 32

-- A node of the code, as the specification has it.
abbrev pub as_node : Node → SpecNode
as_node n = record { kind = n.kind; a = n.a; b = n.b; c = n.c; height = n.height; reach = n.reach }

-- Every field fits a word.
pub record SmallNode (n : Node) : Type 0 where
  pub kind : n.kind < 2 ^ 32
  pub a : n.a < 2 ^ 32
  pub b : n.b < 2 ^ 32
  pub c : n.c < 2 ^ 32
  pub height : n.height < 2 ^ 32
  pub reach : n.reach < 2 ^ 32

-- A run of the code, as the specification has it.
abbrev pub as_run : Run → SpecRun
as_run r = record { start = r.start; len = r.len }

-- Every field fits a word.
pub record SmallRun (r : Run) : Type 0 where
  pub start : r.start < 2 ^ 32
  pub len : r.len < 2 ^ 32
