-- The structs of this crate as the specification's records.
use Rattle.std.specs.Prelude.{◌<◌, ◌^◌}
use Rattle.term_spec.specs.Term.{Term as SpecTerm}
use Rattle.match_spec.specs.Pattern.{Item as SpecItem, Binding as SpecBinding}
use Rattle.items.specs.declared.Item.{Item}
use Rattle.items.specs.declared.Binding.{Binding}

-- A pattern record of the code, as the specification has it.
abbrev pub as_item : Item → SpecItem
as_item t = record { kind = t.kind; a = t.a; b = t.b; c = t.c }

-- A literal of a pattern as a term: "kinds 0 to 2 as terms". Patterns stay four words (02: 2.7), and no literal is an unknown, so the fifth is 0.
abbrev pub term_of_item : SpecItem → SpecTerm
term_of_item t = record { kind = t.kind; a = t.a; b = t.b; c = t.c; d = 0 }

-- A binding of the code, as the specification has it.
abbrev pub as_binding : Binding → SpecBinding
as_binding b = record { kind = b.kind; offset = b.offset; size = b.size; start = b.start; len = b.len }

-- Every field fits a word.
pub record SmallItem (t : Item) : Type 0 where
  pub kind : t.kind < 2 ^ 32
  pub a : t.a < 2 ^ 32
  pub b : t.b < 2 ^ 32
  pub c : t.c < 2 ^ 32

-- Every field fits a word.
pub record SmallBinding (b : Binding) : Type 0 where
  pub kind : b.kind < 2 ^ 32
  pub offset : b.offset < 2 ^ 32
  pub size : b.size < 2 ^ 32
  pub start : b.start < 2 ^ 32
  pub len : b.len < 2 ^ 32
