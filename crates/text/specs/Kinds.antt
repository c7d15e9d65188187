-- What a text spells, by the kind of term that has it.
use Rattle.std.specs.Prelude.{◌≡◌, List, ℕ}
use Rattle.term_spec.specs.Term.{identifier_kind, number_kind}
use Rattle.text.specs.Texts.{name_text, spelling}
use Rattle.text.specs.declared.TextKind.{TextKind}
use Rattle.text.specs.declared.TextKind.TheVariants.{Identifier, Number, Name}

-- Each case has a number, and no two have the same one.
abbrev pub text_kind : TextKind → ℕ
text_kind Identifier = identifier_kind
text_kind Number = number_kind
text_kind Name = name_text

-- The kind that a number means: that which asks the same of every text.
abbrev pub SpellsAs : ℕ → TextKind → Type 0
SpellsAs number kind = (text : List ℕ) → spelling (text_kind kind) text ≡ spelling number text
