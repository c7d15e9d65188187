-- The kinds of pattern records of the code by 01's numbers.
use Rattle.std.specs.Prelude.{◌≡◌, ℕ, ◌<◌, Result, MatchResult}
use Rattle.term_spec.specs.Term.{char_kind, identifier_kind, number_kind}
use Rattle.match_spec.specs.Pattern.{open_kind, close_kind, symbol_variable_kind, term_variable_kind, expression_variable_kind, call_kind, block_kind}
use Rattle.words.specs.declared.kind.UnknownKind.{UnknownKind}
use Rattle.items.specs.declared.kind.ItemKind.{ItemKind}
use Rattle.items.specs.declared.kind.ItemKind.TheVariants.{Char, Identifier, Number, Open, Close, SVariable, TVariable, EVariable, Call, Block}

-- Each case has 01's number, and no two have the same one.
abbrev pub item_kind : ItemKind → ℕ
item_kind Char = char_kind
item_kind Identifier = identifier_kind
item_kind Number = number_kind
item_kind Open = open_kind
item_kind Close = close_kind
item_kind SVariable = symbol_variable_kind
item_kind TVariable = term_variable_kind
item_kind EVariable = expression_variable_kind
item_kind Call = call_kind
item_kind Block = block_kind

-- The kind with this number, or an error where no kind has it.
abbrev pub NamesItem : ℕ → Result ItemKind UnknownKind → Type 0
NamesItem n r = MatchResult r (λ kind. item_kind kind ≡ n) (λ e. (e.0 ≡ n) × (block_kind < n))
