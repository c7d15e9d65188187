-- The kinds of the code by 01's numbers.
use Rattle.std.specs.Prelude.{◌≡◌, ℕ, ◌<◌, Result, MatchResult}
use Rattle.term_spec.specs.Term.{char_kind, identifier_kind, number_kind, bracket_kind, unknown_kind}
use Rattle.view_spec.specs.Node.{nil_kind, cons_kind, concat_kind}
use Rattle.words.specs.declared.kind.TermKind.{TermKind}
use Rattle.words.specs.declared.kind.TermKind.TheVariants.{Char, Identifier, Number, Bracket, Unknown}
use Rattle.words.specs.declared.kind.NodeKind.{NodeKind}
use Rattle.words.specs.declared.kind.NodeKind.TheVariants.{Nil, Cons, Concat}
use Rattle.words.specs.declared.kind.UnknownKind.{UnknownKind}

-- Each case has 01's number, and no two have the same one.
abbrev pub term_kind : TermKind → ℕ
term_kind Char = char_kind
term_kind Identifier = identifier_kind
term_kind Number = number_kind
term_kind Bracket = bracket_kind
term_kind Unknown = unknown_kind

abbrev pub node_kind : NodeKind → ℕ
node_kind Nil = nil_kind
node_kind Cons = cons_kind
node_kind Concat = concat_kind

-- The kind with this number, or an error where no kind has it.
abbrev pub NamesTerm : ℕ → Result TermKind UnknownKind → Type 0
NamesTerm n r = MatchResult r (λ kind. term_kind kind ≡ n) (λ e. (e.0 ≡ n) × (unknown_kind < n))

abbrev pub NamesNode : ℕ → Result NodeKind UnknownKind → Type 0
NamesNode n r = MatchResult r (λ kind. node_kind kind ≡ n) (λ e. (e.0 ≡ n) × (concat_kind < n))
