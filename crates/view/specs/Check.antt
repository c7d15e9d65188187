-- What the checks of a call answer: 01's numbers 1 to 4, read off the specification's tests; the code's answers as the specification's.
use Rattle.std.specs.Prelude.{Result, Ok, Err, List, [], Bool, true, false, ◌&&◌, leb, length, drop, ℕ, ◌+◌}
use Rattle.std.proofs.Math.Option.{Option, some, none}
use Rattle.term_spec.specs.Refusal.{uneven, bad_term, bad_node, bad_field, nodes_full}
use Rattle.term_spec.specs.Words.{write}
use Rattle.view_spec.specs.Node.{Field as SpecField, node_layout, field_rule}
use Rattle.view_spec.specs.Build.{Built as BuiltNodes}
use Rattle.calls_spec.specs.Store.{Store, nodes, capacity, counts_rule, store_terms, store_nodes}
use Rattle.calls_spec.specs.Step.{Answer as SpecAnswer, built, refused, After, ask}
use Rattle.view.specs.declared.Field.{Field}
use Rattle.words.specs.declared.refusal.Refusal.{Refusal}
use Rattle.words.specs.Refusals.{spec_number}

-- A field of the code, as the specification has it.
abbrev pub as_field : Field → SpecField
as_field f = record { node = f.node; len = f.len }

-- The stores that a call is lent.
abbrev pub store_of : List ℕ → List ℕ → ℕ → List ℕ → ℕ → Store
store_of names terms n nodes m = record { names = names; term_words = terms; terms_used = n; node_words = nodes; nodes_used = m }

-- What a call that hands back a field answers, as the specification has it.
unfoldable pub answer_of : Result Field Refusal → SpecAnswer
answer_of (Ok f) = built (as_field f)
answer_of (Err r) = refused (spec_number r)

-- What a call leaves that is lent neither slots nor a work buffer.
unfoldable pub leaves : SpecAnswer → Store → After
leaves a s = record { answer = a; store = s; slots = []; work = [] }

-- A refusal's number, 0 if there is none.
unfoldable pub numbered : Option ℕ → ℕ
numbered none = 0
numbered (some n) = n

-- The first of 1 to 4 that applies.
unfoldable pub checked : Store → Bool → SpecField → SpecField → Option ℕ
checked s even f g =
    ask (counts_rule s && even) uneven (ask (store_terms s) bad_term (ask (store_nodes s) bad_node (ask (field_rule (nodes s) f && field_rule (nodes s) g) bad_field none)))

-- What a call that builds leaves once 1 to 9 let it pass: its answer, the words of the nodes and their count. 12 if the new nodes exceed the
-- unused ones.
unfoldable pub grown_if : Bool → List ℕ → ℕ → BuiltNodes → SpecAnswer × List ℕ × ℕ
grown_if true w used b = (built b.field, write node_layout w used (drop used b.nodes), used + length (drop used b.nodes))
grown_if false w used b = (refused nodes_full, w, used)

-- The same, by the room there is.
unfoldable pub grown_by : List ℕ → ℕ → BuiltNodes → SpecAnswer × List ℕ × ℕ
grown_by w used b = grown_if (leb (used + length (drop used b.nodes)) (capacity node_layout w)) w used b
