-- The stores that every call is lent: names, term words and node words, with a used count beside each of the two (01, "Records").
use Rattle.std.specs.Prelude.{List, [], Bool, ◌&&◌, leb, length, ℕ, ◌+◌, min}
use Rattle.term_spec.specs.Words.{Layout, decode, count, whole, write}
use Rattle.term_spec.specs.Term.{Term, term_layout, Run, part, limit, terms_rule}
use Rattle.term_spec.specs.Value.{Value, values}
use Rattle.view_spec.specs.Node.{Node, node_layout, Field, holds, nodes_rule}

-- "Names are one lent byte text"; the other two are words "with a used count beside each store".
pub record Store : Type 0 where
  pub names : List ℕ
  pub term_words : List ℕ
  pub terms_used : ℕ
  pub node_words : List ℕ
  pub nodes_used : ℕ

-- The used records.
unfoldable pub terms : Store → List Term
terms s = decode term_layout s.terms_used s.term_words

-- The used nodes.
unfoldable pub nodes : Store → List Node
nodes s = decode node_layout s.nodes_used s.node_words

-- The used terms as spelled, what a run shows, what a field holds.
unfoldable pub spelled : Store → List Value
spelled s = values s.names (terms s)

-- What a run shows.
unfoldable pub shows : Store → Run → List Value
shows s r = part (spelled s) r

-- What a field holds.
unfoldable pub field_terms : Store → Field → List Value
field_terms s f = holds (spelled s) (nodes s) f

-- "Unused records lie between the used count and the smaller of slice and limit."
unfoldable pub capacity : {A : Type 0} → Layout A → List ℕ → ℕ
capacity L w = min (count L w) limit

-- 1 Uneven, of the stores: slices whole, counts within slice and limit; "at most 65,536 bytes" of names.
unfoldable pub counts_rule : Store → Bool
counts_rule s =
    whole term_layout s.term_words && whole node_layout s.node_words && leb (length s.names) limit
    && leb s.terms_used (capacity term_layout s.term_words) && leb s.nodes_used (capacity node_layout s.node_words)

-- 2 BadTerm and 3 BadNode, "over all used records".
unfoldable pub store_terms : Store → Bool
store_terms s = terms_rule s.names [] (terms s)

-- 3 BadNode, "over all used records".
unfoldable pub store_nodes : Store → Bool
store_nodes s = nodes_rule s.terms_used (nodes s)

-- New records go after the used ones, and the used count moves by exactly that.
unfoldable pub add_terms : Store → List Term → Store
add_terms s new = record {
  names = s.names;
  term_words = write term_layout s.term_words s.terms_used new;
  terms_used = s.terms_used + length new;
  node_words = s.node_words;
  nodes_used = s.nodes_used;
}

-- New nodes go after the used ones, and their count moves by exactly that.
unfoldable pub add_nodes : Store → List Node → Store
add_nodes s new = record {
  names = s.names;
  term_words = s.term_words;
  terms_used = s.terms_used;
  node_words = write node_layout s.node_words s.nodes_used new;
  nodes_used = s.nodes_used + length new;
}
