-- A piece of the code as what is to be read of a rope next, and what the functions on it ask and answer.
use Rattle.std.specs.Prelude.{◌≡◌, List, ◌++◌, length, ℕ, ◌+◌, ◌-◌, ◌<◌, min}
use Rattle.term_spec.specs.Words.{Lies}
use Rattle.term_spec.specs.Term.{Term, Run, term_layout}
use Rattle.term_spec.specs.Value.{Value}
use Rattle.view_spec.specs.Node.{Node, cons_kind, node_at, GoodNodes}
use Rattle.nodes.specs.NodeStore.{nodes_in, NodeStore, AnyStore, Reaches}
use Rattle.places.specs.Rest.{Rest, remain, Ready}

-- The steps that reading may take for each term and for each call.
abbrev pub steps : ℕ
steps = 8

abbrev pub steps_alone : ℕ
steps_alone = 4096

-- The most fields on a stack.
abbrev pub most_fields : ℕ
most_fields = 32

-- There is a term to read in some store of the words: what a function asks that does not read how many nodes are used.
pub record ReadyIn (w : List ℕ) (r : Rest) : Type 0 where
  pub used : ℕ
  pub store : AnyStore w used
  pub ready : Ready (nodes_in w used) r

-- What a rope is read over: the terms of a store, or their values.
pub data Over : Type 0 where
  terms : Over
  values : Over

abbrev pub Entry : Over → Type 0
Entry terms = Term
Entry values = Value

-- The list a is the beginning of b.
abbrev pub Starts : {X : Type 0} → List X → List X → Type 0
Starts {X} a b = (y : List X) × (a ++ y ≡ b)

-- t is ready, and its terms, whatever list of terms the nodes are over, are the first of those of s.
pub record Goes (ns : List Node) (s t : Rest) : Type 0 where
  pub ready : Ready ns t
  pub same : (o : Over) (xs : List (Entry o)) → GoodNodes (length xs) ns → Starts (remain xs ns t) (remain xs ns s)

-- A run begins k terms into node i: it is a Cons, and not all of its run is skipped.
pub record Front (ns : List Node) (i k : ℕ) : Type 0 where
  pub cons : (node_at ns i).kind ≡ cons_kind
  pub inner : k < (node_at ns i).b

-- The same of a node of the words, in some store of them.
pub record FrontIn (w : List ℕ) (i k : ℕ) : Type 0 where
  pub used : ℕ
  pub store : AnyStore w used
  pub low : i < used
  pub begins : Front (nodes_in w used) i k

-- The piece t has the first terms of s, and begins with a run.
pub record ToRun (ns : List Node) (s t : Rest) : Type 0 where
  pub goes : Goes ns s t
  pub begins : Front ns t.node t.skip

-- The same in every store of the words where s is ready.
abbrev pub ToRunIn : List ℕ → Rest → Rest → Type 0
ToRunIn w s t = (used : ℕ) → AnyStore w used → Ready (nodes_in w used) s → ToRun (nodes_in w used) s t

-- The run of at most m terms that begins there.
unfoldable pub front : List Node → ℕ → ℕ → ℕ → Run
front ns i k m = record { start = (node_at ns i).a + k; len = min m ((node_at ns i).b - k) }

-- t has the first terms of s, and begins with the run r, in every store of the words where s is ready.
abbrev pub RunIn : List ℕ → Rest → Rest → Run → Type 0
RunIn w s t r = (used : ℕ) → AnyStore w used → Ready (nodes_in w used) s
    → ToRun (nodes_in w used) s t × (r ≡ front (nodes_in w used) t.node t.skip t.left)

-- The terms that a store of nodes is over lie in a slice.
pub record Below (terms nodes : List ℕ) (used : ℕ) : Type 0 where
  pub store : AnyStore nodes used
  pub there : Lies term_layout terms store.terms

-- A node of some such store has at least len terms.
pub record Shows (terms nodes : List ℕ) (node len : ℕ) : Type 0 where
  pub used : ℕ
  pub below : Below terms nodes used
  pub reaches : Reaches nodes used node len

-- A node of some store over so many terms has at least len of them.
pub record ShowsOf (nodes : List ℕ) (terms node len : ℕ) : Type 0 where
  pub used : ℕ
  pub store : NodeStore nodes terms used
  pub reaches : Reaches nodes used node len

-- Two nodes of a store over so many terms have at least n of them each.
pub record ShowBoth (nodes : List ℕ) (terms used f g n : ℕ) : Type 0 where
  pub store : NodeStore nodes terms used
  pub left : Reaches nodes used f n
  pub right : Reaches nodes used g n
