-- Laws of one record written: what lies below and above it stays; and when words are other words with records written.
use Rattle.std.specs.Prelude.{◌≡◌, refl, List, [], ◌∷◌, ◌++◌, get_or, ℕ, ◌+◌, ◌*◌, ◌-◌, ◌≤◌, ◌<◌}
use Rattle.std.proofs.Math.Path.{ap, sym}
use Rattle.std.proofs.Common.{ap₂, ◌∙◌, append_assoc, take-append-drop, drop_at}
use Rattle.std.proofs.Math.ListN.{length, take, drop, length-append}
use Rattle.std.proofs.Math.Seq.{drop-drop, drop-append-add, length-take-le}
use Rattle.std.proofs.lemmas.List.{get_or_at}
use native.Mathlib.Omega.{arith}
use Rattle.term_spec.specs.Words.{Lies, decode, record_at, encode, write}
use Rattle.term_spec.proofs.WordsLaws.{decode-at, decode-length, decode-append, decode-write, encode-length, encode-append, encode-decode, write-length, Keeps}
use Rattle.view_spec.specs.Node.{Node, nil_node, node_of, node_layout}
use Rattle.view_spec.proofs.NodeLaws.{node_lays}
use Rattle.nodes.specs.NodeStore.{nodes_in}

module _ (w : List ℕ) (i : ℕ) (n : Node) (h : Lies node_layout w (i + 1)) where
  -- the words with node n written at i
  abbrev put : List ℕ
  put = write node_layout w i (n ∷ [])

  pub put-length : length put ≡ length w
  put-length = write-length node_layout node_lays w i (n ∷ []) (omega arith)

  -- the nodes below it
  pub put-below : (k : ℕ) → k ≤ i → nodes_in put k ≡ nodes_in w k
  unfolding write
  put-below k q =
      let t = take (i * node_layout.width) w in
      let l : Lies node_layout t k = omega (arith, length-take-le (i * node_layout.width) w (omega arith)) in
      ap (decode node_layout k) (append_assoc t (encode node_layout (n ∷ [])) (drop ((i + 1) * node_layout.width) w))
      ∙ decode-append node_layout k t _ l
      ∙ sym (decode-append node_layout k t (drop (i * node_layout.width) w) l)
      ∙ ap (decode node_layout k) (take-append-drop (i * node_layout.width) w)

  -- the nodes up to it
  pub put-upto : nodes_in put (i + 1) ≡ nodes_in w i ++ (n ∷ [])
  put-upto = decode-write node_layout node_lays w i (n ∷ []) (omega arith)

  pub put_here : record_at node_layout put i ≡ n
  put_here =
      sym (decode-at node_layout (i + 1) i put nil_node (omega arith)) ∙ ap (λ z. get_or z i nil_node) put-upto
      ∙ get_or_at (nodes_in w i) n [] nil_node i (decode-length node_layout i w)

  -- the words above it
  pub put_above : (k : ℕ) → i < k → drop (k * node_layout.width) put ≡ drop (k * node_layout.width) w
  unfolding write
  put_above k q =
      let a = take (i * node_layout.width) w ++ encode node_layout (n ∷ []) in
      let l : length a ≡ (i + 1) * node_layout.width =
      length-append (take (i * node_layout.width) w) (encode node_layout (n ∷ []))
      ∙ omega (arith, length-take-le (i * node_layout.width) w (omega arith), encode-length node_layout node_lays (n ∷ [])) in
      let e : k * node_layout.width ≡ length a + (k * node_layout.width - (i + 1) * node_layout.width) = omega arith in
      let z : (i + 1) * node_layout.width + (k * node_layout.width - (i + 1) * node_layout.width) ≡ k * node_layout.width = omega arith in
      ap (λ m. drop m put) e ∙ drop-append-add a (drop ((i + 1) * node_layout.width) w) (k * node_layout.width - (i + 1) * node_layout.width)
      ∙ drop-drop (k * node_layout.width - (i + 1) * node_layout.width) ((i + 1) * node_layout.width) w ∙ ap (λ m. drop m w) z

-- Words that agree from record k on agree from a later one on.
pub later : (v w : List ℕ) (k j : ℕ) → k ≤ j → drop (k * node_layout.width) v ≡ drop (k * node_layout.width) w → drop (j * node_layout.width) v ≡ drop (j * node_layout.width) w
later v w k j h e =
    let z : k * node_layout.width + (j * node_layout.width - k * node_layout.width) ≡ j * node_layout.width = omega arith in
    let more = j * node_layout.width - k * node_layout.width in
    ap (λ m. drop m v) (sym z) ∙ sym (drop-drop more (k * node_layout.width) v) ∙ ap (drop more) e ∙ drop-drop more (k * node_layout.width) w ∙ ap (λ m. drop m w) z

-- The record at k is that of the words from k on.
pub same_at : (v w : List ℕ) (k : ℕ) → drop (k * node_layout.width) v ≡ drop (k * node_layout.width) w → record_at node_layout v k ≡ record_at node_layout w k
unfolding record_at
same_at v w k e = ap (λ z. node_of (take node_layout.width z)) e

module _ (w : List ℕ) (i : ℕ) (n : Node) (h : Lies node_layout w (i + 1)) where
  -- the records above it
  pub put_later : (k : ℕ) → i < k → record_at node_layout (write node_layout w i (n ∷ [])) k ≡ record_at node_layout w k
  put_later k q = same_at (write node_layout w i (n ∷ [])) w k (put_above w i n h k q)

-- ---- when words are other words with nodes written ----

-- A node read loses nothing of its words.
node-keeps : Keeps node_layout
unfolding node_of
node-keeps [] h = absurd (omega arith)
node-keeps (a ∷ []) h = absurd (omega arith)
node-keeps (a ∷ b ∷ []) h = absurd (omega arith)
node-keeps (a ∷ b ∷ c ∷ []) h = absurd (omega arith)
node-keeps (a ∷ b ∷ c ∷ d ∷ []) h = absurd (omega arith)
node-keeps (a ∷ b ∷ c ∷ d ∷ e ∷ []) h = absurd (omega arith)
node-keeps (a ∷ b ∷ c ∷ d ∷ e ∷ f ∷ []) h = refl
node-keeps (a ∷ b ∷ c ∷ d ∷ e ∷ f ∷ g ∷ w) h = absurd (omega arith)

pub is_write : (v w : List ℕ) (i : ℕ) (new : List Node) → Lies node_layout w i → Lies node_layout v (i + length new) → nodes_in v (i + length new) ≡ nodes_in w i ++ new
    → drop ((i + length new) * node_layout.width) v ≡ drop ((i + length new) * node_layout.width) w → v ≡ write node_layout w i new
unfolding write
is_write v w i new h l e d =
    let m = i + length new in
    sym (take-append-drop (m * node_layout.width) v)
    ∙ ap₂ ◌++◌ (sym (encode-decode node_layout node-keeps m v l) ∙ ap (encode node_layout) e ∙ encode-append node_layout node_lays (nodes_in w i) new
    ∙ ap (◌++ encode node_layout new) (encode-decode node_layout node-keeps i w h)) d

-- The same, where the nodes of v are named and are as many as `end`.
pub written : (w v : List ℕ) (used end : ℕ) (z new : List Node) → z ≡ nodes_in w used ++ new → length z ≡ end → Lies node_layout w used
    → Lies node_layout v end → nodes_in v end ≡ z → drop (end * node_layout.width) v ≡ drop (end * node_layout.width) w → v ≡ write node_layout w used (drop used z)
written w v used end z new e l uw ev nv dv =
    let d : drop used z ≡ new = ap (drop used) e ∙ drop_at (nodes_in w used) new used (decode-length node_layout used w) in
    let s : end ≡ used + length new = omega (arith, ap length e, length-append (nodes_in w used) new, decode-length node_layout used w) in
    rw (d) (is_write v w used new uw (rw (← s) ev) (rw (← s) (nv ∙ e)) (rw (← s) dv))
