-- Laws of reading the places of a part of a rope: what holds after each turn, and what a turn keeps.
use Rattle.std.specs.Prelude.{◌≡◌, refl, List, [], ◌++◌, T, length, get_or, set, take, drop, ℕ, suc, zero, ◌+◌, ◌*◌, ◌-◌, ◌≤◌, ◌<◌, min}
use Rattle.std.proofs.Common.{ap, ap₂, sym, ◌∙◌, append-nil, inl, inr, length-append, length-drop, take-add, take_at, take_all, drop_at}
use Rattle.std.proofs.Common.{drop-drop, take-take, get_or-set_same, get_or-set_other, length-take-le, arith}
use Rattle.std.proofs.lemmas.List.Edits.{sets, sets-eq}
use Rattle.std.proofs.Math.Seq.{drop-append-add, set_out}
use Rattle.std.proofs.Math.Decide.{dec_lt, ℕ_discrete}
use Rattle.term_spec.specs.ListLaws.{numbers_from}
use Rattle.term_spec.proofs.ListLaws.{All, part-below, part-kept, part_length}
use Rattle.term_spec.specs.Term.{limit}
use Rattle.term_spec.proofs.WordsLaws.{decode-length}
use Rattle.view_spec.specs.Node.{Node, Field, cons_kind, node_at, meaning, nodes_rule}
use Rattle.view_spec.proofs.NodeLaws.{ConsAt, ConcatAt, node_at_lem}
use Rattle.nodes.specs.NodeStore.{nodes_in, NodeStore, Reaches}
use Rattle.places.specs.Rest.{Rest, rest, gives, passed, entered}
use Rattle.places.specs.RestLaws.{entered-node, reach_length, cons-at, ready_short, ready_low, ready_concat}
use Rattle.places.specs.RestLaws.{Comes, Passed, comes_most, comes_part, comes_run, comes_passed, comes_on, comes_entered}
use Rattle.places.specs.Places.{part, wanted, seen_unit, entry_of, entry_from, entry_len, noted, Before}
use Rattle.places.specs.PlacesLaws.{up_length, up_part}

-- ---- the table of what was read ----

pub noted-start : (seen : List ℕ) (node skip e : ℕ) → skip ≡ 0 → set seen node e ≡ noted seen node skip e
unfolding noted
noted-start seen node skip e z = rw z refl

pub noted_inner : (seen : List ℕ) (node skip e : ℕ) → (skip ≡ 0 → ⊥) → seen ≡ noted seen node skip e
unfolding noted
noted_inner seen node zero e z = absurd (z refl)
noted_inner seen node (suc skip) e z = refl

-- What the table says of node i: the terms that were noted as its first are its first. Where the entry is 0 it says nothing.
abbrev pub Says : ℕ → List Node → List ℕ → List ℕ → ℕ → Type 0
Says terms ns W seen i =
    let e = get_or seen i 0 in
    take (entry_len e) (drop (entry_from e) W) ≡ take (entry_len e) (meaning (numbers_from 0 terms) ns i)

noted_none : (terms : ℕ) (ns : List Node) (W seen : List ℕ) (i : ℕ) → get_or seen i 0 ≡ 0 → Says terms ns W seen i
noted_none terms ns W seen i e = rw e refl

-- One entry more; where the table has no room for it, it stays as it is.
noted-all : (terms : ℕ) (ns : List Node) (W seen : List ℕ) (node skip from len : ℕ) → len < seen_unit
    → take len (drop skip (meaning (numbers_from 0 terms) ns node)) ≡ take len (drop from W)
    → ((i : ℕ) → Says terms ns W seen i) → (i : ℕ) → Says terms ns W (noted seen node skip (entry_of from len)) i
unfolding noted
noted-all terms ns W seen node (suc skip) from len small e h i = h i
noted-all terms ns W seen node zero from len small e h i = go (dec_lt node (length seen)) (ℕ_discrete i node)
  where
    new : List ℕ
    new = set seen node (entry_of from len)

    go : Dec (node < length seen) → Dec (i ≡ node) → Says terms ns W new i
    go (no out) d = rw (set_out seen node (entry_of from len) (omega arith)) (h i)
    go (yes lt) (no q) = rw (get_or-set_other seen node i (entry_of from len) 0 q) (h i)
    go (yes lt) (yes q) =
        let place : entry_from (entry_of from len) ≡ from = omega arith in
        let many : entry_len (entry_of from len) ≡ len = omega arith in
        rw (q, get_or-set_same seen node (entry_of from len) 0 lt, place, many) (sym e)

-- ---- reading ----

-- The first `done` of the n places W are the first words, and the others are still to be read; the words after them are as they were.
pub record Reading (terms : ℕ) (ns : List Node) (W : List ℕ) (n : ℕ) (before : List ℕ) (at : Rest) (seen after : List ℕ) (done : ℕ) : Type 0 where
  pub size : length W ≡ n
  pub room : n ≤ length before
  pub most : done ≤ n
  pub low : at.node < length ns
  pub comes : done < n → Comes (numbers_from 0 terms) ns W [] done at
  pub table : (i : ℕ) → Says terms ns W seen i
  pub words : after ≡ take done W ++ drop done before

-- Nothing is read yet.
pub reading_start : {nodes : List ℕ} {terms used node skip n : ℕ} → NodeStore nodes terms used → Reaches nodes used node (skip + n) → {before seen : List ℕ}
    → n ≤ length before → ((i : ℕ) → get_or seen i 0 ≡ 0) → {at : Rest} → at ≡ rest node skip n []
    → Reading terms (nodes_in nodes used) (wanted terms (nodes_in nodes used) node skip n) n before at seen before 0
unfolding All gives
reading_start {nodes} {terms} {used} {node} {skip} {n} store reaches {seen = seen} room empty alone =
    let xs = numbers_from 0 terms in
    let ns = nodes_in nodes used in
    let good : T (nodes_rule (length xs) ns) = rw up_length store.good in
    let low : node < length ns = rw decode-length reaches.low in
    let l = reach_length xs ns good node low in
    rw alone (record {
      size = part_length (meaning xs ns node) skip n (omega (arith, reaches.fits));
      room = room;
      most = omega arith;
      low = low;
      comes = λ lt. record {
        good = good;
        ready = record { low = low; some = lt; reached = reaches.fits; later = tt };
        same = append-nil _ ∙ append-nil _;
      };
      table = λ i. noted_none terms ns _ seen i (empty i);
      words = refl;
    })

-- The next k words are set.
words_next : (W before after vs : List ℕ) (done k : ℕ) → after ≡ take done W ++ drop done before → vs ≡ take k (drop done W) → done + k ≤ length W
    → length W ≤ length before → sets after done vs ≡ take (done + k) W ++ drop (done + k) before
words_next W before after vs done k e v h room =
    let P = take done W in
    let Q = drop done before in
    let l : length P ≡ done = length-take-le done W (omega arith) in
    let m : length vs ≡ k = ap length v ∙ part_length W done k h in
    let a : length after ≡ done + (length before - done) = ap length e ∙ length-append P Q ∙ omega (arith, length-drop done before) in
    let z : done + length vs ≡ length P + k = omega arith in
    sets-eq vs after done (omega arith)
    ∙ ap₂ (λ x y. x ++ vs ++ y) (ap (take done) e ∙ take_at P Q done l)
    (ap₂ drop z e ∙ drop-append-add P Q k ∙ drop-drop k done before)
    ∙ ap (◌++ drop (done + k) before) (ap (P ++◌) v ∙ sym (take-add done k W))

module _ {terms : ℕ} {ns : List Node} {W : List ℕ} {n : ℕ} {before : List ℕ} {at : Rest} {seen after : List ℕ} {done : ℕ}
    (w : Reading terms ns W n before at seen after done) where
  front_length : length (take done W) ≡ done
  front_length = length-take-le done W (omega (arith, w.most, w.size))

  pub reading_length : length after ≡ length before
  reading_length =
      ap length w.words ∙ length-append (take done W) (drop done before) ∙ omega (arith, front_length, length-drop done before, w.most, w.room)

  -- all n are read
  pub reading_all : n ≤ done → (drop n after ≡ drop n before) × (length after ≡ length before) × (take n after ≡ W)
  reading_all h =
      let e : n ≡ done = omega (arith, w.most) in
      let P = take done W in
      let Q = drop done before in (
        ap₂ drop e w.words ∙ drop_at P Q done front_length ∙ ap (λ k. drop k before) (sym e),
        reading_length,
        ap₂ take e w.words ∙ take_at P Q done front_length ∙ take_all done W (omega (arith, w.size)),
      )

-- What the code needs of a piece that is read next. Each field that waits has a term, so there is room for one more.
pub record Fits (n node skip left depth done : ℕ) (after : List ℕ) : Type 0 where
  pub few : n ≤ part
  pub room : n ≤ length after
  pub low : node < limit
  pub some : 1 ≤ left
  pub short : skip + left ≤ limit
  pub most : done + (left + depth) ≤ n

-- Reading a term brings the end nearer, whatever node is next.
pub read_less : (n done j node next : ℕ) → 1 ≤ j → done + j ≤ n → next < limit → (n - (done + j)) * limit + next < (n - done) * limit + node
read_less n done j node next some most low = omega arith

module _ {terms : ℕ} {ns : List Node} {W : List ℕ} {n : ℕ} {before : List ℕ} {i k m : ℕ} {fs : List Field} {seen after : List ℕ} {done : ℕ}
    (w : Reading terms ns W n before (rest i k m fs) seen after done) (lt : done < n) where
  turn_most : done + (m + length fs) ≤ n
  turn_most = omega (arith, comes_most (w.comes lt), w.size)

  pub turn-fits : length ns ≤ limit → n ≤ part → Fits n i k m (length fs) done after
  turn-fits few-nodes few = record {
    few = few;
    room = omega (arith, reading_length w, w.room);
    low = omega (arith, w.low);
    some = (w.comes lt).ready.some;
    short = ready_short (length (numbers_from 0 terms)) ns (w.comes lt).good (w.comes lt).ready;
    most = turn_most;
  }

  -- the next j terms of the piece are read: their places are set
  turn_read : (j : ℕ) → j ≤ m → (vs : List ℕ) → vs ≡ take j (drop done W) → {next : Rest} → next ≡ passed (rest i k m fs) j (rest i k 0 [])
      → {final : List ℕ} → final ≡ sets after done vs → Reading terms ns W n before next seen final (done + j)
  turn_read j h vs v en ef = rw (en, ef) (go (comes_passed (w.comes lt) j h none))
    where
      none : Rest
      none = rest i k 0 []

      next_words : sets after done vs ≡ take (done + j) W ++ drop (done + j) before
      next_words = words_next W before after vs done j w.words v (omega (arith, turn_most, w.size)) (omega (arith, w.size, w.room))

      go : Passed (w.comes lt) j h none (passed (rest i k m fs) j none)
          → Reading terms ns W n before (passed (rest i k m fs) j none) seen (sets after done vs) (done + j)
      go (inl c) = record {
        size = w.size;
        room = w.room;
        most = omega (arith, turn_most);
        low = c.ready.low;
        comes = λ z. c;
        table = w.table;
        words = next_words;
      }
      go (inr (q, l)) = rw q (record {
        size = w.size;
        room = w.room;
        most = omega (arith, turn_most);
        low = w.low;
        comes = λ z. absurd (omega (arith, ap length l, length-drop (done + j) W, w.size));
        table = w.table;
        words = next_words;
      })

  -- the piece was read before: its places are copied
  pub turn-copy : {from : ℕ} → Before seen i k m done from → {next : Rest} → next ≡ passed (rest i k m fs) m (rest i k 0 [])
      → {final : List ℕ} → final ≡ sets after done (take m (drop from after)) → Reading terms ns W n before next seen final (done + m)
  turn-copy {from} b en ef =
      let M = meaning (numbers_from 0 terms) ns i in
      let len = entry_len (get_or seen i 0) in
      let fits : from + m ≤ length (take done W) = omega (arith, front_length w, b.there) in
      let copied : take m (drop from after) ≡ take m (drop from W) =
      ap (λ l. take m (drop from l)) w.words ∙ part-kept (take done W) (drop done before) from m fits ∙ part-below W from m done b.there in
      let table : take len (drop from W) ≡ take len M = ap (λ x. take len (drop x W)) (sym b.place) ∙ w.table i in
      let first : take m (drop from W) ≡ take m M =
      sym (take-take m len (drop from W) b.enough) ∙ ap (take m) table ∙ take-take m len M b.enough in
      let next : take m (drop k M) ≡ take m (drop done W) = comes_part (w.comes lt) m (omega arith) in
      turn_read m (omega arith) _ (copied ∙ first ∙ ap (λ x. take m (drop x M)) (sym b.start) ∙ next) en ef

  -- the piece's node is h
  module _ {h : Node} (is : h ≡ node_at ns i) where
    -- its first part is used up
    pub turn_low : h.b ≤ k → h.c < i
    turn_low q = rw is (ready_low (length (numbers_from 0 terms)) ns (w.comes lt).good (w.comes lt).ready (rw is at q))

    pub turn_on : h.b ≤ k → Reading terms ns W n before (rest h.c (k - h.b) m fs) seen after done
    turn_on q = record {
      size = w.size;
      room = w.room;
      most = w.most;
      low = omega (arith, turn_low q, w.low);
      comes = λ z. rw is (comes_on (w.comes lt) (rw is at q));
      table = w.table;
      words = w.words;
    }

    -- the run that the piece begins with, j terms of it
    module _ (p : h.kind ≡ cons_kind) (q : k < h.b) {j : ℕ} (e : j ≡ min m (h.b - k)) where
      cons : ConsAt (length (numbers_from 0 terms)) ns i
      cons = cons-at (length (numbers_from 0 terms)) ns i (rw is at p) (node_at_lem (length (numbers_from 0 terms)) ns i (w.comes lt).good w.low)

      pub run_inside : h.a + h.b ≤ terms
      run_inside = rw is (omega (arith, cons.inside-terms, up_length 0 terms))

      pub turn-run : {next : Rest} → next ≡ passed (rest i k m fs) j (rest i k 0 []) → {final : List ℕ} → final ≡ sets after done (numbers_from (h.a + k) j)
          → Reading terms ns W n before next seen final (done + j)
      turn-run en ef =
          let s = comes_run (w.comes lt) cons j (rw is at q) (omega arith) (omega (arith, rw is at e)) in
          let t : take j (drop (h.a + k) (numbers_from 0 terms)) ≡ take j (drop done W) = rw is s in
          let r : numbers_from (h.a + k) j ≡ take j (drop done W) = sym (up_part terms (h.a + k) j (omega (arith, run_inside))) ∙ t in
          turn_read j (omega arith) _ r en ef

    -- a Concat: the piece is noted, and taken into the left
    module _ (p : h.kind ≡ cons_kind → ⊥) (q : k < h.b) where
      concat : ConcatAt ns i
      concat = ready_concat (length (numbers_from 0 terms)) ns (w.comes lt).good (w.comes lt).ready (rw is at p)

      pub turn-right : h.c < i
      turn-right = rw is concat.right_low

      pub turn-left : {next : Rest} → next ≡ entered (rest i k m fs) h → next.node < i
      turn-left en =
          let l : h.a < i = rw is concat.left_low in
          omega (arith, ap (λ r. r.node) en, entered-node (rest i k m fs) h)

      pub turn_down : m < seen_unit → {table : List ℕ} → table ≡ noted seen i k (entry_of done m)
          → {next : Rest} → next ≡ entered (rest i k m fs) h → Reading terms ns W n before next table after done
      turn_down small et en =
          let c : Comes (numbers_from 0 terms) ns W [] done (entered (rest i k m fs) h) = rw is (comes_entered (w.comes lt) concat (rw is at q)) in
          rw (et, en) (record {
            size = w.size;
            room = w.room;
            most = w.most;
            low = c.ready.low;
            comes = λ z. c;
            table = noted-all terms ns W seen i k done m small (comes_part (w.comes lt) m (omega arith)) w.table;
            words = w.words;
          })
