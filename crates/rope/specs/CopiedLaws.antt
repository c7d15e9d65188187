-- Laws of copying the terms of a node run by run, from one slice to another or to the end of the slice that they stand in.
use Rattle.std.specs.Prelude.{◌≡◌, List, [], ◌++◌, T, length, take, drop, ℕ, ◌+◌, ◌*◌, ◌-◌, ◌/◌, ◌≤◌, ◌<◌}
use Rattle.std.proofs.Common.{ap, ap₂, sym, ◌∙◌, zero-add, append_assoc, length-drop, take-append-drop, take_at, take-take, length-take-le, arith}
use Rattle.std.proofs.lemmas.List.Edits.{sets, sets-eq}
use Rattle.std.proofs.lemmas.List.{drop-append-le}
use Rattle.term_spec.proofs.ListLaws.{drop-take, part-below, part_length}
use Rattle.term_spec.specs.Term.{Term, Run, part, term_layout, limit}
use Rattle.term_spec.specs.Words.{Lies, decode, records, count, encode, write}
use Rattle.term_spec.proofs.WordsLaws.{term_lays, term-keeps, decode-length, decode-part, encode-decode, encode-length, write-length, write-append, write_none}
use Rattle.view_spec.specs.Node.{meaning, nodes_rule, GoodNodes}
use Rattle.view_spec.proofs.NodeLaws.{reach_limit, nodes-more}
use Rattle.nodes.specs.NodeStore.{nodes_in, NodeStore, AnyStore, Reaches}
use Rattle.places.specs.Rest.{Rest, rest, passed}
use Rattle.rope.specs.Copies.{CopiedOut, CopiedAfter, Kept}
use Rattle.rope.specs.Pieces.{Goes, Front, front, terms as over-terms, Below}
use Rattle.rope.specs.PiecesLaws.{Along, Next, along_again, along_long, along_run, along_short, along_next, front_some, along_on}

-- The used terms of a slice.
abbrev pub terms_in : List ℕ → ℕ → List Term
terms_in w used = decode term_layout used w

-- The terms that a node of two slices gives.
abbrev pub shown : List ℕ → ℕ → List ℕ → ℕ → ℕ → List Term
shown terms used nodes nodes-used node = meaning (terms_in terms used) (nodes_in nodes nodes-used) node

-- The first len terms of a node are to go to record `base` of the words `before`, and after it.
pub record Task (terms : List ℕ) (used : ℕ) (nodes : List ℕ) (nodes-used node len base : ℕ) (before : List ℕ) : Type 0 where
  pub there : Lies term_layout terms used
  pub store : AnyStore nodes nodes-used
  pub good : GoodNodes used (nodes_in nodes nodes-used)
  pub reaches : Reaches nodes nodes-used node len
  pub room : Lies term_layout before (base + len)

-- Of the first `to` terms of the node those after the first `from` are there, whatever store of the words the node is of.
abbrev pub CopiedPart : List ℕ → ℕ → List ℕ → ℕ → ℕ → ℕ → ℕ → ℕ → List ℕ → List ℕ → Type 0
CopiedPart terms used nodes node len base from to before after =
    (nodes-used : ℕ) → Task terms used nodes nodes-used node len base before
    → after ≡ write term_layout before (base + from) (drop from (take to (shown terms used nodes nodes-used node)))

-- The same where all terms of a slice are meant, and not only those that the nodes are over.
pub task_out : {terms nodes : List ℕ} {nodes-used node len : ℕ} {work : List ℕ} → Below terms nodes nodes-used → Reaches nodes nodes-used node len
    → Lies term_layout work len → Task terms (count term_layout terms) nodes nodes-used node len 0 work
unfolding count
task_out {terms} {nodes} {nodes-used} below reaches room =
    let all : below.store.terms ≤ length terms / term_layout.width = omega (arith, below.there) in
    record {
      there = omega arith;
      store = below.store;
      good = nodes-more below.store.terms (length terms / term_layout.width) (nodes_in nodes nodes-used) all below.store.store.good;
      reaches = reaches;
      room = omega (arith, room);
    }

-- The same where the terms go after the used terms of their own slice.
pub task_after : {terms : List ℕ} {used : ℕ} {nodes : List ℕ} {nodes-used node len : ℕ} → used ≤ limit → Lies term_layout terms (used + len)
    → NodeStore nodes used nodes-used
    → Reaches nodes nodes-used node len → Task terms used nodes nodes-used node len used terms
task_after few room store reaches = record {
  there = omega (arith, room);
  store = record { terms = _; few_terms = few; store = store };
  good = store.good;
  reaches = reaches;
  room = room;
}

-- So what is copied of a part is said of every node of a store over such a slice: from another slice, and within one.
pub copied_out : {terms nodes : List ℕ} {node len : ℕ} (from to : ℕ) {before after : List ℕ} → Lies term_layout before len
    → CopiedPart terms (count term_layout terms) nodes node len 0 from to before after → CopiedOut terms nodes node len from to before after
unfolding records
copied_out from to room copied used below reaches = rw zero-add at (copied used (task_out below reaches room))

pub copied_after : {nodes : List ℕ} {used node len : ℕ} (from to : ℕ) {before after : List ℕ} → used ≤ limit → Lies term_layout before (used + len)
    → CopiedPart before used nodes node len used from to before after → CopiedAfter nodes used node len from to before after
copied_after from to few room copied nodes-used store reaches = copied nodes-used (task_after few room store reaches)

-- The first `done` of them are there, and the others are still to be read.
pub record Done (terms : List ℕ) (used : ℕ) (nodes : List ℕ) (nodes-used node len base : ℕ) (before : List ℕ) (at : Rest) (after : List ℕ) (done : ℕ)
    : Type 0 where
  pub task : Task terms used nodes nodes-used node len base before
  pub along : Along (terms_in terms used) (nodes_in nodes nodes-used) node len done at
  pub words : after ≡ write term_layout before base (take done (shown terms used nodes nodes-used node))

-- What the code needs of the run that is copied next, and of the piece that begins with it.
pub record Found (used len done : ℕ) (at : Rest) (r : Run) : Type 0 where
  pub some : 1 ≤ r.len
  pub most : done + r.len ≤ len
  pub inside : r.start + r.len ≤ used
  pub short : len ≤ limit
  pub within : r.len ≤ at.left
  pub near : at.skip + at.left ≤ limit

-- The words of a run of terms, in any slice that begins with the words of the used terms.
run_words_lem : (terms source : List ℕ) (used : ℕ) (r : Run) → Lies term_layout terms used
    → take (used * term_layout.width) source ≡ take (used * term_layout.width) terms → r.start + r.len ≤ used
    → take (r.len * term_layout.width) (drop (r.start * term_layout.width) source) ≡ encode term_layout (part (terms_in terms used) r)
run_words_lem terms source used r there same inside =
    let l : r.len * term_layout.width ≤ length (drop (r.start * term_layout.width) terms) = rw length-drop (omega arith) in
    sym (part-below source (r.start * term_layout.width) (r.len * term_layout.width) (used * term_layout.width) (omega arith))
    ∙ ap (λ w. take (r.len * term_layout.width) (drop (r.start * term_layout.width) w)) same
    ∙ part-below terms (r.start * term_layout.width) (r.len * term_layout.width) (used * term_layout.width) (omega arith)
    ∙ sym (encode-decode term_layout term-keeps r.len (drop (r.start * term_layout.width) terms) l)
    ∙ ap (encode term_layout) (sym (decode-part term_layout used r.start r.len terms inside))

-- The words of terms, set at record i, are the terms written there.
pub words_written : (w : List ℕ) (i : ℕ) (ts : List Term) → Lies term_layout w (i + length ts)
    → sets w (i * term_layout.width) (encode term_layout ts) ≡ write term_layout w i ts
unfolding write
words_written w i ts h =
    let l = encode-length term_layout term_lays ts in
    let z : i * term_layout.width + length (encode term_layout ts) ≡ (i + length ts) * term_layout.width = omega arith in
    sets-eq (encode term_layout ts) w (i * term_layout.width) (omega arith) ∙ ap (λ k. take (i * term_layout.width) w ++ encode term_layout ts ++ drop k w) z

-- What is written at record i leaves the words before it.
pub write-below : (w : List ℕ) (i : ℕ) (ts : List Term) → Lies term_layout w i
    → take (i * term_layout.width) (write term_layout w i ts) ≡ take (i * term_layout.width) w
unfolding write
write-below w i ts h =
    ap (take (i * term_layout.width)) (append_assoc (take (i * term_layout.width) w) (encode term_layout ts) _)
    ∙ take_at (take (i * term_layout.width) w) (encode term_layout ts ++ drop ((i + length ts) * term_layout.width) w) (i * term_layout.width)
    (length-take-le (i * term_layout.width) w h)

-- The entries from a on and before b, written after those from `from` on and before a.
pub write_between : (before : List ℕ) {after next : List ℕ} (M : List Term) (i j from a b : ℕ) → from ≤ a → a ≤ b → b ≤ length M
    → Lies term_layout before (i + (b - from)) → j + from ≡ i + a
    → after ≡ write term_layout before i (drop from (take a M)) → next ≡ write term_layout after j (drop a (take b M))
    → next ≡ write term_layout before i (drop from (take b M))
write_between before M i j from a b h k m room e x y =
    let P = drop from (take a M) in
    let Q = drop a (take b M) in
    let l : length (take a M) ≡ a = length-take-le a M (omega arith) in
    let lP : length P ≡ a - from = length-drop from (take a M) ∙ ap (◌- from) l in
    let z : j ≡ i + length P = omega arith in
    let joined : take a M ++ Q ≡ take b M = ap (◌++ Q) (sym (take-take a b M k)) ∙ take-append-drop a (take b M) in
    y ∙ ap₂ (λ w n. write term_layout w n Q) x z
    ∙ write-append term_layout term_lays before i P Q (omega arith)
    ∙ ap (write term_layout before i) (sym (drop-append-le from (take a M) Q (omega arith)) ∙ ap (drop from) joined)

-- A part of a list as what comes after a beginning of it.
pub part-drop : {X : Type 0} (a k : ℕ) (M : List X) → take k (drop a M) ≡ drop a (take (a + k) M)
part-drop a k M = let z : a + k - a ≡ k = omega arith in sym (drop-take a (a + k) M ∙ ap (λ n. take n (drop a M)) z)

module _ {terms : List ℕ} {used : ℕ} {nodes : List ℕ} {nodes-used node len base : ℕ} {before : List ℕ} where
  -- the rule of the nodes, over the list of the terms
  pub task_good : Task terms used nodes nodes-used node len base before → T (nodes_rule (length (terms_in terms used)) (nodes_in nodes nodes-used))
  task_good k = rw (decode-length term_layout used terms) k.good

  pub task_short : Task terms used nodes nodes-used node len base before → len ≤ limit
  task_short k =
      let low : node < length (nodes_in nodes nodes-used) = rw decode-length k.reaches.low in
      omega (arith, reach_limit (terms_in terms used) (nodes_in nodes nodes-used) (task_good k) node low, k.reaches.fits)

  pub done_none : Task terms used nodes nodes-used node len base before → {at : Rest} → at ≡ rest node 0 len []
      → {done : ℕ} → done ≡ 0 → Done terms used nodes nodes-used node len base before at before done
  done_none k e z = rw z (record {
    task = k;
    along = rw e
        (along_again (terms_in terms used) (nodes_in nodes nodes-used) node len 0 len (task_good k)
        (rw decode-length k.reaches.low) k.reaches.fits (omega arith) (omega arith));
    words = sym (write_none term_layout term_lays before base);
  })

  module _ {at : Rest} {after : List ℕ} {done : ℕ} (so_far : Done terms used nodes nodes-used node len base before at after done) where
    taken-length : length (take done (shown terms used nodes nodes-used node)) ≡ done
    taken-length = length-take-le done (shown terms used nodes nodes-used node) (omega (arith, along_long so_far.along, so_far.along.most))

    pub done_length : length after ≡ length before
    done_length = ap length so_far.words
        ∙ write-length term_layout term_lays before base (take done (shown terms used nodes nodes-used node))
        (omega (arith, taken-length, so_far.along.most, so_far.task.room))

    pub done_all : len ≤ done → after ≡ write term_layout before base (take len (shown terms used nodes nodes-used node))
    done_all h =
        let e : done ≡ len = omega (arith, so_far.along.most) in
        so_far.words ∙ ap (λ n. write term_layout before base (take n (shown terms used nodes nodes-used node))) e

    -- the used terms are as they were, where they are copied after themselves
    pub done_below : Lies term_layout before base → take (base * term_layout.width) after ≡ take (base * term_layout.width) before
    done_below h = ap (take (base * term_layout.width)) so_far.words ∙ write-below before base (take done (shown terms used nodes nodes-used node)) h

    -- the piece is taken down to a run
    pub done_run : {next : Rest} → Goes (nodes_in nodes nodes-used) at next → Done terms used nodes nodes-used node len base before next after done
    done_run g = record {
      task = so_far.task;
      along = along_run so_far.along g.ready (g.same over-terms (terms_in terms used) so_far.along.good);
      words = so_far.words;
    }

    module _ (lt : done < len) (v : Front (nodes_in nodes nodes-used) at.node at.skip) {r : Run}
        (e : r ≡ front (nodes_in nodes nodes-used) at.node at.skip at.left) where
      next_run : Next (terms_in terms used) (nodes_in nodes nodes-used) node len done at.left r
      next_run = along_next so_far.along lt v e r.len (front_some so_far.along lt v e) (omega arith)

      pub done_found : Found used len done at r
      done_found = record {
        some = next_run.some;
        most = next_run.most;
        inside = rw decode-length at next_run.inside;
        short = task_short so_far.task;
        within = next_run.within;
        near = along_short so_far.along lt;
      }

      -- the run's words, set after those that are there
      next_words : (source : List ℕ) → take (used * term_layout.width) source ≡ take (used * term_layout.width) terms
          → sets after ((base + done) * term_layout.width) (take (r.len * term_layout.width) (drop (r.start * term_layout.width) source))
          ≡ write term_layout before base (take (done + r.len) (shown terms used nodes nodes-used node))
      next_words source same =
          let M = shown terms used nodes nodes-used node in
          let Q = part (terms_in terms used) r in
          let f = done_found in
          let l : length Q ≡ r.len = part_length (terms_in terms used) r.start r.len next_run.inside in
          let n = along_long so_far.along in
          write_between before M base (base + done) 0 done (done + r.len) (omega arith) (omega arith) (omega (arith, f.most))
          (omega (arith, f.most, so_far.task.room)) (omega arith)
          so_far.words
          (ap (sets after ((base + done) * term_layout.width)) (run_words_lem terms source used r so_far.task.there same f.inside)
          ∙ words_written after (base + done) Q (omega (arith, done_length, so_far.task.room))
          ∙ ap (write term_layout after (base + done)) (next_run.shows ∙ part-drop done r.len M))

      -- the run is copied, and read
      pub done_next : (source : List ℕ) → take (used * term_layout.width) source ≡ take (used * term_layout.width) terms
          → (to : ℕ) → to ≡ (base + done) * term_layout.width
          → {next : Rest} → next ≡ passed at r.len (rest node (done + r.len) (len - (done + r.len)) [])
          → {final : List ℕ} → final ≡ sets after to (take (r.len * term_layout.width) (drop (r.start * term_layout.width) source))
          → {total : ℕ} → total ≡ done + r.len → Done terms used nodes nodes-used node len base before next final total
      done_next source same to et es ew e = rw (e, ew, et) (record {
        task = so_far.task;
        along = along_on so_far.along lt r.len next_run.within es;
        words = next_words source same;
      })

-- What the slice of the terms keeps.
pub done_source : (T : List ℕ → List ℕ) (used base : ℕ) → Kept T used base → {nodes : List ℕ} {nodes-used node len : ℕ} {before : List ℕ} {at : Rest}
    {after : List ℕ} {done : ℕ} → Done (T before) used nodes nodes-used node len base before at after done
    → (length (T after) ≡ length (T before)) × (take (used * term_layout.width) (T after) ≡ take (used * term_layout.width) (T before))
done_source T used base kept {before = before} {after = after} so_far =
    kept after before (done_length so_far) (done_below so_far (omega (arith, so_far.task.room)))
