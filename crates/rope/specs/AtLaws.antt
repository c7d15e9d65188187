-- Laws of copying the terms of a node by their places, part by part.
use Rattle.std.specs.Prelude.{◌≡◌, refl, List, [], ◌∷◌, ◌++◌, length, get_or, take, drop, ℕ, suc, zero, ◌+◌, ◌*◌, ◌-◌, ◌≤◌, ◌<◌}
use Rattle.std.proofs.Common.{ap, ap₂, sym, ◌∙◌, length-drop, take-suc, take-take, drop-drop, length-take-le, add-one, arith}
use Rattle.std.proofs.lemmas.List.{map-append, length-map}
use Rattle.std.proofs.lemmas.List.Edits.{sets}
use Rattle.term_spec.specs.ListLaws.{numbers_from}
use Rattle.term_spec.proofs.ListLaws.{map-take, map-drop, drop-take, part-below}
use Rattle.term_spec.specs.Term.{Term, term_layout}
use Rattle.term_spec.specs.Words.{Lies, decode, record_at, encode, write}
use Rattle.term_spec.proofs.WordsLaws.{term_lays, term-keeps, decode-length, decode-take, encode-decode, write-length, write-append, write_none}
use Rattle.view_spec.specs.Node.{meaning}
use Rattle.nodes.specs.NodeStore.{nodes_in, NodeStore, Reaches}
use Rattle.places.specs.Places.{PartRead, ShowsPart}
use Rattle.places.specs.PlacesLaws.{up_length, meaning-map}
use Rattle.places.specs.RestLaws.{reach_length}
use Rattle.rope.specs.Copies.{terms_at, Kept}
use Rattle.rope.specs.PartLaws.{part_at}
use Rattle.rope.specs.CopiedLaws.{terms_in, shown, Task, words_written, write-below, write_between, part-drop, task_good}

-- ---- what is written leaves the words before it, and the slice of the terms what it keeps ----

write_lower : (before : List ℕ) (i b : ℕ) (ts : List Term) {after : List ℕ} → b ≤ i → Lies term_layout before i → after ≡ write term_layout before i ts
    → take (b * term_layout.width) after ≡ take (b * term_layout.width) before
write_lower before i b ts {after} h low e =
    let width = term_layout.width in
    sym (take-take (b * width) (i * width) after (omega arith)) ∙ ap (λ w. take (b * width) (take (i * width) w)) e
    ∙ ap (take (b * width)) (write-below before i ts low) ∙ take-take (b * width) (i * width) before (omega arith)

-- The used terms are the same where their words are.
pub terms_same : (w v : List ℕ) (used : ℕ) → Lies term_layout w used → length w ≡ length v
    → take (used * term_layout.width) w ≡ take (used * term_layout.width) v → terms_in w used ≡ terms_in v used
terms_same w v used there l e =
    sym (decode-take term_layout used w there) ∙ ap (decode term_layout used) e ∙ decode-take term_layout used v (omega (arith, there, l))

-- A term's words among those of the used terms.
place_same : (w v : List ℕ) (used p : ℕ) → p < used → take (used * term_layout.width) w ≡ take (used * term_layout.width) v
    → take term_layout.width (drop (p * term_layout.width) w) ≡ take term_layout.width (drop (p * term_layout.width) v)
place_same w v used p lt e =
    let width = term_layout.width in
    sym (part-below w (p * width) width (used * width) (omega arith)) ∙ ap (λ l. take width (drop (p * width) l)) e
    ∙ part-below v (p * width) width (used * width) (omega arith)

-- ---- the terms at places of a list are copied one by one ----

-- The words of one term.
term_words_lem : (w : List ℕ) (p : ℕ) → Lies term_layout w (p + 1)
    → take term_layout.width (drop (p * term_layout.width) w) ≡ encode term_layout (record_at term_layout w p ∷ [])
unfolding decode record_at
term_words_lem w p h = sym (encode-decode term_layout term-keeps 1 (drop (p * term_layout.width) w) (rw length-drop (omega arith)))

-- The terms at the first i places are written from record `to` on.
pub record Put (store before list : List ℕ) (to k : ℕ) (after : List ℕ) (i : ℕ) : Type 0 where
  pub most : i ≤ k
  pub words : after ≡ write term_layout before to (terms_at store (take i list))

pub put_none : (store before list : List ℕ) (to k : ℕ) → Put store before list to k before 0
put_none store before list to k = record { most = omega arith; words = sym (write_none term_layout term_lays before to) }

module _ {store before list : List ℕ} {to k : ℕ} {after : List ℕ} {i : ℕ} (so_far : Put store before list to k after i) (few : k ≤ length list)
    (room : Lies term_layout before (to + k)) where
  put_count : length (terms_at store (take i list)) ≡ i
  put_count = rw length-map (length-take-le i list (omega (arith, so_far.most)))

  pub put-length : length after ≡ length before
  put-length = ap length so_far.words ∙ write-length term_layout term_lays before to (terms_at store (take i list)) (omega (arith, put_count, so_far.most))

  pub put_all : k ≤ i → after ≡ write term_layout before to (terms_at store (take k list))
  put_all h = let e : i ≡ k = omega (arith, so_far.most) in so_far.words ∙ ap (λ n. write term_layout before to (terms_at store (take n list))) e

  -- one term more, read from words that have it where the store has it
  pub put_next : i < k → (source : List ℕ) (p : ℕ) → p ≡ get_or list i 0 → Lies term_layout store (p + 1)
      → take term_layout.width (drop (p * term_layout.width) source) ≡ take term_layout.width (drop (p * term_layout.width) store)
      → (q : ℕ) → q ≡ to + i → {final : List ℕ} → final ≡ sets after (q * term_layout.width) (take term_layout.width (drop (p * term_layout.width) source))
      → Put store before list to k final (i + 1)
  put_next lt source p at there same q eq e =
      let P = terms_at store (take i list) in
      let R = record_at term_layout store p ∷ [] in
      let z : to + i ≡ to + length P = omega (arith, put_count) in
      let taken : take (i + 1) list ≡ take i list ++ (p ∷ []) = rw (add-one, at) (take-suc list i 0 (omega arith)) in
      record {
        most = omega arith;
        words = e
            ∙ ap (λ j. sets after (j * term_layout.width) (take term_layout.width (drop (p * term_layout.width) source))) eq
            ∙ ap (sets after ((to + i) * term_layout.width)) (same ∙ term_words_lem store p there)
            ∙ words_written after (to + i) R (omega (arith, put-length))
            ∙ ap₂ (λ w n. write term_layout w n R) so_far.words z
            ∙ write-append term_layout term_lays before to P R (omega (arith, put_count))
            ∙ ap (write term_layout before to) (sym (ap (terms_at store) taken ∙ map-append (record_at term_layout store) (take i list) (p ∷ [])));
      }

-- The same within one slice: the term that is read is as it was before.
pub put_up : {before list : List ℕ} {to k : ℕ} {after : List ℕ} {i : ℕ} → Put before before list to k after i → Lies term_layout before (to + k)
    → (p : ℕ) → p < to
    → take term_layout.width (drop (p * term_layout.width) after) ≡ take term_layout.width (drop (p * term_layout.width) before)
put_up {before} {list} {to} {k} {after} {i} so_far room p lt =
    let width = term_layout.width in
    let same : take (to * width) after ≡ take (to * width) before =
    ap (take (to * width)) so_far.words ∙ write-below before to (terms_at before (take i list)) (omega arith) in
    sym (part-below after (p * width) width (to * width) (omega arith)) ∙ ap (λ w. take width (drop (p * width) w)) same
    ∙ part-below before (p * width) width (to * width) (omega arith)

-- What the slice of the terms keeps.
pub put_source : (T : List ℕ → List ℕ) (used base : ℕ) → Kept T used base → {before list : List ℕ} {to k : ℕ} {after : List ℕ} {i : ℕ}
    → Put (T before) before list to k after i → k ≤ length list → Lies term_layout before (to + k) → base ≤ to
    → (length (T after) ≡ length (T before)) × (take (used * term_layout.width) (T after) ≡ take (used * term_layout.width) (T before))
put_source T used base kept {before} {list} {to} {after = after} {i = i} so_far few room h =
    kept after before (put-length so_far few room) (write_lower before to base (terms_at (T before) (take i list)) h (omega arith) so_far.words)

pub put_place : (T : List ℕ → List ℕ) (used base : ℕ) → Kept T used base → {before list : List ℕ} {to k : ℕ} {after : List ℕ} {i : ℕ}
    → Put (T before) before list to k after i → k ≤ length list → Lies term_layout before (to + k) → base ≤ to → (p : ℕ) → p < used
    → take term_layout.width (drop (p * term_layout.width) (T after)) ≡ take term_layout.width (drop (p * term_layout.width) (T before))
put_place T used base kept {before} {after = after} so_far few room h p lt =
    place_same (T after) (T before) used p lt (put_source T used base kept so_far few room h).1

-- ---- the terms of a node are those at its places ----

-- What is written after the used terms leaves them as they were.
used_kept : (before : List ℕ) (used i : ℕ) (ts : List Term) {after : List ℕ} → used ≤ i → Lies term_layout before i → Lies term_layout after used
    → after ≡ write term_layout before i ts
    → terms_in after used ≡ terms_in before used
used_kept before used i ts {after} h low fits e =
    let width = term_layout.width in
    let same : take (used * width) after ≡ take (used * width) before =
    sym (take-take (used * width) (i * width) after (omega arith)) ∙ ap (λ w. take (used * width) (take (i * width) w)) e
    ∙ ap (take (used * width)) (write-below before i ts low) ∙ take-take (used * width) (i * width) before (omega arith) in
    sym (decode-take term_layout used after fits) ∙ ap (decode term_layout used) same ∙ decode-take term_layout used before (omega arith)

-- The used terms are those at all places.
decode-places : (w : List ℕ) (s n : ℕ) → decode term_layout n (drop (s * term_layout.width) w) ≡ terms_at w (numbers_from s n)
unfolding decode record_at
decode-places w s zero = refl
decode-places w s (suc n) =
    let width = term_layout.width in
    let z : s * width + width ≡ suc s * width = omega arith in
    ap (record_at term_layout w s ∷◌) (ap (decode term_layout n) (drop-drop width (s * width) w ∙ ap (λ m. drop m w) z) ∙ decode-places w (suc s) n)

module _ {terms : List ℕ} {used : ℕ} {nodes : List ℕ} {nodes-used node len base : ℕ} {before : List ℕ}
    (task : Task terms used nodes nodes-used node len base before) where
  abbrev places : List ℕ
  places = meaning (numbers_from 0 used) (nodes_in nodes nodes-used) node

  low : node < length (nodes_in nodes nodes-used)
  low = rw decode-length task.reaches.low

  -- the nodes are over the used terms
  pub task_store : NodeStore nodes used nodes-used
  task_store = record { fits = task.store.store.fits; few = task.store.store.few; good = task.good }

  shown_long : len ≤ length (shown terms used nodes nodes-used node)
  shown_long = omega (arith, reach_length (terms_in terms used) (nodes_in nodes nodes-used) (task_good task) node low, task.reaches.fits)

  -- in any slice that begins with the used terms
  shown-at : (source : List ℕ) → terms_in source used ≡ terms_in terms used → shown terms used nodes nodes-used node ≡ terms_at source places
  shown-at source same =
      ap (λ ts. meaning ts (nodes_in nodes nodes-used) node) (sym same ∙ decode-places source 0 used)
      ∙ meaning-map (record_at term_layout source) (numbers_from 0 used) (nodes_in nodes nodes-used) (rw up_length task.good) node low

  -- where some of them are copied after the used terms, these are as they were
  pub some_kept : {middle : List ℕ} (done : ℕ) → done ≤ len → used ≤ base
      → middle ≡ write term_layout before base (take done (shown terms used nodes nodes-used node))
      → terms_in middle used ≡ terms_in before used
  some_kept done h low x =
      let M = shown terms used nodes nodes-used node in
      let l = length-take-le done M (omega (arith, shown_long)) in
      let z = ap length x ∙ write-length term_layout term_lays before base (take done M) (omega (arith, task.room)) in
      used_kept before used base (take done M) low (omega (arith, task.room)) (omega (arith, task.room)) x

  -- the rest, after some of them are there
  pub copied_rest : {middle after : List ℕ} (done : ℕ) → done ≤ len → (to : ℕ) → to ≡ base + done
      → middle ≡ write term_layout before base (take done (shown terms used nodes nodes-used node))
      → after ≡ write term_layout middle to (drop done (take len (shown terms used nodes nodes-used node)))
      → after ≡ write term_layout before base (take len (shown terms used nodes nodes-used node))
  copied_rest done h to et x y =
      write_between before (shown terms used nodes nodes-used node) base to 0 done len (omega arith) h shown_long (omega (arith, task.room)) (omega arith) x y

  module _ (done k : ℕ) (h : done + k ≤ len) where
    pub task_reaches : Reaches nodes nodes-used node (done + k)
    task_reaches = record { low = task.reaches.low; fits = omega (arith, task.reaches.fits) }

    pub task_part : ShowsPart nodes node done k
    task_part = record { used = _; store = task.store; reaches = task_reaches }

    part-shown : (old list : List ℕ) → PartRead nodes node done k old list → (source : List ℕ) → terms_in source used ≡ terms_in terms used
        → terms_at source (take k list) ≡ drop done (take (done + k) (shown terms used nodes nodes-used node))
    part-shown old list read source same =
        ap (terms_at source) (part_at done k task_store task_reaches old list read)
        ∙ map-take (record_at term_layout source) k (drop done places)
        ∙ ap (take k) (map-drop (record_at term_layout source) done places)
        ∙ ap (λ l. take k (drop done l)) (sym (shown-at source same))
        ∙ part-drop done k (shown terms used nodes nodes-used node)

-- ---- a node's terms from `from` on are copied part by part ----

-- Those before `done` are there.
pub record Filled (terms : List ℕ) (used : ℕ) (nodes : List ℕ) (nodes-used node len base : ℕ) (before : List ℕ) (from : ℕ) (after : List ℕ) (done : ℕ)
    : Type 0 where
  pub task : Task terms used nodes nodes-used node len base before
  pub least : from ≤ done
  pub most : done ≤ len
  pub words : after ≡ write term_layout before (base + from) (drop from (take done (shown terms used nodes nodes-used node)))

module _ {terms : List ℕ} {used : ℕ} {nodes : List ℕ} {nodes-used node len base : ℕ} {before : List ℕ} {from : ℕ} where
  pub filled_none : Task terms used nodes nodes-used node len base before → from ≤ len
      → Filled terms used nodes nodes-used node len base before from before from
  filled_none task h =
      let M = shown terms used nodes nodes-used node in
      let z : from - from ≡ 0 = omega arith in
      record {
        task = task;
        least = omega arith;
        most = h;
        words = sym (ap (write term_layout before (base + from)) (drop-take from from M ∙ ap (λ n. take n (drop from M)) z)
            ∙ write_none term_layout term_lays before (base + from));
      }

  module _ {after : List ℕ} {done : ℕ} (so_far : Filled terms used nodes nodes-used node len base before from after done) where
    filled-count : length (drop from (take done (shown terms used nodes nodes-used node))) ≡ done - from
    filled-count = length-drop from (take done (shown terms used nodes nodes-used node))
        ∙ ap (◌- from) (length-take-le done (shown terms used nodes nodes-used node) (omega (arith, shown_long so_far.task, so_far.most)))

    pub filled-length : length after ≡ length before
    filled-length = ap length so_far.words
        ∙ write-length term_layout term_lays before (base + from) (drop from (take done (shown terms used nodes nodes-used node)))
        (omega (arith, filled-count, so_far.least, so_far.most, so_far.task.room))

    pub filled-all : len ≤ done → after ≡ write term_layout before (base + from) (drop from (take len (shown terms used nodes nodes-used node)))
    filled-all h =
        let e : done ≡ len = omega (arith, so_far.most) in
        so_far.words ∙ ap (λ n. write term_layout before (base + from) (drop from (take n (shown terms used nodes nodes-used node)))) e

    -- the used terms are as they were, where they are copied after themselves
    pub filled-kept : used ≤ base → terms_in after used ≡ terms_in before used
    filled-kept h =
        used_kept before used (base + from) (drop from (take done (shown terms used nodes nodes-used node))) (omega arith)
        (omega (arith, so_far.least, so_far.most, so_far.task.room)) (omega (arith, filled-length, so_far.task.room)) so_far.words

    -- one part more, read from a slice that begins with the used terms
    pub filled_next : (k : ℕ) (h : done + k ≤ len) (old list : List ℕ) → PartRead nodes node done k old list
        → (source : List ℕ) → terms_in source used ≡ terms_in terms used
        → (to : ℕ) → to ≡ base + done → {final : List ℕ} → final ≡ write term_layout after to (terms_at source (take k list))
        → Filled terms used nodes nodes-used node len base before from final (done + k)
    filled_next k h old list read source same to et e =
        let M = shown terms used nodes nodes-used node in
        record {
          task = so_far.task;
          least = omega (arith, so_far.least);
          most = h;
          words = write_between before M (base + from) to from done (done + k) so_far.least (omega arith) (omega (arith, shown_long so_far.task))
              (omega (arith, so_far.least, so_far.task.room)) (omega arith) so_far.words
              (e ∙ ap (write term_layout after to) (part-shown so_far.task done k h old list read source same));
        }

-- What the slice of the terms keeps.
pub filled_source : (T : List ℕ → List ℕ) (used base : ℕ) → Kept T used base → {nodes : List ℕ} {nodes-used node len : ℕ} {before : List ℕ} {from : ℕ}
    {after : List ℕ} {done : ℕ} → Filled (T before) used nodes nodes-used node len base before from after done
    → (length (T after) ≡ length (T before)) × (take (used * term_layout.width) (T after) ≡ take (used * term_layout.width) (T before))
filled_source T used base kept {nodes} {nodes-used} {node} {before = before} {from} {after} {done} so_far =
    let M = shown (T before) used nodes nodes-used node in
    kept after before (filled-length so_far)
    (write_lower before (base + from) base (drop from (take done M)) (omega arith) (omega (arith, so_far.least, so_far.most, so_far.task.room)) so_far.words)

-- What is asked of the words that some of the terms were copied to.
pub task_kept : (T : List ℕ → List ℕ) (used base : ℕ) → Kept T used base → {nodes : List ℕ} {nodes-used node len : ℕ} {before middle : List ℕ} {done : ℕ}
    → Task (T before) used nodes nodes-used node len base before → done ≤ len
    → middle ≡ write term_layout before base (take done (shown (T before) used nodes nodes-used node))
    → Task (T middle) used nodes nodes-used node len base middle × (terms_in (T middle) used ≡ terms_in (T before) used)
task_kept T used base kept {nodes} {nodes-used} {node} {before = before} {middle} {done} task h x =
    let M = shown (T before) used nodes nodes-used node in
    let l = length-take-le done M (omega (arith, shown_long task)) in
    let z = ap length x ∙ write-length term_layout term_lays before base (take done M) (omega (arith, task.room)) in
    let k = kept middle before z (write_lower before base base (take done M) (omega arith) (omega (arith, task.room)) x) in
    let there : Lies term_layout (T middle) used = omega (arith, task.there, k.0) in (
      record { there = there; store = task.store; good = task.good; reaches = task.reaches; room = omega (arith, task.room, z) },
      terms_same (T middle) (T before) used there k.0 k.1,
    )
