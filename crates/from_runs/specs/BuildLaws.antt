-- Laws of building the chain: the words hold the chain of the runs after the one that is held, and closing it makes one Cons more.
use Rattle.std.specs.Prelude.{◌≡◌, Option, None, Some, List, [], ◌∷◌, ◌++◌, T, length, drop, ℕ, suc, zero, ◌+◌, ◌-◌, ◌*◌, ◌/◌, ◌≤◌, ◌<◌}
use Rattle.std.proofs.Math.Path.{refl}
use Rattle.std.proofs.Common.{ap, sym, ◌∙◌, length-append, drop_at, arith}
use Rattle.std.proofs.lemmas.List.{length-replicate}
use Rattle.std.proofs.Math.Decide.{ℕ_discrete}
use Rattle.term_spec.proofs.BoolLaws.{both_of}
use Rattle.term_spec.proofs.ListLaws.{All}
use Rattle.term_spec.specs.Words.{Lies, record_at, records, write}
use Rattle.term_spec.proofs.WordsLaws.{decode-length}
use Rattle.term_spec.specs.Term.{Run, run_layout, run_rule, runs_rule}
use Rattle.words.specs.declared.Run.{Run as CodeRun}
use Rattle.words.specs.Records.{as_run}
use Rattle.view_spec.specs.Node.{Node, node_layout, cons_node, GoodNodes}
use Rattle.view_spec.proofs.NodeLaws.{nodes_there}
use Rattle.view_spec.specs.Build.{fuse_onto, chain, chain_head}
use Rattle.view_spec.proofs.ChainLaws.{Fine, fuse-fine, chain_made, chain_length}
use Rattle.view_spec.proofs.PlanLaws.{if_yes, if_no}
use Rattle.nodes.specs.NodeStore.{nodes_in}
use Rattle.nodes.specs.MakeLaws.{any}
use Rattle.from_runs.specs.FromRuns.{head_at, closed, closed_at, Closes, Chains, fused_in}
use Rattle.from_runs.specs.FuseLaws.{left, left_end, left-all, left_skip, left_onto, Starts, others, onto_next, onto_part, left_shorter}
use Rattle.nodes.specs.WriteLaws.{put-length, put-upto, put_above, later, is_write}

-- ---- the last node made, and the used count after the Cons ----

pub head_none : (used at : ℕ) → at ≡ used → 0 ≡ head_at used at
unfolding head_at
head_none used at e = sym (if_yes (ℕ_discrete at used) _ _ e)

pub head_last : (used at : ℕ) → (at ≡ used → ⊥) → at - 1 ≡ head_at used at
unfolding head_at
head_last used at n = sym (if_no (ℕ_discrete at used) _ _ n)

pub head_low : (used at : ℕ) → 1 ≤ used → used ≤ at → head_at used at < at
head_low used at h k = go (ℕ_discrete at used)
  where
    go : Dec (at ≡ used) → head_at used at < at
    go (yes e) = omega (arith, head_none used at e)
    go (no n) = omega (arith, head_last used at n)

chain_head_lem : (qs : List Run) (ns : List Node) (used at : ℕ) → length ns ≡ used → at ≡ used + length qs → head_at used at ≡ chain_head qs (chain qs ns)
unfolding chain_head
chain_head_lem [] ns used at e h = sym (head_none used at (omega arith))
chain_head_lem (q ∷ qs) ns used at e h =
    sym (head_last used at (λ z. omega arith)) ∙ omega (arith, chain_length (q ∷ qs) ns)

-- What `close` does: nothing if no run is held, and else one Cons.
pub close_none : (v : List ℕ) (used at : ℕ) {held : Option CodeRun} → held ≡ None → (at ≡ closed_at at held) × (v ≡ closed v used at held)
unfolding closed_at closed
close_none v used at e = rw e (refl, refl)

pub close_one : (v : List ℕ) (used at : ℕ) (r : CodeRun) {held : Option CodeRun} → held ≡ Some r
    → (at + 1 ≡ closed_at at held) × (write node_layout v at (cons_node (nodes_in v at) r.start r.len (head_at used at) ∷ []) ≡ closed v used at held)
unfolding closed_at closed
close_one v used at r h = rw h (refl, refl)

pub close_room : (v : List ℕ) (at : ℕ) (r : CodeRun) {held : Option CodeRun} → held ≡ Some r → Lies node_layout v (closed_at at held) → Lies node_layout v (at + 1)
unfolding closed_at
close_room v at r e h = rw e at h

-- The Cons as the code makes it.
pub close_made : (v : List ℕ) (used at : ℕ) (r : CodeRun) {held : Option CodeRun} {c : ℕ} {u : List ℕ} → held ≡ Some r → c ≡ head_at used at
    → u ≡ write node_layout v at (cons_node (nodes_in v at) r.start r.len c ∷ []) → (at + 1 ≡ closed_at at held) × (u ≡ closed v used at held)
unfolding closed_at closed
close_made v used at r h e q = rw h (refl, q ∙ rw e refl)

-- ---- the words hold a chain ----

-- The words v are the words w but for the nodes from `used` on, and with them they hold the chain of the runs qs.
pub record Holds (w : List ℕ) (used : ℕ) (qs : List Run) (v : List ℕ) (at : ℕ) : Type 0 where
  pub nodes : nodes_in v at ≡ chain qs (nodes_in w used)
  pub count : at ≡ used + length qs
  pub above : drop (at * node_layout.width) v ≡ drop (at * node_layout.width) w
  pub size : length v ≡ length w

-- Two runs as one.
abbrev fused : CodeRun → CodeRun → CodeRun
fused r n = record { start = r.start; len = r.len + n.len }

-- The run that is held is the first of qs; there is none if none is held.
unfoldable pub Held : List Run → Option CodeRun → Type 0
Held [] held = held ≡ None
Held (q ∷ qs) held = (r : CodeRun) × (held ≡ Some r) × (q ≡ as_run r)

held_starts : (qs : List Run) (held : Option CodeRun) → Held qs held → Starts qs held
unfolding Held Starts
held_starts [] held h = h
held_starts (q ∷ qs) held (r, e, same) = (r, e, ap (λ (x : Run). x.start) same)

-- The used count after the Cons of the first of qs.
close_count : (used at : ℕ) (held : Option CodeRun) (qs : List Run) → Held qs held → at ≡ used + length (others qs) → closed_at at held ≡ used + length qs
unfolding Held others closed_at
close_count used at held [] h e = rw h e
close_count used at held (q ∷ qs) (r, h, same) e = rw h (omega arith)

chain-cons : (q : Run) (qs : List Run) (ns : List Node)
    → chain qs ns ++ (cons_node (chain qs ns) q.start q.len (chain_head qs (chain qs ns)) ∷ []) ≡ chain (q ∷ qs) ns
unfolding chain
chain-cons q qs ns = refl

close_more : (at : ℕ) (held : Option CodeRun) → at ≤ closed_at at held
unfolding closed_at
close_more at None = omega arith
close_more at (Some r) = omega arith

-- Closing makes the Cons of the first of qs.
pub holds-closed : (w : List ℕ) (used : ℕ) (qs : List Run) (v : List ℕ) (at : ℕ) (held : Option CodeRun) {u : List ℕ} {z : ℕ}
    → Holds w used (others qs) v at → Held qs held → Lies node_layout v (closed_at at held)
    → z ≡ closed_at at held → u ≡ closed v used at held → Holds w used qs u z
unfolding Held others closed closed_at
holds-closed w used [] v at held o h r e g = rw (e, g, h) o
holds-closed w used (q ∷ qs) v at held o (s, h, same) r e g =
    let l : Lies node_layout v (at + 1) = rw h at r in
    let k = chain_head_lem qs (nodes_in w used) used at (decode-length node_layout used w) o.count in
    let n = cons_node (nodes_in v at) s.start s.len (head_at used at) in
    rw (e, g, h) (record {
      nodes = put-upto v at n l ∙ rw (o.nodes, k, same) (chain-cons (as_run s) qs (nodes_in w used));
      count = omega (arith, o.count);
      above = put_above v at n l (at + 1) (omega arith) ∙ later v w at (at + 1) (omega arith) o.above;
      size = put-length v at n l ∙ o.size;
    })

-- ---- the runs left are within the terms ----

runs-drop : (terms : ℕ) (i : ℕ) (rs : List Run) → T (runs_rule terms rs) → T (runs_rule terms (drop i rs))
unfolding runs_rule
runs-drop terms zero rs h = h
runs-drop terms (suc i) [] h = h
runs-drop terms (suc i) (r ∷ rs) h = runs-drop terms i rs (both_of (run_rule terms r) (runs_rule terms rs) h).1

left-fine : (terms : ℕ) (w : List ℕ) (i : ℕ) → T (runs_rule terms (records run_layout w)) → All (Fine terms) (left w i)
unfolding left
left-fine terms w i h = fuse-fine terms (drop i (records run_layout w)) (runs-drop terms i (records run_layout w) h)

others-fine : (terms : ℕ) (qs : List Run) → All (Fine terms) qs → All (Fine terms) (others qs)
unfolding All others
others-fine terms [] a = a
others-fine terms (q ∷ qs) a = a.1

held-fine : (terms : ℕ) (qs : List Run) (held : Option CodeRun) (r : CodeRun) → All (Fine terms) qs → Held qs held → held ≡ Some r → r.start + r.len ≤ terms
unfolding All Held
held-fine terms [] held r a h e = absurd (cc)
held-fine terms (q ∷ qs) held r a (s, h, same) e =
    let run : s ≡ r = cc in
    let is : q ≡ as_run r = same ∙ ap as_run run in
    rw is at a.0.within

-- ---- the loop ----

-- What the loop keeps: the run that is held is the first of those left from i on, and the words hold the chain of the others.
pub record Going (w : List ℕ) (used : ℕ) (runs v : List ℕ) (i at : ℕ) (held : Option CodeRun) : Type 0 where
  pub within : i ≤ length runs / run_layout.width
  pub first : Held (left runs i) held
  pub holds : Holds w used (others (left runs i)) v at

module _ (w : List ℕ) (used : ℕ) (runs : List ℕ) (o : Chains w used runs) where
  abbrev ns : List Node
  ns = nodes_in w used

  abbrev terms : ℕ
  terms = o.over.inside.terms

  -- a list that has an entry for each term
  abbrev xs : List ℕ
  xs = any terms

  size_xs : length xs ≡ terms
  size_xs = length-replicate terms 0

  good-chain : (qs : List Run) → All (Fine terms) qs → GoodNodes terms (chain qs ns)
  good-chain qs a = rw size_xs at (chain_made xs qs ns (rw size_xs o.over.store.good) (rw size_xs a)).good

  -- the nodes at entry come first
  chain-grown : (qs : List Run) → All (Fine terms) qs → ns ++ drop used (chain qs ns) ≡ chain qs ns
  chain-grown qs a =
      let (new, e) = (chain_made xs qs ns (rw size_xs o.over.store.good) (rw size_xs a)).grown in
      ap (ns ++◌) (ap (drop used) e ∙ drop_at ns new used (decode-length node_layout used w)) ∙ sym e

  pub going_start : Going w used runs w (length runs / run_layout.width) used None
  unfolding Held others chain
  going_start = record {
    within = omega arith;
    first = rw (left_end runs) refl;
    holds = rw (left_end runs) (record { nodes = refl; count = omega arith; above = refl; size = refl });
  }

  module _ (v : List ℕ) (k at : ℕ) (held : Option CodeRun) (g : Going w used runs v k at held) where
    abbrev qs : List Run
    qs = left runs k

    fine : All (Fine terms) qs
    fine = left-fine terms runs k o.over.inside.rule

    pub going_low : (r : CodeRun) → held ≡ Some r → r.start + r.len ≤ terms
    going_low r e = held-fine terms qs held r fine g.first e

    pub going_closes : Closes v used at held
    going_closes =
        let c = close_count used at held qs g.first g.holds.count in
        let t = left_shorter runs k in
        let m = close_more at held in
        record {
          store = record {
            terms = terms;
            few_terms = o.over.inside.few_terms;
            store = record {
              fits = omega (arith, c, t, m, o.room, g.holds.size);
              few = omega (arith, c, t, m, o.few);
              good = rw g.holds.nodes (good-chain (others qs) (others-fine terms qs fine));
            };
          };
          some_nodes = omega (arith, nodes_there terms ns o.over.store.good, decode-length node_layout used w);
          low = omega (arith, g.holds.count);
          room = omega (arith, c, t, o.room, g.holds.size);
          small = λ r e. (omega (arith, going_low r e, o.over.inside.few_terms), omega (arith, going_low r e, o.over.inside.few_terms));
        }

    module _ {u : List ℕ} {z : ℕ} (q : (z ≡ closed_at at held) × (u ≡ closed v used at held)) where
      all_held : Holds w used qs u z
      all_held = holds-closed w used qs v at held g.holds g.first going_closes.room q.0 q.1

      pub closed_low : used ≤ z
      closed_low = omega (arith, all_held.count)

      pub closed_size : length u ≡ length w
      closed_size = all_held.size

      pub going_end : k ≤ 0 → {x : ℕ} → x ≡ head_at used z
          → (x ≡ chain_head (fused_in runs) (chain (fused_in runs) ns)) × (u ≡ write node_layout w used (drop used (chain (fused_in runs) ns)))
      going_end h {x} e =
          let y : k ≡ 0 = omega arith in
          let is : left runs k ≡ fused_in runs = ap (left runs) y ∙ left-all runs in
          let new = drop used (chain qs ns) in
          let grown = chain-grown qs fine in
          let l : length ns ≡ used = decode-length node_layout used w in
          let n : used + length new ≡ z = omega (arith, all_held.count, chain_length qs ns, length-append ns new, ap length grown, l) in
          rw (← is) (
            e ∙ chain_head_lem qs ns used z l all_held.count,
            is_write u w used new o.over.store.fits (omega (arith, n, all_held.count, all_held.size, left_shorter runs k, o.room))
                (rw n all_held.nodes ∙ sym grown)
                (rw n all_held.above),
          )

    module _ (p : 0 < k) (r : CodeRun) (e : as_run r ≡ record_at run_layout runs (k - 1)) where
      pub going_skip : r.len ≡ 0 → Going w used runs v (k - 1) at held
      going_skip q =
          let s = left_skip runs k p g.within e q in
          record { within = omega (arith, g.within); first = rw s g.first; holds = rw s g.holds }

      pub going_fuse : (n : CodeRun) → (1 ≤ r.len) × (held ≡ Some n) × (r.start + r.len ≡ n.start)
          → Going w used runs v (k - 1) at (Some (fused r n))
      unfolding Held others
      going_fuse n (some, is, ends) = go qs g.first g.holds (left_onto runs k p g.within e some)
        where
          go : (ps : List Run) → Held ps held → Holds w used (others ps) v at → left runs (k - 1) ≡ fuse_onto (as_run r) ps
              → Going w used runs v (k - 1) at (Some (fused r n))
          go [] h holds s = absurd (cc)
          go (q ∷ ps) (t, h, same) holds s =
              let run : t ≡ n = cc in
              let as_n : q ≡ as_run n = same ∙ ap as_run run in
              let o = s ∙ onto_next (as_run r) n q ps (ap (λ (x : Run). x.start) as_n) ends in
              let f : left runs (k - 1) ≡ as_run (fused r n) ∷ ps = o ∙ ap (λ (x : Run). record { start = r.start; len = r.len + x.len } ∷ ps) as_n in
              record {
                within = omega (arith, g.within);
                first = rw f (fused r n, refl, refl);
                holds = rw f holds;
              }

      pub going_part : (1 ≤ r.len) × ((q : CodeRun) → held ≡ Some q → r.start + r.len ≡ q.start → ⊥) → {u : List ℕ} {z : ℕ}
          → (z ≡ closed_at at held) × (u ≡ closed v used at held) → Going w used runs u (k - 1) z (Some r)
      unfolding Held others
      going_part (some, apart) y =
          let s = left_onto runs k p g.within e some ∙ onto_part (as_run r) qs (held_starts qs held g.first) apart in
          record {
            within = omega (arith, g.within);
            first = rw s (r, refl, refl);
            holds = rw s (all_held y);
          }
