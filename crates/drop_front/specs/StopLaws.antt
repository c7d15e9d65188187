-- Laws of a valid store for the code that drops terms: one step to the right, and the stops.
use Rattle.std.specs.Prelude.{◌≡◌, List, ◌⊎◌, length, ℕ, suc, ◌+◌, ◌-◌, ◌<◌, ◌≤◌}
use Rattle.std.proofs.Math.Path.{refl}
use Rattle.std.proofs.Common.{ap, sym, subst, ◌∙◌, inl, inr, arith}
use Rattle.std.proofs.Math.Decide.{dec_lt}
use Rattle.term_spec.specs.Term.{limit}
use Rattle.term_spec.specs.Words.{record_at}
use Rattle.term_spec.proofs.WordsLaws.{decode-length}
use Rattle.view_spec.specs.Node.{Node, node_layout, cons_kind, node_at}
use Rattle.view_spec.proofs.NodeLaws.{ConsAt, ConcatAt, NodeAt, node_at_lem}
use Rattle.view_spec.specs.Build.{drop_plan, drop_makes}
use Rattle.view_spec.proofs.DropLaws.{drop_zero, drop-cons, drop-concat}
use Rattle.view_spec.proofs.PlanLaws.{if_yes, if_no}
use Rattle.nodes.specs.RuleLaws.{below_at}
use Rattle.nodes.specs.NodeStore.{nodes_in, AnyStore}
use Rattle.drop_front.specs.declared.Stop.{Stop}
use Rattle.drop_front.specs.declared.Stop.TheVariants.{Stay, Cut, Under}
use Rattle.drop_front.specs.DropFront.{Stopped}

-- Dropping goes on to the right c, with k - b left to drop.
pub record Onward (ns : List Node) (i k b c : ℕ) : Type 0 where
  pub low : c < i
  pub fits : k - b ≤ (node_at ns c).reach
  pub same : drop_plan ns c (k - b) ≡ drop_plan ns i k

module _ (w : List ℕ) (used : ℕ) (s : AnyStore w used) (i k : ℕ) (h : i < used) where
  abbrev ns : List Node
  ns = nodes_in w used

  inside : i < length ns
  inside = rw decode-length h

  -- nothing is left to drop
  pub stop_stay : k ≡ 0 → Stopped ns i k (Stay i)
  stop_stay z = record { plan = sym (drop_zero ns i inside) ∙ ap (drop_plan ns i) (sym z); lower = tt }

  module _ {n : Node} (e : n ≡ record_at node_layout w i) (f : k ≤ (node_at ns i).reach) (p : k ≡ 0 → ⊥) where
    is : n ≡ node_at ns i
    is = below_at w used i e h

    -- a node that has terms is no Nil
    some_node : ConsAt s.terms ns i ⊎ ConcatAt ns i
    some_node = go (node_at_lem s.terms ns i s.store.good inside)
      where
        go : NodeAt s.terms ns i → ConsAt s.terms ns i ⊎ ConcatAt ns i
        go (inl m) = absurd (p (omega arith))
        go (inr m) = m

    pub step_right : n.b ≤ k → Onward ns i k n.b n.c
    step_right q = go some_node
      where
        out : k < (node_at ns i).b → ⊥
        out z = omega (arith, rw is at q)

        go : ConsAt s.terms ns i ⊎ ConcatAt ns i → Onward ns i k n.b n.c
        go (inl m) = rw is (record { low = m.tail_low; fits = omega arith; same = sym (drop-cons s.terms ns i k inside m (omega arith) ∙ if_no (dec_lt k (node_at ns i).b) _ _ out) })
        go (inr m) = rw is (record { low = m.right_low; fits = omega arith; same = sym (drop-concat ns i k inside m (omega arith) ∙ if_no (dec_lt k (node_at ns i).b) _ _ out) })

    -- a Cons is cut
    pub stop_cut : k < n.b → n.kind ≡ cons_kind → (n.a + n.b ≤ limit) × Stopped ns i k (Cut (n.a + k) (n.b - k) n.c)
    stop_cut q o = go some_node
      where
        go : ConsAt s.terms ns i ⊎ ConcatAt ns i → (n.a + n.b ≤ limit) × Stopped ns i k (Cut (n.a + k) (n.b - k) n.c)
        go (inl m) = rw is (
          omega (arith, m.inside-terms, s.few_terms),
          record { plan = sym (drop-cons s.terms ns i k inside m (omega arith) ∙ if_yes (dec_lt k (node_at ns i).b) _ _ (rw is at q)); lower = tt },
        )
        go (inr m) = absurd (omega (arith, rw is at o))

    -- what is to drop ends inside a Concat's left
    pub stop_under : k < n.b → (n.kind ≡ cons_kind → ⊥) → Stopped ns i k (Under n.a k (n.b - k) n.c)
    stop_under q o = go some_node
      where
        go : ConsAt s.terms ns i ⊎ ConcatAt ns i → Stopped ns i k (Under n.a k (n.b - k) n.c)
        go (inl m) = absurd (rw is at o m.kind1)
        go (inr m) = rw is (record {
          plan = sym (drop-concat ns i k inside m (omega arith) ∙ if_yes (dec_lt k (node_at ns i).b) _ _ (rw is at q));
          lower = (m.left_low, omega (arith, rw is at q));
        })

-- A stop further to the right is a stop of the node.
pub stop_on : (ns : List Node) (node count i k : ℕ) (x : Stop) → i ≤ node → drop_plan ns i k ≡ drop_plan ns node count → Stopped ns i k x → Stopped ns node count x
stop_on ns node count i k (Stay x) h e s = record { plan = s.plan ∙ e; lower = tt }
stop_on ns node count i k (Cut a b c) h e s = record { plan = s.plan ∙ e; lower = tt }
stop_on ns node count i k (Under x j m r) h e s = record { plan = s.plan ∙ e; lower = (omega (arith, s.lower.0), s.lower.1) }

-- ---- a stop by its variant ----

module _ (ns : List Node) (i k : ℕ) where
  -- A stop that was found to be t.
  pub stop_as : {s t : Stop} → s ≡ t → Stopped ns i k s → Stopped ns i k t
  stop_as e s = subst (Stopped ns i k) e s

  -- The nodes that it makes.
  pub makes_stay : {x : ℕ} → Stopped ns i k (Stay x) → drop_makes (drop_plan ns i k) ≡ 0
  unfolding drop_makes
  makes_stay s = rw (← s.plan) refl

  pub makes_cut : {a b c : ℕ} → Stopped ns i k (Cut a b c) → drop_makes (drop_plan ns i k) ≡ 1
  unfolding drop_makes
  makes_cut s = rw (← s.plan) refl

  pub makes_under : {x j m r : ℕ} → Stopped ns i k (Under x j m r) → drop_makes (drop_plan ns i k) ≡ suc (drop_makes (drop_plan ns x j))
  unfolding drop_makes
  makes_under s = rw (← s.plan) refl
