-- The rule of the node read, by its kind.
use Rattle.std.proofs.Common.{ap, sym, ◌∙◌, ne_eqb}
use Rattle.term_spec.proofs.WordsLaws.{decode-length}
use Rattle.view_spec.specs.Node.{node_layout, node_rule}
use Rattle.words.proofs.KindLaws.{of_kind, not_of_kind}
use Rattle.nodes.specs.NodeStore.{nodes_in}
use Rattle.nodes.specs.RuleLaws.{node_other_low, node_other_high, node-cons, node-concat}
use Rattle.nodes.proofs.node_ok.Goals as goal

pub returns-then-is : goal.returns-then-is
returns-then-is c = c.cons_ok.ensures ∙ node-cons _ _ _ (of_kind c.is.ensures c.if-is.true) ∙ ap (node_rule _ _) c.get-n.ensures

pub returns-then-is-2 : goal.returns-then-is-2
returns-then-is-2 c = c.concat_ok.ensures ∙ node-concat _ _ _ (of_kind c.is-2.ensures c.if-is-2.true) ∙ ap (node_rule _ _) c.get-n.ensures

pub returns-then-i-eq0 : goal.returns-then-i-eq0
returns-then-i-eq0 c =
    let cons = not_of_kind c.is.ensures c.if-is.false in
    let concat = not_of_kind c.is-2.ensures c.if-is-2.false in
    let below = nodes_in c.args.nodes.now c.args.i in
    c.eq.ensures ∙ node_other_low c.args.terms below _ cons concat (decode-length node_layout _ _ ∙ c.if-i-eq0.true)
    ∙ ap (node_rule _ _) c.get-n.ensures

pub returns-else-i-eq0 : goal.returns-else-i-eq0
returns-else-i-eq0 c =
    let cons = not_of_kind c.is.ensures c.if-is.false in
    let concat = not_of_kind c.is-2.ensures c.if-is-2.false in
    let below = nodes_in c.args.nodes.now c.args.i in
    let none = node_other_high c.args.terms below _ cons concat (λ e. c.if-i-eq0.false (sym (decode-length node_layout _ _) ∙ e)) in
    ne_eqb _ _ c.if-i-eq0.false ∙ none ∙ ap (node_rule c.args.terms below) c.get-n.ensures
