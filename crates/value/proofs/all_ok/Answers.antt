-- A term that fails decides the rule; one that holds leaves the rest, is at most 255 deep, and goes into the tables.
use Rattle.std.proofs.Common.{rules, arith, ap, sym, ◌≡◌, ◌∙◌}
use Rattle.value.specs.CheckLaws.{rest_rule, rest_all, rest_more, rest_none}
use Rattle.value.specs.BlockLaws.{depth_small, tables_more, tables_blocks}
use Rattle.value.proofs.all_ok.Goals as goal

pub loop-i-init : goal.loop-i-init
loop-i-init c = (rest_all _ _ _, c.requires.tables)

pub term_ok-requires-clause-blocks : goal.term_ok-requires-clause-blocks
term_ok-requires-clause-blocks c = tables_blocks _ c.loop-i.invariant.1 (search rules) (search rules)

pub returns-then-not-term_ok : goal.returns-then-not-term_ok
returns-then-not-term_ok c =
    sym (c.loop-i.invariant.0 ∙ rest_more _ _ _ _ c.loop-i-test.true c.get-t.ensures (sym c.term_ok.ensures ∙ c.if-not-term_ok.true))

pub enter-requires : goal.enter-requires
enter-requires c = (search rules, search rules, depth_small _ _ _ (sym c.if-not-term_ok.false ∙ c.term_ok.ensures))

pub loop-i-preserved : goal.loop-i-preserved
loop-i-preserved c =
    let more = c.loop-i-test.true in
    let t = c.get-t.ensures in
    let holds = sym c.term_ok.ensures ∙ c.if-not-term_ok.false in (
      c.loop-i.invariant.0 ∙ rest_more _ _ _ _ more t holds,
      tables_more _ c.loop-i.invariant.1 (omega (arith, c.loop-i.auto)) (omega (arith, c.loop-i.auto)) t c.enter.ensures.low_block
          c.enter.ensures.high_block,
    )

pub returns : goal.returns
returns c =
    let e : c.loop-i.i ≡ c.args.used = search rules in
    sym (c.loop-i.invariant.0 ∙ ap (rest_rule _ _ _) e ∙ rest_none _ _ _)
