-- The place among the bindings, or else among the new names after them.
use Rattle.std.proofs.Common.{rules, arith}
use Rattle.term_spec.specs.Words.{count}
use Rattle.pattern.specs.NameLaws.{in_bindings, in_firsts}
use Rattle.pattern.proofs.find_name.Goals as goal

pub find_binding-requires : goal.find_binding-requires
unfolding count
find_binding-requires c = (search rules, rw c.of_item.ensures c.requires.known_firsts.0, c.requires.known_bindings.2)

pub returns-in-Some : goal.returns-in-Some
unfolding count
returns-in-Some c =
    let found = rw (c.of_item.ensures, c.in-Some.is) at c.find_binding.ensures in
    (in_bindings _ c.args.pattern.now _ c.args.firsts.now _ found.0 found.1, omega (arith, found.1))

pub returns-in-Some-find_first : goal.returns-in-Some-find_first
unfolding count
returns-in-Some-find_first c =
    let before = rw (c.of_item.ensures, c.in_default.is) at c.find_binding.ensures in
    let found = rw c.in-Some-find_first.is at c.find_first.ensures in
    (in_firsts _ c.args.pattern.now _ c.args.firsts.now _ before.0 (omega arith) found.0, omega (arith, found.1))

pub returns-in-None : goal.returns-in-None
unfolding count
returns-in-None c =
    let before = rw (c.of_item.ensures, c.in_default.is) at c.find_binding.ensures in
    let found = rw c.in-None.is at c.find_first.ensures in
    (in_firsts _ c.args.pattern.now _ c.args.firsts.now _ before.0 (omega arith) found.0, tt)
