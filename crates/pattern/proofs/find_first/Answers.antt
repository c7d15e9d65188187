-- A name is found at i, or the rest is left.
use Rattle.std.proofs.Common.{refl, sym, ◌∙◌}
use Rattle.pattern.specs.NameLaws.{found, passed, not_found, find-start, first_here, firsts_size, first-inside, first_text}
use Rattle.pattern.proofs.find_first.Goals as goal

pub loop-i-init : goal.loop-i-init
loop-i-init c = find-start _ _

pub get-u-requires : goal.get-u-requires
get-u-requires c = first-inside _ _ _ _ _ c.requires.1 c.loop-i-test.true refl

pub same_name-requires : goal.same_name-requires
same_name-requires c =
    rw (c.of_item.ensures, c.of_item-in-loop-i.ensures)
    (c.requires.0, first_text _ _ _ _ _ c.requires.1 c.loop-i-test.true refl c.get-u.ensures)

pub returns-then-same_name : goal.returns-then-same_name
returns-then-same_name c =
    let told = rw (c.of_item.ensures, c.of_item-in-loop-i.ensures) at c.same_name.ensures in (
      found _ _ _ (first_here _ _ _ _ c.loop-i-test.true refl c.get-u.ensures) c.loop-i.invariant (sym told ∙ c.if-same_name.true),
      c.loop-i-test.true,
    )

pub loop-i-preserved : goal.loop-i-preserved
loop-i-preserved c =
    let told = rw (c.of_item.ensures, c.of_item-in-loop-i.ensures) at c.same_name.ensures in
    passed _ _ _ (first_here _ _ _ _ c.loop-i-test.true refl c.get-u.ensures) c.loop-i.invariant (sym told ∙ c.if-same_name.false)

pub returns : goal.returns
returns c = (not_found _ _ c.loop-i.i (firsts_size _ _ _) c.loop-i-test.false c.loop-i.auto.i-end c.loop-i.invariant, tt)
