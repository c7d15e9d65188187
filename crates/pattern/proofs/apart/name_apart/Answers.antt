-- A name that is entered is found, or the search goes on with the one before it in its chain.
use Rattle.std.proofs.Common.{arith}
use Rattle.numbers.specs.ChainLaws.{sought_low, sought_less, sought_next, sought_none}
use Rattle.pattern.specs.Apart.{it_is, it_is_not}
use Rattle.pattern.specs.NameLaws.{binding_text}
use Rattle.pattern.specs.ApartLaws.{bucket_low, name_head, name_low, name-same, name_other}
use Rattle.pattern.proofs.apart.name_apart.Goals as goal

pub last-at-requires : goal.last-at-requires
last-at-requires c = let (base, key, tables) = c.requires.tables in bucket_low tables key

pub loop-at-init : goal.loop-at-init
loop-at-init c =
    let (base, key, tables) = c.requires.tables in
    let here = name_head tables key c.last-at.ensures in
    record { sought = (base, here); paid = omega (arith, name_low here) }

pub same_name-requires : goal.same_name-requires
same_name-requires c =
    let (base, key, tables) = c.requires.tables in
    let low = sought_low (rw c.in-Some.is at c.loop-at.invariant.sought.1) in
    let texts = tables.texts in
    rw (c.of_binding.ensures, c.of_binding-in-Some.ensures) (
      binding_text _ _ _ _ texts c.requires.here c.get-b.ensures,
      binding_text _ _ _ _ texts (omega (arith, c.requires.here)) c.get-c.ensures,
    )

pub returns-then-same_name : goal.returns-then-same_name
returns-then-same_name c =
    let told = rw (c.of_binding.ensures, c.of_binding-in-Some.ensures) at c.same_name.ensures in
    let low = sought_low (rw c.in-Some.is at c.loop-at.invariant.sought.1) in (
      tt,
      it_is_not (record {
        place = c.in-Some.i;
        before = low;
        same = name-same _ _ _ _ c.get-b.ensures c.get-c.ensures told c.if-same_name.true;
      }),
    )

pub loop-at-preserved : goal.loop-at-preserved
loop-at-preserved c =
    let told = rw (c.of_binding.ensures, c.of_binding-in-Some.ensures) at c.same_name.ensures in
    let other = name_other _ _ _ _ c.get-b.ensures c.get-c.ensures told c.if-same_name.false in
    let here = rw c.in-Some.is at c.loop-at.invariant.sought.1 in
    let paid = rw c.in-Some.is at c.loop-at.invariant.paid in
    record {
      sought = (c.loop-at.invariant.sought.0, rw c.before-at.ensures (sought_next here other));
      paid = omega (arith, paid, sought_less here, c.before-at.ensures);
    }

pub returns : goal.returns
returns c =
    let here = rw c.in_default.is at c.loop-at.invariant.sought.1 in
    (omega (arith, c.loop-at.invariant.paid), it_is (sought_none here (omega arith)))
