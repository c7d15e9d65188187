-- A name that is entered tells that one repeats; any other binding goes into the tables, as far as they have room.
use Rattle.std.proofs.Common.{refl, arith}
use borrow.Author.Tests.{not-true}
use Rattle.pattern.specs.Apart.{none_repeats, one_repeats, given_up}
use Rattle.pattern.specs.NameLaws.{binding_text}
use Rattle.pattern.specs.ApartLaws.{told_yes, told_no, bucket_read, bucket_low, tables_passed, tables_entered, apart_next}
use Rattle.pattern.proofs.apart.first_apart_with.Goals.{then-k-lt-LIMIT, else-k-lt-LIMIT, then-not-way+else-k-cost, else-not-way}
use Rattle.pattern.proofs.apart.first_apart_with.Goals as goal

pub bucket_of-bucket-requires : goal.bucket_of-bucket-requires
bucket_of-bucket-requires c = (c.requires.0, binding_text _ _ _ _ c.loop-k.invariant.tables.texts c.loop-k-test.true c.get-b.ensures)

pub name_apart-requires-clause-tables : goal.name_apart-requires-clause-tables
name_apart-requires-clause-tables c =
    (_, bucket_read _ _ _ _ c.get-b.ensures c.bucket_of-bucket.ensures, c.loop-k.invariant.tables)

pub returns-in_default : goal.returns-in_default
returns-in_default c =
    let found = told_no (rw c.in_default.is at c.name_apart.ensures.1) refl in
    one_repeats (record {
      first = found.place;
      second = c.loop-k.k;
      before = found.before;
      inside = c.loop-k-test.true;
      same = found.same;
    })

pub returns-then-k-cost : goal.returns-then-k-cost
returns-then-k-cost c = given_up (not-true _ c.if-not-way.true)

pub enter-requires-clause-room : goal.enter-requires-clause-room
enter-requires-clause-room c =
    let key = bucket_read _ _ _ _ c.get-b.ensures c.bucket_of-bucket.ensures in
    (bucket_low c.loop-k.invariant.tables key, c.if-k-lt-LIMIT.true)

pub loop-k-preserved : goal.loop-k-preserved
loop-k-preserved c =
    let was = c.loop-k.invariant in
    let key = bucket_read _ _ _ _ c.get-b.ensures c.bucket_of-bucket.ensures in
    let new = told_yes (rw c.in-Some.is at c.name_apart.ensures.1) refl in
    record {
      tables = elim c.if-k-lt-LIMIT.branch [
        | then-k-lt-LIMIT w ↦ rw (w.chains-is, w.enter.ensures.0, w.enter.ensures.1) (tables_entered was.tables key w.if-k-lt-LIMIT.true)
        | else-k-lt-LIMIT w ↦ rw w.chains-is (tables_passed was.tables w.if-k-lt-LIMIT.false)
      ];
      apart = apart_next _ _ was.apart new;
      paid = elim c.if-not-way.branch [
        | then-not-way+else-k-cost w ↦ omega (arith, w.if-k-cost.false, w.cost-is)
        | else-not-way w ↦ omega (arith, w.cost-is, was.paid)
      ];
    }

pub returns : goal.returns
returns c = none_repeats (λ d k low lt h. c.loop-k.invariant.apart d k low lt (omega (arith, c.loop-k-test.false)))
