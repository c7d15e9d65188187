-- The term's bucket is its key's, whose chain has every equal term that is entered; what is found there gives the tables with the term.
use Rattle.std.proofs.Common.{refl, arith}
use Rattle.numbers.proofs.TablesLaws.{key_low, key_here, searched_head, place_found, place_none, tables_found, tables_entered}
use Rattle.numbers.proofs.number_of.Goals as goal

pub find_equal-found-requires : goal.find_equal-found-requires
find_equal-found-requires c =
    let (inside, tables) = c.requires.tables in
    (_, key_low tables c.bucket_of-b.ensures c.get-t.ensures, searched_head tables c.bucket_of-b.ensures c.get-t.ensures inside refl)

pub returns-in-Some : goal.returns-in-Some
returns-in-Some c =
    let (inside, tables) = c.requires.tables in
    let found = place_found _ _ _ _ _ _ c.find_equal-found.ensures.1 c.in-Some.is in (
      omega (arith, found.low),
      omega (arith, c.find_equal-found.ensures.0, inside, tables.few),
      tables_found tables inside found,
    )

pub returns-in-None : goal.returns-in-None
returns-in-None c =
    let (inside, tables) = c.requires.tables in
    let none = place_none _ _ _ _ _ _ c.find_equal-found.ensures.1 c.in-None.is in (
      omega arith,
      omega (arith, c.find_equal-found.ensures.0, inside, tables.few),
      rw (c.enter.ensures.0, c.enter.ensures.1) (tables_entered tables inside none _ (key_here tables c.bucket_of-b.ensures c.get-t.ensures)),
    )
