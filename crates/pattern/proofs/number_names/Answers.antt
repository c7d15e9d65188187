-- A record that is no variable's gets 0; a variable's gets its name's place, and a new name goes to the end of the table.
use Rattle.std.proofs.Common.{true, not, length, ◌+◌, refl, ap, sym, ◌∙◌, arith}
use Rattle.items.specs.Records.{as_item}
use Rattle.pattern.specs.Records.{bindings_in}
use Rattle.pattern.specs.BindingLaws.{texts_of}
use Rattle.term_spec.specs.Words.{count}
use Rattle.numbers.specs.NumbersLaws.{never}
use Rattle.pattern.specs.NameLaws.{found_inside, found_outside}
use Rattle.pattern.specs.NumberLaws.{AtRecord, numbered_start, item_text, numbered_names, numbered_all, numbered_plain, numbered_many, numbered_known, numbered_met}
use Rattle.pattern.proofs.number_names.Goals.{then-is_none, else-is_none}
use Rattle.pattern.proofs.number_names.Goals as goal

pub loop-i-init : goal.loop-i-init
loop-i-init c = rw c.new-firsts.ensures (numbered_start _ _ _ _ c.requires.room.1)

pub loop-i-preserved-then-not-is_variable : goal.loop-i-preserved-then-not-is_variable
loop-i-preserved-then-not-is_variable c =
    numbered_plain
    (record {
      now = c.loop-i.invariant;
      more = c.loop-i-test.true;
      wide = omega (arith, c.loop-i.auto.numbers, c.loop-i-test.true, c.requires.room.0, c.requires.room.2);
      read = c.get-t.ensures;
      kind = sym c.is_variable.ensures ∙ c.if-not-is_variable.true;
    })
    c.set_word.ensures

pub find_name-found-requires-clause-known_firsts : goal.find_name-found-requires-clause-known_firsts
find_name-found-requires-clause-known_firsts c =
    rw c.as_slice.ensures.value (
      item_text _ _ _ c.requires.rules.0 c.loop-i-test.true c.get-t.ensures (sym c.is_variable.ensures ∙ c.if-not-is_variable.false),
      c.loop-i.invariant.texts,
    )

pub find_name-found-requires-clause-known_bindings : goal.find_name-found-requires-clause-known_bindings
find_name-found-requires-clause-known_bindings c = (c.requires.room.1, omega (arith, c.as_slice.ensures.fits), texts_of _ _ c.requires.rules.1)

pub returns-then-at-ge-NAME_LIMIT : goal.returns-then-at-ge-NAME_LIMIT
unfolding count
returns-then-at-ge-NAME_LIMIT c =
    let given = c.args in
    let here : AtRecord given.names.now given.pattern.now given.bindings.now c.loop-i.firsts.items c.loop-i.numbers c.loop-i.i (as_item c.get-t.result) true =
    record {
      now = c.loop-i.invariant;
      more = c.loop-i-test.true;
      wide = omega (arith, c.loop-i.auto.numbers, c.loop-i-test.true, c.requires.room.0, c.requires.room.2);
      read = c.get-t.ensures;
      kind = sym c.is_variable.ensures ∙ c.if-not-is_variable.false;
    } in
    let found = rw c.as_slice.ensures.value at c.find_name-found.ensures in
    let placed = rw c.len.ensures.value at c.unwrap_or-at.ensures in
    record { counted = numbered_many here (placed ∙ found.0) (omega arith); few = tt; numbers = λ some. never some refl }

pub loop-i-preserved : goal.loop-i-preserved
unfolding count
loop-i-preserved c =
    let given = c.args in
    let here : AtRecord given.names.now given.pattern.now given.bindings.now c.loop-i.firsts.items c.loop-i.numbers c.loop-i.i (as_item c.get-t.result) true =
    record {
      now = c.loop-i.invariant;
      more = c.loop-i-test.true;
      wide = omega (arith, c.loop-i.auto.numbers, c.loop-i-test.true, c.requires.room.0, c.requires.room.2);
      read = c.get-t.ensures;
      kind = sym c.is_variable.ensures ∙ c.if-not-is_variable.false;
    } in
    let found = rw c.as_slice.ensures.value at c.find_name-found.ensures in
    let placed = rw c.len.ensures.value at c.unwrap_or-at.ensures in
    let within = item_text _ _ _ c.requires.rules.0 here.more here.read here.kind in
    elim c.if-is_none.branch [
      | then-is_none w ↦
          let new = found_outside (bindings_in given.bindings.now + length c.loop-i.firsts.items) _ (c.is_none.ensures ∙ ap not w.if-is_none.true) in
          numbered_met here (placed ∙ found.0) c.set_word-in-loop-i.ensures within (omega arith) (omega (arith, placed, new))
          (rw w.firsts-is w.push.ensures.items)
      | else-is_none w ↦
          let old = found_inside _ _ _ _ found (c.is_none.ensures ∙ ap not w.if-is_none.false) in
          rw w.firsts-is (numbered_known here (placed ∙ found.0) c.set_word-in-loop-i.ensures (omega (arith, placed, old)))
    ]

pub returns : goal.returns
returns c =
    let ended = c.loop-i-test.false in
    rw c.len-2.ensures.value
    (record {
      counted = numbered_names c.loop-i.invariant ended;
      few = c.loop-i.invariant.few;
      numbers = λ _. numbered_all c.loop-i.invariant ended;
    })
