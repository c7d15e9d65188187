-- The two read are nodes a and c of a valid store, so height and reach fit a word and the node made is the Concat.
use Rattle.std.proofs.Common.{arith, rules}
use Rattle.nodes.specs.MakeLaws.{known, concat_made}
use Rattle.nodes.proofs.make_concat.Goals as goal

pub overflow_add-n : goal.overflow_add-n
overflow_add-n c =
    let l = known _ _ _ c.requires.store.store c.args.a c.requires.fits.1 c.get-left.ensures in
    let r = known _ _ _ c.requires.store.store c.args.c c.requires.fits.3 c.get-right.ensures in
    omega arith

pub put-requires : goal.put-requires
put-requires c =
    let l = known _ _ _ c.requires.store.store c.args.a c.requires.fits.1 c.get-left.ensures in
    let r = known _ _ _ c.requires.store.store c.args.c c.requires.fits.3 c.get-right.ensures in
    search rules

pub returns : goal.returns
returns c =
    let l = known _ _ _ c.requires.store.store c.args.a c.requires.fits.1 c.get-left.ensures in
    let r = known _ _ _ c.requires.store.store c.args.c c.requires.fits.3 c.get-right.ensures in
    concat_made _ _ _ _ _ l r c.max.ensures c.reach_of.ensures (rw c.number.ensures at c.put.ensures)
