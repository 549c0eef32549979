-- `amending::amend_18` meets its contract.
use mathlib.Core.Path.{sym, ap}
use native.Mathlib.Omega.{arith}
use lib.ListN.{length}
use lib.Seq.{length-take-le}
use Rattle.excerpt.specs.Excerpt.{texts_of}
use Rattle.perform.specs.Changing.{given_laid}
use Rattle.perform.proofs.amending.amend_18.Goals as goal

pub slice_bounds-put_given-end : goal.slice_bounds-put_given-end
slice_bounds-put_given-end c = sym (length-take-le _ _ c.text_18-n.ensures.within)

pub put_given-requires : goal.put_given-requires
put_given-requires c =
    let h = c.requires in
    (h.0, omega arith, omega (arith, ap length c.text_18-n.ensures.bytes, h.1.short.field18))

pub returns : goal.returns
returns c =
    let a = c.args in
    given_laid a.i 11 _ (texts_of a.w.now a.c).field18 _ _ a.table.now _ (omega arith) c.requires.0 c.requires.1.short.field18 c.text_18-n.ensures c.put_given.ensures
