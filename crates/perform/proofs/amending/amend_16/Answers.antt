-- `amending::amend_16` meets its contract.
use mathlib.Core.Path.{sym, ap}
use native.Mathlib.Omega.{arith}
use lib.ListN.{length}
use lib.Seq.{length-take-le}
use Rattle.reader.specs.Reading.{cut}
use Rattle.excerpt.specs.Excerpt.{texts_of}
use Rattle.perform.specs.Changing.{field_parts}
use Rattle.perform.proofs.amending.amend_16.Goals as goal

pub slice_bounds-put_whole-end : goal.slice_bounds-put_whole-end
slice_bounds-put_whole-end c = sym (length-take-le _ _ c.rest_16-n.ensures.within)

pub put_whole-requires : goal.put_whole-requires
put_whole-requires c =
    let h = c.requires in
    (h.0, omega arith, omega (arith, ap length c.text_in.ensures, h.1.short.destination), omega arith, omega (arith, ap length c.rest_16-n.ensures.bytes, h.1.short.rest16))

pub returns : goal.returns
returns c =
    let a = c.args in
    field_parts a.i 4 9 _ _ (cut a.w.now a.c.destination) (texts_of a.w.now a.c).rest16 a.table.now _ (omega arith) (omega arith) c.requires.0 c.requires.1.short.destination c.requires.1.short.rest16 c.text_in.ensures c.rest_16-n.ensures.bytes c.put_whole.ensures

pub text_in-requires : goal.text_in-requires
text_in-requires c = c.requires.1.inside.1.1.1.1.1.1.1.1.1.1.1.1.1.1.0
