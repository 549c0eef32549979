-- `filing::put_14` meets its contract.
use mathlib.Core.Path.{sym, ap}
use native.Mathlib.Omega.{arith}
use lib.ListN.{length}
use lib.Seq.{length-take-le}
use Rattle.excerpt.specs.Excerpt.{field14_of}
use Rattle.perform.specs.Changing.{laid_changes}
use Rattle.perform.proofs.filing.put_14.Goals as goal

pub slice_bounds-set_text-end : goal.slice_bounds-set_text-end
slice_bounds-set_text-end c = sym (length-take-le _ _ c.text_14-n.ensures.within)

pub set_text-requires : goal.set_text-requires
set_text-requires c =
    let h = c.requires in
    (h.0, omega arith, omega (arith, ap length c.text_14-n.ensures.bytes, h.1.short))

pub returns : goal.returns
returns c =
    let a = c.args in
    laid_changes a.i 8 _ (field14_of a.w.now a.e) _ _ a.table.now _ (omega arith) c.requires.0 c.requires.1.short c.text_14-n.ensures c.set_text.ensures
