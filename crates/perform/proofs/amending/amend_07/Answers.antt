-- `amending::amend_07` meets its contract.
use mathlib.Core.Path.{ap}
use native.Mathlib.Omega.{arith}
use lib.ListN.{length}
use Rattle.reader.specs.Reading.{cut}
use Rattle.perform.specs.Changing.{field_parts}
use Rattle.perform.proofs.amending.amend_07.Goals as goal

pub put_whole-requires : goal.put_whole-requires
put_whole-requires c =
    let h = c.requires in
    (h.0, omega arith, omega (arith, ap length c.text_in.ensures, h.1.short.aircraft), omega arith, omega (arith, ap length c.text_in-2.ensures, h.1.short.code))

pub returns : goal.returns
returns c =
    let a = c.args in
    field_parts a.i 0 1 _ _ (cut a.w.now a.c.aircraft) (cut a.w.now a.c.code) a.table.now _ (omega arith) (omega arith) c.requires.0 c.requires.1.short.aircraft c.requires.1.short.code c.text_in.ensures c.text_in-2.ensures c.put_whole.ensures

pub text_in-requires : goal.text_in-requires
text_in-requires c = c.requires.1.inside.0

pub text_in-requires-2 : goal.text_in-requires-2
text_in-requires-2 c = c.requires.1.inside.1.0
