-- `packed::unpacked::are_known` meets its contract.
use mathlib.Core.Bool.{◌&&◌}
use lib.Dec.{leb}
use Rattle.packed.specs.Packed.{known}
use Rattle.packed.proofs.unpacked.are_known.Goals as goal

pub returns : goal.returns
unfolding known
returns c = λ i.
    (((leb (c.figure_in.ensures i) 5 && leb (c.figure_in-2.ensures i) 4) && leb (c.figure_in-3.ensures i) 5) && leb (c.figure_in-4.ensures i) 5) && leb (c.figure_in-5.ensures i) 5
