-- `amending::amend` meets its contract.
use native.Mathlib.Omega.{arith}
use Rattle.perform.specs.Changing.{then}
use Rattle.perform.proofs.amending.amend.Goals as goal

pub amend_18-requires : goal.amend_18-requires
amend_18-requires c =
    let h = c.requires in
    (omega (arith, h.0, c.amend_07.ensures.size, c.amend_08.ensures.size, c.amend_09.ensures.size, c.amend_10.ensures.size, c.amend_13.ensures.size, c.amend_15.ensures.size, c.amend_16.ensures.size), h.1)

pub shape_of-table : goal.shape_of-table
shape_of-table c =
    omega (arith, c.amend_07.ensures.size, c.amend_08.ensures.size, c.amend_09.ensures.size, c.amend_10.ensures.size, c.amend_13.ensures.size, c.amend_15.ensures.size, c.amend_16.ensures.size, c.amend_18.ensures.size)

pub returns : goal.returns
returns c =
    then (then (then (then (then (then (then c.amend_07.ensures c.amend_08.ensures) c.amend_09.ensures) c.amend_10.ensures) c.amend_13.ensures) c.amend_15.ensures) c.amend_16.ensures) c.amend_18.ensures
