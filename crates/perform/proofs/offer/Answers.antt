-- `perform::offer` meets its contract.
use native.Mathlib.Omega.{arith}
use Rattle.flights.specs.Flight.{offered}
use Rattle.flights.specs.Made.{byte_offered}
use Rattle.perform.specs.Changing.{then, handoff_changes, offer_changes}
use Rattle.perform.proofs.offer.Goals as goal

pub returns : goal.returns
returns c =
    let a = c.args in
    let x = handoff_changes a.i 1 offered a.table.now _ byte_offered c.requires.0 c.set_byte.ensures in
    then x (offer_changes a.i a.n _ _ (omega (arith, x.size, c.requires.0)) c.set_number.ensures)
