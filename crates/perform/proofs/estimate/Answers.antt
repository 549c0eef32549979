-- `perform::estimate` meets its contract.
use native.Mathlib.Omega.{arith}
use Rattle.flights.specs.Flight.{active}
use Rattle.flights.specs.Made.{byte_active}
use Rattle.perform.specs.Changing.{then, status_changes}
use Rattle.perform.proofs.estimate.Goals as goal

pub set_byte-requires : goal.set_byte-requires
set_byte-requires c = (omega (arith, c.requires.0, c.put_14.ensures.size), omega arith)

pub returns : goal.returns
returns c =
    let x = c.put_14.ensures in
    then x (status_changes c.args.i 2 active _ _ byte_active (omega (arith, x.size, c.requires.0)) c.set_byte.ensures)
