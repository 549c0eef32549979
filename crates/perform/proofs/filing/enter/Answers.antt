-- `filing::enter` meets its contract.
use Rattle.flights.specs.Flight.{active}
use Rattle.flights.specs.Made.{byte_active}
use Rattle.perform.proofs.filing.enter.Goals as goal

pub returns : goal.returns
returns c = c.put_14.ensures.on _ _ (c.file.ensures active byte_active)
