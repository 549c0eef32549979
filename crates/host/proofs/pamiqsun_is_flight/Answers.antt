-- `host::pamiqsun_is_flight` meets its contract.
use Rattle.host.specs.Ways.{checked_by}
use Rattle.host.proofs.pamiqsun_is_flight.Goals as goal

pub returns : goal.returns
returns c = checked_by c.is_well_formed.result c.is_well_formed.ensures c.found.ensures
