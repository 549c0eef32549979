-- `host::pamiqsun_is_table` meets its contract.
use Rattle.host.specs.Ways.{checked_by}
use Rattle.host.proofs.pamiqsun_is_table.Goals as goal

pub returns : goal.returns
returns c = checked_by c.is_table.result c.is_table.ensures c.found.ensures
