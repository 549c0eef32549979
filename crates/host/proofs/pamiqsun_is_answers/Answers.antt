-- `host::pamiqsun_is_answers` meets its contract.
use Rattle.host.specs.Ways.{checked_by}
use Rattle.host.proofs.pamiqsun_is_answers.Goals as goal

pub returns : goal.returns
returns c = checked_by c.is_answers.result c.is_answers.ensures c.found.ensures
