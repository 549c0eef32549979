-- `scan::is_name` meets its contract.
use Rattle.scan.specs.Theory.{name_is}
use Rattle.scan.proofs.is_name.Goals as goal

pub returns : goal.returns
returns c = name_is c.args.t.now c.letters-q.result c.letters-q.ensures
