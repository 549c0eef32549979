-- `beginning::is_sized` meets its contract.
use Rattle.link.specs.Beginning.{sized_is}
use Rattle.link.proofs.beginning.is_sized.Goals as goal

pub returns : goal.returns
returns c = sized_is c.args.t.now
