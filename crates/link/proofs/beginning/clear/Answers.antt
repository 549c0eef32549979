-- `beginning::clear` meets its contract.
use Rattle.link.specs.Beginning.{cleared}
use Rattle.link.proofs.beginning.clear.Goals as goal

pub returns : goal.returns
returns c = cleared c.args.t.now _ _ c.fill.ensures
