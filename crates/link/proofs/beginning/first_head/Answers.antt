-- `beginning::first_head` meets its contract.
use Rattle.link.specs.Beginning.{head_first}
use Rattle.link.proofs.beginning.first_head.Goals as goal

pub returns : goal.returns
returns c =
    head_first c.args.ours.now c.args.partners.now c.requires.0 c.requires.1
