-- `beginning::are_sizes` meets its contract.
use Rattle.memory.specs.End.{lent}
use Rattle.link.specs.Beginning.{sizes_is}
use Rattle.link.proofs.beginning.are_sizes.Goals as goal

pub returns : goal.returns
returns c =
    let a = c.args in
    sizes_is (lent a.sent.now a.received.now a.unanswered.now a.answers.now) c.is_sized.ensures c.is_sized-2.ensures
