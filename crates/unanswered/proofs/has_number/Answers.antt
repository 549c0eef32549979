-- `unanswered::has_number` meets its contract.
use Rattle.unanswered.specs.Formed.{number_is}
use Rattle.unanswered.proofs.has_number.Goals as goal

pub returns : goal.returns
returns c = let a = c.args in number_is a.b.now _ a.n c.number_at.ensures
