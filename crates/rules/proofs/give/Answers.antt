-- `rules::give` meets its contract.
use Rattle.rules.specs.Giving.{gave, gave_none}
use Rattle.rules.proofs.give.Goals as goal

pub returns-then-out-t : goal.returns-then-out-t
returns-then-out-t c = let a = c.args in gave_none a.h a.t.now a.out.now c.if-out-t.true

pub returns : goal.returns
returns c = gave _ _ _ _ _ c.if-out-t.false c.put-n.ensures
