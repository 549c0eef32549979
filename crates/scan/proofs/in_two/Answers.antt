-- `scan::in_two` meets its contract.
use Rattle.scan.specs.Laws.{two_in, two_below, two_above}
use Rattle.scan.proofs.in_two.Goals as goal

pub returns-then-x-a : goal.returns-then-x-a
returns-then-x-a c = two_below _ _ _ _ _ c.if-x-a.true

pub returns-then-x-z : goal.returns-then-x-z
returns-then-x-z c = two_in _ _ _ _ _ c.if-x-a.false c.if-x-z.true

pub returns : goal.returns
returns c = two_above _ _ _ _ _ c.if-x-z.false
