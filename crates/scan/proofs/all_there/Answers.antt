use native.Mathlib.Omega.{arith}
use Rattle.scan.specs.Laws.{whole_not, whole_as}
use Rattle.scan.proofs.all_there.Goals as goal

pub returns-then-s-at : goal.returns-then-s-at
returns-then-s-at c = whole_not _ _ _ _ (omega (arith, c.if-s-at.true))

pub returns-then-s-at-2 : goal.returns-then-s-at-2
returns-then-s-at-2 c = whole_not _ _ _ _ (omega (arith, c.if-s-at-2.true, c.if-s-at.false))

pub returns : goal.returns
returns c = whole_as _ _ _ _ _ (omega (arith, c.if-s-at-2.false, c.if-s-at.false)) c.all_in.ensures
