use mathlib.Core.Path.{refl}
use Rattle.scan.specs.Laws.{all_next, all_end}
use Rattle.scan.proofs.all_in.Goals as goal

pub loop-j-init : goal.loop-j-init
loop-j-init c = refl

pub loop-j-preserved : goal.loop-j-preserved
loop-j-preserved c =
    let l = c.loop-j in
    all_next _ _ l.j l.ok _ _ c.loop-j-test.true c.is_in-ok.ensures l.invariant

pub returns : goal.returns
returns c = let l = c.loop-j in all_end _ _ l.j l.ok _ c.loop-j-test.false l.invariant
