use native.Mathlib.Omega.{arith}
use Rattle.packed.specs.Laid.{none, more, all}
use Rattle.packed.proofs.put_row.Goals as goal

pub loop-i-preserved : goal.loop-i-preserved
loop-i-preserved c =
    let l = c.loop-i in
    (omega arith, more c.args.row.now c.loop-i-test.true c.requires l.invariant.1 c.put_one-m.ensures c.put_one.ensures)

pub loop-i-init : goal.loop-i-init
loop-i-init c = (omega arith, none _ _ (omega arith))

pub overflow_cast-p : goal.overflow_cast-p
overflow_cast-p c = omega (arith, c.shared_slice_known-in-loop-i-1.given c.loop-i.i)

pub returns : goal.returns
returns c = let l = c.loop-i in all {i = l.i} _ l.invariant.1 (omega (arith, c.loop-i-test.false))
