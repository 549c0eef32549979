-- `packed::put_one` meets its contract.
use native.Mathlib.Omega.{arith}
use lib.ListN.{length-set}
use Rattle.packed.specs.Laid.{one}
use Rattle.packed.proofs.put_one.Goals as goal

pub bounds-out-at-2 : goal.bounds-out-at-2
bounds-out-at-2 c = simp length-set (omega arith)

pub returns : goal.returns
returns c = one c.args.k c.args.n c.args.out.now (omega arith)
