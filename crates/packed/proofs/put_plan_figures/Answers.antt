-- `packed::put_plan_figures` meets its contract.
use native.Mathlib.Omega.{arith}
use Rattle.packed.specs.Laid.{then}
use Rattle.packed.proofs.put_plan_figures.Goals as goal

pub returns : goal.returns
returns c =
    then c.put_one-a.ensures c.put_level.ensures (omega arith)
