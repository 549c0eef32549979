-- `packed::put_figures` meets its contract.
use native.Mathlib.Omega.{arith}
use Rattle.packed.specs.Laid.{then, named}
use Rattle.packed.proofs.put_figures.Goals as goal

pub returns : goal.returns
returns c =
    then (then (then (then (then (then (then c.put_one-a.ensures c.put_one-b.ensures (omega arith)) c.put_plan_figures-c.ensures (omega arith)) (named c.form_number.ensures c.put_one-d.ensures) (omega arith)) c.put_level-e.ensures (omega arith)) c.put_level-g.ensures (omega arith)) c.put_plan_figures-h.ensures (omega arith)) c.put_one.ensures (omega arith)
