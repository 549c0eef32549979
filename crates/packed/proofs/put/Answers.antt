-- `packed::put` meets its contract.
use native.Mathlib.Omega.{arith}
use Rattle.packed.specs.Laid.{then, named, whole}
use Rattle.packed.proofs.put.Goals as goal

pub returns : goal.returns
returns c =
    whole _ _ _ _ (then (then (named c.kind_number.ensures c.put_one-a.ensures) c.put_parts-b.ensures (omega arith)) c.put_figures.ensures (omega arith))
