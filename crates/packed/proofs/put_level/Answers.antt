-- `packed::put_level` meets its contract.
use native.Mathlib.Omega.{arith}
use Rattle.packed.specs.Laid.{then, named}
use Rattle.packed.proofs.put_level.Goals as goal

pub returns : goal.returns
returns c =
    then (named c.level_number.ensures c.put_one-a.ensures) c.put_one.ensures (omega arith)
