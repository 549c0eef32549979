-- `flights::set_byte` meets its contract.
use native.Mathlib.Omega.{arith}
use Prim.Native.Nat.{◌+◌, ◌*◌}
use Rattle.splice.specs.Inside.{set_splice}
use Rattle.flights.proofs.set_byte.Goals as goal

pub returns : goal.returns
returns c = let a = c.args in set_splice a.table.now (a.i * 768 + a.at) a.v (omega arith)
