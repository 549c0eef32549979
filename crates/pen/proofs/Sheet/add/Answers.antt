-- `pen::Sheet::add` meets its contract.
use mathlib.Core.Path.{refl}
use native.Mathlib.Omega.{arith}
use Rattle.pen.specs.Laying.{lays_added}
use Rattle.pen.proofs.Sheet.add.Goals as goal

pub returns : goal.returns
returns c = let a = c.args in lays_added a.self.now _ _ a.src.now refl refl c.in-Some.is (omega arith) _ refl c.put.ensures
