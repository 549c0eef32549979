use mathlib.Core.Path.{◌≡◌}
use Prim.Native.Nat.{◌≤◌}
use Rattle.scan.specs.declared.Class.TheVariants.{Two}
use Rattle.scan.specs.Scanner.{run_at}
use Rattle.scan.proofs.run_two.Given as goal

abbrev pub invariant-loop-left : goal.invariant-loop-left
invariant-loop-left l = (l.at ≤ l.i) × (run_at (Two l.a l.z l.b l.y) l.left l.s l.i ≡ run_at (Two l.a l.z l.b l.y) l.hi l.s l.at)

abbrev pub decreases-loop-left : goal.decreases-loop-left
decreases-loop-left l = l.left
