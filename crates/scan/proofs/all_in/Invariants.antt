use mathlib.Core.Path.{◌≡◌}
use mathlib.Core.Bool.{◌&&◌}
use Prim.Native.Nat.{◌-◌}
use lib.ListN.{length, drop}
use Rattle.scan.specs.declared.Class.TheVariants.{Two}
use Rattle.scan.specs.Grammar.{all}
use Rattle.scan.proofs.all_in.Given as goal

abbrev pub invariant-loop-j : goal.invariant-loop-j
invariant-loop-j l = all (Two l.a l.z l.b l.y) l.t ≡ (l.ok && all (Two l.a l.z l.b l.y) (drop l.j l.t))

abbrev pub decreases-loop-j : goal.decreases-loop-j
decreases-loop-j l = length l.t - l.j
