use Prim.Native.Nat.{◌≤◌, ◌-◌}
use mathlib.Core.Path.{◌≡◌}
use lib.ListN.{length, drop}
use Rattle.scan.specs.Scanner.{scan}
use Rattle.scan.specs.Texts.{lit}
use Rattle.scan.proofs.lit.Given as goal

abbrev pub invariant-loop-i : goal.invariant-loop-i
invariant-loop-i l = (l.i ≤ length l.w) × (scan (lit (drop l.i l.w)) l.s l.q ≡ scan (lit l.w) l.s l.initial.q)

abbrev pub decreases-loop-i : goal.decreases-loop-i
decreases-loop-i l = length l.w - l.i
