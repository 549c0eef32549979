-- `answers::is_answers` meets its contract.
use mathlib.Core.Path.{◌≡◌}
use mathlib.Core.Bool.{true}
use Prim.Native.Nat.{◌≤◌, ◌-◌}
use lib.ListN.{get_or}
use Rattle.scan.specs.Bools.{Decides}
use Rattle.places.specs.Below.{Below}
use Rattle.answers.specs.Given.{is_value}
use Rattle.answers.proofs.is_answers.Given as goal

abbrev pub invariant-loop-i : goal.invariant-loop-i
invariant-loop-i l = (l.i ≤ 1000) × Decides l.ok (Below (λ k. is_value (get_or l.a k 0) ≡ true) l.i)

abbrev pub decreases-loop-i : goal.decreases-loop-i
decreases-loop-i l = 1000 - l.i
