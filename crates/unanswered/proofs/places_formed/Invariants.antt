-- `unanswered::places_formed` meets its contract.
use Prim.Native.Nat.{◌≤◌, ◌-◌}
use Rattle.scan.specs.Bools.{Decides}
use Rattle.places.specs.Below.{Below}
use Rattle.unanswered.specs.Waiting.{FormedAt}
use Rattle.unanswered.proofs.places_formed.Given as goal

abbrev pub invariant-loop-i : goal.invariant-loop-i
invariant-loop-i l = (l.i ≤ 16) × Decides l.ok (Below (FormedAt l.ours l.partners l.t) l.i)

abbrev pub decreases-loop-i : goal.decreases-loop-i
decreases-loop-i l = 16 - l.i
