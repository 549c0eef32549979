-- `unanswered::apart_from_lower` meets its contract.
use Prim.Native.Nat.{◌≤◌, ◌-◌}
use Rattle.scan.specs.Bools.{Decides}
use Rattle.places.specs.Below.{Below}
use Rattle.unanswered.specs.Waiting.{place, Apart}
use Rattle.unanswered.proofs.apart_from_lower.Given as goal

abbrev pub invariant-loop-j : goal.invariant-loop-j
invariant-loop-j l = (l.j ≤ l.i) × Decides l.ok (Below (λ k. Apart (place k l.t) (place l.i l.t)) l.j)

abbrev pub decreases-loop-j : goal.decreases-loop-j
decreases-loop-j l = l.i - l.j
