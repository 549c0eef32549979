-- `unanswered::lowest_free` meets its contract.
use mathlib.Core.Path.{◌≡◌}
use Prim.Native.Nat.{◌≤◌, ◌-◌}
use Rattle.places.specs.Search.{first_from}
use Rattle.unanswered.specs.Waiting.{place}
use Rattle.places.specs.Bytes.{free}
use Rattle.unanswered.proofs.lowest_free.Given as goal

abbrev pub invariant-loop-i : goal.invariant-loop-i
invariant-loop-i l = (l.i ≤ 16) × (first_from (λ k. free (place k l.t)) 16 0 ≡ first_from (λ k. free (place k l.t)) (16 - l.i) l.i)

abbrev pub decreases-loop-i : goal.decreases-loop-i
decreases-loop-i l = 16 - l.i
