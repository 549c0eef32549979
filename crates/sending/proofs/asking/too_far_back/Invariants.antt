-- `asking::too_far_back` meets its contract.
use mathlib.Core.Path.{◌≡◌}
use Prim.Native.Nat.{◌≤◌, ◌-◌}
use Rattle.memory.specs.End.{waiting_in}
use Rattle.rules.specs.Sending.{any_waiting, too_old}
use Rattle.sending.specs.Asked.{rest_of}
use Rattle.sending.proofs.asking.too_far_back.Given as goal

abbrev pub invariant-loop-i : goal.invariant-loop-i
invariant-loop-i l = (l.i ≤ 16) × (any_waiting (too_old l.next) (waiting_in l.u) ≡ any_waiting (too_old l.next) (rest_of l.i l.u))

abbrev pub decreases-loop-i : goal.decreases-loop-i
decreases-loop-i l = 16 - l.i
