-- `words::words_to` meets its contract.
use Prim.Native.Nat.{◌-◌, ◌≤◌}
use Rattle.words.specs.Tail.{Left}
use Rattle.words.proofs.words_to.Given as goal

abbrev pub invariant-loop-i : goal.invariant-loop-i
invariant-loop-i l = (l.at ≤ l.i) × Left l.more l.s l.at l.end l.mid l.i l.m

abbrev pub decreases-loop-i : goal.decreases-loop-i
decreases-loop-i l = l.end - l.i
