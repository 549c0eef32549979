-- `packed::put_row` meets its contract.
-- the first i parts stand there
use Prim.Native.Nat.{◌+◌, ◌*◌, ◌-◌, ◌≤◌}
use lib.ListN.{length, take}
use Rattle.packed.specs.Packed.{span_numbers}
use Rattle.packed.specs.Laid.{Puts}
use Rattle.packed.proofs.put_row.Given as goal

abbrev pub invariant-loop-i : goal.invariant-loop-i
invariant-loop-i l = (l.i ≤ length l.row) × Puts l.k (span_numbers (take l.i l.row)) l.initial.out l.out (l.k + 2 * l.i)

abbrev pub decreases-loop-i : goal.decreases-loop-i
decreases-loop-i l = length l.row - l.i
