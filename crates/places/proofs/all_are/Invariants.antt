-- `places::all_are` meets its contract.
use Rattle.std.proofs.Common.{◌≡◌, ◌&&◌, drop}
use Rattle.places.specs.Bytes.{each}
use Rattle.places.proofs.all_are.Given as goal

abbrev pub invariant-loop-b : goal.invariant-loop-b
invariant-loop-b l = each l.v l.s ≡ (l.ok && each l.v (drop l.b-index l.s))
