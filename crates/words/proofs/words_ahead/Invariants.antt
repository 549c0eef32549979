use mathlib.Core.Path.{◌≡◌}
use mathlib.Core.Bool.{false}
use Prim.Native.Nat.{◌+◌, ◌<◌}
use lib.ListN.{length}
use Rattle.scan.specs.Scanner.{words_at}
use Rattle.words.specs.Blocks.{mid}
use Rattle.words.proofs.words_ahead.Given as goal

abbrev pub invariant-loop-left : goal.invariant-loop-left
invariant-loop-left l = (l.j < length l.s) × (words_at l.left (mid l.s l.j) l.s (l.j + 1) ≡ words_at l.k false l.s l.i)

abbrev pub decreases-loop-left : goal.decreases-loop-left
decreases-loop-left l = l.left
