-- What is left of the input falls with each line.
use Rattle.std.proofs.Common.{length, ◌-◌}
use Rattle.recorded.proofs.take_all.Given as goal

abbrev pub decreases-loop-at : goal.decreases-loop-at
decreases-loop-at g l = length l.s - l.at
