-- `list::feed_lines` meets its contract. The measure is what is left of the piece. Assumes nothing.
use Rattle.std.proofs.Common.{◌-◌, length}
use Rattle.list.proofs.Progressing.{Going}
use Rattle.list.proofs.feed_lines.Given as goal

abbrev pub invariant-loop-step : goal.invariant-loop-step
invariant-loop-step l =
    Going l.initial.line l.piece l.initial.out l.initial.step.tally l.line l.out l.step.taken l.step.written l.step.tally

abbrev pub decreases-loop-step : goal.decreases-loop-step
decreases-loop-step l = length l.piece - l.step.taken
