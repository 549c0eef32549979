-- `flights::without_blanks` meets its contract: what was passed are blanks.
use Rattle.std.proofs.Common.{◌≡◌, length}
use Rattle.flights.specs.Padding.{trimmed}
use Rattle.flights.proofs.without_blanks.Given as goal

abbrev pub invariant-loop-front : goal.invariant-loop-front
invariant-loop-front l = trimmed l.text ≡ trimmed l.s

abbrev pub decreases-loop-front : goal.decreases-loop-front
decreases-loop-front l = length l.text

abbrev pub invariant-loop-front-2 : goal.invariant-loop-front-2
invariant-loop-front-2 l = trimmed l.text ≡ trimmed l.s

abbrev pub decreases-loop-front-2 : goal.decreases-loop-front-2
decreases-loop-front-2 l = length l.text
