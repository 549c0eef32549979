-- `rules::retires` meets its contract.
use mathlib.Core.Path.{ap, ◌∙◌}
use mathlib.Core.Bool.{◌&&◌}
use Rattle.rules.specs.Answers.{is_offering}
use Rattle.rules.specs.Receiving.{retires}
use Rattle.rules.proofs.retires.Goals as goal

pub deed_of-requires : goal.deed_of-requires
unfolding retires
deed_of-requires c = c.requires.1

pub same_flight-requires : goal.same_flight-requires
unfolding retires
same_flight-requires c = let p = c.requires in (p.1, p.0)

pub returns : goal.returns
unfolding retires
returns c = λ k. (c.is_offering.ensures ∙ ap is_offering c.deed_of.ensures) k && c.same_flight.ensures k
