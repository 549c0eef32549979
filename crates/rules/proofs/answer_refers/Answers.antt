-- `rules::answer_refers` meets its contract.
use mathlib.Core.Bool.{◌&&◌}
use lib.Dec.{eqb}
use Rattle.rules.specs.Laws.{reference_inside}
use Rattle.rules.proofs.answer_refers.Goals as goal

pub has_units-requires : goal.has_units-requires
has_units-requires c = let a = c.args in reference_inside a.w.now a.r c.requires

pub returns : goal.returns
returns c = let a = c.args in λ k. c.has_units.ensures k && eqb a.r.figures.reference a.r.figures.number
