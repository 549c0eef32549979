-- `rules::directed` meets its contract.
use mathlib.Core.Bool.{◌&&◌}
use Rattle.rules.specs.Laws.{number_inside}
use Rattle.rules.proofs.directed.Goals as goal

pub has_units-requires : goal.has_units-requires
has_units-requires c = let a = c.args in number_inside a.w.now a.r c.requires

pub referred-requires : goal.referred-requires
referred-requires c = c.requires

pub returns : goal.returns
returns c = λ k. c.has_units.ensures k && c.referred.ensures k
