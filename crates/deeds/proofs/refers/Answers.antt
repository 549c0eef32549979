-- `deeds::refers` meets its contract.
use mathlib.Core.Bool.{◌&&◌}
use lib.Dec.{eqb}
use Rattle.deeds.proofs.refers.Goals as goal

pub in_order-requires : goal.in_order-requires
in_order-requires c = c.requires.1

pub returns : goal.returns
returns c = λ k. c.in_order.ensures k && eqb c.args.r.figures.reference (c.number_at.ensures k)
