-- `deeds::is_offer` meets its contract.
use mathlib.Core.Bool.{◌&&◌}
use lib.ListN.{get_or}
use lib.Dec.{eqb}
use Rattle.deeds.proofs.is_offer.Goals as goal

pub returns : goal.returns
returns c = let a = c.args in λ k. eqb (get_or a.b.now 1 0) 1 && eqb a.r.figures.reference (c.number_at.ensures k)
