-- `compose::add_own` meets its contract.
use Rattle.pen.specs.Laying.{lays_then}
use Rattle.compose.proofs.add_own.Goals as goal

pub returns : goal.returns
returns c =
    lays_then c.add_07.ensures
    (lays_then c.add_pair.ensures
    (lays_then c.add_09.ensures
    (lays_then c.add_10.ensures
    (lays_then c.add_pair-2.ensures
    (lays_then c.add_14.ensures
    (lays_then c.add_15.ensures
    (lays_then c.add_16.ensures c.add_18.ensures)))))))
