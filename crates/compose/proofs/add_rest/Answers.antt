-- `compose::add_rest` meets its contract.
use Rattle.pen.specs.Laying.{lays_then}
use Rattle.compose.proofs.add_rest.Goals as goal

pub returns : goal.returns
returns c =
    lays_then c.add_reference.ensures
    (lays_then c.add_own.ensures
    (lays_then c.add_changes.ensures
    (lays_then c.add_led.ensures
    (lays_then c.add_led-2.ensures
    (lays_then c.add_led-3.ensures c.add.ensures)))))
