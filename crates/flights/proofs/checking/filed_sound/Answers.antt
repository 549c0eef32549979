-- `flights::checking::filed_sound` meets its contract.
use lib.ListN.{get_or}
use Rattle.scan.specs.Bools.{decides_and, equals}
use Rattle.fields.specs.Fields.{timed}
use Rattle.places.specs.Bytes.{equals_on}
use Rattle.flights.specs.Checked.{on, empty_on}
use Rattle.flights.proofs.checking.filed_sound.Goals as goal

pub returns : goal.returns
returns c =
    let a = c.args in
    decides_and (decides_and (decides_and (equals (get_or a.b.now 1 0) 0) (equals_on 0 c.number_at.ensures)) (on timed c.text_at.ensures c.is_time.ensures)) (empty_on c.text_at-estimate.ensures)
