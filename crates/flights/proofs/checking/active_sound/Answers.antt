-- `flights::checking::active_sound` meets its contract.
use lib.ListN.{get_or}
use Rattle.scan.specs.Bools.{decides_and, decides_or, at_most}
use Rattle.fields.specs.Fields.{timed, in14}
use Rattle.places.specs.Bytes.{at_most_on}
use Rattle.flights.specs.Checked.{on, empty_on}
use Rattle.flights.proofs.checking.active_sound.Goals as goal

pub returns : goal.returns
returns c =
    let a = c.args in
    let t = c.text_at-time.ensures in
    decides_and (decides_and (decides_and (at_most (get_or a.b.now 1 0) 2) (at_most_on 999 c.number_at.ensures)) (decides_or (empty_on t) (on timed t c.is_time.ensures))) (on in14 c.text_at.ensures c.is_14.ensures)
