-- `flights::checking::is_well_formed` meets its contract.
use Rattle.flights.specs.Deciding.{wrong_length, free_is, flight_is}
use Rattle.flights.proofs.checking.is_well_formed.Goals as goal

pub returns-then-b-ne768 : goal.returns-then-b-ne768
returns-then-b-ne768 c = wrong_length c.args.b.now c.if-b-ne768.true

pub returns-then-b-eq0 : goal.returns-then-b-eq0
returns-then-b-eq0 c =
    let b = c.args.b.now in
    free_is b c.if-b-ne768.false c.if-b-eq0.true _ c.all_are.ensures

pub returns : goal.returns
returns c =
    let b = c.args.b.now in
    flight_is b c.if-b-eq0.false _ c.is_flight.ensures
