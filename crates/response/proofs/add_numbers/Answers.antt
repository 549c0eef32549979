-- `response::add_numbers` meets its contract.
use Rattle.pen.specs.Laying.{lays_then}
use Rattle.response.proofs.add_numbers.Goals as goal

pub returns : goal.returns
returns c = lays_then c.add_number.ensures c.add_number-2.ensures
