-- `flights::checking::is_time` meets its contract.
use Rattle.fields.specs.Fields.{timed}
use Rattle.flights.specs.Rules.{good_time}
use Rattle.scan.specs.Theory.{told_by}
use Rattle.flights.proofs.checking.is_time.Goals as goal

pub returns : goal.returns
returns c = let a = c.args in told_by timed good_time a.t.now _ _ c.time.ensures c.whole.ensures
