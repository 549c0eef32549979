-- `flights::checking::is_rest16` meets its contract.
use Rattle.fields.specs.Fields.{rest16}
use Rattle.flights.specs.Rules.{good_rest16}
use Rattle.scan.specs.Theory.{told_by}
use Rattle.flights.proofs.checking.is_rest16.Goals as goal

pub returns : goal.returns
returns c = let a = c.args in told_by (rest16 0) good_rest16 a.t.now _ _ c.rest16.ensures c.whole.ensures
