-- `flights::checking::is_10` meets its contract.
use mathlib.Core.Path.{ap}
use Rattle.fields.specs.Fields.{in10}
use Rattle.fields.specs.declared.Found10.{Found10}
use Rattle.flights.specs.Rules.{good_10}
use Rattle.scan.specs.Theory.{told_by}
use Rattle.flights.proofs.checking.is_10.Goals as goal

pub returns : goal.returns
returns c = let a = c.args in told_by (in10 0) good_10 a.t.now _ _ (ap (λ (x : Found10). x.end) c.field10-f.ensures) c.whole.ensures
