-- `flights::checking::is_18` meets its contract.
use mathlib.Core.Path.{ap}
use Rattle.fields.specs.Fields.{in18}
use Rattle.fields.specs.declared.Found18.{Found18}
use Rattle.flights.specs.Rules.{good_18}
use Rattle.scan.specs.Theory.{told_by}
use Rattle.flights.proofs.checking.is_18.Goals as goal

pub returns : goal.returns
returns c = let a = c.args in told_by (in18 0) good_18 a.t.now _ _ (ap (λ (x : Found18). x.end) c.field18-f.ensures) c.whole.ensures
