-- `flights::checking::is_08` meets its contract.
use mathlib.Core.Path.{ap}
use Rattle.fields.specs.Fields.{in08}
use Rattle.fields.specs.declared.Found08.{Found08}
use Rattle.flights.specs.Rules.{good_08}
use Rattle.scan.specs.Theory.{told_by}
use Rattle.flights.proofs.checking.is_08.Goals as goal

pub returns : goal.returns
returns c = let a = c.args in told_by (in08 0) good_08 a.t.now _ _ (ap (λ (x : Found08). x.end) c.field08-f.ensures) c.whole.ensures
