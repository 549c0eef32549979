-- `flights::checking::is_15` meets its contract.
use mathlib.Core.Path.{ap}
use Rattle.fields.specs.Fields.{in15}
use Rattle.fields.specs.declared.Found15.{Found15}
use Rattle.flights.specs.Rules.{good_15}
use Rattle.scan.specs.Theory.{told_by}
use Rattle.flights.proofs.checking.is_15.Goals as goal

pub returns : goal.returns
returns c = let a = c.args in told_by (in15 0) good_15 a.t.now _ _ (ap (λ (x : Found15). x.end) c.field15-f.ensures) c.whole.ensures
