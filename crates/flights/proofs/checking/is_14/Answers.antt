-- `flights::checking::is_14` meets its contract.
use mathlib.Core.Path.{ap}
use Rattle.fields.specs.Fields.{in14}
use Rattle.fields.specs.declared.Found.{Found}
use Rattle.fields.specs.declared.Estimate.{Estimate}
use Rattle.flights.specs.Rules.{good_14}
use Rattle.scan.specs.Theory.{told_by}
use Rattle.flights.proofs.checking.is_14.Goals as goal

pub returns : goal.returns
returns c = let a = c.args in told_by in14 good_14 a.t.now _ _ (ap (λ (x : Found Estimate). x.end) c.field14-f.ensures) c.whole.ensures
