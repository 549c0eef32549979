-- `flights::checking::is_09` meets its contract.
use mathlib.Core.Path.{ap}
use Rattle.fields.specs.Fields.{in09}
use Rattle.fields.specs.declared.Found09.{Found09}
use Rattle.flights.specs.Rules.{good_09}
use Rattle.scan.specs.Theory.{told_by}
use Rattle.flights.proofs.checking.is_09.Goals as goal

pub returns : goal.returns
returns c = let a = c.args in told_by (in09 0) good_09 a.t.now _ _ (ap (λ (x : Found09). x.end) c.field09-f.ensures) c.whole.ensures
