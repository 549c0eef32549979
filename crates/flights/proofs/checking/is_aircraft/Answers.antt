-- `flights::checking::is_aircraft` meets its contract.
use Rattle.scan.specs.declared.Class.TheVariants.{Alnum}
use Rattle.scan.specs.Grammar.{run}
use Rattle.flights.specs.Rules.{good_aircraft}
use Rattle.scan.specs.Theory.{told_by}
use Rattle.flights.proofs.checking.is_aircraft.Goals as goal

pub returns : goal.returns
returns c = let a = c.args in told_by (run Alnum 2 7) good_aircraft a.t.now _ _ c.alnums.ensures c.whole.ensures
