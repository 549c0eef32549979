-- `flights::checking::is_code` meets its contract.
use mathlib.Core.Path.{ap, ◌∙◌}
use Rattle.scan.specs.declared.Class.TheVariants.{Octal}
use Rattle.scan.specs.Grammar.{run}
use Rattle.scan.specs.Texts.{opt}
use Rattle.scan.specs.Scanner.{longer as longer_of, from}
use Rattle.flights.specs.Rules.{good_code}
use Rattle.scan.specs.Theory.{told_by}
use Rattle.flights.proofs.checking.is_code.Goals as goal

pub returns : goal.returns
returns c = let a = c.args in told_by (opt (run Octal 4 4)) good_code a.t.now _ _ (c.longer.ensures ∙ ap (longer_of (from 0)) c.octals.ensures) c.whole.ensures
