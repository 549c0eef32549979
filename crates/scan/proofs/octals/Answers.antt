use mathlib.Core.Path.{◌∙◌}
use Rattle.scan.specs.declared.Class.TheVariants.{Octal, Two}
use Rattle.scan.specs.Laws.{scan_alike, twice}
use Rattle.scan.proofs.octals.Goals as goal

pub returns : goal.returns
returns c = c.exactly.ensures ∙ scan_alike (Two 48 55 48 55) Octal (twice 48 55) _ _ _ _
