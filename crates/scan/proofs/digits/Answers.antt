use mathlib.Core.Path.{◌∙◌}
use Rattle.scan.specs.declared.Class.TheVariants.{Digit, Two}
use Rattle.scan.specs.Laws.{scan_alike, twice}
use Rattle.scan.proofs.digits.Goals as goal

pub returns : goal.returns
returns c = c.exactly.ensures ∙ scan_alike (Two 48 57 48 57) Digit (twice 48 57) _ _ _ _
