use mathlib.Core.Path.{◌∙◌}
use Rattle.scan.specs.declared.Class.TheVariants.{Letter, Two}
use Rattle.scan.specs.Laws.{scan_alike, twice}
use Rattle.scan.proofs.letters.Goals as goal

pub returns : goal.returns
returns c = c.exactly.ensures ∙ scan_alike (Two 65 90 65 90) Letter (twice 65 90) _ _ _ _
