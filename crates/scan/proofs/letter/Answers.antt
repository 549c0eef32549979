use mathlib.Core.Path.{refl, ◌∙◌}
use Rattle.scan.specs.declared.Class.TheVariants.{Letter, Range}
use Rattle.scan.specs.Laws.{scan_alike}
use Rattle.scan.proofs.letter.Goals as goal

pub returns : goal.returns
returns c = c.in_range.ensures ∙ scan_alike (Range 65 90) Letter (λ x. refl) _ _ _ _
