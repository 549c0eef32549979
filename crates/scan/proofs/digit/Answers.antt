use mathlib.Core.Path.{refl, ◌∙◌}
use Rattle.scan.specs.declared.Class.TheVariants.{Digit, Range}
use Rattle.scan.specs.Laws.{scan_alike}
use Rattle.scan.proofs.digit.Goals as goal

pub returns : goal.returns
returns c = c.in_range.ensures ∙ scan_alike (Range 48 57) Digit (λ x. refl) _ _ _ _
