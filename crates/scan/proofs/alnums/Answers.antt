use mathlib.Core.Path.{refl, ◌∙◌}
use Rattle.scan.specs.declared.Class.TheVariants.{Alnum, Two}
use Rattle.scan.specs.Laws.{scan_alike}
use Rattle.scan.proofs.alnums.Goals as goal

pub returns : goal.returns
returns c = c.run_two.ensures ∙ scan_alike (Two 65 90 48 57) Alnum (λ x. refl) _ _ _ _
