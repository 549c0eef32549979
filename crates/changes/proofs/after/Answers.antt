use mathlib.Core.Path.{◌∙◌}
use Rattle.scan.specs.Picks.{so}
use Rattle.changes.specs.Found.{opt_on, opt_off}
use Rattle.changes.proofs.after.Goals as goal

pub returns-then-b : goal.returns-then-b
returns-then-b g c = λ later finds. finds c.later.result (rw (← c.byte-b.ensures) c.later.ensures) ∙ opt_on later _ _ (so _ _ _ c.byte-b.ensures c.if-b.true)

pub returns-else-b : goal.returns-else-b
returns-else-b g c = λ later _. c.nothing.ensures ∙ opt_off later _ _ (so _ _ _ c.byte-b.ensures c.if-b.false)
