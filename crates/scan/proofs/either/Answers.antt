use mathlib.Core.Path.{sym, ◌∙◌}
use Rattle.scan.proofs.either.Goals as goal

pub returns-then-leads : goal.returns-then-leads
returns-then-leads c = rw (sym c.leads.ensures ∙ c.if-leads.true)

pub returns : goal.returns
returns c = rw (sym c.leads.ensures ∙ c.if-leads.false)
