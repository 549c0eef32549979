-- `writer::comparing::same_plan_figures` meets its contract.
use Rattle.writer.specs.Comparing.{plan_figures_same}
use Rattle.writer.proofs.comparing.same_plan_figures.Goals as goal

pub returns : goal.returns
returns c = let a = c.args in plan_figures_same a.a a.b _ c.same_level.ensures
