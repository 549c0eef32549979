-- `writer::comparing::same_figures` meets its contract.
use Rattle.writer.specs.Comparing.{figures_same}
use Rattle.writer.proofs.comparing.same_figures.Goals as goal

pub returns : goal.returns
returns c =
    let a = c.args in
    figures_same a.a a.b _ _ _ _ _ c.same_plan_figures-own.ensures (rw (c.form_number.ensures, c.form_number-2.ensures)) c.same_level-crossing.ensures c.same_level-second.ensures c.same_plan_figures-changes.ensures
