-- `packed::unpacked::figures_in` meets its contract.
use mathlib.Core.Path.{ap, ◌∙◌}
use Rattle.message.specs.Numbered.{numbered_form}
use Rattle.packed.proofs.unpacked.figures_in.Goals as goal

pub returns : goal.returns
returns c = λ i. record {
  number = c.figure_in-2.ensures i;
  reference = c.figure_in-3.ensures i;
  own = c.plan_figures_in.ensures i;
  form = (c.form_in-form.ensures ∙ ap numbered_form c.figure_in.ensures) i;
  crossing = c.level_in.ensures i;
  second = c.level_in-2.ensures i;
  changes = c.plan_figures_in-2.ensures i;
  reason = c.figure_in-4.ensures i;
}
