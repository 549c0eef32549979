-- `packed::unpacked::plan_figures_in` meets its contract.
use Rattle.packed.proofs.unpacked.plan_figures_in.Goals as goal

pub returns : goal.returns
returns c = λ i. record {
  count = c.figure_in.ensures i;
  level = c.level_in.ensures i;
}
