-- `packed::unpacked::level_in` meets its contract.
use mathlib.Core.Path.{ap, ◌∙◌}
use Rattle.message.specs.Numbered.{numbered_level}
use Rattle.packed.proofs.unpacked.level_in.Goals as goal

pub returns : goal.returns
returns c = λ i. record {
  kind = (c.level_kind_in-kind.ensures ∙ ap numbered_level c.figure_in.ensures) i;
  figure = c.figure_in-2.ensures i;
}
