use mathlib.Core.Path.{◌∙◌}
use Rattle.changes.specs.Ascend.{found_changed}
use Rattle.changes.specs.Ways.{letters_three, letters_four}
use Rattle.changes.proofs.any_way.Goals as goal

pub returns : goal.returns
returns c = found_changed _ _ _ _ _ _ _ _ _ c.without18-a.ensures c.with_nothing18-b.ensures (c.with_letters18-c.ensures ∙ letters_three _ _) (c.with_letters18-d.ensures ∙ letters_four _ _) c.either_tail.ensures c.either_tail-2.ensures c.either_tail-3.ensures
