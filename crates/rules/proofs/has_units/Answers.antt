-- `rules::has_units` meets its contract.
use mathlib.Core.Path.{refl}
use mathlib.Core.Bool.{◌&&◌}
use Rattle.deeds.specs.Laws.{same_on}
use Rattle.rules.proofs.has_units.Goals as goal

pub returns : goal.returns
returns c =
    let x = same_on c.same.ensures c.text_in.ensures refl in
    let y = same_on c.same-2.ensures c.text_in-2.ensures refl in
    λ k. x k && y k
