-- `rules::same_keys` meets its contract.
use mathlib.Core.Bool.{◌&&◌}
use Rattle.deeds.specs.Laws.{same_on}
use Rattle.rules.proofs.same_keys.Goals as goal

pub returns : goal.returns
returns c =
    let x = same_on c.same-a.ensures c.text_in.ensures c.text_in-2.ensures in
    let y = same_on c.same-d.ensures c.text_in-3.ensures c.text_in-4.ensures in
    let z = same_on c.same-e.ensures c.text_in-5.ensures c.text_in-6.ensures in
    λ k. (x k && y k) && z k
