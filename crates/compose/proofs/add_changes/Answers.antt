-- `compose::add_changes` meets its contract.
use mathlib.Core.List.{[], ◌∷◌}
use Rattle.pen.specs.Laying.{lays_then, lays_both}
use Rattle.compose.proofs.add_changes.Goals as goal

pub returns : goal.returns
returns c =
    lays_then c.add_07.ensures
    (lays_then c.add_pair.ensures
    (lays_then c.add_09.ensures
    (lays_then c.add_10.ensures
    (lays_then (lays_both (45 ∷ 49 ∷ 51 ∷ 47 ∷ []) c.args.o.departure c.args.o.time c.add_pair-2.ensures)
    (lays_then c.add_15.ensures
    (lays_then c.add_16.ensures c.add_18.ensures))))))
