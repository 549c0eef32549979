-- `compose::lay` meets its contract.
use Rattle.std.proofs.Common.{refl, rules}
use Rattle.pen.specs.Laying.{lays_from_start, lays_then}
use Rattle.compose.proofs.lay.Goals as goal

pub returns : goal.returns
returns c =
    let p = c.start-sheet.ensures in
    lays_from_start p.source p.text p.end (lays_then c.open_text.ensures (lays_then c.add_number.ensures c.add_rest.ensures)) (search rules) refl
