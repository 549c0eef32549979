-- `response::lay_rla` meets its contract.
use Rattle.std.proofs.Common.{refl, rules}
use Rattle.pen.specs.Laying.{lays_from_start, lays_then}
use Rattle.response.proofs.lay_rla.Goals as goal

pub returns : goal.returns
returns c =
    let p = c.start-sheet.ensures in
    lays_from_start p.source p.text p.end
    (lays_then c.open_text.ensures (lays_then c.add_numbers.ensures (lays_then c.add_led.ensures c.add.ensures)))
    (search rules) refl
