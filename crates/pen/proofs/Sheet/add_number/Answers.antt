-- `pen::Sheet::add_number` meets its contract.
use mathlib.Core.List.{append-nil}
use Rattle.reader.specs.Reading.{cut}
use Rattle.pen.specs.Laying.{lays_then, lays_alike, text_number}
use Rattle.pen.proofs.Sheet.add_number.Goals as goal

pub returns : goal.returns
returns c =
    let a = c.args in
    lays_alike (λ d. rw (append-nil (cut d a.c), append-nil (text_number d a.a a.b a.c)))
    (lays_then c.add_part.ensures (lays_then c.add.ensures (lays_then c.add_part-2.ensures c.add_part-3.ensures)))
