-- `pen::Sheet::add_led` meets its contract.
use mathlib.Core.List.{append-nil}
use native.Mathlib.Omega.{arith}
use Rattle.reader.specs.Reading.{cut}
use Rattle.pen.specs.Laying.{lays_given, lays_then, is_there}
use Rattle.pen.proofs.Sheet.add_led.Goals as goal

pub returns : goal.returns
returns c =
    let a = c.args in
    lays_given _ (is_there a.a (omega arith)) (λ d. rw (append-nil (cut d a.a))) (lays_then c.add.ensures c.add_part.ensures)
