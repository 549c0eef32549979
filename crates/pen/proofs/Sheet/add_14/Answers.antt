-- `pen::Sheet::add_14` meets its contract.
use mathlib.Core.Path.{sym, ◌∙◌}
use mathlib.Core.List.{append-nil}
use Rattle.reader.specs.Reading.{cut}
use Rattle.pen.specs.Laying.{lays_given, lays_then, two_parts}
use Rattle.pen.proofs.Sheet.add_14.Goals as goal

pub returns-then-any_there : goal.returns-then-any_there
returns-then-any_there c =
    let a = c.args in
    lays_given _ (sym c.any_there.ensures ∙ c.if-any_there.true) (λ d. rw (append-nil (cut d a.f), two_parts d a.e a.f))
    (lays_then c.add.ensures (lays_then c.add_part.ensures (lays_then c.add-then-any_there.ensures (lays_then c.add_part-then-any_there.ensures (lays_then c.add_part-then-any_there-2.ensures (lays_then c.add_part-then-any_there-3.ensures c.add_part-then-any_there-4.ensures))))))
