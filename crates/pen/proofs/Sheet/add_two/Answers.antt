-- `pen::Sheet::add_two` meets its contract.
use mathlib.Core.Path.{sym, ◌∙◌}
use mathlib.Core.List.{append-nil}
use Rattle.pen.specs.Laying.{lays_given, lays_then, led_by}
use Rattle.pen.proofs.Sheet.add_two.Goals as goal

pub returns-then-any_there : goal.returns-then-any_there
returns-then-any_there c =
    let a = c.args in
    lays_given _ (sym c.any_there.ensures ∙ c.if-any_there.true) (λ d. rw (append-nil (led_by a.between.now d a.b)))
    (lays_then c.add.ensures (lays_then c.add_part.ensures c.add_led.ensures))
