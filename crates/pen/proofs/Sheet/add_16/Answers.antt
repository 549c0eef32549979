-- `pen::Sheet::add_16` meets its contract.
use mathlib.Core.Path.{sym, ◌∙◌}
use mathlib.Core.List.{append-nil}
use Rattle.pen.specs.Laying.{lays_given, lays_then, own_part, text_alternates}
use Rattle.pen.proofs.Sheet.add_16.Goals as goal

pub returns-then-any_there : goal.returns-then-any_there
returns-then-any_there c =
    let a = c.args in
    lays_given _ (sym c.any_there.ensures ∙ c.if-any_there.true) (λ d. rw (append-nil (text_alternates d a.c a.e), own_part d a.b))
    (lays_then c.add.ensures (lays_then c.add_part.ensures (lays_then c.add_part-then-any_there.ensures c.add_alternates.ensures)))
