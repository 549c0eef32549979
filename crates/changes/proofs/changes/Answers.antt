use mathlib.Core.Path.{refl, ◌∙◌}
use borrow.Author.Tests.{not-true, not-false}
use Rattle.changes.specs.Changes.{from08, in_changes, changes}
use Rattle.changes.specs.Found.{found22_stays}
use Rattle.changes.specs.Ascend.{number_there, number_missed, key07, with_07, named22}
use Rattle.changes.specs.Keys.{rest07, good_07, good_from08, apart_07}
use Rattle.changes.proofs.changes.Goals as goal

pub returns-then-not-r : goal.returns-then-not-r
unfolding in_changes
returns-then-not-r c = c.nothing.ensures ∙ found22_stays changes _ _ (not-true _ c.if-not-r.true)

pub returns-then-not-a : goal.returns-then-not-a
unfolding in_changes
returns-then-not-a c = number_missed key07 rest07 from08 _ _ _ c.lit-a.ensures (not-true _ c.if-not-a.true) _ _ c.from08.ensures c.past.ensures ∙ named22 _ _

pub returns : goal.returns
unfolding in_changes
returns c = with_07 _ _ _ _ _ c.lit-a.ensures c.field07-f.ensures c.no_plan.ensures ∙ number_there key07 rest07 from08 _ _ _ c.lit-a.ensures good_07 good_from08 apart_07 refl (not-false _ c.if-not-a.false) ∙ named22 _ _
