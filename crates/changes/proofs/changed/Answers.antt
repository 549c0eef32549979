use mathlib.Core.Path.{◌∙◌}
use Rattle.changes.specs.Changes.{changes}
use Rattle.changes.specs.Keys.{nothing, three, four}
use Rattle.changes.specs.Ways.{goes_on, letters_three, letters_four, far, by_three, by_four, by_nothing, by_number}
use Rattle.changes.proofs.changed.Goals as goal

pub this_way-requires : goal.this_way-requires
this_way-requires c = goes_on three _ _ _ (c.with_letters18.ensures ∙ letters_three _ _)

pub this_way-requires-else-byte : goal.this_way-requires-else-byte
this_way-requires-else-byte c = goes_on four _ _ _ (c.with_letters18-else-byte.ensures ∙ letters_four _ _)

pub this_way-requires-then-byte-2 : goal.this_way-requires-then-byte-2
this_way-requires-then-byte-2 c = goes_on nothing _ _ _ c.with_nothing18.ensures

pub this_way-requires-else-byte-2 : goal.this_way-requires-else-byte-2
this_way-requires-else-byte-2 c = goes_on changes _ _ _ c.without18.ensures

pub returns-then-byte : goal.returns-then-byte
returns-then-byte c = c.this_way.ensures (far three 4 _ _ (by_three _ _) _ (c.with_letters18.ensures ∙ letters_three _ _))

pub returns-else-byte : goal.returns-else-byte
returns-else-byte c = c.this_way-else-byte.ensures (far four 4 _ _ (by_four _ _) _ (c.with_letters18-else-byte.ensures ∙ letters_four _ _))

pub returns-then-byte-2 : goal.returns-then-byte-2
returns-then-byte-2 c = c.this_way-then-byte-2.ensures (far nothing 2 _ _ (by_nothing _ _) _ c.with_nothing18.ensures)

pub returns-else-byte-2 : goal.returns-else-byte-2
returns-else-byte-2 c = c.this_way-else-byte-2.ensures (far changes 2 _ _ (by_number _ _) _ c.without18.ensures)
