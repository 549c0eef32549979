-- `deeds::same_part` meets its contract.
use Rattle.deeds.specs.Laws.{same_on}
use Rattle.deeds.proofs.same_part.Goals as goal

pub part_of-requires : goal.part_of-requires
part_of-requires c = c.requires.0

pub part_of-requires-2 : goal.part_of-requires-2
part_of-requires-2 c = c.requires.1

pub returns : goal.returns
returns c = same_on c.same.ensures c.part_of.ensures c.part_of-2.ensures
