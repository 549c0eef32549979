-- `deeds::new_place` meets its contract.
use Rattle.deeds.specs.Deciding.{new_at}
use Rattle.deeds.proofs.new_place.Goals as goal

pub returns-in-Some : goal.returns-in-Some
returns-in-Some c = new_at c.args.table.now _ _ c.lowest_free-p.ensures c.in-Some.is

pub returns-in-None : goal.returns-in-None
returns-in-None c = new_at c.args.table.now _ _ c.lowest_free-p.ensures c.in-None.is
