-- `deeds::keeps_key` meets its contract.
use mathlib.Core.Bool.{◌&&◌}
use Rattle.deeds.specs.Laws.{same_on, aircraft_in, departure_in, destination_in, aircrafts_in, departures_in, destinations_in}
use Rattle.deeds.proofs.keeps_key.Goals as goal

pub returns : goal.returns
returns c =
    let x = same_on c.same-a.ensures c.or_own.ensures c.part_of.ensures in
    let y = same_on c.same-d.ensures c.or_own-2.ensures c.part_of-2.ensures in
    let z = same_on c.same-e.ensures c.or_own-3.ensures c.part_of-3.ensures in
    λ k. (x k && y k) && z k

pub or_own-requires : goal.or_own-requires
or_own-requires c = let a = c.args in aircrafts_in a.w.now a.r c.requires

pub part_of-requires : goal.part_of-requires
part_of-requires c = let a = c.args in aircraft_in a.w.now a.r c.requires

pub or_own-requires-2 : goal.or_own-requires-2
or_own-requires-2 c = let a = c.args in departures_in a.w.now a.r c.requires

pub part_of-requires-2 : goal.part_of-requires-2
part_of-requires-2 c = let a = c.args in departure_in a.w.now a.r c.requires

pub or_own-requires-3 : goal.or_own-requires-3
or_own-requires-3 c = let a = c.args in destinations_in a.w.now a.r c.requires

pub part_of-requires-3 : goal.part_of-requires-3
part_of-requires-3 c = let a = c.args in destination_in a.w.now a.r c.requires
