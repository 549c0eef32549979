-- `deeds::decide` meets its contract.
use mathlib.Core.Path.{◌∙◌}
use mathlib.Core.Bool.{true, false}
use Rattle.deeds.specs.Message.{message_of}
use Rattle.deeds.specs.Deeds.{old}
use Rattle.deeds.specs.Laws.{aircraft_in, departure_in, destination_in}
use Rattle.deeds.specs.Deciding.{where_is_lem, found_in, decided_at_lem, decided_new}
use Rattle.deeds.proofs.decide.Goals as goal

pub may_on-requires : goal.may_on-requires
may_on-requires c =
    let a = c.args in
    let m = message_of a.w.now a.r in
    let p = where_is_lem (old m) a.table.now _ _ _ _ c.find-p.ensures c.part_of.ensures c.part_of-2.ensures c.part_of-3.ensures ∙ c.in-Some.is in
    (found_in (old m) a.table.now _ p, c.requires, c.deed_of-d.ensures)

-- its flight is there, and the condition holds
pub returns-then-may_on : goal.returns-then-may_on
returns-then-may_on c =
    let a = c.args in
    let m = message_of a.w.now a.r in
    let p = where_is_lem (old m) a.table.now _ _ _ _ c.find-p.ensures c.part_of.ensures c.part_of-2.ensures c.part_of-3.ensures ∙ c.in-Some.is in
    decided_at_lem m a.table.now _ c.deed_of-d.ensures _ p _ true c.may_on.ensures c.if-may_on.true

-- it makes a flight
pub returns-then-makes : goal.returns-then-makes
returns-then-makes c =
    let a = c.args in
    let m = message_of a.w.now a.r in
    let p = where_is_lem (old m) a.table.now _ _ _ _ c.find-p.ensures c.part_of.ensures c.part_of-2.ensures c.part_of-3.ensures ∙ c.in-None.is in
    c.new_place.ensures ∙ decided_new m a.table.now _ c.deed_of-d.ensures p _ true c.makes.ensures c.if-makes.true

pub returns-else-may_on : goal.returns-else-may_on
returns-else-may_on c =
    let a = c.args in
    let m = message_of a.w.now a.r in
    let p = where_is_lem (old m) a.table.now _ _ _ _ c.find-p.ensures c.part_of.ensures c.part_of-2.ensures c.part_of-3.ensures ∙ c.in-Some.is in
    decided_at_lem m a.table.now _ c.deed_of-d.ensures _ p _ false c.may_on.ensures c.if-may_on.false

pub returns-else-makes : goal.returns-else-makes
returns-else-makes c =
    let a = c.args in
    let m = message_of a.w.now a.r in
    let p = where_is_lem (old m) a.table.now _ _ _ _ c.find-p.ensures c.part_of.ensures c.part_of-2.ensures c.part_of-3.ensures ∙ c.in-None.is in
    decided_new m a.table.now _ c.deed_of-d.ensures p _ false c.makes.ensures c.if-makes.false

pub deed_of-d-requires : goal.deed_of-d-requires
deed_of-d-requires c = c.requires

pub part_of-requires : goal.part_of-requires
part_of-requires c = let a = c.args in aircraft_in a.w.now a.r c.requires

pub part_of-requires-2 : goal.part_of-requires-2
part_of-requires-2 c = let a = c.args in departure_in a.w.now a.r c.requires

pub part_of-requires-3 : goal.part_of-requires-3
part_of-requires-3 c = let a = c.args in destination_in a.w.now a.r c.requires
