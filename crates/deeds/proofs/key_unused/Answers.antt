-- `deeds::key_unused` meets its contract.
use Rattle.deeds.specs.Message.{message_of}
use Rattle.deeds.specs.Deeds.{changed_key}
use Rattle.deeds.specs.Laws.{aircrafts_in, departures_in, destinations_in}
use Rattle.deeds.specs.Deciding.{where_is_lem, kept_unused, new_unused}
use Rattle.deeds.proofs.key_unused.Goals as goal

pub returns-then-keeps_key : goal.returns-then-keeps_key
returns-then-keeps_key c =
    let a = c.args in
    kept_unused (message_of a.w.now a.r) a.table.now c.requires.1 _ c.keeps_key.ensures c.if-keeps_key.true

pub returns : goal.returns
returns c =
    let a = c.args in
    let m = message_of a.w.now a.r in
    let p = where_is_lem (changed_key m) a.table.now _ _ _ _ c.find.ensures c.or_own.ensures c.or_own-2.ensures c.or_own-3.ensures in
    new_unused m a.table.now c.requires.1 _ c.keeps_key.ensures c.if-keeps_key.false _ p _ c.is_nowhere.ensures

pub keeps_key-requires : goal.keeps_key-requires
keeps_key-requires c = c.requires.0

pub or_own-requires : goal.or_own-requires
or_own-requires c = let a = c.args in aircrafts_in a.w.now a.r c.requires.0

pub or_own-requires-2 : goal.or_own-requires-2
or_own-requires-2 c = let a = c.args in departures_in a.w.now a.r c.requires.0

pub or_own-requires-3 : goal.or_own-requires-3
or_own-requires-3 c = let a = c.args in destinations_in a.w.now a.r c.requires.0
