-- `filing::file` meets its contract.
use Rattle.flights.specs.Made.{made_begin}
use Rattle.deeds.specs.Message.{message_of}
use Rattle.perform.specs.Changing.{filed_anew}
use Rattle.perform.proofs.filing.file.Goals as goal

pub returns : goal.returns
returns c s e =
    let a = c.args in
    let m = made_begin a.i s a.status a.r.figures.number a.table.now _ c.requires.0 e c.begin.ensures in
    filed_anew s (message_of a.w.now a.r) c.requires.2 m c.amend.ensures
