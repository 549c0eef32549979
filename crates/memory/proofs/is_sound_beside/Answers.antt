-- `memory::is_sound_beside` meets its contract.
use Rattle.memory.specs.Held.{beside_is}
use Rattle.memory.proofs.is_sound_beside.Goals as goal

pub returns : goal.returns
returns c =
    let a = c.args in
    beside_is a.h a.sent.now a.received.now a.answers.now c.is_sound.ensures c.is_table.ensures c.is_table-2.ensures c.is_answers.ensures
