-- `memory::is_sound` meets its contract.
use Rattle.memory.specs.End.{lent}
use Rattle.memory.specs.Held.{memory_is}
use Rattle.memory.proofs.is_sound.Goals as goal

pub returns : goal.returns
returns c =
    let a = c.args in
    memory_is a.h (lent a.sent.now a.received.now a.unanswered.now a.answers.now) c.is_sound_beside.ensures c.is_unanswered.ensures
