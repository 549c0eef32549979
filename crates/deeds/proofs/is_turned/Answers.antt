-- `deeds::is_turned` meets its contract.
use mathlib.Core.Bool.{◌&&◌}
use Rattle.deeds.specs.Laws.{sender_in, receiver_in, reference_sender_in, reference_receiver_in}
use Rattle.deeds.proofs.is_turned.Goals as goal

pub same_part-requires : goal.same_part-requires
same_part-requires c =
    let a = c.args in
    (reference_sender_in a.w.now a.r c.requires, receiver_in a.w.now a.r c.requires)

pub same_part-requires-2 : goal.same_part-requires-2
same_part-requires-2 c =
    let a = c.args in
    (reference_receiver_in a.w.now a.r c.requires, sender_in a.w.now a.r c.requires)

pub returns : goal.returns
returns c = λ k. c.same_part.ensures k && c.same_part-2.ensures k
