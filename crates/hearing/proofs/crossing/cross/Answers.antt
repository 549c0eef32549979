-- `crossing::cross` meets its contract.
use Rattle.deeds.specs.Message.{message_of}
use Rattle.excerpt.specs.Sizes.{number_small}
use Rattle.hearing.specs.Crosses.{offer_ready, accept_ready, both_done}
use Rattle.hearing.proofs.crossing.cross.Goals as goal

pub carry_out-requires : goal.carry_out-requires
carry_out-requires c =
    let h = c.requires in
    let a = c.args in
    let q = message_of a.t.now a.q in
    let r = offer_ready q a.sent.now a.i h.2 h.4 h.3 in
    (h.0, r.0, r.1, r.2)

pub carry_out-requires-2 : goal.carry_out-requires-2
carry_out-requires-2 c =
    let h = c.requires in
    let a = c.args in
    let q = message_of a.t.now a.q in
    let r = accept_ready q a.sent.now a.i h.2 h.4 h.3 (number_small a.t.now a.q h.0) _ c.carry_out.ensures in
    (h.1, r.0, r.1, r.2)

pub returns : goal.returns
returns c =
    let h = c.requires in
    let a = c.args in
    let q = message_of a.t.now a.q in
    let m = message_of a.w.now a.r in
    both_done q a.sent.now a.i h.2 h.4 h.3 (number_small a.t.now a.q h.0) _ c.carry_out.ensures m _ h.5 c.carry_out-2.ensures
