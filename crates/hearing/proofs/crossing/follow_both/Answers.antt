-- `crossing::follow_both` meets its contract.
use mathlib.Core.Path.{sym, ◌∙◌}
use Rattle.deeds.specs.Message.{message_of}
use Rattle.flights.specs.Decoded.{flights_in}
use Rattle.hearing.specs.Crosses.{fails_alone, full_alone, followed_alone, followed_both}
use Rattle.hearing.proofs.crossing.follow_both.Goals as goal

pub follow-requires : goal.follow-requires
follow-requires c =
    let h = c.requires in
    let a = c.args in
    let q = message_of a.t.now a.q in
    let m = message_of a.w.now a.r in
    let l = flights_in a.sent.now in
    (h.1, h.2, (fails_alone q m l a.first a.c h.4 h.5 c.in-Fails.is).0)

pub follow-requires-in-Full : goal.follow-requires-in-Full
follow-requires-in-Full c =
    let h = c.requires in
    let a = c.args in
    let q = message_of a.t.now a.q in
    let m = message_of a.w.now a.r in
    let l = flights_in a.sent.now in
    (h.1, h.2, (full_alone q m l a.first a.c h.4 h.5 c.in-Full.is).0)

pub cross-requires : goal.cross-requires
cross-requires c =
    let h = c.requires in
    (h.0, h.1, h.2, sym h.4 ∙ c.in-Done.is, h.3.offering, h.3.accepting)

pub returns-in-Fails : goal.returns-in-Fails
returns-in-Fails c =
    let h = c.requires in
    let a = c.args in
    let q = message_of a.t.now a.q in
    let m = message_of a.w.now a.r in
    let l = flights_in a.sent.now in
    followed_alone q m l _ (fails_alone q m l a.first a.c h.4 h.5 c.in-Fails.is).1 c.follow.ensures

pub returns-in-Full : goal.returns-in-Full
returns-in-Full c =
    let h = c.requires in
    let a = c.args in
    let q = message_of a.t.now a.q in
    let m = message_of a.w.now a.r in
    let l = flights_in a.sent.now in
    followed_alone q m l _ (full_alone q m l a.first a.c h.4 h.5 c.in-Full.is).1 c.follow-in-Full.ensures

pub returns-in-Done : goal.returns-in-Done
returns-in-Done c =
    let h = c.requires in
    let a = c.args in
    let q = message_of a.t.now a.q in
    let m = message_of a.w.now a.r in
    let l = flights_in a.sent.now in
    followed_both q m l a.first c.in-Done.i _ h.3 h.4 c.in-Done.is c.cross.ensures
