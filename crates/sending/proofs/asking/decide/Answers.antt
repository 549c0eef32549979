-- `asking::decide` meets its contract.
use mathlib.Core.Path.{◌∙◌}
use Rattle.flights.specs.Decoded.{flights_in}
use Rattle.deeds.specs.Message.{message_of}
use Rattle.sending.specs.Deciding.{on_received, on_sent}
use Rattle.sending.proofs.asking.decide.Goals as goal

pub returns-then-is_acceptance : goal.returns-then-is_acceptance
returns-then-is_acceptance c =
    let a = c.args in
    c.decide.ensures ∙ on_received (message_of a.w.now a.r) (flights_in a.sent.now) (flights_in a.received.now) _ _ c.deed_of.ensures c.is_acceptance.ensures c.if-is_acceptance.true

pub returns : goal.returns
returns c =
    let a = c.args in
    c.decide-2.ensures ∙ on_sent (message_of a.w.now a.r) (flights_in a.sent.now) (flights_in a.received.now) _ _ c.deed_of.ensures c.is_acceptance.ensures c.if-is_acceptance.false
