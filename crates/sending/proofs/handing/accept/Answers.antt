-- `handing::accept` meets its contract.
use borrow.Author.Tests.{not-true, not-false}
use Rattle.deeds.specs.Message.{message_of}
use Rattle.sending.specs.Sent.{not_accepted, was_accepted, accepts}
use Rattle.sending.proofs.handing.accept.Goals as goal

pub returns-then-not-is_acceptance : goal.returns-then-not-is_acceptance
returns-then-not-is_acceptance c =
    let a = c.args in
    not_accepted (message_of a.w.now a.r) a.received.now _ _ c.deed_of.ensures c.is_acceptance.ensures c.requires.1 (not-true _ c.if-not-is_acceptance.true-raw)

pub follow-requires : goal.follow-requires
follow-requires c =
    let a = c.args in
    (c.requires.0, c.requires.1, c.requires.2 (accepts (message_of a.w.now a.r) a.received.now _ _ c.deed_of.ensures c.is_acceptance.ensures (not-false _ c.if-not-is_acceptance.false-raw)))

pub returns : goal.returns
returns c =
    let a = c.args in
    was_accepted (message_of a.w.now a.r) a.received.now _ _ c.deed_of.ensures c.is_acceptance.ensures _ (not-false _ c.if-not-is_acceptance.false-raw) c.follow.ensures
